-- `join_four` is right because level 1 of both twos is that of the four, and of the joined four every line is plain (`four_joined`).
use mathlib.Core.Path.{◌≡◌, ◌∙◌, ap}
use mathlib.Core.List.{List}
use Prim.Native.Nat.{ℕ, ◌≤◌}
use native.Mathlib.Omega.{arith}
use lib.IntN.{ℤ, nat_abs}
use lib.ListN.{length, take, drop}
use borrow.Rule.Slice.PartMut.{put_mid}
use Rattle.ints.specs.Cells.{cell}
use Rattle.spectrum.specs.Limits.{LARGEST_PRODUCT}
use Rattle.spectrum.specs.Spectrum.{levels_at}
use Rattle.pair.specs.Pair.{split}
use Rattle.pair.proofs.Splitting.{split-long, split_other}
use Rattle.pair.proofs.Steps.{four_joined}
use Rattle.levels.specs.Ready.{LARGEST_FIRST}
use Rattle.levels.proofs.Twos.{first-level-small}
use Rattle.levels.proofs.TwoBlocks.{first-long, first_small, second-long, second-small, both_long, two-done, two_joined}
use Rattle.levels.proofs.join_four.Goals as goal

-- us and vs are the two twos after level 1, at every scale: so ys is the four after it
module _ (xs : List ℤ) (long : length xs ≡ 4) (first : (i : ℕ) → nat_abs (cell xs i) ≤ LARGEST_FIRST) (us vs : List ℤ)
    (one : (s : ℕ) → 4 ≤ s → s ≤ 22 → us ≡ levels_at s 1 (take 2 xs)) (two : (s : ℕ) → 4 ≤ s → s ≤ 22 → vs ≡ levels_at s 1 (take 2 (drop 2 (put_mid 0 2 xs us)))) where
  abbrev ys : List ℤ
  ys = put_mid 2 2 (put_mid 0 2 xs us) vs

  level-one_is : (s : ℕ) → 4 ≤ s → s ≤ 22 → ys ≡ levels_at s 1 xs
  level-one_is s least most = two-done s 1 xs long us (one s least most) vs (two s least most)

  ys_long : length ys ≡ 4
  ys_long = both_long 4 1 xs long us (one 4 (omega arith) (omega arith)) vs (two 4 (omega arith) (omega arith))

  ys_small : (i : ℕ) → nat_abs (cell ys i) ≤ LARGEST_PRODUCT
  ys_small i = rw (level-one_is 4 (omega arith) (omega arith)) (omega (arith, first-level-small 4 (omega arith) (omega arith) LARGEST_FIRST xs (rw long (omega arith)) first i))

-- the first plain step leaves the other two cells
kept : (xs ys : List ℤ) → ys ≡ split xs 2 0 (cell xs 2) → (i : ℕ) → (i ≡ 0 → ⊥) → (i ≡ 2 → ⊥) → nat_abs (cell xs i) ≤ LARGEST_PRODUCT → nat_abs (cell ys i) ≤ LARGEST_PRODUCT
kept xs ys e i a b h = rw (ap (λ (l : List ℤ). cell l i) e ∙ split_other xs 2 0 (cell xs 2) i a b) h

pub join_two-requires : goal.join_two-requires
join_two-requires c = (first-long 4 1 c.args.cells.now c.requires.0, first_small LARGEST_FIRST 4 1 c.args.cells.now c.requires.0 c.requires.1)

pub join_two-requires-2 : goal.join_two-requires-2
join_two-requires-2 c = let e = c.join_two.ensures 4 (omega arith) (omega arith) in
    (second-long 4 1 c.args.cells.now c.requires.0 _ e, second-small LARGEST_FIRST 4 1 c.args.cells.now c.requires.0 c.requires.1 _ e)

pub join_plain-requires : goal.join_plain-requires
join_plain-requires c =
    let xs = c.args.cells.now in let long = c.requires.0 in let first = c.requires.1 in
    let us = c.join_two.new.cells in let vs = c.join_two-2.new.cells in let one = c.join_two.ensures in let two = c.join_two-2.ensures in
    (ys_long xs long first us vs one two, omega arith, ys_small xs long first us vs one two 0, ys_small xs long first us vs one two 2)

pub join_plain-requires-2 : goal.join_plain-requires-2
join_plain-requires-2 c =
    let xs = c.args.cells.now in let long = c.requires.0 in let first = c.requires.1 in
    let us = c.join_two.new.cells in let vs = c.join_two-2.new.cells in let one = c.join_two.ensures in let two = c.join_two-2.ensures in
    let small = ys_small xs long first us vs one two in let four = ys xs long first us vs one two in let e = c.join_plain.ensures in
    (ap length e ∙ split-long four 2 0 _ ∙ ys_long xs long first us vs one two, omega arith, kept four _ e 1 (λ g. omega arith) (λ g. omega arith) (small 1), kept four _ e 3 (λ g. omega arith) (λ g. omega arith) (small 3))

pub returns : goal.returns
returns c = λ s least most.
    let xs = c.args.cells.now in let long = c.requires.0 in let first = c.requires.1 in
    let us = c.join_two.new.cells in let vs = c.join_two-2.new.cells in let one = c.join_two.ensures in let two = c.join_two-2.ensures in
    two_joined s 1 xs long us (one s least most) vs (two s least most) _
    (four_joined s least most (ys xs long first us vs one two) _ _ (ys_long xs long first us vs one two) c.join_plain.ensures c.join_plain-2.ensures)
