-- Cells gone through one by one: none before cell i is loud, and the largest magnitude so far and that of the cells that are left are together that of all.
-- Example: `going_all g h : Ok largest ≡ heard xs`, with g : Going xs largest i and h : length xs ≤ i.
use mathlib.Core.Path.{◌≡◌, refl}
use mathlib.Core.Bool.{Bool, true, false}
use mathlib.Core.List.{List}
use Prim.Native.Nat.{ℕ, ◌+◌, ◌≤◌, ◌<◌, max}
use native.Mathlib.Numerals.{add-one}
use native.Mathlib.Omega.{arith}
use borrow.Author.Tests.{le-ltb, lt-ltb}
use lib.IntN.{ℤ, pos, nat_abs}
use lib.ListN.{length, drop, drop_of_length-le}
use lib.Seq.{drop-cons}
use Rattle.std.specs.Prelude.{Ok, Err}
use Rattle.ints.specs.Cells.{cell}
use Rattle.refusal.specs.declared.Refusal.TheVariants.{Loud}
use Rattle.kind.specs.Loudness.{LEAST_SAMPLE, LARGEST_SAMPLE}
use Rattle.block.specs.Tests.{loud}
use Rattle.block.proofs.Looking.{Looked, looked_all, looked-loud, looked_none, looked-quiet}
use Rattle.spectrum.specs.Distance.{largest_magnitude}
use Rattle.distance.specs.Inner.{heard}

pub record Going (xs : List ℤ) (largest i : ℕ) : Type 0 where
  pub quiet : Looked LEAST_SAMPLE LARGEST_SAMPLE xs i
  pub so_far : largest_magnitude xs ≡ max largest (largest_magnitude (drop i xs))

pub going_none : {xs : List ℤ} {largest i : ℕ} → largest ≡ 0 → i ≡ 0 → Going xs largest i
going_none e f = rw (e, f) (record { quiet = looked_none (omega arith); so_far = omega arith })

module _ {xs : List ℤ} {largest i : ℕ} (g : Going xs largest i) where
  next_cell : i < length xs → largest_magnitude (drop i xs) ≡ max (nat_abs (cell xs i)) (largest_magnitude (drop (i + 1) xs))
  unfolding largest_magnitude
  next_cell h = rw (add-one, drop-cons xs i (pos 0))

  -- r is what the test of x, which is cell i, says
  module _ {x : ℤ} {r : Bool} (h : i < length xs) (e : r ≡ loud LEAST_SAMPLE LARGEST_SAMPLE x) (ex : x ≡ cell xs i) where
    pub going_on : r ≡ false → {m j : ℕ} → m ≡ max largest (nat_abs x) → j ≡ i + 1 → Going xs m j
    going_on t em ej = record { quiet = looked-quiet g.quiet h e ex t ej; so_far = rw (em, ex, ej) (omega (arith, g.so_far, next_cell h)) }

    pub going_loud : r ≡ true → Err (Loud i) ≡ heard xs
    unfolding heard
    going_loud t = let first = looked-loud g.quiet h e ex t in rw (← first, lt-ltb i (length xs) h) refl

  pub going_all : length xs ≤ i → Ok largest ≡ heard xs
  unfolding heard largest_magnitude
  going_all h = let last = looked_all g.quiet h in let all : largest_magnitude xs ≡ largest = omega (arith, rw (drop_of_length-le xs h) at g.so_far) in
      rw (← last, le-ltb i (length xs) h, all) refl
