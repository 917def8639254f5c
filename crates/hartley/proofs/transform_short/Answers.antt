-- `transform_short` is right because two cells stay where they are, of four the middle two change places, and their levels are the same at every scale.
use mathlib.Core.Path.{◌≡◌, sym, ◌∙◌, ap}
use mathlib.Core.List.{List}
use Prim.Native.Nat.{ℕ, ◌^◌}
use native.Mathlib.Omega.{arith}
use lib.IntN.{ℤ}
use lib.ListN.{length}
use Rattle.kind.specs.BlockKinds.{SCALE_DIGITS}
use Rattle.block.specs.Transformable.{Transformable}
use Rattle.spectrum.specs.Levels.{levels, permuted}
use Rattle.spectrum.specs.Spectrum.{forward}
use Rattle.spectrum.proofs.ForwardDistance.{level-room}
use Rattle.spectrum.proofs.Stages.{length-permuted}
use Rattle.permutation.proofs.Exchanging.{four_permuted}
use Rattle.levels.specs.Ready.{LARGEST_FIRST, NoneAbove}
use Rattle.hartley.proofs.Steps.{two_stay, steps}
use Rattle.hartley.proofs.transform_short.Goals as goal

long-by : {P : ℕ} {xs : List ℤ} → Transformable P xs → (p : ℕ) → P ≡ p → length xs ≡ 2 ^ p
long-by t p e = t.long ∙ ap (λ (p : ℕ). 2 ^ p) e

-- before level 1 the permuted cells have room
permuted-small : {P : ℕ} {xs : List ℤ} → Transformable P xs → (ys : List ℤ) → ys ≡ permuted P xs → NoneAbove LARGEST_FIRST ys
unfolding levels
permuted-small {P} {xs} t ys e i = rw e (omega (arith, level-room SCALE_DIGITS (omega arith) (omega arith) 0 P (omega (arith, t.least)) t.most xs t.quiet i))

four-moved : {P : ℕ} {xs : List ℤ} → Transformable P xs → P ≡ 2 → (ys : List ℤ) → ys ≡ permuted 2 xs → (length ys ≡ 4) × NoneAbove LARGEST_FIRST ys
four-moved {P} {xs} t two ys e = (ap length e ∙ length-permuted 2 xs, permuted-small t ys (e ∙ ap (λ (p : ℕ). permuted p xs) (sym two)))

pub join_two-requires : goal.join_two-requires
join_two-requires c = (long-by c.requires.1 1 (omega arith), λ i. omega (arith, c.requires.1.quiet i))

pub exchange-requires : goal.exchange-requires
exchange-requires c = let e = long-by c.requires.1 2 (omega (arith, c.requires.0, c.requires.1.least)) in (omega (arith, e), omega (arith, e))

pub join_four-requires : goal.join_four-requires
join_four-requires c =
    let moved : c.args.p ≡ 2 → c.exchange.new.cells ≡ permuted 2 c.args.cells.now = λ two. c.exchange.ensures ∙ four_permuted c.args.cells.now (long-by c.requires.1 2 two) in
    let two : c.args.p ≡ 2 = omega (arith, c.requires.0, c.requires.1.least) in four-moved c.requires.1 two _ (moved two)

pub returns-then-p-eq1 : goal.returns-then-p-eq1
returns-then-p-eq1 c = let xs = c.args.cells.now in let one : c.args.p ≡ 1 = omega arith in
    c.join_two.ensures SCALE_DIGITS (omega arith) (omega arith) ∙ steps 1 xs xs (sym (two_stay xs (long-by c.requires.1 1 one))) ∙ ap (λ (p : ℕ). forward p xs) (sym one)

pub returns-else-p-eq1 : goal.returns-else-p-eq1
returns-else-p-eq1 c =
    let moved : c.args.p ≡ 2 → c.exchange.new.cells ≡ permuted 2 c.args.cells.now = λ two. c.exchange.ensures ∙ four_permuted c.args.cells.now (long-by c.requires.1 2 two) in
    let xs = c.args.cells.now in let two : c.args.p ≡ 2 = omega (arith, c.requires.0, c.requires.1.least) in
    c.join_four.ensures SCALE_DIGITS (omega arith) (omega arith) ∙ steps 2 xs _ (moved two) ∙ ap (λ (p : ℕ). forward p xs) (sym two)
