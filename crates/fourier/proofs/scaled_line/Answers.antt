-- `scaled_line` is right because it goes by the definition's cases in the definition's order, and each cell that it reads lies in the spectrum.
use borrow.Author.Tests.{eq-eqb, ne_eqb}
use mathlib.Core.Path.{◌≡◌, ◌∙◌, ap, ap₂}
use mathlib.Core.List.{List}
use Prim.Native.Nat.{ℕ, ◌-◌, ◌/◌, ◌≤◌, ◌<◌, ◌^◌}
use native.Mathlib.Omega.{arith}
use lib.Ieee.{Float}
use lib.IntN.{ℤ, nat_abs}
use lib.ListN.{length}
use mir.Syntax.{w64}
use mir.Val.{to_z, of_z}
use Rattle.ints.proofs.Mirror.{mirror_later}
use Rattle.block.specs.Transformable.{Transformable}
use Rattle.ints.specs.Cells.{cell}
use Rattle.fourier.specs.declared.Pair.{Pair as RealAndImaginary}
use Rattle.fourier.specs.declared.ScaledLine.TheVariants.{Mean, Last, Pair}
use Rattle.fourier.specs.Parts.{H}
use Rattle.fourier.specs.Scaled.{quotient, scaled_line}
use Rattle.fourier.specs.Inner.{scaled_pair}
use Rattle.fourier.proofs.Lines.{power_of_two, two_or_more, line-back, line_quiet, line_at, mirror_at}
use Rattle.fourier.proofs.scaled_line.Goals as goal

module _ {P : ℕ} {xs : List ℤ} (a : Transformable P xs) where
  small : (i : ℕ) → nat_abs (to_z w64 (of_z w64 (cell xs i))) < 2 ^ 53
  small i = omega (arith, line_quiet a i)

  -- cell i, which is read, is line w, and n is N
  line-over : {x : Float} {n : ℕ} (i w : ℕ) → x ≡ quotient (to_z w64 (of_z w64 (cell xs i))) n → i ≡ w → w < length xs → n ≡ length xs → x ≡ quotient (H xs w) (length xs)
  line-over i w e f h g = e ∙ ap₂ quotient (line-back a i ∙ ap (cell xs) f ∙ line_at xs w h) g

  -- the three cases of v
  mean : {x : Float} (v : ℕ) → v ≡ 0 → x ≡ quotient (H xs 0) (length xs) → Mean x ≡ scaled_line xs v
  mean v e f = rw (eq-eqb v 0 e) (ap Mean f)

  last : {x : Float} (v : ℕ) → (v ≡ 0 → ⊥) → v ≡ length xs / 2 → x ≡ quotient (H xs (length xs / 2)) (length xs) → Last x ≡ scaled_line xs v
  last v k e f = rw (ne_eqb v 0 k, eq-eqb v (length xs / 2) e) (ap Last f)

  pair : {x : RealAndImaginary} {n : ℕ} (v i j : ℕ) → (v ≡ 0 → ⊥) → (v ≡ length xs / 2 → ⊥) → v ≤ length xs
      → x ≡ scaled_pair (to_z w64 (of_z w64 (cell xs i))) (to_z w64 (of_z w64 (cell xs j))) n → n ≡ length xs → i ≡ v → i < length xs → j ≡ length xs - v → 0 < v → Pair x ≡ scaled_line xs v
  pair v i j k l h e en ei hi ej p = rw (ne_eqb v 0 k, ne_eqb v (length xs / 2) l)
      (ap Pair (e ∙ rw (en, line-back a i, line-back a j, ei) (ap₂ (λ (h m : ℤ). scaled_pair h m (length xs)) (line_at xs v (omega arith)) (mirror_at xs v j (mirror_later (length xs) v j p h ej)))))

pub bounds-spectrum-0 : goal.bounds-spectrum-0
bounds-spectrum-0 c = omega (arith, two_or_more c.requires.0.1)

pub quotient-requires : goal.quotient-requires
quotient-requires c = let a = c.requires.0.1 in (small a 0, power_of_two a 53 (omega arith))

pub returns-then-v-eq0 : goal.returns-then-v-eq0
returns-then-v-eq0 c = let a = c.requires.0.1 in
    mean a c.args.line.0 (omega arith) (line-over a 0 0 c.quotient.ensures.0 (omega arith) (omega (arith, two_or_more a)) (omega arith))

pub offset_bounds-spectrum-v : goal.offset_bounds-spectrum-v
offset_bounds-spectrum-v c = record { fits = omega arith }

pub quotient-requires-then-v-len : goal.quotient-requires-then-v-len
quotient-requires-then-v-len c = let a = c.requires.0.1 in (small a c.args.line.0, power_of_two a 53 (omega arith))

pub returns-then-v-len : goal.returns-then-v-len
returns-then-v-len c = let a = c.requires.0.1 in let v = c.args.line.0 in
    last a v (λ e. omega arith) (omega arith) (line-over a v (length c.args.spectrum.now / 2) c.quotient-then-v-len.ensures.0 (omega arith) (omega (arith, two_or_more a)) (omega arith))

pub offset_bounds-spectrum-v-2 : goal.offset_bounds-spectrum-v-2
offset_bounds-spectrum-v-2 c = record { fits = omega arith }

pub offset_bounds-spectrum-len : goal.offset_bounds-spectrum-len
offset_bounds-spectrum-len c = record { fits = omega arith }

pub scaled_pair-requires : goal.scaled_pair-requires
scaled_pair-requires c = let a = c.requires.0.1 in let v = c.args.line.0 in
    (line_quiet a v, line_quiet a (length c.args.spectrum.now - v), power_of_two a 10 (omega arith))

pub returns : goal.returns
returns c = let a = c.requires.0.1 in let v = c.args.line.0 in
    pair a v v (length c.args.spectrum.now - v) (λ e. omega arith) (λ e. omega arith) (omega arith) c.scaled_pair.ensures
    (omega arith) (omega arith) (omega (arith, two_or_more a)) (omega arith) (omega arith)
