-- The f64 of a scaled line are its quotients exactly: N and 2N are powers of two, and a doubled part is at most 2^29 in size, far below 2^53.
use mathlib.Core.Path.{◌≡◌, refl, sym, ap, ◌∙◌}
use mathlib.Core.Bool.{Bool, true, false, cond}
use mathlib.Core.List.{List}
use Prim.Native.Nat.{ℕ, suc, ◌-◌, ◌*◌, ◌/◌, ◌%◌, ◌^◌, ◌≤◌}
use native.Mathlib.Nat.{pow-succ'}
use native.Mathlib.Omega.{arith}
use borrow.Author.Tests.{eqb-true, eqb-false}
use lib.Dec.{eqb}
use lib.IntN.{ℤ, nat_abs}
use lib.ListN.{length}
use Rattle.std.specs.Prelude.{Ok}
use Rattle.kind.specs.declared.Line.{Line}
use Rattle.block.specs.Transformable.{Transformable}
use Rattle.fourier.specs.declared.ScaledLine.{ScaledLine}
use Rattle.fourier.specs.declared.ScaledLine.TheVariants.{Mean, Last, Pair}
use Rattle.fourier.specs.Parts.{H}
use Rattle.fourier.specs.Scaled.{Exactly, quotient, scaled_parts, scaled_line, Values}
use Rattle.fourier.specs.Inner.{PowerOfTwo}
use Rattle.fourier.proofs.Exact.{exactly}
use Rattle.fourier.proofs.Sizes.{sum-size, difference_size}
use Rattle.fourier.proofs.Lines.{power_of_two}

pub twice : (n m : ℕ) → PowerOfTwo 10 n → m ≡ 2 * n → PowerOfTwo 53 m
twice n m p e = record { exponent = suc p.exponent; few = omega arith; is = e ∙ ap (λ (x : ℕ). 2 * x) p.is ∙ sym (pow-succ' 2 p.exponent) }

-- ---- a scaled line by its cases

scaled_cases : (Q : ScaledLine → Type 0) (xs : List ℤ) (v : ℕ) → (v ≡ 0 → Q (Mean (quotient (H xs 0) (length xs))))
    → (v ≡ length xs / 2 → Q (Last (quotient (H xs (length xs / 2)) (length xs))))
    → ((v ≡ 0 → ⊥) → (v ≡ length xs / 2 → ⊥) → Q (Pair (scaled_parts xs v))) → Q (scaled_line xs v)
scaled_cases Q xs v mean last pair = go (eqb v 0) refl (eqb v (length xs / 2)) refl
  where
    go : (t : Bool) → eqb v 0 ≡ t → (u : Bool) → eqb v (length xs / 2) ≡ u
        → Q (cond t (Mean (quotient (H xs 0) (length xs))) (cond u (Last (quotient (H xs (length xs / 2)) (length xs))) (Pair (scaled_parts xs v))))
    go true f u g = mean (eqb-true _ _ f)
    go false f true g = last (eqb-true _ _ g)
    go false f false g = pair (eqb-false _ _ f) (eqb-false _ _ g)

-- ---- its values

module _ {P : ℕ} {xs : List ℤ} (a : Transformable P xs) where
  line-exact : (v : ℕ) → Exactly (H xs v) (length xs) (quotient (H xs v) (length xs))
  line-exact v = exactly (H xs v) (length xs) (omega (arith, a.quiet (v % length xs))) (power_of_two a 53 (omega arith))

  part_exact : (h : ℤ) → nat_abs h ≤ 2 ^ 29 → Exactly h (2 * length xs) (quotient h (2 * length xs))
  part_exact h small = exactly h (2 * length xs) (omega arith) (twice (length xs) (2 * length xs) (power_of_two a 10 (omega arith)) refl)

  pub values : (line : Line) → line.0 ≤ length xs / 2 → Values xs line (Ok (scaled_line xs line.0))
  values line within = let v = line.0 in let N = length xs in let h = H xs v in let m = H xs (N - v) in let sh = a.quiet (v % N) in let sm = a.quiet ((N - v) % N) in
      scaled_cases (λ r. Values xs line (Ok r)) xs v (λ e. (e, line-exact 0)) (λ e. (e, line-exact (N / 2)))
      (λ k l. (omega arith, omega arith, part_exact _ (sum-size h m sh sm), part_exact _ (difference_size m h sm sh)))
