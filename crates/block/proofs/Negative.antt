-- A spectrum and its negative get the same verdict, since the limits of a lent spectrum are the same to both sides (document 02, Item 1). Those of samples
-- are not: a block without -32,768 is taken with its negative, and where both are taken, they are of one kind.
-- Example: `spectrum_negated [] xs : tested_spectrum [] (negated xs) ≡ tested_spectrum [] xs`.
use mathlib.Core.Path.{◌≡◌, refl, sym, ◌∙◌, ap, ap₂}
use mathlib.Core.Bool.{Bool, cond, ◌||◌, or_comm}
use mathlib.Core.List.{List, [], ◌∷◌}
use Prim.Native.Nat.{ℕ, suc, ◌≤◌}
use native.Mathlib.Omega.{arith}
use lib.IntN.{ℤ, pos, neg_ℤ, nat_abs, neg_ℤ-neg_ℤ}
use lib.Signed.{lt_z}
use Rattle.std.specs.Prelude.{Some, Ok}
use Rattle.ints.specs.Cells.{cell, negated}
use Rattle.ints.proofs.Comparisons.{less_negated}
use Rattle.ints.proofs.Abs.{abs_lower, abs_neg, abs_upper}
use Rattle.ints.proofs.Negation.{cell-negated, length-negated}
use Rattle.kind.specs.declared.BlockKind.{BlockKind}
use Rattle.kind.specs.BlockKinds.{kind_of}
use Rattle.kind.specs.Loudness.{LEAST_SAMPLE, LARGEST_SAMPLE, LOUDEST_LINE}
use Rattle.block.specs.Tests.{first_loud, tested, tested_samples, tested_spectrum}
use Rattle.block.proofs.Taken.{taken_found, taken_kind, output_none, must_take}

module _ (b : ℤ) where
  outside : (x : ℤ) → (lt_z (neg_ℤ x) (neg_ℤ b) || lt_z b (neg_ℤ x)) ≡ (lt_z x (neg_ℤ b) || lt_z b x)
  outside x = ap₂ ◌||◌ (less_negated x b) (ap (λ (c : ℤ). lt_z c (neg_ℤ x)) (sym (neg_ℤ-neg_ℤ b)) ∙ less_negated (neg_ℤ b) x) ∙ or_comm (lt_z b x) (lt_z x (neg_ℤ b))

  loud-negated : (xs : List ℤ) → first_loud (neg_ℤ b) b (negated xs) ≡ first_loud (neg_ℤ b) b xs
  unfolding first_loud
  loud-negated [] = refl
  loud-negated (x ∷ xs) = ap₂ (λ (t : Bool) (n : ℕ). cond t 0 (suc n)) (outside x) (loud-negated xs)

pub spectrum_negated : (outputs : List ℕ) (xs : List ℤ) → tested_spectrum outputs (negated xs) ≡ tested_spectrum outputs xs
unfolding tested
spectrum_negated outputs xs = rw (length-negated xs, loud-negated (pos LOUDEST_LINE) xs) refl

pub negative-kind : (xs : List ℤ) (kind other : BlockKind) → tested_samples xs ≡ Ok kind → tested_samples (negated xs) ≡ Ok other → other ≡ kind
negative-kind xs kind other e f = same (sym (taken_found _ _ [] (negated xs) other f) ∙ ap kind_of (length-negated xs) ∙ taken_found _ _ [] xs kind e)
  where
    same : Some other ≡ Some kind → other ≡ kind
    same e = cc

pub negative_taken : (xs : List ℤ) (kind : BlockKind) → tested_samples xs ≡ Ok kind → ((i : ℕ) → nat_abs (cell xs i) ≤ 32767) → tested_samples (negated xs) ≡ Ok kind
negative_taken xs kind e h = must_take LEAST_SAMPLE LARGEST_SAMPLE kind.p [] (negated xs) (rw (length-negated xs) (taken_kind _ _ [] xs kind e)) (output_none _)
    (λ i. abs_lower {n = 32768} (omega (arith, quiet i))) (λ i. abs_upper (quiet i))
  where
    quiet : (i : ℕ) → nat_abs (cell (negated xs) i) ≤ 32767
    quiet i = rw (cell-negated xs i, abs_neg) (h i)
