-- What the call `bound` answers: in numbers it is the first row of refused input that is given, or the bound; and the bound is the one that forward promises.
-- Example: `answered_bound xs e P long : B ≡ block_bound P xs`, with e : bound_answer xs ≡ Ok B and long : length xs ≡ 2 ^ P.
use mathlib.Core.Path.{◌≡◌, refl, sym, ◌∙◌, ap}
use mathlib.Core.Bool.{Bool, true, false, cond}
use mathlib.Core.List.{List, []}
use Prim.Native.Nat.{ℕ, ◌+◌, ◌^◌, ◌≤◌, ◌<◌}
use native.Mathlib.Nat.{mul-le-mul, mul-le-mul_right}
use native.Mathlib.Omega.{arith}
use lib.Dec.{ltb}
use lib.IntN.{ℤ}
use lib.ListN.{length}
use lib.Pow.{pow_mono}
use Rattle.std.specs.Prelude.{Some, None, Result, Ok, Err}
use Rattle.ints.proofs.Powers.{same_power}
use Rattle.kind.specs.declared.BlockKind.{BlockKind}
use Rattle.kind.specs.BlockKinds.{SCALE, kind_of}
use Rattle.kind.specs.Loudness.{LEAST_SAMPLE, LARGEST_SAMPLE, LOUDEST_SAMPLE}
use Rattle.refusal.specs.declared.Refusal.{Refusal}
use Rattle.refusal.specs.declared.Refusal.TheVariants.{Length, Loud}
use Rattle.block.specs.Tests.{first_loud, misfit, refused_if, tested, tested_samples}
use Rattle.block.proofs.InNumbers.{numbers_by_lem, numbers_by}
use Rattle.block.proofs.Taken.{samples-quiet, taken_kind}
use Rattle.spectrum.specs.Distance.{block_bound, bound, largest_magnitude}
use Rattle.spectrum.proofs.LargestMagnitude.{largest-least}
use Rattle.spectrum.proofs.Bound.{bound-size}
use Rattle.distance.specs.Inner.{CanBound, answer_by, heard}
use Rattle.distance.specs.BoundAnswers.{bound_answer, bound_answer_numbers, bound_numbers, bound_to}

module _ (xs : List ℤ) where
  -- M of a block that is taken
  pub taken_largest : (kind : BlockKind) → tested_samples xs ≡ Ok kind → largest_magnitude xs ≤ LOUDEST_SAMPLE
  taken_largest kind e = largest-least LOUDEST_SAMPLE xs (samples-quiet xs kind e)

  -- and its bound: it fits seven bytes
  pub taken_bound : (kind : BlockKind) → tested_samples xs ≡ Ok kind → block_bound kind.p xs < 256 ^ 7
  taken_bound kind e = let cells : 2 ^ kind.p ≤ 2 ^ 10 = pow_mono (taken_kind _ _ [] xs kind e).most in
      omega (arith, bound-size SCALE (omega arith) (largest_magnitude xs) kind.p, mul-le-mul_right (largest_magnitude xs + 1) (mul-le-mul cells cells), taken_largest kind e)

  -- ---- in numbers: the block's bound where the tests have P

  by_bound : (k : Result BlockKind Refusal) → bound_answer_numbers (bound_to xs k) ≡ numbers_by (λ P. block_bound P xs) k
  by_bound (Ok kind) = refl
  by_bound (Err refusal) = refl

  pub answered_numbers : {r : Result ℕ Refusal} → r ≡ bound_answer xs → (r ≡ bound_answer xs) × (bound_answer_numbers r ≡ bound_numbers xs)
  unfolding bound_answer bound_numbers
  answered_numbers e = (e, ap bound_answer_numbers e ∙ by_bound (tested_samples xs) ∙ numbers_by_lem (λ P. block_bound P xs) LEAST_SAMPLE LARGEST_SAMPLE [] xs)

  -- ---- by the kind that was found for its length, and by what was heard of it

  module _ {n : ℕ} (many : n ≡ length xs) where
    pub answered_none : kind_of n ≡ None → Err Length ≡ bound_answer xs
    unfolding bound_answer tested misfit
    answered_none e = rw (rw many at e) refl

  module _ {n : ℕ} (many : n ≡ length xs) (kind : BlockKind) (e : kind_of n ≡ Some kind) where
    by_place : tested_samples xs ≡ refused_if (ltb (first_loud LEAST_SAMPLE LARGEST_SAMPLE xs) (length xs)) (Loud (first_loud LEAST_SAMPLE LARGEST_SAMPLE xs)) (Ok kind)
    unfolding tested misfit
    by_place = rw (rw many at e) refl

    pub answered_loud : {r : Result ℕ Refusal} (refusal : Refusal) → r ≡ heard xs → r ≡ Err refusal → Err refusal ≡ bound_answer xs
    unfolding heard bound_answer
    answered_loud refusal h f = go (ltb (first_loud LEAST_SAMPLE LARGEST_SAMPLE xs) (length xs)) refl (sym f ∙ h)
      where
        go : (t : Bool) → ltb (first_loud LEAST_SAMPLE LARGEST_SAMPLE xs) (length xs) ≡ t → Err refusal ≡ cond t (Err (Loud (first_loud LEAST_SAMPLE LARGEST_SAMPLE xs))) (Ok (largest_magnitude xs))
            → Err refusal ≡ bound_to xs (tested_samples xs)
        go true t h = rw (by_place, t) h
        go false t h = cc

    -- none is loud, and the bound of M is that of the block
    pub answered-quiet : {r : Result ℕ Refusal} (M : ℕ) → r ≡ heard xs → r ≡ Ok M → CanBound SCALE M kind.p × (Ok (bound SCALE M kind.p) ≡ bound_answer xs)
    unfolding heard bound_answer
    answered-quiet M h f = go (ltb (first_loud LEAST_SAMPLE LARGEST_SAMPLE xs) (length xs)) refl (sym f ∙ h)
      where
        go : (t : Bool) → ltb (first_loud LEAST_SAMPLE LARGEST_SAMPLE xs) (length xs) ≡ t → Ok M ≡ cond t (Err (Loud (first_loud LEAST_SAMPLE LARGEST_SAMPLE xs))) (Ok (largest_magnitude xs))
            → CanBound SCALE M kind.p × (Ok (bound SCALE M kind.p) ≡ bound_to xs (tested_samples xs))
        go true t h = cc
        go false t h = let taken : tested_samples xs ≡ Ok kind = by_place ∙ rw t refl in let is : M ≡ largest_magnitude xs = cc in
            (record { some = omega arith; scale = omega arith; quiet = omega (arith, taken_largest kind taken); most = (taken_kind LEAST_SAMPLE LARGEST_SAMPLE [] xs kind taken).most }, rw (taken, is) refl)

    by-heard : (r : Result ℕ Refusal) → r ≡ heard xs → answer_by kind.p r ≡ bound_answer xs
    unfolding answer_by
    by-heard (Ok M) h = (answered-quiet M h refl).1
    by-heard (Err refusal) h = answered_loud refusal h refl

    -- so what is answered by what was heard is what forward's tests and the block's bound give
    pub answered-heard : answer_by kind.p (heard xs) ≡ bound_answer xs
    answered-heard = by-heard (heard xs) refl

  -- ---- the bound that is answered

  told : (k : Result BlockKind Refusal) → tested_samples xs ≡ k → {B : ℕ} → bound_to xs k ≡ Ok B → (P : ℕ) → length xs ≡ 2 ^ P → B ≡ block_bound P xs
  told (Ok kind) e {B} f P long = let is : block_bound kind.p xs ≡ B = cc in sym is ∙ ap (λ (Q : ℕ). block_bound Q xs) (same_power kind.p P (sym (taken_kind _ _ [] xs kind e).cells ∙ long))
  told (Err refusal) e f P long = let z : ◌≡◌ {A = ℕ} 0 1 = cc in absurd (omega arith)

  pub answered_bound : {B : ℕ} → bound_answer xs ≡ Ok B → (P : ℕ) → length xs ≡ 2 ^ P → B ≡ block_bound P xs
  unfolding bound_answer
  answered_bound e P long = told (tested_samples xs) refl e P long
