-- Document 02's numbers in the packed answer of a call for a bound: the bound fits its seven bytes, and so does the place of a refusal. So where nothing is
-- refused, what is read from the answer is the bound of the block.
-- Example: `bound_told xs e : unpacked_bound answer ≡ bound_numbers xs`, with e : answer ≡ packed_bound (bound_answer xs).
use mathlib.Core.Path.{◌≡◌, refl, sym, ◌∙◌, ap}
use mathlib.Core.Bool.{true≢false}
use mathlib.Core.List.{List, []}
use Prim.Native.Nat.{ℕ}
use native.Mathlib.Omega.{arith}
use borrow.Author.Tests.{eq-eqb}
use lib.IntN.{ℤ}
use Rattle.std.specs.Prelude.{Result, Ok, Err}
use Rattle.kind.specs.declared.BlockKind.{BlockKind}
use Rattle.kind.specs.Loudness.{LEAST_SAMPLE, LARGEST_SAMPLE}
use Rattle.refusal.specs.declared.Refusal.{Refusal}
use Rattle.block.specs.Tests.{tested_samples}
use Rattle.block.proofs.Refused.{refused-place}
use Rattle.distance.specs.BoundAnswers.{bound_answer, bound_numbers, bound_to}
use Rattle.distance.proofs.Answered.{answered_numbers, taken_bound}
use Rattle.packing.specs.Packing.{distance_in, number_in, packed_bound, unpacked_bound}
use Rattle.packing.proofs.Packing.{SevenBytes, bound_unpacked, refused_at_all, seven_bytes}

module _ (xs : List ℤ) where
  fits : (k : Result BlockKind Refusal) → tested_samples xs ≡ k → SevenBytes (bound_to xs k)
  fits (Ok kind) e = taken_bound xs kind e
  fits (Err refusal) e = omega (arith, refused-place LEAST_SAMPLE LARGEST_SAMPLE [] xs refusal e)

  -- an answer that refuses nothing is the bound of the block
  by_tests : (k : Result BlockKind Refusal) → tested_samples xs ≡ k → {answer : ℕ} → answer ≡ packed_bound (bound_to xs k) → number_in answer ≡ 0 → bound_to xs k ≡ Ok (distance_in answer)
  by_tests (Ok kind) e f none = ap Ok (sym (seven_bytes _ (taken_bound xs kind e)).1 ∙ ap distance_in (sym f))
  by_tests (Err refusal) e f none = absurd (true≢false (sym (eq-eqb _ 0 (sym (ap number_in f) ∙ none)) ∙ refused_at_all refusal))

  pub answered_so : {answer : ℕ} → answer ≡ packed_bound (bound_answer xs) → number_in answer ≡ 0 → bound_answer xs ≡ Ok (distance_in answer)
  unfolding bound_answer
  answered_so e none = by_tests (tested_samples xs) refl e none

  pub bound_told : {answer : ℕ} → answer ≡ packed_bound (bound_answer xs) → unpacked_bound answer ≡ bound_numbers xs
  unfolding bound_answer
  bound_told e = ap unpacked_bound e ∙ bound_unpacked (bound_answer xs) (fits (tested_samples xs) refl) ∙ (answered_numbers xs refl).1
