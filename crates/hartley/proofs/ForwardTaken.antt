-- What forward leaves of a block that it takes: demand 3 and the law of the first line hold of it, it leaves the negative for the negative of the block, and
-- no call that takes a spectrum refuses it, since it has the length of its block and no line is too loud. Where every sample is 0, every line is 0.
-- Example: `forward_taken outputs xs kind e f : tested_spectrum outputs (forward kind.p xs) ≡ Ok kind`, with e : tested_samples xs ≡ Ok kind. A caller
-- of forward has document 01's figures by `near_by_E xs (sym answer ∙ d) ys (distance d) : NearByE xs ys`, with d : r ≡ Ok tt and the clauses answer and distance.
use mathlib.Core.Path.{◌≡◌, refl, sym, ◌∙◌, ap}
use mathlib.Core.Bool.{false}
use mathlib.Core.List.{List, []}
use Prim.Native.Nat.{ℕ, ◌+◌, ◌/◌, ◌^◌, ◌≤◌}
use native.Mathlib.Nat.{le_trans, mul-le-mul_right}
use native.Mathlib.Omega.{arith}
use lib.IntN.{ℤ, pos, neg_ℤ}
use lib.ListN.{length}
use Rattle.std.specs.Prelude.{Result, Ok, Err}
use Rattle.ints.specs.Cells.{cell, negated}
use Rattle.ints.specs.Sum.{sum}
use Rattle.ints.proofs.Abs.{abs_lower, abs_upper, abs_zero}
use Rattle.ints.proofs.Powers.{same_power}
use Rattle.kind.specs.declared.BlockKind.{BlockKind}
use Rattle.kind.specs.BlockKinds.{SCALE}
use Rattle.kind.specs.Loudness.{LOUDEST_LINE}
use Rattle.block.specs.Tests.{misfit, tested_samples, tested_spectrum}
use Rattle.block.specs.BlockAnswers.{block_answer, cells_left}
use Rattle.block.proofs.Negative.{negative-kind}
use Rattle.block.proofs.Taken.{taken_kind, samples-quiet, must_take}
use Rattle.spectrum.specs.Spectrum.{forward}
use Rattle.spectrum.specs.Distance.{E, LinesWithin, block_bound, largest_magnitude}
use Rattle.spectrum.proofs.ForwardDistance.{bound-E, demand_3, forward-first}
use Rattle.spectrum.proofs.LargestMagnitude.{within-largest}
use Rattle.spectrum.proofs.Loudness.{length-forward, forward-quiet}
use Rattle.spectrum.proofs.Negative.{forward-negated}
use Rattle.spectrum.proofs.Silent.{forward_silent}
use Rattle.distance.specs.BoundAnswers.{bound_answer}
use Rattle.distance.proofs.Answered.{answered_bound, taken_largest}
use Rattle.hartley.specs.Promises.{FirstLineExact, NearByE, NearDirectSum, NegativeSpectrum, forward_left}
use Rattle.refusal.specs.declared.Refusal.{Refusal}

module _ (xs : List ℤ) where
  promised : (k : Result BlockKind Refusal) → tested_samples xs ≡ k → block_answer k ≡ Ok tt → let ys = cells_left (λ P. forward P xs) xs k in NearDirectSum xs ys × FirstLineExact xs ys
  promised (Ok kind) e d = let k = taken_kind _ _ [] xs kind e in (
    (kind.p, k.cells, demand_3 kind.p k.most xs k.cells (omega (arith, taken_largest xs kind e))),
    forward-first kind.p xs ∙ ap (λ (n : ℕ). sum n (cell xs)) (sym k.cells),
  )
  promised (Err refusal) e d = cc

  pub near_direct_sum : block_answer (tested_samples xs) ≡ Ok tt → NearDirectSum xs (forward_left xs)
  near_direct_sum d = (promised (tested_samples xs) refl d).0

  -- document 01's figures, read off demand 3 as it is promised
  by_E : (k : Result BlockKind Refusal) → tested_samples xs ≡ k → block_answer k ≡ Ok tt → (ys : List ℤ) → NearDirectSum xs ys → NearByE xs ys
  by_E (Ok kind) e d ys near = let least : block_bound near.0 xs ≤ E near.0 = bound-E SCALE (largest_magnitude xs) near.0 (omega arith) (taken_largest xs kind e) (few near.0 near.1) in
      (near.0, near.1, λ v h. le_trans (near.2 v h) (mul-le-mul_right (2 ^ 60) least))
    where
      few : (P : ℕ) → length xs ≡ 2 ^ P → P ≤ 10
      few P long = let k = taken_kind _ _ [] xs kind e in omega (arith, same_power P kind.p (sym long ∙ k.cells), k.most)
  by_E (Err refusal) e d ys near = cc

  pub near_by_E : block_answer (tested_samples xs) ≡ Ok tt → (ys : List ℤ) → NearDirectSum xs ys → NearByE xs ys
  near_by_E d ys near = by_E (tested_samples xs) refl d ys near

  -- no line is farther from the direct sum than `bound` answers for the block
  pub within_answered : {B : ℕ} → bound_answer xs ≡ Ok B → (ys : List ℤ) → NearDirectSum xs ys → LinesWithin B xs ys
  within_answered e ys near = rw (answered_bound xs e near.0 near.1) near.2

  -- Item 6: for M = 0 every line is 0
  silent : (k : Result BlockKind Refusal) → largest_magnitude xs ≡ 0 → (v : ℕ) → cell (cells_left (λ P. forward P xs) xs k) v ≡ pos 0
  silent (Ok kind) none v = forward_silent kind.p xs none v
  silent (Err refusal) none v = abs_zero (cell xs v) (omega (arith, within-largest xs v))

  pub silent_spectrum : largest_magnitude xs ≡ 0 → (v : ℕ) → cell (forward_left xs) v ≡ pos 0
  silent_spectrum none v = silent (tested_samples xs) none v

  pub first-line-exact : block_answer (tested_samples xs) ≡ Ok tt → FirstLineExact xs (forward_left xs)
  first-line-exact d = (promised (tested_samples xs) refl d).1

  -- j is found of the negative
  negative : (k j : Result BlockKind Refusal) → tested_samples xs ≡ k → tested_samples (negated xs) ≡ j → block_answer k ≡ Ok tt → block_answer j ≡ Ok tt
      → cells_left (λ P. forward P (negated xs)) (negated xs) j ≡ negated (cells_left (λ P. forward P xs) xs k)
  negative (Ok kind) (Ok other) e f d g = ap (λ (k : BlockKind). forward k.p (negated xs)) (negative-kind xs kind other e f) ∙ forward-negated kind.p xs
  negative (Ok kind) (Err refusal) e f d g = cc
  negative (Err refusal) j e f d g = cc

  pub negative_spectrum : block_answer (tested_samples xs) ≡ Ok tt → NegativeSpectrum xs (forward_left xs)
  negative_spectrum d g = negative (tested_samples xs) (tested_samples (negated xs)) refl refl d g

pub forward_taken : (outputs : List ℕ) (xs : List ℤ) (kind : BlockKind) → tested_samples xs ≡ Ok kind → misfit (length xs / 2 + 1) outputs ≡ false
    → tested_spectrum outputs (forward kind.p xs) ≡ Ok kind
forward_taken outputs xs kind e f = let k = taken_kind _ _ [] xs kind e in let long : length (forward kind.p xs) ≡ length xs = length-forward kind.p xs ∙ sym k.cells in
    let quiet = forward-quiet kind.p k.most xs (samples-quiet xs kind e) in
    must_take (neg_ℤ (pos LOUDEST_LINE)) (pos LOUDEST_LINE) kind.p outputs (forward kind.p xs) (rw long k) (rw long f)
    (λ i. abs_lower (quiet i)) (λ i. abs_upper (quiet i))
