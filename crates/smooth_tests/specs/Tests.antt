-- Document 02, Item 7: smoothing tests 1, 2, 3 and 20 in turn, and the first fault decides.
-- Example: of the weights 20,000, −12,767, 0, −1 the place of 20 is 3; of 20,000, −12,767, 0, 0 it is 4, their number, and nothing is refused.
use Rattle.std.specs.Prelude.{cond, not, List, [], ◌∷◌, ℕ, suc, ◌+◌, eqb, ltb, ℤ, pos, neg_ℤ, nat_abs, length, Result}
use Rattle.kind.specs.BlockKinds.{exponent, kind_of}
use Rattle.kind.specs.Loudness.{LEAST_SAMPLE, LARGEST_SAMPLE}
use Rattle.refusal.specs.declared.Refusal.TheVariants.{Misfit, Loud, Weights}
use Rattle.block.specs.Tests.{first_loud, of_length, refused_if}
use Rattle.block.specs.TestTable.{first_given}
use Rattle.exact.specs.Smoothing.{LARGEST_WEIGHTS, running}
use Rattle.kind.specs.declared.BlockKind.{BlockKind}
use Rattle.refusal.specs.declared.Refusal.{Refusal}

-- 20, weights: the place of the first weight where the sum of the magnitudes, which is `before` ahead of the first, passes the limit; the number of weights
-- where none does
unfoldable pub first_heavy_from : ℕ → List ℤ → ℕ
first_heavy_from before [] = 0
first_heavy_from before (w ∷ ws) = let after = before + nat_abs w in cond (ltb LARGEST_WEIGHTS after) 0 (suc (first_heavy_from after ws))

unfoldable pub first_heavy : List ℤ → ℕ
unfolding first_heavy_from
first_heavy ws = first_heavy_from 0 ws

-- 1, the block's length; 2, as many weights; 3, the samples; 20, the weights
unfoldable pub tested_smoothing : List ℤ → List ℤ → Result BlockKind Refusal
unfolding first_loud first_heavy
tested_smoothing xs ws =
    let N = length xs in
    let loud = first_loud LEAST_SAMPLE LARGEST_SAMPLE xs in
    let heavy = first_heavy ws in
    let after-1 = of_length (kind_of N) in
    let after-2 = refused_if (not (eqb (length ws) N)) Misfit after-1 in
    let after-3 = refused_if (ltb loud N) (Loud loud) after-2 in
    refused_if (ltb heavy (length ws)) (Weights heavy) after-3

-- the same once more, in numbers alone and with 20 as the paper has it: P of what is taken, or number and place of the first row that is given
abbrev pub smoothing_numbers : List ℤ → List ℤ → List ℕ
smoothing_numbers xs ws =
    let N = length xs in
    let loud = first_loud (neg_ℤ (pos 32768)) (pos 32767) xs in
    let heavy = first_heavy ws in
    first_given ((eqb (exponent 10 N) 0, 1, 0) ∷ (not (eqb (length ws) N), 2, 0) ∷ (ltb loud N, 3, loud) ∷ (ltb 32767 (running ws (length ws)), 20, heavy) ∷ []) (exponent 10 N)
