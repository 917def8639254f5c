-- Document 01, Levels, and document 02, Item 6: the direct sum, and the distance from it that demand 3 allows.
-- Example: of 1,024 samples with M = 100 no line is farther from the direct sum than `bound 32768 100 10`, which is 2,083.
use Rattle.std.specs.Prelude.{List, [], ◌∷◌, ℕ, zero, suc, ◌+◌, ◌*◌, ◌-◌, ◌/◌, ◌%◌, ◌^◌, ◌≤◌, ◌<◌, max, ℤ, pos, nat_abs, ◌-ℤ◌, ◌*ℤ◌, length, get_or}
use Rattle.ints.specs.Sum.{sum}
use Rattle.kind.specs.BlockKinds.{SCALE, TURN}
use Rattle.cosine.specs.Cosine.{cas, fine}
use Rattle.ints.specs.Cells.{cell}

-- line v of the direct sum of the N samples xs: the sum over t from 0 to N − 1 of sample(t) × cas(v × t × 1,024 / N mod 1,024),
-- with the cas of the cosines F; document 01's are the fine ones
unfoldable pub direct_sum : (ℕ → ℕ) → List ℤ → ℕ → ℤ
unfolding sum cas
direct_sum F xs v = let N = length xs in sum N (λ t. cell xs t *ℤ cas F (v * t * TURN / N % TURN))

-- for each line v of the N samples xs, 0 to N − 1: cell v of ys, times 2^60, is at most B × 2^60 from the direct sum, to either side
abbrev pub LinesWithin : ℕ → List ℤ → List ℤ → Type 0
LinesWithin B xs ys = (v : ℕ) → v < length xs → nat_abs (cell ys v *ℤ pos (2 ^ 60) -ℤ direct_sum fine xs v) ≤ B * 2 ^ 60

-- a / b, rounded up
abbrev pub ceiling : ℕ → ℕ → ℕ
ceiling a b = (a + (b - 1)) / b

-- The bound for 2^P samples of magnitude M at most, at scale q, in the words of document 02, Item 6: 0 for P up to 2; then 5/2 of the one
-- before, rounded up, plus half the length times M over q, rounded up, plus 1.
unfoldable pub bound : ℕ → ℕ → ℕ → ℕ
bound q M zero = 0
bound q M (suc zero) = 0
bound q M (suc (suc zero)) = 0
bound q M (suc (suc (suc P))) = ceiling (5 * bound q M (suc (suc P))) 2 + ceiling (2 ^ suc (suc P) * M) q + 1

-- M, the largest magnitude in the block xs
unfoldable pub largest_magnitude : List ℤ → ℕ
largest_magnitude [] = 0
largest_magnitude (x ∷ xs) = max (nat_abs x) (largest_magnitude xs)

-- the bound for the 2^P samples xs at their own M, and at the scale in force, 32,768
abbrev pub block_bound : ℕ → List ℤ → ℕ
block_bound P xs = bound SCALE (largest_magnitude xs) P

-- E for P = 1 to 10 (and 0 for P = 0), document 01's figures. They are `bound` at scale 32,768 and samples up to 32,768 (law `E-is-bound`), and no block
-- that forward takes has a larger bound (law `bound-E`, both in proofs/ForwardDistance).
abbrev pub E : ℕ → ℕ
E P = get_or (0 ∷ 0 ∷ 0 ∷ 5 ∷ 22 ∷ 72 ∷ 213 ∷ 598 ∷ 1624 ∷ 4317 ∷ 11306 ∷ []) P 0
