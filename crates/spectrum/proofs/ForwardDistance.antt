-- Demand 3 at the block's own M (document 02, Item 6), and with document 01's figures E: the distance theorem, the exact line 0 and the magnitude law, at
-- the scale and the rounding in force.
-- The proof goes in six steps, one file each: the even/odd law of the levels (EvenOdd), the same split of the direct sum (DirectSplit), the
-- identity for one line and its bounds (Step), one level (OneLevel), the induction over the levels (Distance), and the figures here.
-- Example: `demand_3 10 few xs long small : LinesWithin (block_bound 10 xs) xs (forward 10 xs)`.
use mathlib.Core.Path.{◌≡◌, sym}
use mathlib.Core.List.{List}
use Prim.Native.Nat.{ℕ, ◌+◌, ◌*◌, ◌-◌, ◌/◌, ◌%◌, ◌^◌, ◌≤◌, ◌<◌}
use native.Mathlib.Nat.{le_trans, mul-le-mul_right}
use native.Mathlib.Omega.{arith}
use lib.Dec.{T, eqb, leb, eqb→eq, leb→le}
use lib.IntN.{ℤ, pos, nat_abs, ◌-ℤ◌, ◌*ℤ◌}
use lib.ListN.{length}
use Rattle.ints.specs.Quotient.{rounded}
use Rattle.ints.specs.Sum.{sum}
use Rattle.ints.specs.Tabulate.{tabulate}
use Rattle.ints.proofs.Tables.{alongside, alongside_at}
use Rattle.kind.specs.BlockKinds.{SCALE, SCALE_DIGITS}
use Rattle.cosine.specs.Cosine.{fine}
use Rattle.ints.specs.Cells.{cell}
use Rattle.kind.specs.Loudness.{LOUDEST_SAMPLE, LOUDEST_LINE}
use Rattle.spectrum.specs.Levels.{permuted}
use Rattle.spectrum.specs.Spectrum.{table_cosine, table_sine, levels_at, forward_at, forward}
use Rattle.spectrum.specs.Limits.{LARGEST_CELL, LARGEST_PRODUCT, Room}
use Rattle.spectrum.specs.Distance.{LinesWithin, block_bound, bound, direct_sum, E, largest_magnitude}
use Rattle.spectrum.proofs.Bound.{bound_falls, bound_grows}
use Rattle.spectrum.proofs.LargestMagnitude.{within-largest}
use Rattle.spectrum.proofs.Nearest.{LARGEST_M, Nearest, nearest_at}
use Rattle.spectrum.proofs.Distance.{distance}
use Rattle.spectrum.proofs.Magnitude.{level-size}
use Rattle.spectrum.proofs.FirstLine.{first-line}

-- ---- at every scale 2^s of the quarter table, 4 ≤ s < 60

pub distance_at : (s : ℕ) → 4 ≤ s → s < 60 → (M : ℕ) → M ≤ LARGEST_M → (P : ℕ) → P ≤ 10 → (xs : List ℤ) → length xs ≡ 2 ^ P → ((t : ℕ) → nat_abs (cell xs t) ≤ M) →
    (v : ℕ) → v < 2 ^ P → nat_abs (cell (forward_at s P xs) v *ℤ pos (2 ^ 60) -ℤ direct_sum fine xs v) ≤ bound (2 ^ s) M P * 2 ^ 60
unfolding forward_at
distance_at s low high M M-small = distance (nearest_at s low high) M M-small

-- at the block's own M
pub demand_3_at : (s : ℕ) → 4 ≤ s → s < 60 → (P : ℕ) → P ≤ 10 → (xs : List ℤ) → length xs ≡ 2 ^ P → largest_magnitude xs ≤ LARGEST_M →
    LinesWithin (bound (2 ^ s) (largest_magnitude xs) P) xs (forward_at s P xs)
demand_3_at s low high P few xs long small v h = distance_at s low high (largest_magnitude xs) small P few xs long (within-largest xs) v (omega arith)

-- ---- at the scale in force

pub in_force : Nearest SCALE (rounded SCALE) (table_cosine SCALE_DIGITS) (table_sine SCALE_DIGITS)
in_force = nearest_at SCALE_DIGITS (omega arith) (omega arith)

-- step 6: document 01's figures E(0) to E(10) are `bound` at 32,768 for scale and samples, computed once
figures : T (alongside eqb (tabulate 11 (bound SCALE LOUDEST_SAMPLE)) (tabulate 11 E))
unfolding alongside tabulate bound
figures = tt

pub E-is-bound : (P : ℕ) → P ≤ 10 → bound SCALE LOUDEST_SAMPLE P ≡ E P
E-is-bound P few = eqb→eq _ _ (alongside_at eqb (bound SCALE LOUDEST_SAMPLE) E 11 11 figures P (omega arith))

-- and so no bound is larger than E(P) where M is at most 32,768 and the scale at least that
pub bound-E : (q M P : ℕ) → SCALE ≤ q → M ≤ LOUDEST_SAMPLE → P ≤ 10 → bound q M P ≤ E P
bound-E q M P fine-enough quiet few = omega (arith, bound_falls SCALE q (omega arith) fine-enough M P, bound_grows SCALE (omega arith) M LOUDEST_SAMPLE quiet P, E-is-bound P few)

pub demand_3 : (P : ℕ) → P ≤ 10 → (xs : List ℤ) → length xs ≡ 2 ^ P → largest_magnitude xs ≤ LARGEST_M → LinesWithin (block_bound P xs) xs (forward P xs)
unfolding forward
demand_3 = demand_3_at SCALE_DIGITS (omega arith) (omega arith)

-- ---- line 0 is the sum of the samples

pub forward-first : (P : ℕ) (xs : List ℤ) → cell (forward P xs) 0 ≡ sum (2 ^ P) (cell xs)
unfolding forward forward_at
forward-first P xs = first-line in_force P xs

-- ---- room: with samples of 2^28 at most, as a lent spectrum may have

-- what the magnitude law allows after L levels at scale 2^s
abbrev largest : ℕ → ℕ → ℕ
largest s L = 2 * (2 ^ L * LOUDEST_LINE) + 2 * bound (2 ^ s) LOUDEST_LINE L

-- At every scale from 2^12 to 2^22 a cell can be multiplied before each level: one test of the eleven scales by the ten levels, of which number j is scale
-- 2^(12 + j / 10) after j mod 10 levels.
scaled : ℕ → ℕ
scaled j = largest (12 + j / 10) (j % 10) * 2 ^ (12 + j / 10)

scaled_rooms : T (alongside leb (tabulate 110 scaled) (tabulate 110 (λ j. LARGEST_PRODUCT)))
unfolding alongside tabulate bound scaled
scaled_rooms = tt

scaled_room : (s L : ℕ) → 12 ≤ s → s ≤ 22 → L < 10 → largest s L * 2 ^ s ≤ LARGEST_PRODUCT
unfolding scaled
scaled_room s L low high few = go (10 * (s - 12) + L) (omega arith) (omega arith) (omega arith)
  where
    go : (j : ℕ) → j < 110 → 12 + j / 10 ≡ s → j % 10 ≡ L → largest s L * 2 ^ s ≤ LARGEST_PRODUCT
    go j h e f = rw (sym e, sym f) (leb→le _ _ (alongside_at leb scaled (λ j. LARGEST_PRODUCT) 110 110 scaled_rooms j h))

pub level-room : (s : ℕ) → 12 ≤ s → s ≤ 22 → (L P : ℕ) → L < P → P ≤ 10 → (xs : List ℤ) → ((t : ℕ) → nat_abs (cell xs t) ≤ LOUDEST_LINE) → (i : ℕ) → Room s (cell (levels_at s L (permuted P xs)) i)
level-room s low high L P h few xs quiet i = le_trans (mul-le-mul_right (2 ^ s) (level-size (nearest_at s (omega arith) (omega arith)) LOUDEST_LINE (omega arith) L P (omega arith) few xs quiet i))
    (scaled_room s L low high (omega arith))

-- at the scale in force no cell before a level, or after the last, is above 2^40
rooms : T (alongside leb (tabulate 11 (largest SCALE_DIGITS)) (tabulate 11 (λ L. LARGEST_CELL)))
unfolding alongside tabulate bound
rooms = tt

pub forward-room : (L P : ℕ) → L ≤ P → P ≤ 10 → (xs : List ℤ) → ((t : ℕ) → nat_abs (cell xs t) ≤ LOUDEST_LINE) → (i : ℕ) →
    nat_abs (cell (levels_at SCALE_DIGITS L (permuted P xs)) i) ≤ LARGEST_CELL
forward-room L P h few xs quiet i = le_trans (level-size in_force LOUDEST_LINE (omega arith) L P h few xs quiet i)
    (leb→le _ _ (alongside_at leb (largest SCALE_DIGITS) (λ L. LARGEST_CELL) 11 11 rooms L (omega arith)))
