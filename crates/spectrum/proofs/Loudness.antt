-- No spectrum that forward leaves is too loud for the calls that take one: by the magnitude law a line of 1,024 samples is at most
-- √2 × 1,024 × 32,768 + E(10) in size, about 2^25.5, and they take 2^28. And no cell that backward leaves is above the room of a cell.
-- Example: `forward-quiet 10 few xs quiet i : nat_abs (cell (forward 10 xs) i) ≤ LOUDEST_LINE`.
use mathlib.Core.Path.{◌≡◌, sym, ◌∙◌, ap}
use mathlib.Core.Bool.{Bool, true, false, not}
use mathlib.Core.List.{List, map}
use Prim.Native.Nat.{ℕ, ◌+◌, ◌*◌, ◌^◌, ◌≤◌, ◌<◌}
use native.Mathlib.Nat.{le_trans, le_of_mul-le-mul_left}
use native.Mathlib.Omega.{arith}
use lib.Dec.{T, leb, leb→le, ltb, ltb→lt, nltb→le}
use lib.IntN.{ℤ, pos, nat_abs}
use lib.ListN.{length, get_or, get_or-eq_default, get_or-map}
use lib.Pow.{pow_pos}
use Rattle.ints.specs.Quotient.{rounded}
use Rattle.ints.specs.Tabulate.{tabulate}
use Rattle.ints.proofs.Rounding.{rounded-size, rounded_zero}
use Rattle.ints.proofs.Tables.{alongside, alongside_at}
use Rattle.kind.specs.BlockKinds.{SCALE, SCALE_DIGITS}
use Rattle.ints.specs.Cells.{cell}
use Rattle.kind.specs.Loudness.{LOUDEST_SAMPLE, LOUDEST_LINE}
use Rattle.spectrum.specs.Spectrum.{table_cosine, table_sine, forward_at, forward, backward}
use Rattle.spectrum.specs.Levels.{permuted, transformed}
use Rattle.spectrum.specs.Distance.{bound}
use Rattle.spectrum.specs.Limits.{LARGEST_CELL}
use Rattle.spectrum.proofs.Stages.{length-permuted, length-levels}
use Rattle.spectrum.proofs.Magnitude.{line-size}
use Rattle.spectrum.proofs.ForwardDistance.{in_force, forward-room}

pub length-forward : (P : ℕ) (xs : List ℤ) → length (forward P xs) ≡ 2 ^ P
unfolding forward forward_at transformed
length-forward P xs = length-levels (rounded SCALE) (table_cosine SCALE_DIGITS) (table_sine SCALE_DIGITS) P (permuted P xs) ∙ length-permuted P xs

-- what the magnitude law allows, times 65,536, for each P: √2 is below 92,682 / 65,536
sizes : T (alongside leb (tabulate 11 (λ P. 92682 * (2 ^ P * LOUDEST_SAMPLE) + 65536 * bound SCALE LOUDEST_SAMPLE P)) (tabulate 11 (λ P. 65536 * LOUDEST_LINE)))
unfolding alongside tabulate bound
sizes = tt

size : (P : ℕ) → P ≤ 10 → 92682 * (2 ^ P * LOUDEST_SAMPLE) + 65536 * bound SCALE LOUDEST_SAMPLE P ≤ 65536 * LOUDEST_LINE
size P few = leb→le _ _ (alongside_at leb (λ P. 92682 * (2 ^ P * LOUDEST_SAMPLE) + 65536 * bound SCALE LOUDEST_SAMPLE P) (λ P. 65536 * LOUDEST_LINE) 11 11 sizes P (omega arith))

-- every line, and every cell past the end, which is 0
pub forward-quiet : (P : ℕ) → P ≤ 10 → (xs : List ℤ) → ((t : ℕ) → nat_abs (cell xs t) ≤ LOUDEST_SAMPLE) → (i : ℕ) → nat_abs (cell (forward P xs) i) ≤ LOUDEST_LINE
unfolding forward forward_at
forward-quiet P few xs quiet i = go (ltb i (2 ^ P)) (ltb→lt i (2 ^ P)) (nltb→le i (2 ^ P))
  where
    go : (t : Bool) → (T t → i < 2 ^ P) → (T (not t) → 2 ^ P ≤ i) → nat_abs (cell (forward P xs) i) ≤ LOUDEST_LINE
    go true f g = le_of_mul-le-mul_left {k = 65536} (le_trans (line-size in_force LOUDEST_SAMPLE (omega arith) P few xs quiet i (f tt)) (size P few)) (omega arith)
    go false f g = rw (get_or-eq_default (forward P xs) (pos 0) {n = i} (rw (length-forward P xs) (g tt))) (omega arith)

pub backward-room : (P : ℕ) → P ≤ 10 → (xs : List ℤ) → ((t : ℕ) → nat_abs (cell xs t) ≤ LOUDEST_LINE) → (i : ℕ) → nat_abs (cell (backward P xs) i) ≤ LARGEST_CELL
unfolding backward forward forward_at transformed
backward-room P few xs quiet i = rw divided (le_trans (rounded-size (2 ^ P) (pow_pos P) (cell (forward P xs) i)) (forward-room P P (omega arith) few xs quiet i))
  where
    divided : cell (map (rounded (2 ^ P)) (forward P xs)) i ≡ rounded (2 ^ P) (cell (forward P xs) i)
    divided = ap (get_or (map (rounded (2 ^ P)) (forward P xs)) i) (sym (rounded_zero (2 ^ P) (pow_pos P))) ∙ get_or-map (rounded (2 ^ P)) (forward P xs) i (pos 0)
