-- Cells that can be multiplied, and the two cells that one step writes.
-- Example: `split_other xs n v q i h k : cell (split xs n v q) i ≡ cell xs i`, with h : i ≡ v → ⊥ and k : i ≡ n + v → ⊥.
use mathlib.Core.Path.{◌≡◌, refl, ◌∙◌}
use mathlib.Core.List.{List}
use Prim.Native.Nat.{ℕ, ◌+◌, ◌*◌, ◌≤◌, ◌<◌}
use native.Mathlib.Nat.{mul-le-mul_left}
use native.Mathlib.Omega.{arith}
use lib.IntN.{ℤ, pos, nat_abs, ◌+ℤ◌, ◌-ℤ◌}
use lib.ListN.{length, set, length-set}
use lib.Pow.{pow_pos}
use lib.Seq.{get_or-set_same, get_or-set_other}
use mir.Syntax.{w64}
use mir.Val.{to_z, of_z}
use Rattle.ints.proofs.Fit.{reads_back}
use Rattle.ints.specs.Cells.{cell}
use Rattle.spectrum.specs.Limits.{LARGEST_PRODUCT, LARGEST_SUM, Room}
use Rattle.pair.specs.Pair.{split}

-- ---- a cell that can be multiplied is small, and the machine reads it back

pub room_small : (s : ℕ) (z : ℤ) → Room s z → nat_abs z ≤ LARGEST_PRODUCT
room_small s z h = omega (arith, mul-le-mul_left (nat_abs z) (pow_pos s))

pub small-back : (z : ℤ) → nat_abs z ≤ LARGEST_SUM → to_z w64 (of_z w64 z) ≡ z
small-back z h = reads_back z LARGEST_SUM (omega arith) h

pub room_back : (s : ℕ) (z : ℤ) → Room s z → to_z w64 (of_z w64 z) ≡ z
room_back s z h = small-back z (omega (arith, room_small s z h))

-- ---- the two cells

module _ (xs : List ℤ) (n v : ℕ) (q : ℤ) where
  pub split-long : length (split xs n v q) ≡ length xs
  split-long = rw (length-set, length-set) refl

  pub split_other : (i : ℕ) → (i ≡ v → ⊥) → (i ≡ n + v → ⊥) → cell (split xs n v q) i ≡ cell xs i
  split_other i h k = get_or-set_other (set xs v (cell xs v +ℤ q)) (n + v) i (cell xs v -ℤ q) (pos 0) k ∙ get_or-set_other xs v i (cell xs v +ℤ q) (pos 0) h

  module _ (long : length xs ≡ 2 * n) (below : v < n) where
    pub split-first : cell (split xs n v q) v ≡ cell xs v +ℤ q
    split-first = get_or-set_other (set xs v (cell xs v +ℤ q)) (n + v) v (cell xs v -ℤ q) (pos 0) apart ∙ get_or-set_same xs v (cell xs v +ℤ q) (pos 0) (omega arith)
      where
        apart : v ≡ n + v → ⊥
        apart e = omega arith

    pub split-second : cell (split xs n v q) (n + v) ≡ cell xs v -ℤ q
    split-second = get_or-set_same (set xs v (cell xs v +ℤ q)) (n + v) (cell xs v -ℤ q) (pos 0) (rw length-set (omega arith))
