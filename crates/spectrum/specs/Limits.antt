-- Document 01, Levels: for N = 1,024 all sums fit 64 bits. Before a level no cell times the scale is above the first number (law `level-room`), so no sum of
-- two products is above the second, which is below 2^63. And no cell before a level, or after the last, is above the third (law `forward-room`).
use Rattle.std.specs.Prelude.{ℕ, ◌*◌, ◌^◌, ◌≤◌, ℤ, nat_abs}

abbrev pub LARGEST_PRODUCT : ℕ
LARGEST_PRODUCT = 2 ^ 61

abbrev pub LARGEST_SUM : ℕ
LARGEST_SUM = 2 * LARGEST_PRODUCT

abbrev pub LARGEST_CELL : ℕ
LARGEST_CELL = 2 ^ 40

-- a cell can be multiplied by a cosine or sine at scale 2^s
abbrev pub Room : ℕ → ℤ → Type 0
Room s z = nat_abs z * 2 ^ s ≤ LARGEST_PRODUCT
