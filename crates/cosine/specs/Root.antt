-- The whole square root. Example: `root 10` is 3. That it is the root, r · r ≤ x < (r + 1) · (r + 1), is `root-holds` in proofs/Root.
use Rattle.std.specs.Prelude.{true, false, cond, ℕ, zero, suc, ◌+◌, ◌*◌, ◌/◌, leb, eqb}

-- Digit by digit: twice the root of x / 4 is the root of x without its last binary digit, which is 1 where the square still fits in x.
-- d is the most digits that are looked for.
unfoldable pub root_with : ℕ → ℕ → ℕ
root_with zero x = 0
root_with (suc d) x = elim (eqb x 0) [ true ↦ 0 | false ↦ let r = 2 * root_with d (x / 4) in cond (leb ((r + 1) * (r + 1)) x) (r + 1) r ]

-- the whole square root of x, rounded down; it has no more than x digits
unfoldable pub root : ℕ → ℕ
unfolding root_with
root x = root_with x x
