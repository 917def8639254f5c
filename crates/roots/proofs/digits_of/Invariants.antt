use mathlib.Core.Path.{◌≡◌}
use Prim.Native.Nat.{ℕ, ◌+◌, ◌*◌, ◌^◌, ◌≤◌, ◌<◌}
use Rattle.roots.proofs.digits_of.Given as goal

-- after n digits: x × 4^n is root² and the rest, in units of 2^64, and what is left
pub record Long (x root rest left n : ℕ) : Type 0 where
  pub whole : (root * root + rest) * 2 ^ 64 + left ≡ x * 4 ^ n
  pub short : left < 2 ^ 64
  pub few : rest ≤ 2 * root
  pub small : root < 2 ^ n

abbrev pub invariant-loop-digit : goal.invariant-loop-digit
invariant-loop-digit l = Long l.x l.root l.rest l.left l.digit
