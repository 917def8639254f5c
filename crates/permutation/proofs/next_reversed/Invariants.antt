use mathlib.Core.Path.{◌≡◌}
use Prim.Native.Nat.{ℕ, ◌/◌, ◌≤◌, ◌^◌}
use Rattle.permutation.proofs.Counting.{next_reversed}
use Rattle.permutation.proofs.next_reversed.Given as goal

-- the carry has come to `digit`, which is the highest of the digits that are left
pub record Carried (p digits rest digit : ℕ) : Type 0 where
  pub left : ℕ
  pub at : digit ≡ 2 ^ left / 2
  pub same : next_reversed p digits ≡ next_reversed left rest

abbrev pub invariant-loop-digit : goal.invariant-loop-digit
invariant-loop-digit l = (l.digit ≤ 512) × ((p : ℕ) → l.highest ≡ 2 ^ p / 2 → Carried p l.digits l.rest l.digit)

abbrev pub decreases-loop-digit : goal.decreases-loop-digit
decreases-loop-digit l = l.digit
