use mathlib.Core.Path.{◌≡◌}
use Prim.Native.Nat.{ℕ, ◌^◌, ◌≤◌, ◌<◌}
use Rattle.kind.proofs.BlockKind.of_len.Given as goal

abbrev pub invariant-loop-p : goal.invariant-loop-p
invariant-loop-p l = (P : ℕ) → 1 ≤ P → P < l.p → 2 ^ P ≡ l.len → ⊥
