use mathlib.Core.Path.{◌≡◌}
use mathlib.Core.List.{List}
use Prim.Native.Nat.{ℕ, suc, ◌*◌, ◌-◌, ◌/◌, ◌^◌, ◌≤◌}
use lib.IntN.{ℤ}
use lib.ListN.{length}
use Rattle.spectrum.specs.Spectrum.{levels_at}
use Rattle.levels.proofs.join_later_levels.Given as goal

-- levels 1 to l + 1 are behind the cells, and n and the stride are those of the next
pub record Behind (s P : ℕ) (quarter : List ℕ) (before cells : List ℤ) (n stride : ℕ) : Type 0 where
  pub l : ℕ
  pub least : 2 ≤ l
  pub most : suc l ≤ P
  pub halves : n ≡ 2 * 2 ^ l
  pub strides : stride ≡ (length quarter - 1) / 2 ^ l
  pub long : length cells ≡ length before
  pub behind : (xs : List ℤ) → before ≡ levels_at s 3 xs → cells ≡ levels_at s (suc l) xs

abbrev pub invariant-loop-n : goal.invariant-loop-n
invariant-loop-n l = Behind l.scale.digits l.p l.quarter l.initial.cells l.cells l.n l.stride

abbrev pub decreases-loop-n : goal.decreases-loop-n
decreases-loop-n l = length l.initial.cells - l.n
