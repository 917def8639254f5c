use mathlib.Core.List.{List}
use Prim.Native.Nat.{ℕ, ◌*◌, ◌-◌, ◌<◌}
use lib.IntN.{ℤ}
use lib.ListN.{length}
use Rattle.spectrum.specs.Spectrum.{level_at}
use Rattle.levels.proofs.PartByPart.{Done}
use Rattle.levels.proofs.Blocks.{level_keeps, level-within}
use Rattle.levels.proofs.join_level.Given as goal

abbrev pub PairsDone : (s n : ℕ) → 0 < n → List ℤ → ℕ → List ℤ → Type 0
PairsDone s n some xs base ys = Done (level_at s n) (2 * n) (level_keeps s n) (level-within s n some) xs base ys

abbrev pub invariant-loop-base : goal.invariant-loop-base
invariant-loop-base l = (some : 0 < l.n) × PairsDone l.scale.digits l.n some l.initial.cells l.base l.cells

abbrev pub decreases-loop-base : goal.decreases-loop-base
decreases-loop-base l = length l.initial.cells - l.base
