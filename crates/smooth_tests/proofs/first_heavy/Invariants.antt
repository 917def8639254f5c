use mathlib.Core.Path.{◌≡◌}
use mathlib.Core.List.{List}
use Prim.Native.Nat.{ℕ, ◌+◌, ◌≤◌}
use lib.IntN.{ℤ}
use lib.ListN.{drop}
use Rattle.exact.specs.Smoothing.{LARGEST_WEIGHTS}
use Rattle.smooth_tests.specs.Tests.{first_heavy_from, first_heavy}
use Rattle.smooth_tests.proofs.first_heavy.Given as goal

-- none before weight i is the one, and the magnitudes of those add to `sum`
pub record Weighed (ws : List ℤ) (sum i : ℕ) : Type 0 where
  pub light : sum ≤ LARGEST_WEIGHTS
  pub so_far : first_heavy ws ≡ i + first_heavy_from sum (drop i ws)

abbrev pub invariant-loop-i : goal.invariant-loop-i
invariant-loop-i l = Weighed l.weights l.running l.i
