-- `smooth_taken` is right because both ways give the plain sums: a short block has room for them, and for any block the path by way of the spectra is exact.
use mathlib.Core.List.{List}
use Prim.Native.Nat.{ℕ, ◌≤◌, ◌<◌}
use native.Mathlib.Decide.{dec_lt}
use native.Mathlib.Omega.{arith}
use lib.IntN.{ℤ}
use lib.ListN.{length}
use lib.Pow.{pow_mono}
use Rattle.cyclic_sums.specs.Short.{SHORT}
use Rattle.smoothing.specs.Inner.{Accepted}
use Rattle.smoothing.proofs.Weights.{short}
use Rattle.smoothing.proofs.Smoothed.{sums_by_chosen}
use Rattle.smoothing.proofs.smooth_taken.Goals as goal

-- more than 32 cells are 2^3 at least
many : {P : ℕ} {xs ws : List ℤ} → Accepted P xs ws → SHORT < length xs → 3 ≤ P
many {P} {xs} A more = go (dec_lt P 3)
  where
    go : Dec (P < 3) → 3 ≤ P
    go (yes h) = absurd (omega (arith, A.long, pow_mono {i = P} {j = 2} (omega arith)))
    go (no h) = omega arith

pub sum_cells-requires : goal.sum_cells-requires
sum_cells-requires c = (c.if-cells-le-SHORT.true, short c.requires)

pub smooth_by_spectra-requires : goal.smooth_by_spectra-requires
smooth_by_spectra-requires c = let A = c.requires in (many A c.if-cells-le-SHORT.false, A)

pub returns-else-cells-le-SHORT : goal.returns-else-cells-le-SHORT
returns-else-cells-le-SHORT c = sums_by_chosen c.requires c.smooth_by_spectra.ensures
