-- Document 02, Item 7: what smoothing leaves in the lent cells.
use Rattle.std.specs.Prelude.{◌≡◌, List, ℕ, ◌^◌, ℤ, length}
use Rattle.block.specs.BlockAnswers.{cells_left}
use Rattle.turns.specs.Turn.{FullTurn, Pair}
use Rattle.exact.specs.Smoothing.{cyclic_sums, smoothed}
use Rattle.smooth_tests.specs.Tests.{tested_smoothing}

-- the plain cyclic sums of the samples xs and the weights ws, or what was lent where the call refuses
abbrev pub sums_left : List ℤ → List ℤ → List ℤ → List ℤ
sums_left xs ws lent = cells_left (λ P. cyclic_sums xs ws) lent (tested_smoothing xs ws)

-- the sums are left in the samples' place
abbrev pub smooth_left : List ℤ → List ℤ → List ℤ
smooth_left xs ws = sums_left xs ws xs

-- the cells ys are what the path by way of the spectra gives, whichever pair of order 1,024 is chosen
abbrev pub AnyPair : List ℤ → List ℤ → List ℤ → Type 0
AnyPair xs ws ys = (q : Pair) → FullTurn q → (P : ℕ) → length xs ≡ 2 ^ P → ys ≡ smoothed q P xs ws
