-- Small blocks smoothed with the chosen pair, by the plain sum and by way of spectra: the definitions alone, computed.
use mathlib.Core.Path.{◌≡◌, refl}
use mathlib.Core.List.{List, [], ◌∷◌}
use lib.IntN.{ℤ, pos, neg_ℤ}
use Rattle.turns.specs.Turn.{steps, CHOSEN}
use Rattle.exact.specs.Smoothing.{cyclic_sums, smoothed}

-- one moment later, round the cycle
abbrev rising : List ℤ
rising = pos 1 ∷ pos 2 ∷ pos 3 ∷ pos 4 ∷ []

abbrev later : List ℤ
later = pos 0 ∷ pos 1 ∷ pos 0 ∷ pos 0 ∷ []

pub later_sums : cyclic_sums rising later ≡ pos 4 ∷ pos 1 ∷ pos 2 ∷ pos 3 ∷ []
unfolding cyclic_sums
later_sums = refl

pub later_smoothed : smoothed CHOSEN 2 rising later ≡ pos 4 ∷ pos 1 ∷ pos 2 ∷ pos 3 ∷ []
unfolding smoothed steps
later_smoothed = refl

-- negative results
abbrev dip : List ℤ
dip = neg_ℤ (pos 1) ∷ pos 0 ∷ pos 0 ∷ pos 0 ∷ []

abbrev around : List ℤ
around = pos 2 ∷ pos 0 ∷ pos 0 ∷ pos 1 ∷ []

pub dip_sums : cyclic_sums dip around ≡ neg_ℤ (pos 2) ∷ pos 0 ∷ pos 0 ∷ neg_ℤ (pos 1) ∷ []
unfolding cyclic_sums
dip_sums = refl

pub dip_smoothed : smoothed CHOSEN 2 dip around ≡ neg_ℤ (pos 2) ∷ pos 0 ∷ pos 0 ∷ neg_ℤ (pos 1) ∷ []
unfolding smoothed steps
dip_smoothed = refl
