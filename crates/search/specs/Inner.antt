-- What the inner functions ask of their callers and leave. None of it stands in a promise of `strongest` or `nearest`.
use Rattle.std.specs.Prelude.{◌≡◌, Bool, false, cond, List, ℕ, ◌<◌, ℤ, length}
use Rattle.ints.specs.Cells.{cell}
use Rattle.search.specs.declared.Peak.{Peak}
use Rattle.search.specs.Search.{distance, reaches}

-- the strongest line so far, once line v is looked at, which has this power and lies above the others
abbrev pub stronger : Peak → ℕ → ℤ → Peak
stronger peak v power = cond (reaches peak.power power) peak (record { line = v; power = power })

-- r says whether the power of line v reaches the level
pub record ReachesAt (ps : List ℤ) (v : ℕ) (level : ℤ) (r : Bool) : Type 0 where
  pub is : r ≡ reaches (cell ps v) level

-- no line of the list that is less than `far` from line v reaches the level
pub record NoneWithin (ps : List ℤ) (v : ℕ) (level : ℤ) (far : ℕ) : Type 0 where
  pub unreached : (w : ℕ) → w < length ps → distance v w < far → reaches (cell ps w) level ≡ false
