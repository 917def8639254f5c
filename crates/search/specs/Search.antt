-- Document 02, Item 2: the strongest line of a band, and the line nearest to a chosen one whose power reaches a given level. Both search a list ps of
-- powers, which are whole numbers here: power v of the list is that of line v.
-- Example: in {5, 9, 9, 2, 9} the strongest line from 0 to 4 is line 1, and the line nearest to 3 that reaches 6 is line 2.
use Rattle.std.specs.Prelude.{Bool, false, cond, not, ◌&&◌, ◌||◌, List, ℕ, zero, suc, ◌+◌, ◌-◌, ◌≤◌, ◌<◌, leb, ltb, ℤ, length, ◌≤ℤ◌, ◌<ℤ◌, Option, Some, None}
use Rattle.std.specs.Int.Signed.{le_z}
use Rattle.ints.specs.Cells.{cell}
use Rattle.kind.specs.declared.Line.{Line}

-- ---- comparisons

-- whether a power reaches a level, that is, is at least as large; the only comparison of powers that computes
unfoldable pub reaches : ℤ → ℤ → Bool
reaches power level = le_z level power

-- whether line w is stronger than line v: the power of v does not reach that of w
abbrev pub is_stronger : List ℤ → ℕ → ℕ → Bool
is_stronger ps w v = not (reaches (cell ps v) (cell ps w))

-- how far two lines are apart; a difference below 0 is 0, so one of the two is
abbrev pub distance : ℕ → ℕ → ℕ
distance v w = (v - w) + (w - v)

-- whether line w is nearer to the chosen one than line v
abbrev pub is_nearer : ℕ → ℕ → ℕ → Bool
is_nearer chosen w v = ltb (distance chosen w) (distance chosen v)

-- whether line v lies between two lines, both included
abbrev pub in_band : ℕ → ℕ → ℕ → Bool
in_band low high v = leb low v && leb v high

-- ---- lines that pass a test: of n lines from v on, whether there is one, and the lowest, or none

unfoldable pub some : (ℕ → Bool) → ℕ → ℕ → Bool
some test v zero = false
some test v (suc n) = test v || some test (suc v) n

unfoldable pub lowest : (ℕ → Bool) → ℕ → ℕ → Option Line
lowest test v zero = None
lowest test v (suc n) = cond (test v) (Some (record { 0 = v })) (lowest test (suc v) n)

-- of those of n lines that pass the test `among`, the lowest that none of these beats; none where no line passes it
abbrev pub best : (ℕ → Bool) → (ℕ → ℕ → Bool) → ℕ → Option Line
best among beats n = lowest (λ v. among v && not (some (λ w. among w && beats w v) 0 n)) 0 n

-- ---- the two searches

-- the strongest line between two lines, both included: the lowest of equals
unfoldable pub strongest : List ℤ → ℕ → ℕ → Option Line
unfolding some lowest reaches
strongest ps low high = best (in_band low high) (is_stronger ps) (length ps)

-- the line nearest to a chosen one whose power reaches a given level: the lower of two equally near; none where no line reaches it
unfoldable pub nearest : List ℤ → ℕ → ℤ → Option Line
unfolding some lowest reaches
nearest ps chosen level = best (λ v. reaches (cell ps v) level) (is_nearer chosen) (length ps)

-- ---- the same as relations; that exactly one line has each of them is proved in proofs/ExactlyOne.antt

-- v is the strongest line from low to high: it lies in the band, no line of the band is stronger, and no lower one as strong
pub record Strongest (ps : List ℤ) (low high v : ℕ) : Type 0 where
  pub from : low ≤ v
  pub to : v ≤ high
  pub none_stronger : (w : ℕ) → low ≤ w → w ≤ high → cell ps w ≤ℤ cell ps v
  pub none_lower : (w : ℕ) → low ≤ w → w < v → cell ps w <ℤ cell ps v

-- v is the line nearest to the chosen one that reaches the level: it reaches it, no line that reaches it is nearer, and no lower one as near
pub record Nearest (ps : List ℤ) (chosen : ℕ) (level : ℤ) (v : ℕ) : Type 0 where
  pub listed : v < length ps
  pub reached : level ≤ℤ cell ps v
  pub none_nearer : (w : ℕ) → w < length ps → level ≤ℤ cell ps w → distance chosen v ≤ distance chosen w
  pub none_lower : (w : ℕ) → w < v → level ≤ℤ cell ps w → distance chosen v < distance chosen w
