-- Document 02, Item 2: the checks of a search, in turn, of which the first that finds a fault decides; and the same in numbers alone. A list of n powers
-- has lines 0 to n - 1, so N/2 is n - 1; of no power it is 0, since a difference below 0 is 0, and no block has 0 cells.
use Rattle.std.specs.Prelude.{Bool, true, false, cond, List, [], ◌∷◌, ℕ, ◌*◌, ◌-◌, eqb, ltb, is_none, Result, Ok, Err}
use Rattle.kind.specs.declared.Line.{Line}
use Rattle.kind.specs.BlockKinds.{kind_of}
use Rattle.refusal.specs.declared.Refusal.{Refusal}
use Rattle.refusal.specs.declared.Refusal.TheVariants.{Length, Line as LineAbove}

-- what the first check says that finds a fault, or else what is said without one
unfoldable pub first_given : {A : Type 0} → List (Bool × A) → A → A
first_given [] otherwise = otherwise
first_given (check ∷ checks) otherwise = cond check.0 check.1 (first_given checks otherwise)

-- 1: n cells are not N/2 + 1 for a permitted N, which would be 2 (n - 1)
unfoldable pub wrong_length : ℕ → Bool
unfolding kind_of
wrong_length n = is_none (kind_of (2 * (n - 1)))

-- the strongest: then 4 if a given line exceeds N/2, the low end before the high one, or the low end exceeds the high one
unfoldable pub tested_band : ℕ → Line → Line → Result (Unit {0}) Refusal
unfolding first_given wrong_length
tested_band n low high = first_given (
    (wrong_length n, Err Length)
    ∷ (ltb (n - 1) low.0, Err (LineAbove low))
    ∷ (ltb (n - 1) high.0, Err (LineAbove high))
    ∷ (ltb high.0 low.0, Err (LineAbove low))
    ∷ []) (Ok tt)

-- the nearest: then 4 if the chosen line exceeds N/2
unfoldable pub tested_chosen : ℕ → Line → Result (Unit {0}) Refusal
unfolding first_given wrong_length
tested_chosen n chosen = first_given ((wrong_length n, Err Length) ∷ (ltb (n - 1) chosen.0, Err (LineAbove chosen)) ∷ []) (Ok tt)

-- ---- in numbers: each check with the number and the place of its refusal

-- whether n is not in a list
unfoldable pub absent : ℕ → List ℕ → Bool
absent n [] = true
absent n (m ∷ ms) = cond (eqb n m) false (absent n ms)

-- 1: a list of powers has one of these lengths
abbrev pub length_row : ℕ → Bool × List ℕ
length_row n = (absent n (513 ∷ 257 ∷ 129 ∷ 65 ∷ 33 ∷ 17 ∷ 9 ∷ 5 ∷ 3 ∷ 2 ∷ []), 1 ∷ 0 ∷ [])

abbrev pub band_rows : ℕ → ℕ → ℕ → List (Bool × List ℕ)
band_rows n low high = length_row n ∷ (ltb (n - 1) low, 4 ∷ low ∷ []) ∷ (ltb (n - 1) high, 4 ∷ high ∷ []) ∷ (ltb high low, 4 ∷ low ∷ []) ∷ []

abbrev pub chosen_rows : ℕ → ℕ → List (Bool × List ℕ)
chosen_rows n chosen = length_row n ∷ (ltb (n - 1) chosen, 4 ∷ chosen ∷ []) ∷ []
