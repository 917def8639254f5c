-- What the levels of an exact spectrum ask of their callers and leave. It stands in no public promise.
use Rattle.std.specs.Prelude.{◌≡◌, List, ℕ, ◌+◌, ◌*◌, ◌-◌, ◌%◌, ◌^◌, ◌≤◌, ℤ, length}
use Rattle.spectrum.specs.Levels.{joined, levels, transformed}
use Rattle.turns.specs.Turn.{CHOSEN, cosine_at, sine_at}
use Rattle.exact_pair.specs.Pair.{FIRST, NoneAbove, quarter_of}

-- ---- the level rule with the chosen pair's cosines and sines and with nothing to round

abbrev pub exact_joined : ℕ → (ℕ → ℤ) → ℕ → ℤ
exact_joined n x i = joined (λ z. z) (cosine_at CHOSEN) (sine_at CHOSEN) n x i

abbrev pub exact_levels : ℕ → List ℤ → List ℤ
exact_levels L xs = levels (λ z. z) (cosine_at CHOSEN) (sine_at CHOSEN) L xs

abbrev pub exact_transformed : ℕ → List ℤ → List ℤ
exact_transformed P xs = transformed (λ z. z) (cosine_at CHOSEN) (sine_at CHOSEN) P xs

-- ---- what can be joined

-- levels 1 to P of 2^P cells
pub record LevelsReady (P : ℕ) (quarter xs : List ℤ) : Type 0 where
  pub least : 2 ≤ P
  pub most : P ≤ 10
  pub long : length xs ≡ 2 ^ P
  pub at_quarter : quarter ≡ quarter_of (P - 2)
  pub small : NoneAbove FIRST xs

-- levels 1 and 2
pub record FourReady (xs : List ℤ) : Type 0 where
  pub whole : length xs % 4 ≡ 0
  pub small : NoneAbove FIRST xs

-- levels 3 to P of 2^P cells
pub record LaterReady (P : ℕ) (quarter xs : List ℤ) : Type 0 where
  pub least : 2 ≤ P
  pub most : P ≤ 10
  pub long : length xs ≡ 2 ^ P
  pub at_quarter : quarter ≡ quarter_of (P - 2)
  pub small : NoneAbove (4 * FIRST) xs

-- a level over halves of 2^l cells, by 2^t + 1 entries
pub record LevelReady (l : ℕ) (quarter xs : List ℤ) : Type 0 where
  pub least : 1 ≤ l
  pub t : ℕ
  pub within : l ≤ t + 1
  pub most : t ≤ 8
  pub at_quarter : quarter ≡ quarter_of t
  pub whole : length xs % (2 * 2 ^ l) ≡ 0
  pub small : NoneAbove (2 ^ l * FIRST) xs
