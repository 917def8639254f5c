-- Document 01, Levels: the forward and the backward spectrum, with the table of document 01 and the rounded quotient, at any scale 2^s.
use Rattle.std.specs.Prelude.{List, map, ℕ, ◌^◌, ℤ}
use Rattle.ints.specs.Quotient.{rounded}
use Rattle.kind.specs.BlockKinds.{SCALE_DIGITS}
use Rattle.cosine.specs.Cosine.{cosine, sine, quarter_table}
use Rattle.spectrum.specs.Levels.{line, joined, level, levels, transformed}

-- the quarter table's cosine and sine at that scale, over the whole turn
abbrev pub table_cosine : ℕ → ℕ → ℤ
table_cosine s step = cosine (quarter_table s) step

abbrev pub table_sine : ℕ → ℕ → ℤ
table_sine s step = sine (quarter_table s) step

-- the rule of the levels with them, and with the rounded quotient by the scale
abbrev pub line_at : ℕ → ℕ → (ℕ → ℤ) → (ℕ → ℤ) → ℕ → ℤ
line_at s n a b v = line (rounded (2 ^ s)) (table_cosine s) (table_sine s) n a b v

abbrev pub joined_at : ℕ → ℕ → (ℕ → ℤ) → ℕ → ℤ
joined_at s n x i = joined (rounded (2 ^ s)) (table_cosine s) (table_sine s) n x i

abbrev pub level_at : ℕ → ℕ → List ℤ → List ℤ
level_at s n xs = level (rounded (2 ^ s)) (table_cosine s) (table_sine s) n xs

abbrev pub levels_at : ℕ → ℕ → List ℤ → List ℤ
levels_at s L xs = levels (rounded (2 ^ s)) (table_cosine s) (table_sine s) L xs

-- the forward spectrum of 2^P samples: the cells after level P, with no division by N
unfoldable pub forward_at : ℕ → ℕ → List ℤ → List ℤ
unfolding transformed rounded cosine sine quarter_table
forward_at s P xs = transformed (rounded (2 ^ s)) (table_cosine s) (table_sine s) P xs

-- in force: scale 32,768
unfoldable pub forward : ℕ → List ℤ → List ℤ
unfolding forward_at
forward P xs = forward_at SCALE_DIGITS P xs

-- backward: the same steps on a spectrum, then each cell is divided by N with rounding
unfoldable pub backward : ℕ → List ℤ → List ℤ
unfolding forward rounded
backward P xs = map (rounded (2 ^ P)) (forward P xs)
