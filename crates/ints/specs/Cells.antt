-- Cells are a list of whole numbers, of a block or of a spectrum; `cell xs i` is cell i, and 0 beyond the last.
use Rattle.std.specs.Prelude.{List, map, ℕ, ℤ, pos, neg_ℤ, get_or}

abbrev pub cell : List ℤ → ℕ → ℤ
cell xs i = get_or xs i (pos 0)

-- every sign reversed, as by a probe that is mounted upside down
abbrev pub negated : List ℤ → List ℤ
negated xs = map neg_ℤ xs
