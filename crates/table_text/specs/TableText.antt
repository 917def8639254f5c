-- Document 02, Item 8: the quarter table as text, one number a line.
-- Example: `number_lines (32768 ∷ 0 ∷ [])` is `32768`, a line feed, `0` and a line feed.
use Rattle.std.specs.Prelude.{List, [], ◌∷◌, ◌++◌, ℕ, ◌*◌}
use Rattle.ints.specs.Tabulate.{tabulate}
use Rattle.cosine.specs.Cosine.{quarter_table}
use Rattle.text.specs.Decimals.{decimal}
use Rattle.text.specs.Lines.{text_line}

-- a line for each number
unfoldable pub number_lines : List ℕ → List ℕ
number_lines [] = []
number_lines (n ∷ later) = text_line (decimal n ∷ []) ++ number_lines later

-- T(0) to T(256), in order, at scale 2^s
abbrev pub table_text : ℕ → List ℕ
table_text s = number_lines (tabulate 257 (quarter_table s))

-- a number of 32 bits has at most ten digits, and a line feed comes after it
abbrev pub LINE_BYTES : ℕ
LINE_BYTES = 11

-- room for every table
abbrev pub ROOM : ℕ
ROOM = 257 * LINE_BYTES
