-- Document 02, Item 8, for a host in C: the quarter table in lent cells, which are eight bytes each. The papers give an output that does not fit refusal 2.
use Rattle.std.specs.Prelude.{cond, List, [], ◌∷◌, map, ℕ, eqb, ℤ, pos, length, Result, Ok, Err}
use Rattle.ints.specs.Tabulate.{tabulate}
use Rattle.kind.specs.BlockKinds.{SCALE_DIGITS}
use Rattle.cosine.specs.Cosine.{quarter_table}
use Rattle.refusal.specs.declared.Refusal.{Refusal}
use Rattle.refusal.specs.declared.Refusal.TheVariants.{Misfit}
use Rattle.little_endian.specs.Spelling.{spelled_signeds}
use Rattle.cell_bytes.specs.CellBytes.{CELL, cells_in}

-- the cells of the table
abbrev pub TABLE_CELLS : ℕ
TABLE_CELLS = 257

-- done where the lent bytes are as many cells
unfoldable pub table_answer : List ℕ → Result (Unit {0}) Refusal
table_answer lent = cond (eqb (length (cells_in lent)) TABLE_CELLS) (Ok tt) (Err Misfit)

-- numbers as cells
unfoldable pub as_cells : List ℕ → List ℤ
as_cells numbers = map (λ n. pos n) numbers

-- the bytes that are left: those of T(0) to T(256), or the lent ones where the call refuses
abbrev pub table_left : Result (Unit {0}) Refusal → List ℕ → List ℕ
table_left (Ok done) lent = spelled_signeds CELL (as_cells (tabulate TABLE_CELLS (quarter_table SCALE_DIGITS)))
table_left (Err refusal) lent = lent

-- in the papers' numbers, by how many cells are lent: nothing where it is done, else number and place
unfoldable pub table_numbers : ℕ → List ℕ
table_numbers cells = cond (eqb cells 257) [] (2 ∷ 0 ∷ [])
