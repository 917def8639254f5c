-- Document 01, Parts of the engine: for a host in C each cell is eight bytes, two's complement, least byte first.
use Rattle.std.specs.Prelude.{cond, ◌&&◌, List, [], ℕ, ◌*◌, ◌/◌, ◌%◌, eqb, leb, ℤ, length, take, drop}
use Rattle.little_endian.specs.Reading.{signed, signeds}
use Rattle.little_endian.specs.Spelling.{spelled_signeds}

-- the bytes of a cell
abbrev pub CELL : ℕ
CELL = 8

-- The cells that bytes spell. A count of bytes that is no multiple of eight spells none; since no block has 0 cells and no output should have 0, it is
-- refusal 1, or 2 in an output or in weights (laws `left_over_block` and `left_over_output` of `lent_cells`).
unfoldable pub cells_in : List ℕ → List ℤ
unfolding signeds
cells_in bytes = cond (eqb (length bytes % CELL) 0) (signeds CELL (length bytes / CELL) bytes) []

-- the cell that the eight bytes from byte 8 i on spell
abbrev pub cell_at : List ℕ → ℕ → ℤ
cell_at bytes i = signed (take CELL (drop (CELL * i) bytes))

-- the number of cells that n bytes are read as: 0 where a byte is left over or there are more than `most` bytes, and no call on a block or a list takes 0 cells
unfoldable pub cell_count : ℕ → ℕ → ℕ
cell_count most n = cond (eqb (n % CELL) 0 && leb n most) (n / CELL) 0

-- the same where just `wanted` cells are asked for: all of them or none
unfoldable pub fit_count : ℕ → ℕ → ℕ
fit_count wanted n = cond (eqb n (CELL * wanted)) wanted 0

-- the cells that are read
abbrev pub cells_read : ℕ → List ℕ → List ℤ
cells_read most bytes = signeds CELL (cell_count most (length bytes)) bytes

-- the cells once bytes are read into them: as they were where there are too few bytes
unfoldable pub decoded : List ℕ → List ℤ → List ℤ
decoded bytes cells = let n = length cells in cond (leb (CELL * n) (length bytes)) (signeds CELL n bytes) cells

-- the bytes once cells are written to them: as they were where they are not as many as the cells take
unfoldable pub encoded : List ℤ → List ℕ → List ℕ
encoded cells bytes = cond (eqb (length bytes) (CELL * length cells)) (spelled_signeds CELL cells) bytes
