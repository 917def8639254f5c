-- Document 01, Parts of the engine: what a call for a host in C leaves in the lent bytes, by what the engine leaves in the cells that they spell.
use Rattle.std.specs.Prelude.{cond, List, ℕ, eqb, ℤ, Result, Ok, Err}
use Rattle.little_endian.specs.Spelling.{spelled_signeds}
use Rattle.cell_bytes.specs.CellBytes.{CELL, encoded}
use Rattle.kind.specs.declared.BlockKind.{BlockKind}
use Rattle.refusal.specs.declared.Refusal.{Refusal}
use Rattle.packing.specs.Packing.{number_in}

-- the bytes that a call leaves: those of the cells that it leaves, or the lent bytes where it refuses
abbrev pub bytes_left : Result BlockKind Refusal → List ℤ → List ℕ → List ℕ
bytes_left (Ok kind) cells lent = spelled_signeds CELL cells
bytes_left (Err refusal) cells lent = lent

-- the bytes once cells are written back by an answer: as they were where it refuses
unfoldable pub written_back : ℕ → List ℤ → List ℕ → List ℕ
unfolding encoded
written_back answer cells bytes = cond (eqb (number_in answer) 0) (encoded cells bytes) bytes
