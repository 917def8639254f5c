-- What a call on the cells that were read answers. It stands in no promise to a host.
use Rattle.std.specs.Prelude.{◌≡◌, List, ℕ, ◌*◌, ℤ, length, Result}
use Rattle.std.specs.Fn.{FnOnceReturnsAtMut, Once}
use denote.Ref.{MutBor}
use Rattle.kind.specs.BlockKinds.{LARGEST}
use Rattle.cell_bytes.specs.CellBytes.{CELL, cells_read}
use Rattle.refusal.specs.declared.Refusal.{Refusal}
use Rattle.packing.specs.Packing.{packed}
use Rattle.lent_cells.specs.BytesLeft.{written_back}

-- the call was made on the cells that were read, its answer was packed, and the cells that it left were written back
pub record CalledInPlace {F : Type 0} (g : Once F (MutBor (List ℤ) × Unit {0}) (Result (Unit {0}) Refusal × (MutBor (List ℤ) × Unit {0}))) (call : F) (before after : List ℕ) (answer : ℕ) : Type 0 where
  pub told : Result (Unit {0}) Refusal
  pub left : List ℤ
  pub called : FnOnceReturnsAtMut g call (cells_read (CELL * LARGEST) before) told left
  pub many : length left ≡ length (cells_read (CELL * LARGEST) before)
  pub says : answer ≡ packed told
  pub leaves : after ≡ written_back answer left before
