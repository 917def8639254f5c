-- `put_numbers` is right because cell j takes number j, and the numbers from j on are still to be put.
use mathlib.Core.Path.{◌≡◌, refl, sym, ◌∙◌, ap}
use mathlib.Core.List.{List}
use Prim.Native.Nat.{ℕ, ◌+◌, ◌*◌, ◌≤◌, ◌<◌}
use native.Mathlib.Omega.{arith}
use lib.IntN.{pos}
use lib.ListN.{length, get_or, length-map, get_or-map}
use Rattle.ints.specs.Cells.{cell}
use Rattle.ints.specs.Written.{Put}
use Rattle.little_endian.specs.Spelling.{spelled_signed, spelled_signeds}
use Rattle.little_endian.proofs.Numbers.{numbers_begun, numbers_room, numbers_next, numbers_over, one_spelled}
use Rattle.cell_bytes.specs.CellBytes.{CELL}
use Rattle.table_bytes.specs.TableLeft.{as_cells}
use Rattle.table_bytes.proofs.put_numbers.Invariants.{Going}
use Rattle.table_bytes.proofs.put_numbers.Goals as goal

module _ (numbers : List ℕ) where
  many : length (as_cells numbers) ≡ length numbers
  unfolding as_cells
  many = length-map numbers (λ n. pos n)

  is_cell : (j : ℕ) → pos (get_or numbers j 0) ≡ cell (as_cells numbers) j
  unfolding as_cells
  is_cell j = sym (get_or-map (λ n. pos n) numbers j 0)

  module _ {before now : List ℕ} {j at : ℕ} (g : Going numbers before j now at) where
    room : j < length numbers → at + CELL ≤ length now
    room h = omega (arith, numbers_room g 1 (omega (arith, many)))

    -- number j was put, and the next one goes where it ends
    next : {after : List ℕ} {end to : ℕ} → j < length numbers → Put (spelled_signed CELL (pos (get_or numbers j 0))) now at after end → to ≡ end → Going numbers before (j + 1) after to
    next h p e = rw e (numbers_next g 1 (omega (arith, many)) p (ap (spelled_signed CELL) (is_cell j) ∙ one_spelled CELL (as_cells numbers) j (omega (arith, many))) refl)

    all : length numbers ≤ j → length before ≡ CELL * length numbers → now ≡ spelled_signeds CELL (as_cells numbers)
    all h e = numbers_over g (omega (arith, many)) refl (omega (arith, many))

pub loop-number-init : goal.loop-number-init
loop-number-init c = numbers_begun (omega (arith, many c.args.numbers.now)) refl refl

pub put_number-at-requires : goal.put_number-at-requires
put_number-at-requires c = room _ c.loop-number.invariant (omega arith)

pub loop-number-preserved : goal.loop-number-preserved
loop-number-preserved c = next _ c.loop-number.invariant (omega arith) c.put_number-at.ensures (omega arith)

pub returns : goal.returns
returns c = all _ c.loop-number.invariant (omega arith) (omega arith)
