-- `table` is right because the lent bytes are the table's cells, or else are left alone.
use mathlib.Core.Path.{◌≡◌, refl, sym, ◌∙◌, ap}
use mathlib.Core.Bool.{cond}
use mathlib.Core.List.{List}
use Prim.Native.Nat.{ℕ, ◌*◌}
use native.Mathlib.Omega.{arith}
use borrow.Author.Tests.{eq-eqb, ne_eqb}
use lib.Dec.{eqb}
use lib.ListN.{length}
use Rattle.std.specs.Prelude.{Result, Ok, Err}
use Rattle.ints.specs.Tabulate.{tabulate}
use Rattle.kind.specs.BlockKinds.{SCALE_DIGITS}
use Rattle.cosine.specs.Cosine.{quarter_table}
use Rattle.refusal.specs.declared.Refusal.{Refusal}
use Rattle.refusal.specs.declared.Refusal.TheVariants.{Misfit}
use Rattle.little_endian.specs.Spelling.{spelled_signeds}
use Rattle.cell_bytes.specs.CellBytes.{CELL, fit_count}
use Rattle.cell_bytes.proofs.CellsRead.{fit_count_lem, fit_room}
use Rattle.table_bytes.specs.TableLeft.{as_cells, table_answer, table_left}
use Rattle.table_bytes.proofs.table.Goals as goal

abbrev Right : List ℕ → List ℕ → Result (Unit {0}) Refusal → Type 0
Right lent left answer = (answer ≡ table_answer lent) × (left ≡ table_left (table_answer lent) lent)

-- n is the number of cells that the lent bytes are read as, where those of the table are wanted: all of them, or none
module _ (lent : List ℕ) (wanted n : ℕ) (is : wanted ≡ 257) (e : n ≡ fit_count wanted (length lent)) where
  told : table_answer lent ≡ cond (eqb n 257) (Ok tt) (Err Misfit)
  unfolding table_answer
  told = rw (e, is, fit_count_lem 257 (omega arith) lent) refl

  refused : (n ≡ 257 → ⊥) → Right lent lent (Err Misfit)
  refused h = let k : table_answer lent ≡ Err Misfit = told ∙ rw (ne_eqb n 257 h) refl in (sym k, rw k refl)

  room : n ≡ 257 → length lent ≡ CELL * 257
  room h = fit_room 257 (omega arith) (length lent) (rw (← is) (sym e ∙ h ∙ sym is))

  filled : n ≡ 257 → (table left : List ℕ) → table ≡ tabulate 257 (quarter_table SCALE_DIGITS) → left ≡ spelled_signeds CELL (as_cells table) → Right lent left (Ok tt)
  filled h table left t l = let k : table_answer lent ≡ Ok tt = told ∙ rw (eq-eqb n 257 h) refl in (sym k, rw k (l ∙ ap (λ (ns : List ℕ). spelled_signeds CELL (as_cells ns)) t))

pub returns-then-fit_count-ne-TABLE_CELLS : goal.returns-then-fit_count-ne-TABLE_CELLS
returns-then-fit_count-ne-TABLE_CELLS c = let r = refused _ _ _ (omega arith) c.fit_count.ensures.0 c.if-fit_count-ne-TABLE_CELLS.true in record { answer = r.0; bytes = r.1 }

pub put_numbers-requires : goal.put_numbers-requires
put_numbers-requires c = omega (arith, room c.args.bytes.now _ _ (omega arith) c.fit_count.ensures.0 c.if-fit_count-ne-TABLE_CELLS.false)

pub returns : goal.returns
returns c = let r = filled _ _ _ (omega arith) c.fit_count.ensures.0 c.if-fit_count-ne-TABLE_CELLS.false _ _ c.quarter_table.ensures c.put_numbers.ensures in record { answer = r.0; bytes = r.1 }
