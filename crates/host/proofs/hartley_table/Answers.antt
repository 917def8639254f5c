-- `hartley_table` is right because it packs what `table` answers, and 2 at place 0 has room.
use mathlib.Core.Path.{◌≡◌, refl, ◌∙◌, ap}
use mathlib.Core.Bool.{Bool, true, false, cond}
use mathlib.Core.List.{List, [], ◌∷◌}
use Prim.Native.Nat.{ℕ}
use lib.Dec.{eqb}
use lib.ListN.{length}
use Rattle.std.specs.Prelude.{Result, Ok, Err}
use Rattle.refusal.specs.declared.Refusal.{Refusal}
use Rattle.refusal.specs.declared.Refusal.TheVariants.{Misfit}
use Rattle.cell_bytes.specs.CellBytes.{cells_in}
use Rattle.packing.specs.Packing.{packed, packed_refusal, unpacked_block}
use Rattle.table_bytes.specs.TableLeft.{table_answer, table_numbers}
use Rattle.host.proofs.hartley_table.Goals as goal

table_told : (lent : List ℕ) (r : ℕ) → r ≡ packed (table_answer lent) → unpacked_block r ≡ table_numbers (length (cells_in lent))
unfolding table_answer table_numbers unpacked_block packed_refusal
table_told lent r e = rw e (go (eqb (length (cells_in lent)) 257))
  where
    go : (t : Bool) → unpacked_block (packed (cond {A = Result (Unit {0}) Refusal} t (Ok tt) (Err Misfit))) ≡ cond t [] (2 ∷ 0 ∷ [])
    go true = refl
    go false = refl

pub returns : goal.returns
returns c = let a = c.table.ensures in let e = c.packed.ensures ∙ ap packed a.answer in record { answer = e; numbers = table_told _ _ e; bytes = a.bytes }
