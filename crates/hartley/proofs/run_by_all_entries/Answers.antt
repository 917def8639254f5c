-- `run_by_all_entries` is right because the table has every entry that a block needs.
use native.Mathlib.Omega.{arith}
use Rattle.hartley.proofs.Tables.{table-serves, whole-table}
use Rattle.hartley.proofs.run_by_all_entries.Goals as goal

pub run_by_table-requires : goal.run_by_table-requires
run_by_table-requires c = (c.requires, table-serves _ 8 _ (omega arith) (omega (arith, c.requires.most)) (whole-table _ c.quarter_table.ensures))
