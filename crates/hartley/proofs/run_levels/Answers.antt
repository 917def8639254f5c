-- `run_levels` is right because the coarse table serves up to 2^6 cells, and is taken for those alone.
use native.Mathlib.Omega.{arith}
use Rattle.hartley.proofs.Tables.{coarse_table, table-serves}
use Rattle.hartley.proofs.run_levels.Goals as goal

pub run_by_table-requires : goal.run_by_table-requires
run_by_table-requires c = (c.requires, table-serves _ 4 _ (omega arith) (omega arith) (coarse_table _ c.coarse_table.ensures))
