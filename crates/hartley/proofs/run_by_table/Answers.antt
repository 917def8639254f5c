-- `run_by_table` is right because the table serves at the scale in force.
use Rattle.hartley.proofs.Tables.{levels-ready}
use Rattle.hartley.proofs.run_by_table.Goals as goal

pub join_levels-requires : goal.join_levels-requires
join_levels-requires c = levels-ready _ c.by.ensures c.requires.0 c.requires.1
