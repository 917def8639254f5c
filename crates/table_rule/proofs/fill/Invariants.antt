use Rattle.ints.proofs.Filling.{Filled}
use Rattle.cosine.specs.Cosine.{quarter_table}
use Rattle.table_rule.proofs.fill.Given as goal

abbrev pub invariant-loop-j : goal.invariant-loop-j
invariant-loop-j l = Filled 0 (quarter_table l.s) l.j l.table
