-- `quarter_table` is right by one test that is computed over the whole table: each of its 257 numbers is the rule's.
use lib.Dec.{eqb, eqb→eq}
use Rattle.ints.specs.Tabulate.{tabulate}
use Rattle.ints.proofs.Tables.{same, same_list}
use Rattle.cosine.specs.Cosine.{quarter_table}
use Rattle.quarter.proofs.quarter_table.Goals as goal

pub returns : goal.returns
unfolding same tabulate quarter_table
returns c = same_list eqb eqb→eq _ (tabulate 257 (quarter_table 15)) tt
