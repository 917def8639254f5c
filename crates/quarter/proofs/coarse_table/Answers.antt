-- `coarse_table` is right by one computed test, as the whole table is.
use Prim.Native.Nat.{◌*◌}
use lib.Dec.{eqb, eqb→eq}
use Rattle.ints.specs.Tabulate.{tabulate}
use Rattle.ints.proofs.Tables.{same, same_list}
use Rattle.cosine.specs.Cosine.{quarter_table}
use Rattle.quarter.proofs.coarse_table.Goals as goal

pub returns : goal.returns
unfolding same tabulate quarter_table
returns c = same_list eqb eqb→eq _ (tabulate 17 (λ j. quarter_table 15 (j * 16))) tt
