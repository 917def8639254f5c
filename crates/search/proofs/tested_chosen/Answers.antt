-- `tested_chosen` is right because it makes the definition's checks in the definition's order.
use native.Mathlib.Omega.{arith}
use Rattle.search.proofs.Checks.{chosen_beyond, chosen_length, chosen_taken, some-power}
use Rattle.search.proofs.tested_chosen.Goals as goal

pub returns-then-wrong_length : goal.returns-then-wrong_length
returns-then-wrong_length c = chosen_length _ _ cc

pub overflow_sub-cells : goal.overflow_sub-cells
overflow_sub-cells c = some-power _ cc

pub returns-then-cells-chosen : goal.returns-then-cells-chosen
returns-then-cells-chosen c = chosen_beyond _ _ (cc) (omega arith)

pub returns : goal.returns
returns c = chosen_taken _ _ (cc) (omega arith)
