-- `tested_band` is right because it makes the definition's checks in the definition's order.
use native.Mathlib.Omega.{arith}
use Rattle.search.proofs.Checks.{band_length, band-taken, high-beyond, low_beyond, some-power, turned_round}
use Rattle.search.proofs.tested_band.Goals as goal

pub returns-then-wrong_length : goal.returns-then-wrong_length
returns-then-wrong_length c = band_length _ _ _ cc

pub overflow_sub-last : goal.overflow_sub-last
overflow_sub-last c = some-power _ cc

pub returns-then-last-from : goal.returns-then-last-from
returns-then-last-from c = low_beyond _ _ _ (cc) (omega arith)

pub returns-then-last-to : goal.returns-then-last-to
returns-then-last-to c = high-beyond _ _ _ (cc) (omega arith) (omega arith)

pub returns-then-to-from : goal.returns-then-to-from
returns-then-to-from c = turned_round _ _ _ (cc) (omega arith) (omega arith) (omega arith)

pub returns : goal.returns
returns c = band-taken _ _ _ (cc) (omega arith) (omega arith) (omega arith)
