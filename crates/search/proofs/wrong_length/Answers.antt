-- `wrong_length` is right because a list of powers has between one cell and as many as a block, and then `of_len` decides.
use mathlib.Core.Path.{sym}
use native.Mathlib.Omega.{arith}
use Rattle.search.proofs.Checks.{no_power, none_is, too_many}
use Rattle.search.proofs.wrong_length.Goals as goal

pub returns-then-cells-eq0 : goal.returns-then-cells-eq0
returns-then-cells-eq0 c = sym (no_power _ c.if-cells-eq0.true)

pub returns-then-cells-gt-LARGEST : goal.returns-then-cells-gt-LARGEST
returns-then-cells-gt-LARGEST c = sym (too_many _ c.if-cells-gt-LARGEST.true)

pub returns : goal.returns
returns c = none_is _ c.of_len.ensures.answer (omega arith) c.is_none.ensures
