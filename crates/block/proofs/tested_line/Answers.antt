-- `tested_line` is right because it asks for the spectrum's tests first, and then compares the line with N/2.
use Rattle.std.proofs.Common.{rules}
use Rattle.block.proofs.InNumbers.{line_both_ways}
use Rattle.block.proofs.tested_line.Goals as goal

pub returns-in_err-kind : goal.returns-in_err-kind
returns-in_err-kind c = line_both_ways c.args.line c.args.cells.now (search rules)

pub returns-then-cells-line : goal.returns-then-cells-line
returns-then-cells-line c = line_both_ways c.args.line c.args.cells.now (search rules)

pub returns : goal.returns
returns c = line_both_ways c.args.line c.args.cells.now (search rules)
