-- `transform_eight` is right because two exchanges permute eight cells (`eight_permuted`), and the levels follow.
use mathlib.Core.Path.{◌≡◌, ◌∙◌, ap}
use native.Mathlib.Omega.{arith}
use Rattle.spectrum.specs.Levels.{permuted}
use Rattle.permutation.specs.Inner.{exchanged}
use Rattle.permutation.proofs.Exchanging.{eight_permuted}
use Rattle.hartley.proofs.Steps.{steps, levels_can_run}
use Rattle.hartley.proofs.transform_eight.Goals as goal

pub run_levels-requires : goal.run_levels-requires
run_levels-requires c =
    let moved : c.exchange-2.new.cells ≡ permuted 3 c.args.cells.now = c.exchange-2.ensures ∙ ap (exchanged 3 6) c.exchange.ensures ∙ eight_permuted c.args.cells.now c.requires.long in
    levels_can_run c.requires moved (omega arith)

pub returns : goal.returns
returns c =
    let moved : c.exchange-2.new.cells ≡ permuted 3 c.args.cells.now = c.exchange-2.ensures ∙ ap (exchanged 3 6) c.exchange.ensures ∙ eight_permuted c.args.cells.now c.requires.long in
    c.run_levels.ensures ∙ steps 3 c.args.cells.now _ moved
