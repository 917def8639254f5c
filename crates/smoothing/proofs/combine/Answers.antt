-- `combine` is right because each round reads two lines that no round before has written, and leaves in each what both make.
use native.Mathlib.Omega.{arith}
use Rattle.smoothing.proofs.Combining.{Combining, lines_ready, first_facing, first-combined, next_facing, next_combined, all_combined}
use Rattle.smoothing.proofs.combine.Goals as goal

pub combine_lines-requires : goal.combine_lines-requires
combine_lines-requires c = lines_ready c.requires (first_facing c.requires)

pub loop-v-init : goal.loop-v-init
loop-v-init c = λ hs S e. rw e (first-combined S)

pub combine_lines-requires-in-loop-v : goal.combine_lines-requires-in-loop-v
combine_lines-requires-in-loop-v c =
    let S = c.requires in let C : Combining c.args.cells.now c.args.spectrum.now c.loop-v.v c.loop-v.cells = c.loop-v.invariant c.args.cells.now S c.combine_lines.ensures in
    lines_ready S (next_facing S C c.loop-v.auto.v (omega (arith, c.loop-v-test.true, C.long, S.long)))

pub loop-v-preserved : goal.loop-v-preserved
loop-v-preserved c = λ hs S e. let C = c.loop-v.invariant hs S e in
    rw c.combine_lines-in-loop-v.ensures (next_combined S C c.loop-v.auto.v (omega (arith, c.loop-v-test.true, C.long, S.long)))

pub returns : goal.returns
returns c =
    let S = c.requires in let C : Combining c.args.cells.now c.args.spectrum.now c.loop-v.v c.loop-v.cells = c.loop-v.invariant c.args.cells.now S c.combine_lines.ensures in
    all_combined S C (omega (arith, c.loop-v-test.false, C.long, S.long))
