-- `restore` is right because each round restores a cell that no round before has written.
use borrow.Author.Rules.{sfits_of}
use mathlib.Core.Path.{◌≡◌, ◌∙◌}
use Prim.Native.Nat.{◌*◌}
use native.Mathlib.Omega.{arith}
use mir.Facts.{to_z-of_z}
use mir.Syntax.{w64}
use mir.Val.{to_z, of_z}
use Rattle.ints.specs.Cells.{cell}
use Rattle.ints.proofs.Fit.{reads_back}
use Rattle.exact_pair.specs.Pair.{FIRST}
use Rattle.smoothing.specs.Inner.{LineRoom}
use Rattle.smoothing.proofs.Restoring.{none_restored, next_restored, all_restored}
use Rattle.smoothing.proofs.restore.Goals as goal

pub loop-z-init : goal.loop-z-init
loop-z-init c = none_restored c.args.p c.args.cells.now

pub restored-requires : goal.restored-requires
restored-requires c =
    let room : let l = c.loop-z in LineRoom (cell l.cells l.z-index) = let l = c.loop-z in rw (l.invariant.left l.z-index (omega arith)) (c.requires.2 l.z-index) in
    let back : let l = c.loop-z in to_z w64 (of_z w64 (cell l.cells l.z-index)) ≡ cell l.cells l.z-index = let l = c.loop-z in reads_back (cell l.cells l.z-index) (2 * (1024 * FIRST)) (omega arith) room in
    (c.requires.0, c.requires.1, rw back room)

pub loop-z-preserved : goal.loop-z-preserved
loop-z-preserved c =
    let room : let l = c.loop-z in LineRoom (cell l.cells l.z-index) = let l = c.loop-z in rw (l.invariant.left l.z-index (omega arith)) (c.requires.2 l.z-index) in
    let back : let l = c.loop-z in to_z w64 (of_z w64 (cell l.cells l.z-index)) ≡ cell l.cells l.z-index = let l = c.loop-z in reads_back (cell l.cells l.z-index) (2 * (1024 * FIRST)) (omega arith) room in
    next_restored c.loop-z.invariant (omega arith) _ (to_z-of_z {w = w64} (sfits_of c.restored.type_inv) ∙ (rw back at c.restored.ensures))

pub returns : goal.returns
returns c = all_restored c.loop-z.invariant (omega arith)
