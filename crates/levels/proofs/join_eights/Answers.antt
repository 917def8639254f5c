-- `join_eights` is right because each round does levels 1 to 3 of one more eight, from the front on, and leaves all others as they are.
use mathlib.Core.Path.{◌≡◌, refl}
use Prim.Native.Nat.{ℕ, ◌+◌, ◌*◌, ◌≤◌}
use native.Mathlib.Omega.{arith}
use lib.ListN.{length}
use Rattle.levels.proofs.PartByPart.{part_inside, parts_all}
use Rattle.levels.proofs.TwoBlocks.{no_block_done, next_long, next_ready, block_done, blocks_done}
use Rattle.levels.proofs.join_eights.Goals as goal

one_more : (m : ℕ) → (m + 1) * 8 ≡ m * 8 + 8
one_more m = omega arith

pub loop-eight-init : goal.loop-eight-init
loop-eight-init c = no_block_done c.args.scale.digits 3 c.args.cells.now

pub join_eight-requires : goal.join_eight-requires
join_eight-requires c =
    let inside : c.loop-eight.eight * 8 + 8 ≤ length c.args.cells.now = part_inside 8 c.loop-eight.eight (length c.args.cells.now) c.loop-eight-test.true in
    let l = c.loop-eight in let d = c.args.scale.digits in
    (next_long d 3 l.invariant (l.eight * 8 + 8) refl inside, next_ready d 3 l.invariant (l.eight * 8 + 8) refl inside c.requires (omega arith))

pub loop-eight-preserved : goal.loop-eight-preserved
loop-eight-preserved c =
    let inside : c.loop-eight.eight * 8 + 8 ≤ length c.args.cells.now = part_inside 8 c.loop-eight.eight (length c.args.cells.now) c.loop-eight-test.true in
    let l = c.loop-eight in rw (one_more l.eight) (block_done c.args.scale.digits 3 l.invariant (l.eight * 8 + 8) refl inside _ c.join_eight.ensures)

pub returns : goal.returns
returns c = let l = c.loop-eight in blocks_done c.args.scale.digits 3 l.invariant (parts_all 8 l.eight (length c.args.cells.now) c.requires.whole c.loop-eight-test.false)
