-- `put_each` is right because each turn puts the record of one block, and those from cell `from` on are still to be put.
use Rattle.std.proofs.Common.{refl, arith}
use Rattle.saving.proofs.Blocks.{blocks_begun, block_inside, block_room, part-next, blocks_all}
use Rattle.saving.proofs.put_each.Goals as goal

pub loop-from-init : goal.loop-from-init
loop-from-init g c = blocks_begun c.requires.whole (omega arith) (omega arith)

pub put_block-at-requires : goal.put_block-at-requires
put_block-at-requires g c = let l = c.loop-from in let inside = block_inside c.requires.whole c.requires.room l.invariant (omega arith) in
    record {
      block = (c.requires.whole.narrow, omega arith, omega (arith, inside));
      room = omega (arith, block_room c.requires.whole c.requires.room l.invariant (omega arith));
    }

pub loop-from-preserved : goal.loop-from-preserved
loop-from-preserved g c = let l = c.loop-from in part-next c.requires.whole c.requires.room l.invariant (omega arith) _ _ (omega arith) (omega arith) c.put_block-at.ensures (omega arith)

-- after the last block, and where there is none
pub returns-2 : goal.returns-2
returns-2 g c = let l = c.loop-from in
    blocks_all c.requires.whole (part-next c.requires.whole c.requires.room l.invariant (omega arith) _ _ (omega arith) (omega arith) c.put_block-at.ensures refl) (omega arith)

pub returns : goal.returns
returns g c = blocks_all c.requires.whole c.loop-from.invariant (omega arith)
