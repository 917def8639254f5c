-- `encode` is right because each round puts the eight bytes of one cell more after those of the cells before it.
use borrow.Author.Rules.{rules}
use mathlib.Core.Path.{◌≡◌, sym, ◌∙◌, ap}
use Prim.Native.Nat.{◌+◌, ◌*◌}
use native.Mathlib.Omega.{arith}
use Rattle.little_endian.specs.Spelling.{spelled_signed}
use Rattle.little_endian.proofs.Numbers.{numbers_next, numbers_over, one_spelled}
use Rattle.cell_bytes.proofs.CellsRead.{encoded_all, encoded_none}
use Rattle.cell_bytes.proofs.encode.Goals as goal

pub returns-then-bytes-cells : goal.returns-then-bytes-cells
returns-then-bytes-cells c = sym (encoded_none _ _ (λ e. omega arith))

pub loop-i-preserved : goal.loop-i-preserved
loop-i-preserved c = let end : c.put_cell.result ≡ 8 * (c.loop-i.i + 1) = omega arith in
    numbers_next c.loop-i.invariant 1 (omega arith) (rw end at c.put_cell.ensures.0) (ap (spelled_signed 8) (search rules) ∙ one_spelled 8 _ c.loop-i.i (omega arith)) (omega arith)

pub returns : goal.returns
returns c = let l = c.loop-i in numbers_over l.invariant (omega arith) (omega arith) (omega arith) ∙ sym (encoded_all _ _ (omega arith))
