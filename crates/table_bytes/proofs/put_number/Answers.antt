-- `put_number` is right because 32 bits fit in 63.
use borrow.Author.Rules.{rules}
use mir.Facts.{to_z-of_z}
use mir.Syntax.{w64}
use mir.Val.{SFits}
use Rattle.table_bytes.proofs.put_number.Goals as goal

pub returns : goal.returns
returns c =
    let fits : SFits w64 c.from.result = search rules in
    rw (← c.from.ensures, ← (to_z-of_z fits)) c.put_cell.ensures.0
