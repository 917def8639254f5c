-- `smooth_cells` is right because it reads all cells that the bytes spell, and `smooth_short` does the rest.
use mathlib.Core.Path.{◌∙◌, ap}
use native.Mathlib.Omega.{arith}
use lib.IntN.{pos}
use lib.ListN.{length-replicate}
use Rattle.packing.specs.Packing.{packed}
use Rattle.smooth_bytes.proofs.Read.{whole_answered}
use Rattle.smooth_bytes.proofs.smooth_cells.Goals as goal

pub returns : goal.returns
returns g c = whole_answered g.row.N (omega (arith, c.requires.short.0)) c.requires.whole.0 c.requires.whole.1 _ _ (length-replicate g.row.N (pos 0)) (length-replicate g.row.N (pos 0)) c.decode.ensures c.decode-2.ensures
    (c.packed-answer.ensures ∙ ap packed c.smooth_short.ensures.answer) _ _ c.smooth_short.ensures.sums (c.smooth_short.auto.sums ∙ length-replicate g.row.N (pos 0)) c.write_back.ensures
