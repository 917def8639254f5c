-- `look_through` is right because the strongest of the lines before `next` and of one line more, or four, is the strongest before or among these.
use mir.Syntax.{w64}
use borrow.Author.Rules.{sfits_of}
use mathlib.Core.Path.{◌≡◌, ◌∙◌}
use Prim.Native.Nat.{◌+◌, ◌-◌, ◌*◌, ◌%◌}
use native.Mathlib.Omega.{arith}
use mir.Facts.{to_z-of_z}
use Rattle.search.proofs.Band.{peak_four, peak_next, strongest_of}
use Rattle.search.proofs.look_through.Goals as goal

pub loop-next-preserved : goal.loop-next-preserved
loop-next-preserved g c = let p = c.cell-in-loop-next in
    rw c.stronger-peak.ensures (peak_next _ _ _ _ c.loop-next.peak (omega arith) (to_z-of_z {w = w64} (sfits_of p.type_inv) ∙ p.ensures) c.loop-next.invariant)

pub loop-k-preserved : goal.loop-k-preserved
loop-k-preserved g c =
    let p = c.cell-in-loop-k in let q = c.cell-in-loop-k-2 in let r = c.cell-in-loop-k-3 in let s = c.cell-in-loop-k-4 in
    rw c.stronger_of_four-peak.ensures (peak_four _ _ _ _ c.loop-k.peak (omega arith) (to_z-of_z {w = w64} (sfits_of p.type_inv) ∙ p.ensures)
    (to_z-of_z {w = w64} (sfits_of q.type_inv) ∙ q.ensures) (to_z-of_z {w = w64} (sfits_of r.type_inv) ∙ r.ensures) (to_z-of_z {w = w64} (sfits_of s.type_inv) ∙ s.ensures) c.loop-k.invariant)

pub returns : goal.returns
returns g c = strongest_of _ _ _ _ (omega arith) c.loop-k.invariant
