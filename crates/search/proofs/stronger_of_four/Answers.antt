-- `stronger_of_four` is right because a peak that reaches the largest of four powers reaches each; otherwise it looks at each in turn.
use borrow.Author.Rules.{rules, sfits_of}
use mathlib.Core.Path.{◌≡◌, sym, ◌∙◌}
use mir.Facts.{to_z-of_z}
use mir.Syntax.{w64}
use mir.Val.{to_z, of_z}
use Rattle.search.proofs.Band.{four_kept}
use Rattle.search.proofs.Powers.{reached}
use Rattle.search.proofs.stronger_of_four.Goals as goal

pub returns-then-reaches : goal.returns-then-reaches
returns-then-reaches c = let f = c.ranges in
    let m = c.larger in let n = c.larger-2 in let top = c.larger-3 in
    let bm : to_z w64 (of_z w64 m.result) ≡ m.result = to_z-of_z {w = w64} (sfits_of m.type_inv) in
    let bn : to_z w64 (of_z w64 n.result) ≡ n.result = to_z-of_z {w = w64} (sfits_of n.type_inv) in
    let bt : to_z w64 (of_z w64 top.result) ≡ top.result = to_z-of_z {w = w64} (sfits_of top.type_inv) in
    let bp : to_z w64 (of_z w64 c.args.peak.power) ≡ c.args.peak.power = search rules in
    four_kept _ _ (rw (to_z-of_z f.a) at m.ensures.0) (rw (to_z-of_z f.b) at m.ensures.1) (rw (to_z-of_z f.c) at n.ensures.0) (rw (to_z-of_z f.d) at n.ensures.1)
    (rw bm at top.ensures.0) (rw bn at top.ensures.1) (reached (sym (simp (bp, bt) at c.reaches.ensures) ∙ c.if-reaches.true))
