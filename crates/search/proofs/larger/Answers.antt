-- `larger` is right because it compares the two.
use mathlib.Core.Path.{sym, ◌∙◌}
use lib.Signed.{≤ℤ_refl}
use mir.Facts.{to_z-of_z}
use Rattle.search.proofs.Powers.{less_at_most, reached, unreached}
use Rattle.search.proofs.larger.Goals as goal

pub returns-then-reaches : goal.returns-then-reaches
returns-then-reaches c = let f = c.ranges in let e = simp (to_z-of_z f.a, to_z-of_z f.b) at c.reaches.ensures in
    rw (to_z-of_z f.a) (≤ℤ_refl _, reached (sym e ∙ c.if-reaches.true))

pub returns-else-reaches : goal.returns-else-reaches
returns-else-reaches c = let f = c.ranges in let e = simp (to_z-of_z f.a, to_z-of_z f.b) at c.reaches.ensures in
    rw (to_z-of_z f.b) (less_at_most (unreached (sym e ∙ c.if-reaches.false)), ≤ℤ_refl _)
