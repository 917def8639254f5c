-- `look_outwards` is right because no line at a smaller distance reaches the level, and at each distance it looks below before it looks above.
use mathlib.Core.Path.{sym, refl}
use mathlib.Core.Bool.{true, false}
use native.Mathlib.Omega.{arith}
use mir.Facts.{to_z-of_z}
use Rattle.search.proofs.Outwards.{above-found, above_line, at_line, below-found, here_found, nearest-is, none_left}
use Rattle.search.proofs.look_outwards.Goals as goal

pub returns-then-reaches_at : goal.returns-then-reaches_at
returns-then-reaches_at g c =
    let reached = simp (to_z-of_z c.ranges.level) at c.reaches_at.ensures in
    sym (nearest-is _ _ _ _ (here_found _ _ _ c.requires (at_line _ true reached (omega arith) c.if-reaches_at.true)))

pub returns-then-reaches_at-2 : goal.returns-then-reaches_at-2
returns-then-reaches_at-2 g c =
    let none = simp (to_z-of_z c.ranges.level) at c.loop-far.invariant in
    let reached = simp (to_z-of_z c.ranges.level) at c.reaches_at-in-loop-far.ensures in
    sym (nearest-is _ _ _ _ (below-found _ _ _ _ none (omega arith) (omega arith) (at_line _ true reached (omega arith) c.if-reaches_at-2.true)))

pub returns-then-reaches_at-3 : goal.returns-then-reaches_at-3
returns-then-reaches_at-3 g c =
    let none = simp (to_z-of_z c.ranges.level) at c.loop-far.invariant in
    let unreached = simp (to_z-of_z c.ranges.level) at c.reaches_at-in-loop-far.ensures in
    let reached = simp (to_z-of_z c.ranges.level) at c.reaches_at-in-loop-far-2.ensures in
    sym (nearest-is _ _ _ _ (above-found _ _ _ _ none (λ h. at_line _ false unreached (omega arith) c.if-reaches_at-2.false) (omega arith) (at_line _ true reached (omega arith) c.if-reaches_at-3.true)))

-- below alone, and above alone
pub returns-then-reaches_at-4 : goal.returns-then-reaches_at-4
returns-then-reaches_at-4 g c =
    let none = simp (to_z-of_z c.ranges.level) at c.loop-far-2.invariant in
    let reached = simp (to_z-of_z c.ranges.level) at c.reaches_at-in-loop-far-2-2.ensures in
    sym (nearest-is _ _ _ _ (below-found _ _ _ _ none (omega arith) (omega arith) (at_line _ true reached (omega arith) c.if-reaches_at-4.true)))

pub returns-then-reaches_at-5 : goal.returns-then-reaches_at-5
returns-then-reaches_at-5 g c =
    let none = simp (to_z-of_z c.ranges.level) at c.loop-far-3.invariant in
    let reached = simp (to_z-of_z c.ranges.level) at c.reaches_at-in-loop-far-3.ensures in
    sym (nearest-is _ _ _ _ (above_line _ _ _ _ none _ (omega arith) (omega arith) (omega arith) (at_line _ true reached refl c.if-reaches_at-5.true)))

pub returns : goal.returns
returns g c = let none = simp (to_z-of_z c.ranges.level) at c.loop-far-3.invariant in sym (none_left _ _ _ _ none (omega arith) (omega arith))
