-- `loud` is right because it makes the definition's two comparisons, the second where the first does not hold.
use mathlib.Core.Path.{◌≡◌, refl, sym, ◌∙◌}
use mathlib.Core.Bool.{true}
use lib.IntN.{ℤ}
use lib.Signed.{lt_z}
use mir.Facts.{to_z-of_z}
use mir.Syntax.{w64}
use mir.Val.{to_z, of_z}
use Rattle.ints.proofs.Comparisons.{Less, AtMost, comparisons, less_test, not_less_test}
use Rattle.block.specs.Tests.{loud}
use Rattle.block.proofs.loud.Goals as goal

module _ (low high x : ℤ) where
  too-low : Less x low → loud low high x ≡ true
  too-low h = rw (less_test x low h) refl

  not_low : AtMost low x → loud low high x ≡ lt_z high x
  not_low h = rw (not_less_test x low h) refl

pub returns-then-x-low : goal.returns-then-x-low
returns-then-x-low c = let bl : to_z w64 (of_z w64 c.args.low) ≡ c.args.low = to_z-of_z c.ranges.low in
    let bx : to_z w64 (of_z w64 c.args.x) ≡ c.args.x = to_z-of_z c.ranges.x in
    let t = simp (bl, bx) at c.if-x-low.true in c.if-x-low.true ∙ sym (too-low c.args.low c.args.high c.args.x (omega comparisons))

pub returns-else-x-low : goal.returns-else-x-low
returns-else-x-low c = let bl : to_z w64 (of_z w64 c.args.low) ≡ c.args.low = to_z-of_z c.ranges.low in
    let bx : to_z w64 (of_z w64 c.args.x) ≡ c.args.x = to_z-of_z c.ranges.x in
    let u = simp (bl, bx) at c.if-x-low.false in rw (to_z-of_z c.ranges.high, bx) (sym (not_low c.args.low c.args.high c.args.x (omega comparisons)))
