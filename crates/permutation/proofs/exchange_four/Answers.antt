-- `exchange_four` is right because its exchanges are those of the definition, in their order.
use borrow.Author.Tests.{lt-ltb, le-ltb}
use mathlib.Core.Path.{◌∙◌, ap}
use Prim.Native.Nat.{◌+◌, ◌*◌}
use native.Mathlib.Omega.{arith}
use Rattle.permutation.specs.Inner.{exchanged}
use Rattle.permutation.proofs.exchange_four.Goals as goal

pub returns-then-u-r : goal.returns-then-u-r
returns-then-u-r c = let a = c.args in
    rw (lt-ltb a.u a.r (omega (arith, c.if-u-r.true)))
    (c.exchange-then-u-r-2.ensures ∙ ap (exchanged (a.half + (2 * a.u + 1)) (a.half + (2 * a.r + 1))) (c.exchange-then-u-r.ensures ∙ ap (exchanged (2 * a.u) (2 * a.r)) c.exchange.ensures))

pub returns-else-u-r : goal.returns-else-u-r
returns-else-u-r c = let a = c.args in rw (le-ltb a.u a.r (omega (arith, c.if-u-r.false))) c.exchange.ensures
