-- `join_plain` is right because cell n + v is read before it is written.
use mathlib.Core.Path.{◌∙◌, ap}
use Prim.Native.Nat.{◌+◌, ◌≤◌}
use native.Mathlib.Omega.{arith}
use lib.IntN.{ℤ, nat_abs}
use mir.Syntax.{w64}
use mir.Val.{to_z, of_z}
use Rattle.ints.specs.Cells.{cell}
use Rattle.spectrum.specs.Limits.{LARGEST_PRODUCT, LARGEST_SUM}
use Rattle.pair.specs.Pair.{split}
use Rattle.pair.proofs.Splitting.{small-back}
use Rattle.pair.proofs.join_plain.Goals as goal

read_small : (z : ℤ) → nat_abs z ≤ LARGEST_PRODUCT → nat_abs (to_z w64 (of_z w64 z)) ≤ LARGEST_SUM
read_small z h = rw (small-back z (omega arith)) (omega arith)

pub put_both-requires : goal.put_both-requires
put_both-requires c = let a = c.args in (c.requires.0, c.requires.1, c.requires.2, read_small (cell a.cells.now (a.n + a.v)) c.requires.3)

pub returns : goal.returns
returns c = let a = c.args in c.put_both.ensures ∙ ap (split a.cells.now a.n a.v) (small-back (cell a.cells.now (a.n + a.v)) (omega (arith, c.requires.3)))
