-- `of_len` is right because it meets the lengths 2^1, 2^2, .. in turn up to the largest, and stops at the one that is asked for.
use mathlib.Core.Path.{sym}
use native.Mathlib.Omega.{arith}
use lib.Pow.{pow_mono}
use Rattle.kind.proofs.Lengths.{kind-given, kind_none, both_ways}
use Rattle.kind.proofs.BlockKind.of_len.Goals as goal

pub returns-then-len-p : goal.returns-then-len-p
returns-then-len-p c = both_ways _ (sym (kind-given _ c.loop-p.p (record { least = omega arith; most = omega arith; cells = omega (arith, pow_mono {i = c.loop-p.p} {j = 10} (omega arith)) })))

pub returns : goal.returns
returns c = both_ways _ (sym (kind_none _ (λ P k. c.loop-p.invariant P k.least (omega (arith, k.most)) (sym k.cells))))
