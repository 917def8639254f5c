-- `cosine` is right because the definition's half turn is read at the same steps from the nearest whole turn, and 32 bits, negated, fit in 63.
use mathlib.Core.Path.{◌≡◌, ◌∙◌}
use Prim.Native.Nat.{ℕ, ◌-◌, ◌<◌, ◌^◌}
use native.Mathlib.Omega.{arith}
use borrow.Author.Rules.{sfits_of}
use lib.IntN.{ℤ, pos, neg_ℤ, ◌-ℤ◌}
use lib.ListN.{get_or}
use mir.Facts.{to_z-of_z}
use mir.Syntax.{w64}
use mir.Val.{to_z, of_z}
use Rattle.ints.proofs.Fit.{reads_minus, reads_natural}
use Rattle.cosine.proofs.Turn.{cosine_near, cosine_far}
use Rattle.quarter.proofs.cosine.Goals as goal

negated : (x : ℤ) (n : ℕ) → x ≡ pos n → n < 2 ^ 32 → to_z w64 (of_z w64 (pos 0 -ℤ to_z w64 (of_z w64 x))) ≡ neg_ℤ (pos n)
negated x n e h = let small : n < 2 ^ 63 = omega arith in rw (e, reads_natural _ small) (reads_minus _ small)

pub returns-then-k-le256 : goal.returns-then-k-le256
returns-then-k-le256 c = to_z-of_z {w = w64} (sfits_of c.from.type_inv) ∙ c.from.ensures ∙ cosine_near _ _ _ _ c.steps_away-k.ensures c.if-k-le256.true (omega arith)

pub returns-else-k-le256 : goal.returns-else-k-le256
returns-else-k-le256 c =
    negated _ (get_or c.args.quarter.now (512 - c.steps_away-k.result) 0) c.from-else-k-le256.ensures (c.fits-quarter _)
    ∙ cosine_far _ _ _ _ c.steps_away-k.ensures c.if-k-le256.false (omega arith)
