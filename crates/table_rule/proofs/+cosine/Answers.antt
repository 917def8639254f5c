-- `quarter_cosine` and `turn_cosine` are right, each by the other, because the doublings left fall: with d left the quarter's cosine calls the whole turn's
-- with d - 1, and the whole turn's calls the quarter's with d.
use mathlib.Core.Path.{◌≡◌, ◌∙◌, ap}
use Prim.Native.Nat.{ℕ, ◌<◌, ◌^◌}
use native.Mathlib.Nat.{pos_of_ne-zero}
use native.Mathlib.Omega.{arith}
use lib.IntN.{ℤ, pos, neg_ℤ, ◌-ℤ◌}
use mir.Syntax.{w64}
use mir.Val.{SFits, to_z, of_z}
use Rattle.ints.proofs.Fit.{fits, reads_back, reads_natural, reads_minus, minus_fits}
use Rattle.cosine.specs.Cosine.{cosine, fine_with, half_angle}
use Rattle.cosine.proofs.Turn.{cosine_near, cosine_far}
use Rattle.table_rule.proofs.Rule.{top, beyond, spent, inside, fine_le, turn_le}
use Rattle.table_rule.proofs.+cosine.Goals as goal

-- ---- the quarter's cosine

-- the whole turn's cosine as the machine has it
read_back : (r : ℤ) (d step : ℕ) → r ≡ cosine (fine_with 60 d) step → to_z w64 (of_z w64 r) ≡ cosine (fine_with 60 d) step
read_back r d step e = rw e (reads_back _ (2 ^ 60) (omega arith) (turn_le 60 (omega arith) d step))

pub quarter_cosine-returns-then-j-eq0 : goal.quarter_cosine-returns-then-j-eq0
quarter_cosine-returns-then-j-eq0 t c = top 60 _ _ c.if-j-eq0.true

pub quarter_cosine-returns-then-j-ge256 : goal.quarter_cosine-returns-then-j-ge256
quarter_cosine-returns-then-j-ge256 t c = beyond 60 _ _ c.if-j-ge256.true

pub quarter_cosine-returns-then-doublings-eq0 : goal.quarter_cosine-returns-then-doublings-eq0
quarter_cosine-returns-then-doublings-eq0 t c = spent 60 _ _ (pos_of_ne-zero c.if-j-eq0.false) c.if-doublings-eq0.true

pub quarter_cosine-half_angle-requires : goal.quarter_cosine-half_angle-requires
quarter_cosine-half_angle-requires t c = rw (read_back _ _ _ c.turn_cosine.ensures) (turn_le 60 (omega arith) _ _)

pub quarter_cosine-returns : goal.quarter_cosine-returns
quarter_cosine-returns t c = c.half_angle.ensures ∙ ap (half_angle 60) (read_back _ _ _ c.turn_cosine.ensures)
    ∙ inside 60 _ _ _ _ (pos_of_ne-zero c.if-j-eq0.false) c.if-j-ge256.false (omega (arith, pos_of_ne-zero c.if-doublings-eq0.false)) (omega arith)

-- ---- the whole turn's cosine

-- what the quarter's cosine is read as, and minus it
small : (x d j : ℕ) → x ≡ fine_with 60 d j → x < 2 ^ 63
small x d j e = omega (arith, e, fine_le 60 (omega arith) d j)

negated : (x : ℕ) → x < 2 ^ 63 → to_z w64 (of_z w64 (pos 0 -ℤ to_z w64 x)) ≡ neg_ℤ (pos x)
negated x h = rw (reads_natural x h) (reads_minus x h)

negated_fits : (x : ℕ) → x < 2 ^ 63 → SFits w64 (pos 0 -ℤ to_z w64 x)
negated_fits x h = rw (reads_natural x h) (minus_fits x h)

pub turn_cosine-overflow_cast-result : goal.turn_cosine-overflow_cast-result
turn_cosine-overflow_cast-result t c = fits _ (small _ _ _ c.quarter_cosine.ensures)

pub turn_cosine-overflow_cast-result-else-k-le256 : goal.turn_cosine-overflow_cast-result-else-k-le256
turn_cosine-overflow_cast-result-else-k-le256 t c = fits _ (small _ _ _ c.quarter_cosine-else-k-le256.ensures)

pub turn_cosine-overflow_sub-result : goal.turn_cosine-overflow_sub-result
turn_cosine-overflow_sub-result t c = negated_fits _ (small _ _ _ c.quarter_cosine-else-k-le256.ensures)

pub turn_cosine-returns-then-k-le256 : goal.turn_cosine-returns-then-k-le256
turn_cosine-returns-then-k-le256 t c = reads_natural _ (small _ _ _ c.quarter_cosine.ensures)
    ∙ ap pos c.quarter_cosine.ensures ∙ cosine_near _ _ _ _ c.steps_away-k.ensures c.if-k-le256.true (omega arith)

pub turn_cosine-returns-else-k-le256 : goal.turn_cosine-returns-else-k-le256
turn_cosine-returns-else-k-le256 t c = negated _ (small _ _ _ c.quarter_cosine-else-k-le256.ensures)
    ∙ ap (λ (x : ℕ). neg_ℤ (pos x)) c.quarter_cosine-else-k-le256.ensures ∙ cosine_far _ _ _ _ c.steps_away-k.ensures c.if-k-le256.false (omega arith)
