-- Document 02, Item 7: a pair c, s modulo 2^31 − 1 whose squares add to 1 and which has order 1,024 as a turn.
-- Example: a quarter of a turn by the chosen pair, `steps CHOSEN 256`, is the pair 0, 1.
use Rattle.std.specs.Prelude.{◌≡◌, ℕ, zero, suc, ◌<◌, ℤ, pos, ◌+ℤ◌, ◌-ℤ◌, ◌*ℤ◌}
use Rattle.kind.specs.BlockKinds.{TURN}
use Rattle.residues.specs.Residue.{residue}

-- cosine and sine of an angle, modulo 2^31 − 1
pub record Pair : Type 0 where
  pub cosine : ℕ
  pub sine : ℕ

-- where a turn begins
abbrev pub START : Pair
START = record { cosine = 1; sine = 0 }

-- x turned on by y: (a, b) and (c, d) make (ac − bd, ad + bc), modulo 2^31 − 1
unfoldable pub turned : Pair → Pair → Pair
unfolding residue
turned x y = record {
  cosine = residue (pos x.cosine *ℤ pos y.cosine -ℤ pos x.sine *ℤ pos y.sine);
  sine = residue (pos x.cosine *ℤ pos y.sine +ℤ pos x.sine *ℤ pos y.cosine);
}

-- j steps by the pair q
unfoldable pub steps : Pair → ℕ → Pair
unfolding turned
steps q zero = START
steps q (suc j) = turned (steps q j) q

-- the squares add to 1; 1,024 steps lead back to where the turn began, and no fewer do
pub record FullTurn (q : Pair) : Type 0 where
  pub unit : residue (pos q.cosine *ℤ pos q.cosine +ℤ pos q.sine *ℤ pos q.sine) ≡ 1
  pub whole : steps q TURN ≡ START
  pub least : (j : ℕ) → 0 < j → j < TURN → ¬ (steps q j ≡ START)

-- the cosine and the sine of step j of the turn
abbrev pub cosine_at : Pair → ℕ → ℤ
cosine_at q j = pos (steps q j).cosine

abbrev pub sine_at : Pair → ℕ → ℤ
sine_at q j = pos (steps q j).sine

-- the pair in force: of the 512 pairs of residues with a full turn, the one with the least cosine whose quarter turn is 0, 1. Its turn is full (`chosen_full` in proofs/Chosen),
-- and any other pair with a full turn gives the same results (`smoothing_exact` of crate exact).
abbrev pub CHOSEN : Pair
CHOSEN = record { cosine = 28670693; sine = 368578328 }
