-- The chosen pair's cosines and sines at the steps of the turn, as centred numbers: how small they are, those of two angles added, and the sine as a cosine.
-- Each law is a congruence from crate turns, and of all numbers with one residue only one is centred.
-- Example: `cosine_next i j` says that the rule for two angles added, of the cosines and sines of steps i and j, gives the cosine of step i + j.
use mathlib.Core.Path.{◌≡◌, ◌∙◌, ap}
use Prim.Native.Nat.{ℕ, ◌+◌, ◌^◌, ◌≤◌}
use native.Mathlib.Nat.{le_of_lt}
use lib.IntN.{ℤ, pos, nat_abs, ◌+ℤ◌, ◌-ℤ◌, ◌*ℤ◌}
use Rattle.ints.proofs.Order.{equal, equal_is}
use Rattle.residues.specs.Residue.{centred, residue}
use Rattle.residues.proofs.Congruent.{◌≈◌, ◌⊙◌, ≈-sym, ≈-plus, ≈-minus, ≈-times}
use Rattle.residues.proofs.Residues.{same_number, centred_≈, centred-small, residue_unique}
use Rattle.turns.specs.Turn.{CHOSEN, cosine_at, sine_at, steps}
use Rattle.turns.proofs.Turning.{steps-below}
use Rattle.turns.proofs.Chosen.{chosen_turn, cosine_quarter, sine_quarter}
use Rattle.turns.proofs.Angles.{sine_by_cosine}
use Rattle.exact_pair.specs.Pair.{cosine_step, sine_step}

-- ---- how small they are

pub cosine-small : (j : ℕ) → nat_abs (cosine_step j) ≤ 2 ^ 30
cosine-small j = le_of_lt (centred-small (steps CHOSEN j).cosine (steps-below CHOSEN j).0)

pub sine-small : (j : ℕ) → nat_abs (sine_step j) ≤ 2 ^ 30
sine-small j = le_of_lt (centred-small (steps CHOSEN j).sine (steps-below CHOSEN j).1)

-- ---- after no step the angle is 0, and after one it is the chosen pair's (both are computed)

pub cosine_none : cosine_step 0 ≡ pos 1
unfolding centred steps equal
cosine_none = equal_is (cosine_step 0) (pos 1) tt

pub sine_none : sine_step 0 ≡ pos 0
unfolding centred steps equal
sine_none = equal_is (sine_step 0) (pos 0) tt

pub cosine_one : cosine_step 1 ≡ pos CHOSEN.cosine
unfolding centred steps equal
cosine_one = equal_is (cosine_step 1) (pos CHOSEN.cosine) tt

pub sine_one : sine_step 1 ≡ pos CHOSEN.sine
unfolding centred steps equal
sine_one = equal_is (sine_step 1) (pos CHOSEN.sine) tt

-- ---- two angles added

module _ (i j : ℕ) where
  cosine_≈ : cosine_at CHOSEN (i + j) ≈ cosine_step i *ℤ cosine_step j -ℤ sine_step i *ℤ sine_step j
  cosine_≈ = chosen_turn.cosine-sum i j ⊙ ≈-sym (≈-minus (≈-times (centred_≈ _) (centred_≈ _)) (≈-times (centred_≈ _) (centred_≈ _)))

  sine_≈ : sine_at CHOSEN (i + j) ≈ cosine_step i *ℤ sine_step j +ℤ sine_step i *ℤ cosine_step j
  sine_≈ = chosen_turn.sine-sum i j ⊙ ≈-sym (≈-plus (≈-times (centred_≈ _) (centred_≈ _)) (≈-times (centred_≈ _) (centred_≈ _)))

  pub cosine_next : centred (residue (cosine_step i *ℤ cosine_step j -ℤ sine_step i *ℤ sine_step j)) ≡ cosine_step (i + j)
  cosine_next = ap centred (residue_unique _ _ (steps-below CHOSEN (i + j)).0 cosine_≈)

  pub sine_next : centred (residue (cosine_step i *ℤ sine_step j +ℤ sine_step i *ℤ cosine_step j)) ≡ sine_step (i + j)
  sine_next = ap centred (residue_unique _ _ (steps-below CHOSEN (i + j)).1 sine_≈)

-- ---- the sine of a step is the cosine of what is left to the quarter

pub sine-is-cosine : (i j : ℕ) → i + j ≡ 256 → sine_step i ≡ cosine_step j
sine-is-cosine i j e = ap centred (same_number (steps CHOSEN i).sine (steps CHOSEN j).cosine (steps-below CHOSEN i).1 (steps-below CHOSEN j).0 (sine_by_cosine chosen_turn cosine_quarter sine_quarter i j e))

-- ---- a cosine and a sine that are those of step j

pub record AtStep (j : ℕ) (c s : ℤ) : Type 0 where
  pub cosine : c ≡ cosine_step j
  pub sine : s ≡ sine_step j

module _ {j : ℕ} {c s : ℤ} (at : AtStep j c s) where
  pub at_small : (nat_abs c ≤ 2 ^ 30) × (nat_abs s ≤ 2 ^ 30)
  at_small = (rw at.cosine (cosine-small j), rw at.sine (sine-small j))

module _ {i j : ℕ} {a b c d : ℤ} (one : AtStep i a b) (other : AtStep j c d) where
  pub step_next : {x y : ℤ} → x ≡ centred (residue (a *ℤ c -ℤ b *ℤ d)) → y ≡ centred (residue (a *ℤ d +ℤ b *ℤ c)) → (n : ℕ) → n ≡ i + j → AtStep n x y
  step_next h k n e = record {
    cosine = h ∙ rw (one.cosine, one.sine, other.cosine, other.sine, e) (cosine_next i j);
    sine = k ∙ rw (one.cosine, one.sine, other.cosine, other.sine, e) (sine_next i j);
  }
