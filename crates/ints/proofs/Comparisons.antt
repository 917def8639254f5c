-- What the machine's comparisons of integers tell, as facts of `omega`, each integer being the difference of two naturals; and the other way.
-- Example: with t : lt_z x low ≡ true among the hypotheses, `omega comparisons` knows that x is below low.
use mathlib.Core.Path.{◌≡◌, refl}
use mathlib.Core.Bool.{Bool, true, false}
use mathlib.Core.List.{[], ◌∷◌}
use Prim.Native.Nat.{zero, suc, ◌+◌, ◌≤◌, ◌<◌}
use native.Mathlib.Omega.{arith}
use lib.Dec.{T}
use lib.IntN.{ℤ, pos, negsuc, neg_ℤ}
use lib.Signed.{le_z, le_z_yes, lt_z, lt_z_yes, lt_z_no, clash_ℤ}
use Rattle.ints.proofs.Ring.{quotes}
use Rattle.ints.proofs.Order.{◌≼◌, ◌≺◌, le_fact, lt_fact, le_goal, positive_part, negative_part}

abbrev pub Less : ℤ → ℤ → Type 0
Less a b = positive_part a + negative_part b < positive_part b + negative_part a

abbrev pub AtMost : ℤ → ℤ → Type 0
AtMost a b = positive_part a + negative_part b ≤ positive_part b + negative_part a

-- ---- from a test's outcome

pub test_less : (a b : ℤ) → lt_z a b ≡ true → Less a b
test_less a b e = let Γ = a ∷ b ∷ [] in let h : a ≺ b = lt_z_yes (rw e tt) in omega (arith, lt_fact Γ h (search quotes))

pub test_not_less : (a b : ℤ) → lt_z a b ≡ false → AtMost b a
test_not_less a b e = let Γ = a ∷ b ∷ [] in let h : b ≼ a = lt_z_no (rw e tt) in omega (arith, le_fact Γ h (search quotes))

pub test_at_most : (a b : ℤ) → le_z a b ≡ true → AtMost a b
test_at_most a b e = let Γ = a ∷ b ∷ [] in let h : a ≼ b = le_z_yes (rw e tt) in omega (arith, le_fact Γ h (search quotes))

pub ruleset comparisons = (arith, test_less, test_not_less, test_at_most)

-- ---- to a test's outcome

pub less_test : (a b : ℤ) → Less a b → lt_z a b ≡ true
less_test a b h = go (lt_z a b) refl
  where
    go : (t : Bool) → lt_z a b ≡ t → t ≡ true
    go true e = refl
    go false e = absurd (omega comparisons)

pub at_most_test : (a b : ℤ) → b ≼ a → lt_z a b ≡ false
at_most_test a b h = go (lt_z a b) (λ t. lt_z_yes t)
  where
    go : (t : Bool) → (T t → a ≺ b) → t ≡ false
    go true f = clash_ℤ (f tt) h
    go false f = refl

pub not_less_test : (a b : ℤ) → AtMost b a → lt_z a b ≡ false
not_less_test a b h = at_most_test a b (le_goal (b ∷ a ∷ []) (search quotes) (omega arith))

-- ---- of two negatives

positive_negated : (z : ℤ) → positive_part (neg_ℤ z) ≡ negative_part z
positive_negated (pos zero) = refl
positive_negated (pos (suc n)) = refl
positive_negated (negsuc n) = refl

negative-negated : (z : ℤ) → negative_part (neg_ℤ z) ≡ positive_part z
negative-negated (pos zero) = refl
negative-negated (pos (suc n)) = refl
negative-negated (negsuc n) = refl

pub less_negated : (a b : ℤ) → lt_z (neg_ℤ a) (neg_ℤ b) ≡ lt_z b a
less_negated a b = go (lt_z b a) refl
  where
    go : (t : Bool) → lt_z b a ≡ t → lt_z (neg_ℤ a) (neg_ℤ b) ≡ t
    go true e = less_test (neg_ℤ a) (neg_ℤ b) (omega (comparisons, positive_negated a, negative-negated a, positive_negated b, negative-negated b))
    go false e = not_less_test (neg_ℤ a) (neg_ℤ b) (omega (comparisons, positive_negated a, negative-negated a, positive_negated b, negative-negated b))
