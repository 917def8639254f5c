-- The one comparison of powers, `reaches`, as the order of whole numbers; and two laws of that order.
use mathlib.Core.Path.{◌≡◌, refl}
use mathlib.Core.Bool.{Bool, true, false, not}
use mathlib.Core.List.{[], ◌∷◌}
use native.Mathlib.Omega.{arith}
use lib.Dec.{T}
use lib.IntN.{ℤ}
use lib.Signed.{le_z, lt_z, ◌≤ℤ◌, ◌<ℤ◌, le_z_yes, lt_z_yes, lt_z_no, clash_ℤ}
use Rattle.ints.proofs.Ring.{quotes}
use Rattle.ints.proofs.Order.{le_fact, lt_fact, le_goal, lt_goal}
use Rattle.search.specs.Search.{reaches}
use Rattle.search.proofs.Lowest.{one_outcome}

module _ {power level : ℤ} where
  pub reached : reaches power level ≡ true → level ≤ℤ power
  unfolding reaches
  reached t = le_z_yes (rw t tt)

  pub reaches_so : level ≤ℤ power → reaches power level ≡ true
  unfolding reaches
  reaches_so h = go (le_z level power) h.le
    where
      go : (t : Bool) → T t → t ≡ true
      go true h = refl
      go false h = absurd h

  pub unreached : reaches power level ≡ false → power <ℤ level
  unreached e = go (lt_z power level) (λ t. lt_z_yes t) (λ t. lt_z_no t)
    where
      go : (t : Bool) → (T t → power <ℤ level) → (T (not t) → level ≤ℤ power) → power <ℤ level
      go true f g = f tt
      go false f g = one_outcome (reaches_so (g tt)) e

  pub reaches_not : power <ℤ level → reaches power level ≡ false
  reaches_not h = go (reaches power level) (λ t. reached t)
    where
      go : (t : Bool) → (t ≡ true → level ≤ℤ power) → t ≡ false
      go true f = clash_ℤ h (f refl)
      go false f = refl

pub less_at_most : {a b : ℤ} → a <ℤ b → a ≤ℤ b
less_at_most {a} {b} h = let Γ = a ∷ b ∷ [] in le_goal Γ (search quotes) (omega (arith, lt_fact Γ h (search quotes)))

pub at_most_less : {a b c : ℤ} → a ≤ℤ b → b <ℤ c → a <ℤ c
at_most_less {a} {b} {c} h k = let Γ = a ∷ b ∷ c ∷ [] in lt_goal Γ (search quotes) (omega (arith, le_fact Γ h (search quotes), lt_fact Γ k (search quotes)))

pub at_most_on : {a b c : ℤ} → a ≤ℤ b → b ≤ℤ c → a ≤ℤ c
at_most_on {a} {b} {c} h k = let Γ = a ∷ b ∷ c ∷ [] in le_goal Γ (search quotes) (omega (arith, le_fact Γ h (search quotes), le_fact Γ k (search quotes)))
