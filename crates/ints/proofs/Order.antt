-- The order of ℤ, moved to ℕ, where `omega` decides it. A fact a ≼ b goes into the list of `omega` as `le_fact Γ h (search quotes)`,
-- and a goal is `le_goal Γ (search quotes) (omega (arith, ..))`; Γ lists the atoms, as for `ring`. The same for ≺ and ≡.
-- Example: with h : a ≼ b and Γ = a ∷ b ∷ [], `le_goal Γ (search quotes) (omega (arith, le_fact Γ h (search quotes)))`
-- proves a +ℤ a ≼ b +ℤ b. The terms of b − a are moved to the side where they are positive, each product of atoms being the difference
-- of two naturals of which `omega` knows nothing.
use mathlib.Core.Path.{◌≡◌, refl, sym, ◌∙◌, ap, ap₂, subst}
use mathlib.Core.Bool.{Bool, true, false, not, cond, ◌&&◌}
use mathlib.Core.List.{List, [], ◌∷◌}
use Prim.Native.Nat.{ℕ, zero, suc, ◌+◌, ◌*◌, ◌-◌, ◌≤◌, ◌<◌}
use native.Mathlib.Nat.{zero-add}
use native.Mathlib.Omega.{arith}
use lib.Dec.{T, ltb, leb→le, le→leb}
use lib.Ieee.Fits.{and_l, and_r}
use lib.IntN.{ℤ, pos, negsuc, neg_ℤ, nat_abs, ◌+ℤ◌, ◌-ℤ◌, ◌*ℤ◌, +ℤ_idr, +ℤ_invl}
use lib.Signed.{le_z, lt_z, ◌≤ℤ◌, ◌<ℤ◌, le_z_yes, lt_z_yes, lt_z_no, clash_ℤ}
use Rattle.ints.proofs.Ring.{Built, Sides, Poly, none, term, sides, factor, product, value, normal, normal_ok, add, add_ok, negate, negate_ok, ring, quotes}

-- The library's `◌≤ℤ◌` and `◌<ℤ◌` bind tighter than `◌+ℤ◌`; these two are the same orders and bind looser.
infix 4 ◌≼◌ ◌≺◌
abbrev pub ◌≼◌ : ℤ → ℤ → Type 0
a ≼ b = ◌≤ℤ◌ a b

abbrev pub ◌≺◌ : ℤ → ℤ → Type 0
a ≺ b = ◌<ℤ◌ a b

-- ---- a ≼ b exactly where b is a and a natural number

≼-plus : (a : ℤ) (k : ℕ) → a ≼ a +ℤ pos k
≼-plus (pos a) k = le_z_yes (le→leb a (a + k) (omega arith))
≼-plus (negsuc a) k = le_z_yes (go (ltb k (suc a)))
  where
    less : suc a - suc k ≤ a
    less = omega arith

    go : (b : Bool) → T (le_z (negsuc a) (cond b (negsuc (suc a - suc k)) (pos (k - suc a))))
    go true = le→leb (suc a - suc k) a less
    go false = tt

gap_of : (a b : ℤ) → T (le_z a b) → (k : ℕ) × (b ≡ a +ℤ pos k)
gap_of (pos a) (pos b) t = (b - a, ap pos (e (leb→le a b t)))
  where
    e : a ≤ b → b ≡ a + (b - a)
    e h = omega arith
gap_of (pos a) (negsuc b) t = absurd t
gap_of (negsuc a) (pos b) t = (b + suc a, cross (pos (suc a)) (pos b))
  where
    cross : (x y : ℤ) → y ≡ neg_ℤ x +ℤ (y +ℤ x)
    cross x y = ring (x ∷ y ∷ []) (search quotes) tt
gap_of (negsuc a) (negsuc b) t = (a - b, both (pos (suc b)) (pos (a - b)) ∙ ap (λ (n : ℕ). neg_ℤ (pos n) +ℤ pos (a - b)) (e (leb→le b a t)))
  where
    both : (x y : ℤ) → neg_ℤ x ≡ neg_ℤ (x +ℤ y) +ℤ y
    both x y = ring (x ∷ y ∷ []) (search quotes) tt

    e : b ≤ a → suc b + (a - b) ≡ suc a
    e h = omega arith

gap : {a b : ℤ} → a ≼ b → (k : ℕ) × (b ≡ a +ℤ pos k)
gap {a} {b} h = gap_of a b h.le

pub pos_inj : {m n : ℕ} → pos m ≡ pos n → m ≡ n
pos_inj h = ap nat_abs h

-- ---- an integer as the difference of two naturals, and so a normal form

abbrev pub positive_part : ℤ → ℕ
positive_part (pos n) = n
positive_part (negsuc n) = zero

abbrev pub negative_part : ℤ → ℕ
negative_part (pos n) = zero
negative_part (negsuc n) = suc n

parts : (z : ℤ) → pos (positive_part z) ≡ z +ℤ pos (negative_part z)
parts (pos n) = sym (+ℤ_idr (pos n))
parts (negsuc n) = sym (+ℤ_invl (pos (suc n)))

module _ (Γ : List ℤ) where
  -- `product` of the solver, without its last factor 1
  abbrev pub monomial : List ℕ → ℤ
  monomial [] = pos 1
  monomial (i ∷ []) = factor Γ i
  monomial (i ∷ (j ∷ m)) = factor Γ i *ℤ monomial (j ∷ m)

  monomial_ok : (m : List ℕ) → monomial m ≡ product Γ m
  monomial_ok [] = refl
  monomial_ok (i ∷ []) = ring (factor Γ i ∷ []) (search quotes) tt
  monomial_ok (i ∷ (j ∷ m)) = ap (λ (z : ℤ). factor Γ i *ℤ z) (monomial_ok (j ∷ m))

  abbrev pub gained : Poly → ℕ
  gained none = zero
  gained (term (pos c) m p) = c * positive_part (monomial m) + gained p
  gained (term (negsuc c) m p) = suc c * negative_part (monomial m) + gained p

  abbrev pub lost : Poly → ℕ
  lost none = zero
  lost (term (pos c) m p) = c * negative_part (monomial m) + lost p
  lost (term (negsuc c) m p) = suc c * positive_part (monomial m) + lost p

  poly_parts : (p : Poly) → pos (gained p) ≡ value Γ p +ℤ pos (lost p)
  poly_parts none = refl
  poly_parts (term (pos c) m p) = ap₂ (λ (s t : ℤ). pos c *ℤ s +ℤ t) (parts (monomial m) ∙ ap (λ (z : ℤ). z +ℤ pos (negative_part (monomial m))) (monomial_ok m)) (poly_parts p)
      ∙ regroup (pos c) (product Γ m) (pos (negative_part (monomial m))) (value Γ p) (pos (lost p))
    where
      regroup : (c x n v l : ℤ) → c *ℤ (x +ℤ n) +ℤ (v +ℤ l) ≡ c *ℤ x +ℤ v +ℤ (c *ℤ n +ℤ l)
      regroup c x n v l = ring (c ∷ x ∷ n ∷ v ∷ l ∷ []) (search quotes) tt
  poly_parts (term (negsuc c) m p) = ap (λ (t : ℤ). pos (suc c) *ℤ pos (negative_part (monomial m)) +ℤ t) (poly_parts p)
      ∙ regroup (pos (suc c)) (product Γ m) (pos (negative_part (monomial m))) (value Γ p) (pos (lost p))
      ∙ ap (λ (s : ℤ). negsuc c *ℤ product Γ m +ℤ value Γ p +ℤ (pos (suc c) *ℤ s +ℤ pos (lost p))) (sym (parts (monomial m) ∙ ap (λ (z : ℤ). z +ℤ pos (negative_part (monomial m))) (monomial_ok m)))
    where
      regroup : (c x n v l : ℤ) → c *ℤ n +ℤ (v +ℤ l) ≡ neg_ℤ c *ℤ x +ℤ v +ℤ (c *ℤ (x +ℤ n) +ℤ l)
      regroup c x n v l = ring (c ∷ x ∷ n ∷ v ∷ l ∷ []) (search quotes depth 40) tt

  pub built_parts : {z : ℤ} (q : Built Γ z) → pos (gained (normal q)) ≡ z +ℤ pos (lost (normal q))
  built_parts q = poly_parts (normal q) ∙ ap (λ (z : ℤ). z +ℤ pos (lost (normal q))) (normal_ok Γ q)

-- ---- b − a is P − M: then a ≼ b is M ≤ P

module _ (a b : ℤ) (P M : ℕ) (g : pos P ≡ (b -ℤ a) +ℤ pos M) where
  gap_in_ℕ : (k : ℕ) → b ≡ a +ℤ pos k → P ≡ k + M
  gap_in_ℕ k h = pos_inj (g ∙ ap (λ (z : ℤ). (z -ℤ a) +ℤ pos M) h ∙ ring (a ∷ pos k ∷ pos M ∷ []) (search quotes) tt)

  gap_in_ℤ : (k : ℕ) → P ≡ k + M → b ≡ a +ℤ pos k
  gap_in_ℤ k h = out a b (pos M) ∙ ap (λ (z : ℤ). a +ℤ (z -ℤ pos M)) (sym g) ∙ ap (λ (n : ℕ). a +ℤ (pos n -ℤ pos M)) h ∙ ring (a ∷ pos k ∷ pos M ∷ []) (search quotes) tt
    where
      out : (a b m : ℤ) → b ≡ a +ℤ (((b -ℤ a) +ℤ m) -ℤ m)
      out a b m = ring (a ∷ b ∷ m ∷ []) (search quotes depth 40) tt

  swapped : pos M ≡ (a -ℤ b) +ℤ pos P
  swapped = out a b (pos M) ∙ ap (λ (z : ℤ). (a -ℤ b) +ℤ z) (sym g)
    where
      out : (a b m : ℤ) → m ≡ (a -ℤ b) +ℤ ((b -ℤ a) +ℤ m)
      out a b m = ring (a ∷ b ∷ m ∷ []) (search quotes depth 40) tt

  in_ℕ : a ≼ b → M ≤ P
  in_ℕ h = go (gap h)
    where
      go : (k : ℕ) × (b ≡ a +ℤ pos k) → M ≤ P
      go e = omega (arith, gap_in_ℕ e.0 e.1)

  in_ℤ : M ≤ P → a ≼ b
  in_ℤ h = subst (λ (z : ℤ). a ≼ z) (sym (gap_in_ℤ (P - M) (omega arith))) (≼-plus a (P - M))

-- ---- facts and goals

abbrev pub difference : {Γ : List ℤ} {a b : ℤ} → Sides Γ a b → Poly
difference (sides p q) = add (normal q) (negate (normal p))

module _ (Γ : List ℤ) {a b : ℤ} where
  difference_ok : (e : Sides Γ a b) → pos (gained Γ (difference e)) ≡ (b -ℤ a) +ℤ pos (lost Γ (difference e))
  difference_ok (sides p q) = poly_parts Γ (add (normal q) (negate (normal p)))
      ∙ ap (λ (z : ℤ). z +ℤ pos (lost Γ (add (normal q) (negate (normal p)))))
      (add_ok Γ (normal q) (negate (normal p)) ∙ ap₂ ◌+ℤ◌ (normal_ok Γ q) (negate_ok Γ (normal p) ∙ ap neg_ℤ (normal_ok Γ p)))

  pub le_fact : a ≼ b → (e : Sides Γ a b) → lost Γ (difference e) ≤ gained Γ (difference e)
  le_fact h e = in_ℕ a b (gained Γ (difference e)) (lost Γ (difference e)) (difference_ok e) h

  pub le_goal : (e : Sides Γ a b) → lost Γ (difference e) ≤ gained Γ (difference e) → a ≼ b
  le_goal e h = in_ℤ a b (gained Γ (difference e)) (lost Γ (difference e)) (difference_ok e) h

  ge_fact : b ≼ a → (e : Sides Γ a b) → gained Γ (difference e) ≤ lost Γ (difference e)
  ge_fact h e = in_ℕ b a (lost Γ (difference e)) (gained Γ (difference e)) (swapped a b (gained Γ (difference e)) (lost Γ (difference e)) (difference_ok e)) h

  ge_goal : (e : Sides Γ a b) → gained Γ (difference e) ≤ lost Γ (difference e) → b ≼ a
  ge_goal e h = in_ℤ b a (lost Γ (difference e)) (gained Γ (difference e)) (swapped a b (gained Γ (difference e)) (lost Γ (difference e)) (difference_ok e)) h

  pub lt_fact : a ≺ b → (e : Sides Γ a b) → lost Γ (difference e) < gained Γ (difference e)
  lt_fact h e = go (gained Γ (difference e)) (lost Γ (difference e)) (λ k. clash_ℤ h (ge_goal e k))
    where
      go : (P M : ℕ) → (P ≤ M → ⊥) → M < P
      go P M f = omega arith

  pub lt_goal : (e : Sides Γ a b) → lost Γ (difference e) < gained Γ (difference e) → a ≺ b
  lt_goal e h = go (lt_z a b) (λ t. lt_z_yes t) (λ t. lt_z_no t)
    where
      clash : (P M : ℕ) → P ≤ M → M < P → ⊥
      clash P M h k = omega arith

      go : (c : Bool) → (T c → a ≺ b) → (T (not c) → b ≼ a) → a ≺ b
      go true f g = f tt
      go false f g = absurd (clash (gained Γ (difference e)) (lost Γ (difference e)) (ge_fact (g tt) e) h)

  pub eq_fact : a ≡ b → (e : Sides Γ a b) → lost Γ (difference e) ≡ gained Γ (difference e)
  eq_fact h e = sym (gap_in_ℕ a b (gained Γ (difference e)) (lost Γ (difference e)) (difference_ok e) 0 (sym h ∙ sym (+ℤ_idr a)) ∙ zero-add (lost Γ (difference e)))

  pub eq_goal : (e : Sides Γ a b) → lost Γ (difference e) ≡ gained Γ (difference e) → a ≡ b
  eq_goal e h = sym (gap_in_ℤ a b (gained Γ (difference e)) (lost Γ (difference e)) (difference_ok e) 0 (sym h ∙ sym (zero-add (lost Γ (difference e)))) ∙ +ℤ_idr a)

-- ---- equal from both sides, and by a test that computes: `equal_is a b tt` at closed integers. (`refl` would compare the terms before it computes them.)

≼-antisym : {a b : ℤ} → a ≼ b → b ≼ a → a ≡ b
≼-antisym {a} {b} h k = let Γ = a ∷ b ∷ [] in
    eq_goal Γ (search quotes) (omega (arith, le_fact Γ h (search quotes), le_fact Γ k (search quotes)))

unfoldable pub equal : ℤ → ℤ → Bool
equal a b = le_z a b && le_z b a

pub equal_is : (a b : ℤ) → T (equal a b) → a ≡ b
unfolding equal
equal_is a b t = ≼-antisym (le_z_yes (and_l (le_z a b) (le_z b a) t)) (le_z_yes (and_r (le_z a b) (le_z b a) t))
