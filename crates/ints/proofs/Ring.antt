-- A ring solver for ℤ: it proves an equation whose two sides, multiplied out, have the same terms.
-- Example: `ring (a ∷ b ∷ []) (search quotes) tt : (a +ℤ b) *ℤ (a -ℤ b) ≡ a *ℤ a -ℤ b *ℤ b`.
-- The list Γ holds the atoms, which may be any integers. `search quotes` finds how both sides are built from them; a long equation
-- wants `search quotes depth 40`, a very long one `fits 20000` too. Sums, products and numerals inside a `pos` are read as well.
use mathlib.Core.Path.{◌≡◌, refl, sym, ◌∙◌, ap, ap₂}
use mathlib.Core.Bool.{Bool, true, false}
use mathlib.Core.List.{List, [], ◌∷◌}
use Prim.Native.Nat.{ℕ, zero, suc, ◌+◌, ◌*◌}
use lib.Dec.{T, eqb, leb, ltb, eqb→eq}
use lib.IntN.{ℤ, pos, negsuc, one, neg_ℤ, ◌+ℤ◌, ◌-ℤ◌, ◌*ℤ◌, +ℤ_idl, +ℤ_idr, +ℤ_assoc, +ℤ_invl, zero-*ℤ, *ℤ-zero, *ℤ_comm, *ℤ-one, neg_ℤ-+ℤ}
use Rattle.ints.proofs.Laws.{+ℤ-left-comm, *ℤ-distr, *ℤ-distl, *ℤ-assoc, negℤ_*ℤ}

-- ---- how an integer is built from the atoms Γ

pub data Atom : List ℤ → ℤ → Type 0 where
  here : {x : ℤ} {Γ : List ℤ} → Atom (x ∷ Γ) x
  there : {x y : ℤ} {Γ : List ℤ} → Atom Γ x → Atom (y ∷ Γ) x

-- The test of `lit` passes by computation at a numeral and is stuck elsewhere, so that `search` takes no other number for one.
pub data Built (Γ : List ℤ) : ℤ → Type 0 where
  atom : {x : ℤ} → Atom Γ x → Built Γ x
  lit : (n : ℕ) → T (leb zero n) → Built Γ (pos n)
  neglit : (n : ℕ) → T (leb zero n) → Built Γ (negsuc n)
  plus : {a b : ℤ} → Built Γ a → Built Γ b → Built Γ (a +ℤ b)
  times : {a b : ℤ} → Built Γ a → Built Γ b → Built Γ (a *ℤ b)
  minus : {a : ℤ} → Built Γ a → Built Γ (neg_ℤ a)
  nplus : {a b : ℕ} → Built Γ (pos a) → Built Γ (pos b) → Built Γ (pos (a + b))
  ntimes : {a b : ℕ} → Built Γ (pos a) → Built Γ (pos b) → Built Γ (pos (a * b))

-- the two sides of an equation or an order
pub data Sides (Γ : List ℤ) : ℤ → ℤ → Type 0 where
  sides : {x y : ℤ} → Built Γ x → Built Γ y → Sides Γ x y

-- The first eight atoms by one rule each, since `search` counts its steps; the others by way of the ninth.
abbrev pub a0 : {x : ℤ} {Γ : List ℤ} → Built (x ∷ Γ) x
a0 = atom here

abbrev pub a1 : {a x : ℤ} {Γ : List ℤ} → Built (a ∷ x ∷ Γ) x
a1 = atom (there here)

abbrev pub a2 : {a b x : ℤ} {Γ : List ℤ} → Built (a ∷ b ∷ x ∷ Γ) x
a2 = atom (there (there here))

abbrev pub a3 : {a b c x : ℤ} {Γ : List ℤ} → Built (a ∷ b ∷ c ∷ x ∷ Γ) x
a3 = atom (there (there (there here)))

abbrev pub a4 : {a b c d x : ℤ} {Γ : List ℤ} → Built (a ∷ b ∷ c ∷ d ∷ x ∷ Γ) x
a4 = atom (there (there (there (there here))))

abbrev pub a5 : {a b c d e x : ℤ} {Γ : List ℤ} → Built (a ∷ b ∷ c ∷ d ∷ e ∷ x ∷ Γ) x
a5 = atom (there (there (there (there (there here)))))

abbrev pub a6 : {a b c d e f x : ℤ} {Γ : List ℤ} → Built (a ∷ b ∷ c ∷ d ∷ e ∷ f ∷ x ∷ Γ) x
a6 = atom (there (there (there (there (there (there here))))))

abbrev pub a7 : {a b c d e f g x : ℤ} {Γ : List ℤ} → Built (a ∷ b ∷ c ∷ d ∷ e ∷ f ∷ g ∷ x ∷ Γ) x
a7 = atom (there (there (there (there (there (there (there here)))))))

abbrev pub a8 : {a b c d e f g h x : ℤ} {Γ : List ℤ} → Atom Γ x → Built (a ∷ b ∷ c ∷ d ∷ e ∷ f ∷ g ∷ h ∷ Γ) x
a8 p = atom (there (there (there (there (there (there (there (there p))))))))

pub ruleset quotes = (a0, a1, a2, a3, a4, a5, a6, a7, sides, plus, times, minus, nplus, ntimes, lit, neglit, tt, a8, here, there)

-- ---- the normal form: a sum of terms, each a coefficient and the sorted places of its factors in Γ

pub data Poly : Type 0 where
  none : Poly
  term : ℤ → List ℕ → Poly → Poly

abbrev pub place : {Γ : List ℤ} {x : ℤ} → Atom Γ x → ℕ
place here = zero
place (there p) = suc (place p)

abbrev pub factor : List ℤ → ℕ → ℤ
factor [] i = pos zero
factor (x ∷ Γ) zero = x
factor (x ∷ Γ) (suc i) = factor Γ i

abbrev insert : ℕ → List ℕ → List ℕ
insert i [] = i ∷ []
insert i (j ∷ m) = elim (leb i j) [ true ↦ i ∷ (j ∷ m) | false ↦ j ∷ insert i m ]

abbrev merge : List ℕ → List ℕ → List ℕ
merge [] k = k
merge (i ∷ m) k = insert i (merge m k)

abbrev same : List ℕ → List ℕ → Bool
same [] [] = true
same [] (j ∷ k) = false
same (i ∷ m) [] = false
same (i ∷ m) (j ∷ k) = elim (eqb i j) [ true ↦ same m k | false ↦ false ]

abbrev before : List ℕ → List ℕ → Bool
before [] [] = false
before [] (j ∷ k) = true
before (i ∷ m) [] = false
before (i ∷ m) (j ∷ k) = elim (eqb i j) [ true ↦ before m k | false ↦ ltb i j ]

abbrev pub add_term : ℤ → List ℕ → Poly → Poly
add_term c m none = term c m none
add_term c m (term d k p) = elim (same m k) [
  | true ↦ term (c +ℤ d) k p
  | false ↦ elim (before m k) [ true ↦ term c m (term d k p) | false ↦ term d k (add_term c m p) ]
]

abbrev pub add : Poly → Poly → Poly
add none q = q
add (term c m p) q = add_term c m (add p q)

abbrev times_term : ℤ → List ℕ → Poly → Poly
times_term c m none = none
times_term c m (term d k p) = add_term (c *ℤ d) (merge m k) (times_term c m p)

abbrev multiply : Poly → Poly → Poly
multiply none q = none
multiply (term c m p) q = add (times_term c m q) (multiply p q)

abbrev pub negate : Poly → Poly
negate none = none
negate (term c m p) = term (neg_ℤ c) m (negate p)

abbrev pub normal : {Γ : List ℤ} {z : ℤ} → Built Γ z → Poly
normal (atom p) = term (pos 1) (place p ∷ []) none
normal (lit n t) = term (pos n) [] none
normal (neglit n t) = term (negsuc n) [] none
normal (plus p q) = add (normal p) (normal q)
normal (times p q) = multiply (normal p) (normal q)
normal (minus p) = negate (normal p)
normal (nplus p q) = add (normal p) (normal q)
normal (ntimes p q) = multiply (normal p) (normal q)

abbrev vanishes : Poly → Bool
vanishes none = true
vanishes (term (pos n) m p) = elim (eqb n zero) [ true ↦ vanishes p | false ↦ false ]
vanishes (term (negsuc n) m p) = false

abbrev pub agree : {Γ : List ℤ} {x y : ℤ} → Sides Γ x y → Bool
agree (sides p q) = vanishes (add (normal p) (negate (normal q)))

-- ---- what a normal form is worth

module _ (Γ : List ℤ) where
  abbrev pub product : List ℕ → ℤ
  product [] = pos 1
  product (i ∷ m) = factor Γ i *ℤ product m

  abbrev pub value : Poly → ℤ
  value none = pos zero
  value (term c m p) = c *ℤ product m +ℤ value p

one_*ℤ : (z : ℤ) → pos 1 *ℤ z ≡ z
unfolding one
one_*ℤ z = *ℤ_comm (pos 1) z ∙ *ℤ-one z

*ℤ-left-comm : (a b c : ℤ) → a *ℤ (b *ℤ c) ≡ b *ℤ (a *ℤ c)
*ℤ-left-comm a b c = sym (*ℤ-assoc a b c) ∙ ap (λ (x : ℤ). x *ℤ c) (*ℤ_comm a b) ∙ *ℤ-assoc b a c

*ℤ-interchange : (c m d k : ℤ) → (c *ℤ m) *ℤ (d *ℤ k) ≡ (c *ℤ d) *ℤ (m *ℤ k)
*ℤ-interchange c m d k = *ℤ-assoc c m (d *ℤ k) ∙ ap (λ (x : ℤ). c *ℤ x) (*ℤ-left-comm m d k) ∙ sym (*ℤ-assoc c d (m *ℤ k))

same_ok : (m k : List ℕ) → T (same m k) → m ≡ k
same_ok [] [] t = refl
same_ok [] (j ∷ k) t = absurd t
same_ok (i ∷ m) [] t = absurd t
same_ok (i ∷ m) (j ∷ k) t = go (eqb i j) (eqb→eq i j) (same_ok m k) t
  where
    go : (b : Bool) → (T b → i ≡ j) → (T (same m k) → m ≡ k) → T (elim b [ true ↦ same m k | false ↦ false ]) → ◌≡◌ {A = List ℕ} (i ∷ m) (j ∷ k)
    go true f g t = ap₂ (λ (x : ℕ) (y : List ℕ). x ∷ y) (f tt) (g t)
    go false f g t = absurd t

place_ok : {Γ : List ℤ} {x : ℤ} (p : Atom Γ x) → factor Γ (place p) ≡ x
place_ok here = refl
place_ok (there p) = place_ok p

module _ (Γ : List ℤ) where
  insert_ok : (i : ℕ) (m : List ℕ) → product Γ (insert i m) ≡ factor Γ i *ℤ product Γ m
  insert_ok i [] = refl
  insert_ok i (j ∷ m) = go (leb i j) (insert_ok i m)
    where
      go : (b : Bool) → product Γ (insert i m) ≡ factor Γ i *ℤ product Γ m →
          product Γ (elim b [ true ↦ i ∷ (j ∷ m) | false ↦ j ∷ insert i m ]) ≡ factor Γ i *ℤ (factor Γ j *ℤ product Γ m)
      go true h = refl
      go false h = ap (λ (x : ℤ). factor Γ j *ℤ x) h ∙ *ℤ-left-comm (factor Γ j) (factor Γ i) (product Γ m)

  merge_ok : (m k : List ℕ) → product Γ (merge m k) ≡ product Γ m *ℤ product Γ k
  merge_ok [] k = sym (one_*ℤ (product Γ k))
  merge_ok (i ∷ m) k = insert_ok i (merge m k) ∙ ap (λ (x : ℤ). factor Γ i *ℤ x) (merge_ok m k) ∙ sym (*ℤ-assoc (factor Γ i) (product Γ m) (product Γ k))

  add_term_ok : (c : ℤ) (m : List ℕ) (p : Poly) → value Γ (add_term c m p) ≡ c *ℤ product Γ m +ℤ value Γ p
  add_term_ok c m none = refl
  add_term_ok c m (term d k p) = go (same m k) (same_ok m k) (before m k) (add_term_ok c m p)
    where
      go : (b : Bool) → (T b → m ≡ k) → (l : Bool) → value Γ (add_term c m p) ≡ c *ℤ product Γ m +ℤ value Γ p →
          value Γ (elim b [ true ↦ term (c +ℤ d) k p | false ↦ elim l [ true ↦ term c m (term d k p) | false ↦ term d k (add_term c m p) ] ])
          ≡ c *ℤ product Γ m +ℤ (d *ℤ product Γ k +ℤ value Γ p)
      go true f l h = ap (λ (x : ℤ). x +ℤ value Γ p) (*ℤ-distr c d (product Γ k) ∙ ap (λ (x : List ℕ). c *ℤ product Γ x +ℤ d *ℤ product Γ k) (sym (f tt)))
          ∙ +ℤ_assoc (c *ℤ product Γ m) (d *ℤ product Γ k) (value Γ p)
      go false f true h = refl
      go false f false h = ap (λ (x : ℤ). d *ℤ product Γ k +ℤ x) h ∙ +ℤ-left-comm (d *ℤ product Γ k) (c *ℤ product Γ m) (value Γ p)

  pub add_ok : (p q : Poly) → value Γ (add p q) ≡ value Γ p +ℤ value Γ q
  add_ok none q = sym (+ℤ_idl (value Γ q))
  add_ok (term c m p) q = add_term_ok c m (add p q) ∙ ap (λ (x : ℤ). c *ℤ product Γ m +ℤ x) (add_ok p q) ∙ sym (+ℤ_assoc (c *ℤ product Γ m) (value Γ p) (value Γ q))

  times_term_ok : (c : ℤ) (m : List ℕ) (p : Poly) → value Γ (times_term c m p) ≡ (c *ℤ product Γ m) *ℤ value Γ p
  times_term_ok c m none = sym (*ℤ-zero (c *ℤ product Γ m))
  times_term_ok c m (term d k p) = add_term_ok (c *ℤ d) (merge m k) (times_term c m p)
      ∙ ap₂ ◌+ℤ◌ (ap (λ (x : ℤ). (c *ℤ d) *ℤ x) (merge_ok m k) ∙ sym (*ℤ-interchange c (product Γ m) d (product Γ k))) (times_term_ok c m p)
      ∙ sym (*ℤ-distl (c *ℤ product Γ m) (d *ℤ product Γ k) (value Γ p))

  multiply_ok : (p q : Poly) → value Γ (multiply p q) ≡ value Γ p *ℤ value Γ q
  multiply_ok none q = sym (zero-*ℤ (value Γ q))
  multiply_ok (term c m p) q = add_ok (times_term c m q) (multiply p q) ∙ ap₂ ◌+ℤ◌ (times_term_ok c m q) (multiply_ok p q) ∙ sym (*ℤ-distr (c *ℤ product Γ m) (value Γ p) (value Γ q))

  pub negate_ok : (p : Poly) → value Γ (negate p) ≡ neg_ℤ (value Γ p)
  negate_ok none = refl
  negate_ok (term c m p) = ap₂ ◌+ℤ◌ (negℤ_*ℤ c (product Γ m)) (negate_ok p) ∙ sym (neg_ℤ-+ℤ (c *ℤ product Γ m) (value Γ p))

  vanishes_ok : (p : Poly) → T (vanishes p) → value Γ p ≡ pos zero
  vanishes_ok none t = refl
  vanishes_ok (term (pos n) m p) t = go (eqb n zero) (eqb→eq n zero) (vanishes_ok p) t
    where
      go : (b : Bool) → (T b → n ≡ zero) → (T (vanishes p) → value Γ p ≡ pos zero) → T (elim b [ true ↦ vanishes p | false ↦ false ]) → pos n *ℤ product Γ m +ℤ value Γ p ≡ pos zero
      go true f g t = ap₂ ◌+ℤ◌ (ap (λ (x : ℕ). pos x *ℤ product Γ m) (f tt) ∙ zero-*ℤ (product Γ m)) (g t)
      go false f g t = absurd t
  vanishes_ok (term (negsuc n) m p) t = absurd t

  constant : (z : ℤ) → z *ℤ pos 1 +ℤ pos zero ≡ z
  unfolding one
  constant z = +ℤ_idr (z *ℤ pos 1) ∙ *ℤ-one z

  pub normal_ok : {z : ℤ} (q : Built Γ z) → value Γ (normal q) ≡ z
  normal_ok (atom p) = +ℤ_idr (pos 1 *ℤ (factor Γ (place p) *ℤ pos 1)) ∙ one_*ℤ (factor Γ (place p) *ℤ pos 1)
      ∙ *ℤ_comm (factor Γ (place p)) (pos 1) ∙ one_*ℤ (factor Γ (place p)) ∙ place_ok p
  normal_ok (lit n t) = constant (pos n)
  normal_ok (neglit n t) = constant (negsuc n)
  normal_ok (plus p q) = add_ok (normal p) (normal q) ∙ ap₂ ◌+ℤ◌ (normal_ok p) (normal_ok q)
  normal_ok (times p q) = multiply_ok (normal p) (normal q) ∙ ap₂ ◌*ℤ◌ (normal_ok p) (normal_ok q)
  normal_ok (minus p) = negate_ok (normal p) ∙ ap neg_ℤ (normal_ok p)
  normal_ok (nplus p q) = add_ok (normal p) (normal q) ∙ ap₂ ◌+ℤ◌ (normal_ok p) (normal_ok q)
  normal_ok (ntimes p q) = multiply_ok (normal p) (normal q) ∙ ap₂ ◌*ℤ◌ (normal_ok p) (normal_ok q)

-- ---- the solver

pub sub_zero : (x y : ℤ) → x -ℤ y ≡ pos zero → x ≡ y
sub_zero x y h = sym (+ℤ_idr x) ∙ ap (λ (t : ℤ). x +ℤ t) (sym (+ℤ_invl y)) ∙ sym (+ℤ_assoc x (neg_ℤ y) y) ∙ ap (λ (t : ℤ). t +ℤ y) h ∙ +ℤ_idl y

pub ring : (Γ : List ℤ) {x y : ℤ} (e : Sides Γ x y) → T (agree e) → x ≡ y
ring Γ (sides {x = x} {y = y} p q) t = sub_zero x y
    (sym (ap₂ ◌+ℤ◌ (normal_ok Γ p) (negate_ok Γ (normal q) ∙ ap neg_ℤ (normal_ok Γ q))) ∙ sym (add_ok Γ (normal p) (negate (normal q)))
    ∙ vanishes_ok Γ (add (normal p) (negate (normal q))) t)
