-- A residue is congruent to its number, and congruent numbers have one residue; the centred number is the one that is small enough.
use mathlib.Core.Path.{◌≡◌, refl, sym, ◌∙◌, ap}
use mathlib.Core.Bool.{Bool, true, false, cond}
use mathlib.Core.List.{[], ◌∷◌}
use Prim.Native.Nat.{ℕ, zero, suc, ◌+◌, ◌*◌, ◌-◌, ◌/◌, ◌%◌, ◌^◌, ◌<◌}
use native.Mathlib.Nat.{mod-lt, div-add-mod'}
use native.Mathlib.Omega.{arith}
use lib.Dec.{T, ltb, ltb→lt, lt→ltb, nltb→le}
use lib.IntN.{ℤ, pos, negsuc, neg_ℤ, nat_abs, ◌+ℤ◌, ◌-ℤ◌, ◌*ℤ◌}
use Rattle.ints.proofs.Ring.{ring, quotes, sub_zero}
use Rattle.ints.proofs.Abs.{abs_fact, abs_times, abs_zero}
use Rattle.ints.proofs.Order.{pos_inj}
use Rattle.residues.specs.Residue.{MODULUS, residue, centred}
use Rattle.residues.proofs.Congruent.{M, ◌≈◌, ◌⊙◌, ≈-refl, ≈-sym, difference, lin₁, lin₂}

-- ---- a residue and its number

pub residue-lt : (z : ℤ) → residue z < MODULUS
unfolding residue
residue-lt (pos n) = mod-lt n (omega arith)
residue-lt (negsuc n) = omega arith

up : (n q r m : ℕ) → q * m + r ≡ n → pos r ≡ pos n +ℤ neg_ℤ (pos q) *ℤ pos m
up n q r m e = out ∙ ap (λ (k : ℕ). pos k +ℤ neg_ℤ (pos q) *ℤ pos m) e
  where
    out : pos r ≡ pos (q * m + r) +ℤ neg_ℤ (pos q) *ℤ pos m
    out = ring (pos r ∷ pos q ∷ pos m ∷ []) (search quotes depth 40) tt

down : (n q r e m : ℕ) → q * m + r ≡ n → e + suc r ≡ m → pos e ≡ neg_ℤ (pos (suc n)) +ℤ pos (1 + q) *ℤ pos m
down n q r e m h k = out (pos e) (pos (suc r)) ∙ ap (λ (i : ℕ). pos i -ℤ pos (suc r)) k ∙ in_turn_lem (pos m) (pos q) (pos (suc r)) ∙ ap (λ (i : ℕ). neg_ℤ (pos i) +ℤ pos (1 + q) *ℤ pos m) next
  where
    out : (a b : ℤ) → a ≡ (a +ℤ b) -ℤ b
    out a b = ring (a ∷ b ∷ []) (search quotes depth 40) tt

    in_turn_lem : (m q r : ℤ) → m -ℤ r ≡ neg_ℤ (q *ℤ m +ℤ r) +ℤ (pos 1 +ℤ q) *ℤ m
    in_turn_lem m q r = ring (m ∷ q ∷ r ∷ []) (search quotes depth 40) tt

    next : q * m + suc r ≡ suc n
    next = omega (arith, h)

pub residue_≈ : (z : ℤ) → pos (residue z) ≈ z
unfolding residue M
residue_≈ (pos n) = record { times = neg_ℤ (pos (n / MODULUS)); apart = up n (n / MODULUS) (n % MODULUS) MODULUS (div-add-mod' n MODULUS) }
residue_≈ (negsuc n) = record { times = pos (1 + n / MODULUS); apart = down n (n / MODULUS) (n % MODULUS) (MODULUS - suc (n % MODULUS)) MODULUS (div-add-mod' n MODULUS) (omega arith) }

-- ---- congruent and less than the modulus apart: equal

multiple : (k : ℕ) → k * MODULUS < MODULUS → k ≡ 0
multiple zero h = refl
multiple (suc k) h = absurd (omega arith)

pub same_≈ : {a b : ℤ} → a ≈ b → nat_abs (a -ℤ b) < MODULUS → a ≡ b
unfolding M
same_≈ {a} {b} h small = sub_zero a b (abs_zero (a -ℤ b) (omega (arith, size, multiple (nat_abs h.times) (omega (arith, size)))))
  where
    size : nat_abs (a -ℤ b) ≡ nat_abs h.times * MODULUS
    size = ap nat_abs (difference h) ∙ abs_times h.times (pos MODULUS)

pub residue_unique : (r : ℕ) (z : ℤ) → r < MODULUS → pos r ≈ z → residue z ≡ r
residue_unique r z h e = pos_inj (same_≈ (residue_≈ z ⊙ ≈-sym e) (close (residue z) r (residue-lt z) h))
  where
    close : (a b : ℕ) → a < MODULUS → b < MODULUS → nat_abs (pos a -ℤ pos b) < MODULUS
    close a b h k = let Γ = pos a ∷ pos b ∷ [] in omega (arith, abs_fact Γ (pos a -ℤ pos b) (search quotes))

pub same-residue : {a b : ℤ} → a ≈ b → residue a ≡ residue b
same-residue {a} {b} h = residue_unique (residue b) a (residue-lt b) (residue_≈ b ⊙ ≈-sym h)

pub same_number : (m n : ℕ) → m < MODULUS → n < MODULUS → pos m ≈ pos n → m ≡ n
same_number m n h k e = sym (residue_unique m (pos n) h e) ∙ residue_unique n (pos n) k ≈-refl

pub of_residues : {a b : ℤ} → residue a ≡ residue b → a ≈ b
of_residues {a} {b} e = ≈-sym (residue_≈ a) ⊙ rw e (residue_≈ b)

-- ---- the centred number

pub shifted : (x : ℤ) → x -ℤ pos MODULUS ≈ x
unfolding M
shifted x = record { times = neg_ℤ (pos 1); apart = ring (x ∷ pos MODULUS ∷ []) (search quotes) tt }

pub is-centred : (r : ℕ) (y : ℤ) → r < MODULUS → nat_abs y < 2 ^ 30 → pos r ≈ y → centred r ≡ y
unfolding centred
is-centred r y h small e = go (ltb r (2 ^ 30)) (ltb→lt r (2 ^ 30)) (lt→ltb r (2 ^ 30))
  where
    near : (r : ℕ) → r < 2 ^ 30 → nat_abs (pos r -ℤ y) < MODULUS
    near r h = let Γ = pos r ∷ y ∷ [] in omega (arith, abs_fact Γ (pos r -ℤ y) (search quotes), abs_fact Γ y (search quotes))

    far : (r : ℕ) → r < MODULUS → ¬ (r < 2 ^ 30) → nat_abs (pos r -ℤ pos MODULUS -ℤ y) < MODULUS
    far r h k = let Γ = pos r ∷ y ∷ [] in omega (arith, abs_fact Γ (pos r -ℤ pos MODULUS -ℤ y) (search quotes depth 40), abs_fact Γ y (search quotes))

    go : (b : Bool) → (T b → r < 2 ^ 30) → (r < 2 ^ 30 → T b) → cond b (pos r) (pos r -ℤ pos MODULUS) ≡ y
    go true f g = same_≈ e (near r (f tt))
    go false f g = same_≈ (shifted (pos r) ⊙ e) (far r h g)

-- it has residue r, and is small
module _ (r : ℕ) (h : r < MODULUS) where
  low_small : ltb r (2 ^ 30) ≡ true → nat_abs (pos r) < 2 ^ 30
  low_small e = ltb→lt r (2 ^ 30) (rw e tt)

  high_small : ltb r (2 ^ 30) ≡ false → nat_abs (pos r -ℤ pos MODULUS) < 2 ^ 30
  high_small e = let Γ = pos r ∷ [] in omega (arith, nltb→le r (2 ^ 30) (rw e tt), abs_fact Γ (pos r -ℤ pos MODULUS) (search quotes))

  pub centred-small : nat_abs (centred r) < 2 ^ 30
  unfolding centred
  centred-small = go (ltb r (2 ^ 30)) refl
    where
      go : (b : Bool) → ltb r (2 ^ 30) ≡ b → nat_abs (cond b (pos r) (pos r -ℤ pos MODULUS)) < 2 ^ 30
      go true e = low_small e
      go false e = high_small e

pub centred_≈ : (r : ℕ) → centred r ≈ pos r
unfolding centred
centred_≈ r = go (ltb r (2 ^ 30))
  where
    go : (b : Bool) → cond b (pos r) (pos r -ℤ pos MODULUS) ≈ pos r
    go true = ≈-refl
    go false = shifted (pos r)

-- ---- halves: 2^31 is 1, so 2^30 is a half, and twice a number is 0 only for 0

pub power_31 : pos (2 ^ 31) ≈ pos 1
unfolding M
power_31 = record { times = pos 1; apart = refl }

pub double_zero : {z : ℤ} → z +ℤ z ≈ pos 0 → z ≈ pos 0
double_zero {z} h = lin₂ (pos (2 ^ 30)) h (neg_ℤ z) power_31 (ring (z ∷ []) (search quotes depth 40) tt)

pub half_of_double : (z : ℤ) → (z +ℤ z) *ℤ pos (2 ^ 30) ≈ z
half_of_double z = lin₁ z power_31 (ring (z ∷ []) (search quotes depth 40) tt)
