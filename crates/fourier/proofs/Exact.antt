-- A whole number below 2^53 in size, over a power of two, is an f64 exactly, and the machine's division finds it.
-- Example: `(exactly (negsuc 9) 4 small (record { exponent = 2; few = omega arith; is = refl })).value` says that the f64 nearest to -10 / 4 is -10 / 4.
use mathlib.Core.Path.{◌≡◌, refl, sym, ap, ◌∙◌, subst}
use mathlib.Core.Bool.{Bool, true, false, not, true≢false}
use Prim.Native.Nat.{ℕ, suc, ◌+◌, ◌-◌, ◌*◌, ◌^◌, ◌<◌, ◌≤◌}
use native.Mathlib.Nat.{lt_irrefl, le_of_lt, lt_of_lt_of_le, mul_assoc, mul_comm, mul-one, zero-mul, mul-pos, zero-lt-suc}
use native.Mathlib.Omega.{arith}
use lib.IntN.{ℤ, pos, negsuc, nat_abs}
use lib.Dec.{T, eqb, eqb→eq, not_T, le→leb, lt→ltb}
use lib.Pow.{pow-add, pow_pos, pow_mono, shl_lt}
use lib.Ieee.{Float, nan, inf, fin, Format, binary64, up, down, unlike, of_int, in_float, mul, div, round}
use lib.Ieee.Fits.{down_pos}
use lib.Ieee.Bits.{cond_no}
use lib.Ieee.Back.{round_whole}
use lib.Ieee.Scale.{round_same}
use lib.Ieee.Exact.{HasValue, round_exact}
use Rattle.fourier.specs.Scaled.{negative, quotient, Exactly}
use Rattle.fourier.specs.Inner.{PowerOfTwo}

-- ---- fractions: where A / E is a and B / D is n, the quotient is a / n (`over`); where A / E is a / n and B / D is n, the product is a (`times`)

over : (A B a n E D : ℕ) → A * 1 ≡ a * E → B * 1 ≡ n * D → A * D * n ≡ a * (B * E)
over A B a n E D p q =
    ap (λ (x : ℕ). x * D * n) (sym (mul-one A) ∙ p)
    ∙ mul_assoc (a * E) D n
    ∙ mul_assoc a E (D * n)
    ∙ ap (λ (x : ℕ). a * (E * x)) (mul_comm D n)
    ∙ ap (λ (x : ℕ). a * x) (mul_comm E (n * D))
    ∙ ap (λ (x : ℕ). a * (x * E)) (sym q ∙ mul-one B)

times : (A B a n E D : ℕ) → A * n ≡ a * E → B * 1 ≡ n * D → A * B * 1 ≡ a * (E * D)
times A B a n E D p q =
    mul-one (A * B)
    ∙ ap (λ (x : ℕ). A * x) (sym (mul-one B) ∙ q)
    ∙ sym (mul_assoc A n D)
    ∙ ap (λ (x : ℕ). x * D) p
    ∙ mul_assoc a E D

-- ---- a quotient and a product of floats, by the values of the two; the second is not negative

same_sign : (t u s : Bool) → t ≡ s → u ≡ false → unlike t u ≡ s
same_sign true u s p q = ap (unlike true) q ∙ p
same_sign false u s p q = ap (unlike false) q ∙ p

not_zero : (m u n D : ℕ) → 0 < n → 0 < D → m * u * 1 ≡ n * D → T (not (eqb m 0))
not_zero m u n D p q h = not_T (eqb m 0) (λ t. lt_irrefl 0 (subst (λ (x : ℕ). 0 < x) (sym h ∙ zero t) (mul-pos p q)))
  where
    zero : T (eqb m 0) → m * u * 1 ≡ 0
    zero t = ap (λ (y : ℕ). y * u * 1) (eqb→eq m 0 t) ∙ ap (λ (y : ℕ). y * 1) (zero-mul u) ∙ zero-mul 1

div_at : (f : Format) (x y : Float) (s : Bool) (a n : ℕ) → 0 < n → HasValue x s a 1 → HasValue y false n 1 → div f x y ≡ round f s a n
unfolding div
div_at f nan y s a n p v w = absurd v
div_at f (inf t) y s a n p v w = absurd v
div_at f (fin t m e) nan s a n p v w = absurd w
div_at f (fin t m e) (inf u) s a n p v w = absurd w
div_at f (fin t m e) (fin u k d) s a n p v w =
    let num = m * up e * down d in
    let den = k * up d * down e in
    let k-pos : 0 < k * up d = subst (λ (x : ℕ). 0 < x) (sym w.1 ∙ mul-one (k * up d)) (mul-pos p (down_pos d)) in
    cond_no (eqb k 0) _ _ (not_zero k (up d) n (down d) p (down_pos d) w.1)
    ∙ ap (λ (b : Bool). round f b num den) (same_sign t u s v.0 w.0)
    ∙ round_same f s num den a n (mul-pos k-pos (down_pos e)) p (over (m * up e) (k * up d) a n (down e) (down d) v.1 w.1)

mul_at : (f : Format) (x y : Float) (s : Bool) (a n : ℕ) → HasValue x s a n → HasValue y false n 1 → mul f x y ≡ round f s a 1
unfolding mul
mul_at f nan y s a n v w = absurd v
mul_at f (inf t) y s a n v w = absurd v
mul_at f (fin t m e) nan s a n v w = absurd w
mul_at f (fin t m e) (inf u) s a n v w = absurd w
mul_at f (fin t m e) (fin u k d) s a n v w =
    let num = m * up e * (k * up d) in
    let den = down e * down d in
    ap (λ (b : Bool). round f b num den) (same_sign t u s v.0 w.0)
    ∙ round_same f s num den a 1 (mul-pos (down_pos e) (down_pos d)) (zero-lt-suc 0) (times (m * up e) (k * up d) a n (down e) (down d) v.1 w.1)

-- ---- a whole number as a float

whole-value : (h : ℤ) → nat_abs h ≤ 2 ^ 53 → HasValue (of_int binary64 h) (negative h) (nat_abs h) 1
unfolding of_int
whole-value (pos n) p = round_whole binary64 false n p
whole-value (negsuc n) p = round_whole binary64 true (suc n) p

whole_is : (h : ℤ) → quotient h 1 ≡ of_int binary64 h
unfolding of_int
whole_is (pos n) = refl
whole_is (negsuc n) = refl

pub in_float_lem : (h : ℤ) → nat_abs h ≤ 2 ^ 53 → T (in_float binary64 h)
unfolding in_float
in_float_lem (pos n) p = le→leb n (2 ^ 53) p
in_float_lem (negsuc n) p = lt→ltb n (2 ^ 53) p

pub power_small : (most n : ℕ) → PowerOfTwo most n → n ≤ 2 ^ most
power_small most n p = subst (λ (x : ℕ). x ≤ 2 ^ most) (sym p.is) (pow_mono p.few)

-- ---- nothing is rounded: the smallest f64 is 2^−1074, and a / 2^k is a × 2^(1074 − k) of it

room : (k : ℕ) → 53 + (1074 - k) ≤ 2098
room k = omega arith

refill : (k : ℕ) → k ≤ 53 → (1074 - k) + k ≡ 1074
refill k h = omega arith

over_power : (s : Bool) (a k : ℕ) → a < 2 ^ 53 → k ≤ 53 → HasValue (round binary64 s a (2 ^ k)) s a (2 ^ k)
over_power s a k small few =
    round_exact binary64 s a (2 ^ k) a (1074 - k) (pow_pos k) small (lt_of_lt_of_le (shl_lt 53 (1074 - k) small) (pow_mono (room k)))
    (ap (λ (x : ℕ). a * 2 ^ x) (sym (refill k few)) ∙ ap (λ (x : ℕ). a * x) (pow-add 2 (1074 - k) k) ∙ sym (mul_assoc a (2 ^ (1074 - k)) (2 ^ k)))

-- ---- the quotient

no_minus : (h : ℤ) (n : ℕ) (r : Float) → HasValue r (negative h) (nat_abs h) n → (e : ℤ) → r ≡ fin true 0 e → ⊥
no_minus h n r v e p = go h (subst (λ (x : Float). HasValue x (negative h) (nat_abs h) n) p v)
  where
    go : (h : ℤ) → HasValue (fin true 0 e) (negative h) (nat_abs h) n → ⊥
    go (pos a) v = true≢false v.0
    go (negsuc a) v = lt_irrefl 0 (subst (λ (x : ℕ). 0 < x) (sym v.1 ∙ ap (λ (y : ℕ). y * n) (zero-mul (up e)) ∙ zero-mul n) (mul-pos (zero-lt-suc a) (down_pos e)))

module _ (h : ℤ) (n : ℕ) (small : nat_abs h < 2 ^ 53) (p : PowerOfTwo 53 n) where
  n_pos : 0 < n
  n_pos = subst (λ (x : ℕ). 0 < x) (sym p.is) (pow_pos p.exponent)

  n_value : HasValue (of_int binary64 (pos n)) false n 1
  n_value = whole-value (pos n) (power_small 53 n p)

  pub division_is : div binary64 (of_int binary64 h) (of_int binary64 (pos n)) ≡ quotient h n
  division_is = div_at binary64 (of_int binary64 h) (of_int binary64 (pos n)) (negative h) (nat_abs h) n n_pos (whole-value h (le_of_lt small)) n_value

  quotient-value : HasValue (quotient h n) (negative h) (nat_abs h) n
  quotient-value = subst (λ (x : ℕ). HasValue (quotient h x) (negative h) (nat_abs h) x) (sym p.is) (over_power (negative h) (nat_abs h) p.exponent small p.few)

  product_is : mul binary64 (quotient h n) (of_int binary64 (pos n)) ≡ of_int binary64 h
  product_is = mul_at binary64 (quotient h n) (of_int binary64 (pos n)) (negative h) (nat_abs h) n quotient-value n_value ∙ whole_is h

  pub exactly : Exactly h n (quotient h n)
  exactly = record {
    value = quotient-value;
    back = subst (λ (x : Float). HasValue x (negative h) (nat_abs h) 1) (sym product_is) (whole-value h (le_of_lt small));
    no_minus_zero = no_minus h n (quotient h n) quotient-value;
  }
