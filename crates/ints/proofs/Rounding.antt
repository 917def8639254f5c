-- The rounded quotient. What later layers use of it is that it is near and odd, and of any rounding that is near, that it is exact at the multiples.
-- Example: `rounded_near 16384 (lit< tt) x : nat_abs (pos 32768 *ℤ rounded 32768 x -ℤ x) ≤ 16384`.
use mathlib.Core.Path.{◌≡◌, refl, sym, ◌∙◌, ap}
use mathlib.Core.Bool.{Bool, true, false, not}
use mathlib.Core.List.{[], ◌∷◌}
use Prim.Native.Nat.{ℕ, zero, suc, ◌+◌, ◌-◌, ◌*◌, ◌/◌, ◌%◌, ◌≤◌, ◌<◌}
use native.Mathlib.Nat.{mod-lt, div-add-mod, mul-le-mul_left, div-lt_iff_lt-mul, add-div_right, div-eq_of_lt, div-eq_of_eq-mul_right}
use native.Mathlib.Omega.{arith}
use lib.Dec.{T, ltb, ltb→lt, nltb→le}
use lib.IntN.{ℤ, pos, negsuc, neg_ℤ, nat_abs, neg_ℤ-neg_ℤ, ◌+ℤ◌, ◌-ℤ◌, ◌*ℤ◌}
use lib.Signed.{shr_z}
use Rattle.ints.specs.Quotient.{rounded, rounded_size}
use Rattle.ints.proofs.Ring.{ring, quotes, sub_zero}
use Rattle.ints.proofs.Order.{eq_goal}
use Rattle.ints.proofs.Abs.{abs_fact, abs_minus, abs_neg, abs_times, abs_zero}

-- half of 2 h is h
pub by_half : (h n : ℕ) → rounded_size (2 * h) n ≡ (n + h) / (2 * h)
by_half h n = ap (λ (k : ℕ). (n + k) / (2 * h)) (omega arith)

-- ---- near: the multiple of 2 h is at most h from x

pub size_near : (h : ℕ) → zero < h → (n : ℕ) → nat_abs (pos (2 * h) *ℤ pos ((n + h) / (2 * h)) -ℤ pos n) ≤ h
size_near h z n = off ((n + h) / (2 * h)) ((n + h) % (2 * h)) (mod-lt (n + h) (omega arith)) (div-add-mod (n + h) (2 * h))
  where
    off : (q r : ℕ) → r < 2 * h → 2 * h * q + r ≡ n + h → nat_abs (pos (2 * h) *ℤ pos q -ℤ pos n) ≤ h
    off q r k e = let Γ = pos h ∷ pos q ∷ pos n ∷ [] in omega (arith, abs_fact Γ (pos (2 * h) *ℤ pos q -ℤ pos n) (search quotes depth 40))

pub rounded_near : (h : ℕ) → zero < h → (x : ℤ) → nat_abs (pos (2 * h) *ℤ rounded (2 * h) x -ℤ x) ≤ h
unfolding rounded
rounded_near h z (pos n) = rw (by_half h n) (size_near h z n)
rounded_near h z (negsuc n) = rw (by_half h (suc n), over (pos ((suc n + h) / (2 * h))) (pos (suc n)), abs_neg) (size_near h z (suc n))
  where
    over : (q x : ℤ) → pos (2 * h) *ℤ neg_ℤ q -ℤ neg_ℤ x ≡ neg_ℤ (pos (2 * h) *ℤ q -ℤ x)
    over q x = ring (pos h ∷ q ∷ x ∷ []) (search quotes depth 40) tt

-- ---- no larger than x, and so 0 for 0

size_less : (d : ℕ) → zero < d → (n : ℕ) → rounded_size d n ≤ n
size_less d z n = omega (arith, (div-lt_iff_lt-mul {k = d} {x = n + d / 2} {y = n + 1} z).1 more)
  where
    more : n + d / 2 < (n + 1) * d
    more = omega (arith, mul-le-mul_left n z)

pub rounded-size : (d : ℕ) → zero < d → (x : ℤ) → nat_abs (rounded d x) ≤ nat_abs x
unfolding rounded
rounded-size d z (pos n) = size_less d z n
rounded-size d z (negsuc n) = rw abs_neg (size_less d z (suc n))

pub rounded_zero : (d : ℕ) → zero < d → rounded d (pos 0) ≡ pos 0
rounded_zero d z = abs_zero (rounded d (pos 0)) (rounded-size d z (pos 0))

-- ---- odd: the negative of x goes to the negative

pub rounded_odd : (d : ℕ) → zero < d → (x : ℤ) → rounded d (neg_ℤ x) ≡ neg_ℤ (rounded d x)
rounded_odd d z (pos zero) = rounded_zero d z ∙ sym (ap neg_ℤ (rounded_zero d z))
rounded_odd d z (pos (suc n)) = unfold rounded in refl
rounded_odd d z (negsuc n) = unfold rounded in sym (neg_ℤ-neg_ℤ (pos (rounded_size d (suc n))))

-- ---- the halves: k and a half goes to k + 1, and by `rounded_odd` −(k and a half) to −(k + 1)

pub rounded-half : (h : ℕ) → zero < h → (k : ℕ) → rounded (2 * h) (pos (2 * h * k + h)) ≡ pos (suc k)
unfolding rounded
rounded-half h z k = ap pos (by_half h (2 * h * k + h) ∙ div-eq_of_eq-mul_right {n = 2 * h} (omega arith) up)
  where
    up : 2 * h * k + h + h ≡ 2 * h * suc k
    up = omega arith

-- ---- and no other rounding is near and odd and sends the halves above zero up

module _ (h : ℕ) (some : zero < h) (R : ℤ → ℤ) (near : (x : ℤ) → nat_abs (pos (2 * h) *ℤ R x -ℤ x) ≤ h) (odd : (x : ℤ) → R (neg_ℤ x) ≡ neg_ℤ (R x)) (half : (k : ℕ) → R (pos (2 * h * k + h)) ≡ pos (suc k)) where
  -- a is h off at most and b less, so that less than 2 h lies between their multiples
  closer : (a b x : ℤ) → nat_abs (pos (2 * h) *ℤ a -ℤ x) ≤ h → nat_abs (pos (2 * h) *ℤ b -ℤ x) < h → a ≡ b
  closer a b x p q = sub_zero a b (abs_zero (a -ℤ b) (go (nat_abs (a -ℤ b)) (abs_times (a -ℤ b) (pos (2 * h)))))
    where
      apart : (a -ℤ b) *ℤ pos (2 * h) ≡ pos (2 * h) *ℤ a -ℤ x -ℤ (pos (2 * h) *ℤ b -ℤ x)
      apart = ring (a ∷ b ∷ x ∷ pos h ∷ []) (search quotes depth 60) tt

      less : nat_abs ((a -ℤ b) *ℤ pos (2 * h)) < 2 * h
      less = rw apart (omega (arith, abs_minus (pos (2 * h) *ℤ a -ℤ x) (pos (2 * h) *ℤ b -ℤ x)))

      never : (k : ℕ) → nat_abs ((a -ℤ b) *ℤ pos (2 * h)) ≡ suc k * (2 * h) → ⊥
      never k e = omega (arith, less)

      go : (k : ℕ) → nat_abs ((a -ℤ b) *ℤ pos (2 * h)) ≡ k * (2 * h) → k ≤ 0
      go zero e = omega arith
      go (suc k) e = absurd (never k e)

  above : (n : ℕ) → R (pos n) ≡ pos ((n + h) / (2 * h))
  above n = go ((n + h) / (2 * h)) ((n + h) % (2 * h)) (mod-lt (n + h) (omega arith)) (div-add-mod (n + h) (2 * h))
    where
      never : 2 * h * 0 + 0 ≡ n + h → ⊥
      never e = omega arith

      down : (k : ℕ) → 2 * h * suc k + 0 ≡ n + h → n ≡ 2 * h * k + h
      down k e = omega arith

      off : (q r : ℕ) → suc r < 2 * h → 2 * h * q + suc r ≡ n + h → nat_abs (pos (2 * h) *ℤ pos q -ℤ pos n) < h
      off q r l e = let Γ = pos h ∷ pos q ∷ pos n ∷ [] in omega (arith, abs_fact Γ (pos (2 * h) *ℤ pos q -ℤ pos n) (search quotes depth 40))

      go : (q r : ℕ) → r < 2 * h → 2 * h * q + r ≡ n + h → R (pos n) ≡ pos q
      go zero zero l e = absurd (never e)
      go (suc k) zero l e = ap (λ (m : ℕ). R (pos m)) (down k e) ∙ half k
      go q (suc r) l e = closer (R (pos n)) (pos q) (pos n) (near (pos n)) (off q r l e)

  pub no_other : (x : ℤ) → R x ≡ rounded (2 * h) x
  unfolding rounded
  no_other (pos n) = above n ∙ sym (ap pos (by_half h n))
  no_other (negsuc n) = odd (pos (suc n)) ∙ ap neg_ℤ (above (suc n) ∙ sym (ap pos (by_half h (suc n))))

-- ---- a rounding that is near is exact at the multiples

pub multiple_zero : (z : ℤ) (d : ℕ) → zero < d → 2 * nat_abs (z *ℤ pos d) ≤ d → z ≡ pos 0
multiple_zero z d k h = abs_zero z (go (nat_abs z) (abs_times z (pos d)))
  where
    never : (a : ℕ) → nat_abs (z *ℤ pos d) ≡ suc a * d → ⊥
    never a e = omega arith

    go : (a : ℕ) → nat_abs (z *ℤ pos d) ≡ a * d → a ≤ 0
    go zero e = omega arith
    go (suc a) e = absurd (never a e)

pub exact_of_near : (d : ℕ) (R : ℤ → ℤ) → zero < d → ((x : ℤ) → 2 * nat_abs (pos d *ℤ R x -ℤ x) ≤ d) → (y : ℤ) → R (y *ℤ pos d) ≡ y
exact_of_near d R k near y = sub_zero (R (y *ℤ pos d)) y (multiple_zero (R (y *ℤ pos d) -ℤ y) d k (rw out at (near (y *ℤ pos d))))
  where
    out : pos d *ℤ R (y *ℤ pos d) -ℤ y *ℤ pos d ≡ (R (y *ℤ pos d) -ℤ y) *ℤ pos d
    out = ring (R (y *ℤ pos d) ∷ y ∷ pos d ∷ []) (search quotes) tt

-- ---- by a quotient rounded down, which is what the machine's shift to the right gives: document 01's (x + h) / 2 h, with one less for a negative x

-- 1 for a negative x, and 0 for the others
abbrev pub below_zero : ℤ → ℤ
below_zero (pos n) = pos 0
below_zero (negsuc n) = pos 1

pub rounded_by_floor : (h : ℕ) → zero < h → (x : ℤ) → shr_z (x +ℤ pos h -ℤ below_zero x) (2 * h) ≡ rounded (2 * h) x
unfolding rounded
rounded_by_floor h z (pos n) = rw (by_half h n) (ap (λ (y : ℤ). shr_z y (2 * h)) same)
  where
    same : pos (n + h) -ℤ pos 0 ≡ pos (n + h)
    same = ring (pos (n + h) ∷ []) (search quotes) tt
rounded_by_floor h z (negsuc n) = rw (by_half h (suc n)) (go (ltb (suc n) h) (ltb→lt (suc n) h) (nltb→le (suc n) h))
  where
    -- −a + h − 1, where a is below h, and where it is not
    small : (a r : ℕ) → r + a + 1 ≡ h → neg_ℤ (pos a) +ℤ pos h -ℤ pos 1 ≡ pos r
    small a r e = let Γ = pos a ∷ pos h ∷ pos r ∷ [] in eq_goal Γ (search quotes depth 40) (omega arith)

    large : (a r : ℕ) → h + r ≡ a → neg_ℤ (pos a) +ℤ pos h -ℤ pos 1 ≡ neg_ℤ (pos (suc r))
    large a r e = let Γ = pos a ∷ pos h ∷ pos (suc r) ∷ [] in eq_goal Γ (search quotes depth 40) (omega arith)

    more : (r : ℕ) → suc (r / (2 * h)) ≡ (r + 2 * h) / (2 * h)
    more r = omega (arith, add-div_right r {k = 2 * h} (omega arith))

    go : (t : Bool) → (T t → suc n < h) → (T (not t) → h ≤ suc n) → shr_z (negsuc n +ℤ pos h -ℤ pos 1) (2 * h) ≡ neg_ℤ (pos ((suc n + h) / (2 * h)))
    go true near far = let k = near tt in ap (λ (y : ℤ). shr_z y (2 * h)) (small (suc n) (h - suc n - 1) (omega arith))
        ∙ ap pos (div-eq_of_lt {n = h - suc n - 1} {m = 2 * h} (omega arith)) ∙ sym (ap (λ (q : ℕ). neg_ℤ (pos q)) (div-eq_of_lt {n = suc n + h} {m = 2 * h} (omega arith)))
    go false near far = let k = far tt in let up : suc n - h + 2 * h ≡ suc n + h = omega arith in
        ap (λ (y : ℤ). shr_z y (2 * h)) (large (suc n) (suc n - h) (omega arith)) ∙ ap (λ (q : ℕ). neg_ℤ (pos q)) (more (suc n - h) ∙ ap (λ (m : ℕ). m / (2 * h)) up)
