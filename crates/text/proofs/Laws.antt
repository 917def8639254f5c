-- The digits of a number, and how many there are.
-- Example: `decimal-length 2 42 h l : length (decimal 42) ≤ 2`, with h : 1 ≤ 2 and l : 42 < 10 ^ 2.
use mathlib.Core.Path.{◌≡◌, refl, ◌∙◌, ap}
use mathlib.Core.Bool.{Bool, true, false, cond}
use mathlib.Core.List.{List, [], ◌∷◌, ◌++◌}
use mathlib.Core.Logic.{◌⊎◌, inl, inr, ⊎_elim}
use Prim.Native.Nat.{ℕ, zero, suc, ◌+◌, ◌/◌, ◌%◌, ◌^◌, ◌≤◌, ◌<◌}
use native.Mathlib.Nat.{one-le-pow, pow-suc}
use native.Mathlib.Omega.{arith}
use borrow.Author.Tests.{lt-ltb, le-ltb, ltb-true, ltb-false}
use lib.Dec.{ltb}
use lib.IntN.{ℤ, pos, negsuc, nat_abs}
use lib.ListN.{length, length-append}
use lib.Signed.{le_z}
use Rattle.std.proofs.lemmas.Int.{ints}
use Rattle.text.specs.Decimals.{MINUS, decimal, digit, digits, signed_decimal}

-- ---- one digit alone, or more

one_or_more : (n : ℕ) → (n < 10) ⊎ (10 ≤ n)
one_or_more n = go (ltb n 10) refl
  where
    go : (t : Bool) → ltb n 10 ≡ t → (n < 10) ⊎ (10 ≤ n)
    go true e = inl (ltb-true n 10 e)
    go false e = inr (ltb-false n 10 e)

-- ---- the bound `most` of the definition is never met

same_text : (n : ℕ) (xs ys : List ℕ) → (10 ≤ n → xs ≡ ys) → (cond (ltb n 10) [] xs) ++ (digit (n % 10) ∷ []) ≡ (cond (ltb n 10) [] ys) ++ (digit (n % 10) ∷ [])
same_text n xs ys e = ⊎_elim (λ h. rw (lt-ltb n 10 h) refl) (λ h. rw (le-ltb n 10 h, e h) refl) (one_or_more n)

same_digits : (m k n : ℕ) → n < m → n < k → digits m n ≡ digits k n
unfolding digits
same_digits zero k n h l = absurd (omega arith)
same_digits (suc m) zero n h l = absurd (omega arith)
same_digits (suc m) (suc k) n h l = same_text n (digits m (n / 10)) (digits k (n / 10)) (λ t. same_digits m k (n / 10) (omega arith) (omega arith))

-- the digits of n but for the last: those of n / 10, unless n has one alone
abbrev pub front_digits : ℕ → List ℕ
front_digits n = cond (ltb n 10) [] (decimal (n / 10))

pub front_digits-are : (n : ℕ) → 1 ≤ length (front_digits n) → front_digits n ≡ decimal (n / 10)
front_digits-are n h = ⊎_elim (λ t. absurd (omega (arith, rw (lt-ltb n 10 t) at h))) (λ t. rw (le-ltb n 10 t) refl) (one_or_more n)

-- every number's text is that of n / 10, unless n has one digit alone, and then its last digit
pub decimal-is : (n : ℕ) → decimal n ≡ front_digits n ++ (digit (n % 10) ∷ [])
unfolding decimal digits
decimal-is n = same_text n (digits n (n / 10)) (decimal (n / 10)) (λ t. same_digits n (suc (n / 10)) (n / 10) (omega arith) (omega arith))

pub decimal_one : (n : ℕ) → n < 10 → decimal n ≡ digit (n % 10) ∷ []
decimal_one n h = decimal-is n ∙ rw (lt-ltb n 10 h) refl

pub decimal_more : (n : ℕ) → 10 ≤ n → decimal n ≡ decimal (n / 10) ++ (digit (n % 10) ∷ [])
decimal_more n h = decimal-is n ∙ rw (le-ltb n 10 h) refl

-- ---- how many digits

pub length_one : (n : ℕ) → n < 10 → length (decimal n) ≡ 1
length_one n h = ap length (decimal_one n h)

pub length_more : (n : ℕ) → 10 ≤ n → length (decimal n) ≡ length (decimal (n / 10)) + 1
length_more n h = ap length (decimal_more n h) ∙ length-append (decimal (n / 10)) (digit (n % 10) ∷ [])

pub decimal-some : (n : ℕ) → 1 ≤ length (decimal n)
decimal-some n = ⊎_elim (λ h. omega (arith, length_one n h)) (λ h. omega (arith, length_more n h)) (one_or_more n)

-- at most d below 10^d
pub decimal-length : (d n : ℕ) → 1 ≤ d → n < 10 ^ d → length (decimal n) ≤ d
decimal-length zero n h l = absurd (omega arith)
decimal-length (suc zero) n h l = omega (arith, length_one n l)
decimal-length (suc (suc d)) n h l = let fewer = decimal-length (suc d) (n / 10) (omega arith) (omega (arith, pow-suc 10 (suc d))) in
    ⊎_elim (λ t. omega (arith, length_one n t)) (λ t. omega (arith, length_more n t)) (one_or_more n)

pub word_length : (n : ℕ) → n < 2 ^ 64 → length (decimal n) ≤ 20
word_length n h = decimal-length 20 n (omega arith) (omega arith)

-- more than d from 10^d on
pub decimal_longer : (d n : ℕ) → 10 ^ d ≤ n → d < length (decimal n)
decimal_longer zero n h = decimal-some n
decimal_longer (suc d) n h = let tens = pow-suc 10 d in let fewer = decimal_longer d (n / 10) (omega arith) in
    omega (arith, length_more n (omega (arith, one-le-pow d 10 (omega arith))))

-- ---- the sign

pub signed_below : (z : ℤ) → le_z (pos 0) z ≡ false → MINUS ∷ decimal (nat_abs z) ≡ signed_decimal z
unfolding signed_decimal
signed_below (pos n) h = grind (arith, ints)
signed_below (negsuc n) h = refl

pub signed-from_zero : (z : ℤ) → le_z (pos 0) z ≡ true → decimal (nat_abs z) ≡ signed_decimal z
unfolding signed_decimal
signed-from_zero (pos n) h = refl
signed-from_zero (negsuc n) h = grind (arith, ints)

pub signed_natural : (n : ℕ) → signed_decimal (pos n) ≡ decimal n
unfolding signed_decimal
signed_natural n = refl

-- one byte more for the sign
pub signed-length : (d : ℕ) (z : ℤ) → 1 ≤ d → nat_abs z < 10 ^ d → length (signed_decimal z) ≤ d + 1
unfolding signed_decimal
signed-length d (pos n) h l = omega (arith, decimal-length d n h l)
signed-length d (negsuc n) h l = omega (arith, decimal-length d (suc n) h l)
