-- Document 01, Listing program: numbers are decimal. As ASCII, the highest digit first.
-- Example: `signed_decimal (negsuc 41)` is `-42`, the bytes 45, 52 and 50.
use Rattle.std.specs.Prelude.{◌≡◌, cond, List, [], ◌∷◌, ◌++◌, ℕ, zero, suc, ◌+◌, ◌/◌, ◌%◌, ltb, ℤ, pos, negsuc, length}
use Rattle.ints.specs.Written.{written}

abbrev pub MINUS : ℕ
MINUS = 45

-- the digit d, 0 to 9
abbrev pub digit : ℕ → ℕ
digit d = 48 + d

-- the digits of n: those of n / 10, unless n has one alone, and then the last. There are at most `most`, and none is ever cut off (law `decimal-is`)
unfoldable pub digits : ℕ → ℕ → List ℕ
digits zero n = []
digits (suc most) n = let before = digits most (n / 10) in (cond (ltb n 10) [] before) ++ (digit (n % 10) ∷ [])

unfoldable pub decimal : ℕ → List ℕ
unfolding digits
decimal n = digits (suc n) n

-- a minus sign in front of a negative number; `negsuc n` is −(n + 1)
unfoldable pub signed_decimal : ℤ → List ℕ
unfolding decimal
signed_decimal (pos n) = decimal n
signed_decimal (negsuc n) = MINUS ∷ decimal (suc n)

-- a number was put as text at a place of the lent bytes, with the byte that comes after it, and ends before another place
pub record PutField (field : List ℕ) (next : ℕ) (before : List ℕ) (at : ℕ) (after : List ℕ) (end : ℕ) : Type 0 where
  pub ends : end ≡ at + length field + 1
  pub bytes : after ≡ written before at (field ++ (next ∷ []))
