-- The rounded quotient. Example: `rounded 2 (pos 7)` is 4, since 3.5 goes away from zero, and `rounded 2 (neg_ℤ (pos 7))` is −4.
use Rattle.std.specs.Prelude.{◌≡◌, ℕ, suc, ◌+◌, ◌/◌, ◌^◌, ◌≤◌, ℤ, pos, negsuc, neg_ℤ}

-- a size n divided by d, to the nearest, halves up: (n + d/2) / d, rounded down
abbrev pub rounded_size : ℕ → ℕ → ℕ
rounded_size d n = (n + d / 2) / d

-- Document 01, Levels 3, where d is 32,768, and the division of the backward spectrum, where d is N. Document 02, Item 1: halves go away from
-- zero. So the size of x is rounded, halves up, and x keeps its sign. `negsuc n` is −(n + 1).
unfoldable pub rounded : ℕ → ℤ → ℤ
rounded d (pos n) = pos (rounded_size d n)
rounded d (negsuc n) = neg_ℤ (pos (rounded_size d (suc n)))

-- half of 2^s, as it is lent to the function that rounds
pub record Halved (s : ℕ) (half : ℤ) : Type 0 where
  pub least : 1 ≤ s
  pub most : s ≤ 62
  pub is : half ≡ pos (2 ^ s / 2)
