-- A list with another written into it from a place on. Example: `written (a ∷ b ∷ c ∷ []) 1 (x ∷ [])` is a ∷ x ∷ c ∷ [].
use Rattle.std.specs.Prelude.{◌≡◌, List, ◌++◌, ℕ, ◌+◌, length, take, drop}

unfoldable pub written : {A : Type 0} → List A → ℕ → List A → List A
written xs at ys = take at xs ++ (ys ++ drop (at + length ys) xs)

-- bytes, or a text, were put at a place of the lent ones, and end before another
pub record Put (text before : List ℕ) (at : ℕ) (after : List ℕ) (end : ℕ) : Type 0 where
  pub ends : end ≡ at + length text
  pub bytes : after ≡ written before at text
