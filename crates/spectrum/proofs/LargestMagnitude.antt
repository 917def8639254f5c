-- M is the magnitude of a cell of the block, and no cell has a larger one: so it is the least number that bounds every cell.
-- Example: `within-largest xs t : nat_abs (cell xs t) ≤ largest_magnitude xs`.
use mathlib.Core.Path.{◌≡◌}
use mathlib.Core.Bool.{Bool, true, false, not}
use mathlib.Core.List.{List, [], ◌∷◌}
use Prim.Native.Nat.{ℕ, zero, suc, ◌≤◌, ◌<◌}
use native.Mathlib.Omega.{arith}
use lib.Dec.{T, ltb, ltb→lt, nltb→le}
use lib.IntN.{ℤ, nat_abs}
use lib.ListN.{length}
use Rattle.ints.specs.Cells.{cell}
use Rattle.spectrum.specs.Distance.{largest_magnitude}

-- every cell, and 0 past the last
pub within-largest : (xs : List ℤ) (i : ℕ) → nat_abs (cell xs i) ≤ largest_magnitude xs
unfolding largest_magnitude
within-largest [] i = omega arith
within-largest (x ∷ xs) zero = omega arith
within-largest (x ∷ xs) (suc i) = omega (arith, within-largest xs i)

-- what bounds every cell bounds M
pub largest-least : (m : ℕ) (xs : List ℤ) → ((i : ℕ) → nat_abs (cell xs i) ≤ m) → largest_magnitude xs ≤ m
unfolding largest_magnitude
largest-least m [] h = omega arith
largest-least m (x ∷ xs) h = omega (arith, h 0, largest-least m xs (λ i. h (suc i)))

-- ---- a cell that has it

pub record Loudest (xs : List ℤ) (i : ℕ) : Type 0 where
  pub within : i < length xs
  pub is : nat_abs (cell xs i) ≡ largest_magnitude xs

module _ (x : ℤ) (xs : List ℤ) where
  here : largest_magnitude xs ≤ nat_abs x → Loudest (x ∷ xs) 0
  unfolding largest_magnitude
  here h = record { within = omega arith; is = omega arith }

  there : nat_abs x ≤ largest_magnitude xs → (i : ℕ) → Loudest xs i → Loudest (x ∷ xs) (suc i)
  unfolding largest_magnitude
  there h i l = record { within = omega (arith, l.within); is = omega (arith, l.is) }

-- the first cell or, by the loudest of the others, one of these
which : (x : ℤ) (xs : List ℤ) → (i : ℕ) × Loudest xs i → (t : Bool) → (T t → largest_magnitude xs < nat_abs x) → (T (not t) → nat_abs x ≤ largest_magnitude xs) → (i : ℕ) × Loudest (x ∷ xs) i
which x xs l true f g = (0, here x xs (omega (arith, f tt)))
which x xs l false f g = (suc l.0, there x xs (g tt) l.0 l.1)

pub loudest : (x : ℤ) (xs : List ℤ) → (i : ℕ) × Loudest (x ∷ xs) i
unfolding largest_magnitude
loudest x [] = (0, here x [] (omega arith))
loudest x (y ∷ ys) = which x (y ∷ ys) (loudest y ys) (ltb (largest_magnitude (y ∷ ys)) (nat_abs x)) (ltb→lt _ _) (nltb→le _ _)
