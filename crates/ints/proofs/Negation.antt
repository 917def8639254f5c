-- Cells with every sign reversed. Example: `cell-negated xs 3 : cell (negated xs) 3 ≡ neg_ℤ (cell xs 3)`, also beyond the last cell.
use mathlib.Core.Path.{◌≡◌, refl, ap₂}
use mathlib.Core.List.{List, [], ◌∷◌, map}
use Prim.Native.Nat.{ℕ, zero, suc}
use lib.IntN.{ℤ, neg_ℤ}
use lib.ListN.{length, length-map}
use Rattle.ints.specs.Cells.{cell, negated}
use Rattle.ints.specs.Tabulate.{tabulate_from, tabulate}

pub cell-negated : (xs : List ℤ) (i : ℕ) → cell (negated xs) i ≡ neg_ℤ (cell xs i)
cell-negated [] i = refl
cell-negated (x ∷ xs) zero = refl
cell-negated (x ∷ xs) (suc i) = cell-negated xs i

pub length-negated : (xs : List ℤ) → length (negated xs) ≡ length xs
length-negated xs = length-map xs neg_ℤ

-- what is odd of each cell is so of the list
pub map-negated : (f : ℤ → ℤ) → ((x : ℤ) → f (neg_ℤ x) ≡ neg_ℤ (f x)) → (xs : List ℤ) → map f (negated xs) ≡ negated (map f xs)
map-negated f odd [] = refl
map-negated f odd (x ∷ xs) = ap₂ (λ (y : ℤ) (ys : List ℤ). y ∷ ys) (odd x) (map-negated f odd xs)

-- the values of f are the negatives of those of g
from-negated : (n i : ℕ) (f g : ℕ → ℤ) → ((j : ℕ) → f j ≡ neg_ℤ (g j)) → tabulate_from i n f ≡ negated (tabulate_from i n g)
unfolding tabulate_from
from-negated zero i f g h = refl
from-negated (suc n) i f g h = ap₂ (λ (y : ℤ) (ys : List ℤ). y ∷ ys) (h i) (from-negated n (suc i) f g h)

pub tabulate-negated : (n : ℕ) (f g : ℕ → ℤ) → ((j : ℕ) → f j ≡ neg_ℤ (g j)) → tabulate n f ≡ negated (tabulate n g)
unfolding tabulate
tabulate-negated n f g h = from-negated n 0 f g h
