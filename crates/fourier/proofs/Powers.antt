-- Powers: squares as natural and as whole numbers, and how powers stand in cells.
-- Example: `power_at xs 3 h : cell (in_cells (powers xs)) 3 ≡ pos (power xs 3)`, with h : 3 < length xs / 2 + 1.
use mathlib.Core.Path.{◌≡◌, refl, sym, ◌∙◌, ap, ap₂}
use mathlib.Core.List.{List, [], ◌∷◌}
use Prim.Native.Nat.{ℕ, zero, suc, ◌+◌, ◌/◌, ◌<◌}
use native.Mathlib.Omega.{arith}
use lib.IntN.{ℤ, pos, negsuc, ◌+ℤ◌, ◌*ℤ◌}
use lib.ListN.{length, get_or}
use lib.Seq.{ext_get_or}
use Rattle.ints.specs.Cells.{cell}
use Rattle.ints.specs.Tabulate.{tabulate}
use Rattle.ints.proofs.Tables.{get_d_tabulate, length-tabulate}
use Rattle.fourier.specs.Parts.{in_cells, power, powers, square}

-- ---- squares

square-is : (h : ℤ) → h *ℤ h ≡ pos (square h)
square-is (pos n) = refl
square-is (negsuc n) = refl

pub squares_are : (h m : ℤ) → h *ℤ h +ℤ m *ℤ m ≡ pos (square h + square m)
squares_are h m = ap₂ ◌+ℤ◌ (square-is h) (square-is m)

-- ---- powers in cells

length_in_cells : (ns : List ℕ) → length (in_cells ns) ≡ length ns
length_in_cells [] = refl
length_in_cells (n ∷ ns) = ap suc (length_in_cells ns)

in_cells_at : (ns : List ℕ) (i : ℕ) → cell (in_cells ns) i ≡ pos (get_or ns i 0)
in_cells_at [] i = refl
in_cells_at (n ∷ ns) zero = refl
in_cells_at (n ∷ ns) (suc i) = in_cells_at ns i

module _ (xs : List ℤ) where
  length-powers : length (in_cells (powers xs)) ≡ length xs / 2 + 1
  length-powers = length_in_cells (powers xs) ∙ length-tabulate (length xs / 2 + 1) (power xs)

  pub power_at : (v : ℕ) → v < length xs / 2 + 1 → cell (in_cells (powers xs)) v ≡ pos (power xs v)
  power_at v h = in_cells_at (powers xs) v ∙ ap pos (get_d_tabulate (length xs / 2 + 1) (power xs) 0 v h)

  pub powers_tabulated : tabulate (length xs / 2 + 1) (λ v. pos (power xs v)) ≡ in_cells (powers xs)
  powers_tabulated = ext_get_or (pos 0) (tabulate n in_cell) (in_cells (powers xs)) (length-tabulate n in_cell ∙ sym length-powers)
      (λ v h. let l : v < n = omega (arith, length-tabulate n in_cell) in get_d_tabulate n in_cell (pos 0) v l ∙ sym (power_at v l))
    where
      n : ℕ
      n = length xs / 2 + 1

      in_cell : ℕ → ℤ
      in_cell v = pos (power xs v)
