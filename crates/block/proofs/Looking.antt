-- The first loud cell, looked for from cell to cell: at cell i none before it is loud.
-- Example: `looked-loud l h e ex t : i ≡ first_loud low high xs`, with l : Looked low high xs i, h : i < length xs, e : r ≡ loud low high x, ex : x ≡ cell xs i
-- and t : r ≡ true.
use mathlib.Core.Path.{◌≡◌, sym, ◌∙◌, ap}
use mathlib.Core.Bool.{Bool, true, false, cond}
use mathlib.Core.List.{List}
use Prim.Native.Nat.{ℕ, suc, ◌+◌, ◌≤◌, ◌<◌}
use native.Mathlib.Numerals.{add-one}
use native.Mathlib.Omega.{arith}
use lib.IntN.{ℤ, pos}
use lib.ListN.{length, drop, drop_of_length-le}
use lib.Seq.{drop-cons}
use Rattle.ints.specs.Cells.{cell}
use Rattle.block.specs.Tests.{loud, first_loud}

pub record Looked (low high : ℤ) (xs : List ℤ) (i : ℕ) : Type 0 where
  pub so_far : first_loud low high xs ≡ i + first_loud low high (drop i xs)

module _ {low high : ℤ} {xs : List ℤ} where
  pub looked_none : {i : ℕ} → i ≡ 0 → Looked low high xs i
  looked_none e = rw e (record { so_far = omega arith })

  module _ {i : ℕ} (l : Looked low high xs i) where
    from : i < length xs → first_loud low high (drop i xs) ≡ cond (loud low high (cell xs i)) 0 (suc (first_loud low high (drop (i + 1) xs)))
    unfolding first_loud
    from h = rw (add-one, drop-cons xs i (pos 0))

    -- r is what the test of x, which is cell i, says
    module _ {x : ℤ} {r : Bool} (h : i < length xs) (e : r ≡ loud low high x) (ex : x ≡ cell xs i) where
      here : loud low high (cell xs i) ≡ r
      here = sym (e ∙ ap (loud low high) ex)

      pub looked-loud : r ≡ true → i ≡ first_loud low high xs
      looked-loud t = let found : first_loud low high (drop i xs) ≡ 0 = from h ∙ rw (here, t) in omega (arith, l.so_far)

      pub looked-quiet : r ≡ false → {j : ℕ} → j ≡ i + 1 → Looked low high xs j
      looked-quiet t ej = let later : first_loud low high (drop i xs) ≡ suc (first_loud low high (drop (i + 1) xs)) = from h ∙ rw (here, t) in
          rw ej (record { so_far = omega (arith, l.so_far) })

    pub looked_all : length xs ≤ i → i ≡ first_loud low high xs
    unfolding first_loud
    looked_all h = let none : first_loud low high (drop i xs) ≡ 0 = rw (drop_of_length-le xs h) in omega (arith, l.so_far)
