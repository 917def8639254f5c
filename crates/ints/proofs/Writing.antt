-- Lists written into a list one after another.
-- Example: `written_more xs at ys zs h : written (written xs at ys) (at + length ys) zs ≡ written xs at (ys ++ zs)`, with h : at + length ys ≤ length xs.
use mathlib.Core.Path.{◌≡◌, sym, ◌∙◌, ap, ap₂}
use mathlib.Core.List.{List, [], ◌∷◌, ◌++◌, append_assoc, append-nil}
use Prim.Native.Nat.{ℕ, ◌+◌, ◌≤◌, ◌<◌}
use native.Mathlib.Nat.{add-zero}
use native.Mathlib.Numerals.{add-one}
use native.Mathlib.Omega.{arith}
use lib.ListN.{length, take, drop, set, length-append, length-take, length-drop, take-append-drop}
use lib.Seq.{set_split, take_at, drop_at, take-append-le, take-take, length-take-le, drop-append-add, drop-drop, drop-length}
use Rattle.ints.specs.Written.{written}

module _ {A : Type 0} where
  -- nothing is written
  pub written_none : (xs : List A) (at : ℕ) → written xs at [] ≡ xs
  unfolding written
  written_none xs at = rw (add-zero at) (take-append-drop at xs)

  -- one entry
  pub written_one : (xs : List A) (at : ℕ) (y : A) → at < length xs → set xs at y ≡ written xs at (y ∷ [])
  unfolding written
  written_one xs at y h = set_split xs at y h ∙ ap (λ (k : ℕ). take at xs ++ (y ∷ drop k xs)) (sym (add-one at))

  -- as many entries as there are
  pub written_over : (xs ys : List A) → length ys ≡ length xs → written xs 0 ys ≡ ys
  unfolding written
  written_over xs ys e = ap (λ (k : ℕ). ys ++ drop k xs) all ∙ ap (λ (zs : List A). ys ++ zs) (drop-length xs) ∙ append-nil ys
    where
      all : 0 + length ys ≡ length xs
      all = omega arith

  -- it reaches as far as what is written
  pub written-reaches : (xs : List A) (at : ℕ) (ys : List A) → at ≤ length xs → at + length ys ≤ length (written xs at ys)
  unfolding written
  written-reaches xs at ys h = simp (length-append, length-take, length-drop) (omega arith)

  -- and where there is room for it, the list keeps its length
  pub length-written : (xs : List A) (at : ℕ) (ys : List A) → at + length ys ≤ length xs → length (written xs at ys) ≡ length xs
  unfolding written
  length-written xs at ys h = simp (length-append, length-take, length-drop) (omega arith)

  -- first ys, and zs from its end on
  pub written_more : (xs : List A) (at : ℕ) (ys zs : List A) → at + length ys ≤ length xs → written (written xs at ys) (at + length ys) zs ≡ written xs at (ys ++ zs)
  unfolding written
  written_more xs at ys zs h = ap₂ (λ (a b : List A). a ++ (zs ++ b)) front back
      ∙ append_assoc (take at xs) ys (zs ++ drop (at + length (ys ++ zs)) xs)
      ∙ ap (λ (r : List A). take at xs ++ r) (sym (append_assoc ys zs (drop (at + length (ys ++ zs)) xs)))
    where
      rest : List A
      rest = drop (at + length ys) xs

      many : length (take at xs ++ ys) ≡ at + length ys
      many = simp (length-append, length-take) (omega arith)

      same : take at xs ++ (ys ++ rest) ≡ (take at xs ++ ys) ++ rest
      same = sym (append_assoc (take at xs) ys rest)

      front : take (at + length ys) (take at xs ++ (ys ++ rest)) ≡ take at xs ++ ys
      front = ap (take (at + length ys)) same ∙ take_at (take at xs ++ ys) rest (at + length ys) many

      total : at + length ys + length zs ≡ at + length (ys ++ zs)
      total = omega (arith, length-append ys zs)

      back : drop (at + length ys + length zs) (take at xs ++ (ys ++ rest)) ≡ drop (at + length (ys ++ zs)) xs
      back = ap₂ (λ (k : ℕ) (l : List A). drop k l) (ap (λ (k : ℕ). k + length zs) (sym many)) same ∙ drop-append-add (take at xs ++ ys) rest (length zs)
          ∙ drop-drop (length zs) (at + length ys) xs ∙ ap (λ (k : ℕ). drop k xs) total

  -- first zs, and ys before it
  pub written_before : (xs : List A) (at : ℕ) (ys zs : List A) → at + length ys + length zs ≤ length xs
      → written (written xs (at + length ys) zs) at ys ≡ written xs at (ys ++ zs)
  unfolding written
  written_before xs at ys zs h = ap₂ (λ (a b : List A). a ++ (ys ++ b)) front back ∙ ap (λ (r : List A). take at xs ++ r) (sym (append_assoc ys zs after))
    where
      after : List A
      after = drop (at + length (ys ++ zs)) xs

      rest : List A
      rest = zs ++ drop (at + length ys + length zs) xs

      many : length (take (at + length ys) xs) ≡ at + length ys
      many = length-take-le (at + length ys) xs (omega arith)

      front : take at (take (at + length ys) xs ++ rest) ≡ take at xs
      front = take-append-le at (take (at + length ys) xs) rest (omega (arith, many)) ∙ take-take at (at + length ys) xs (omega arith)

      total : at + length ys + length zs ≡ at + length (ys ++ zs)
      total = omega (arith, length-append ys zs)

      back : drop (at + length ys) (take (at + length ys) xs ++ rest) ≡ zs ++ after
      back = drop_at (take (at + length ys) xs) rest (at + length ys) many ∙ ap (λ (k : ℕ). zs ++ drop k xs) total
