-- A list that a loop fills from the front with a function's values.
-- Example: `filled_next d f xs n x h e F : Filled d f (n + 1) (set xs n x)`, with h : n < length xs, e : x ≡ f n and F : Filled d f n xs.
use mathlib.Core.Path.{◌≡◌, sym, ◌∙◌, subst}
use mathlib.Core.List.{List}
use Prim.Native.Nat.{ℕ, ◌+◌, ◌<◌}
use native.Mathlib.Nat.{lt_irrefl}
use native.Mathlib.Omega.{arith}
use borrow.Author.Count.{below_more}
use lib.ListN.{length, get_or, set}
use lib.Seq.{get_or-set_same, get_or-set_other, ext_get_or}
use Rattle.ints.specs.Tabulate.{tabulate}
use Rattle.ints.proofs.Tables.{get_d_tabulate, length-tabulate}

-- the first n entries of xs are f's first values; d is what `get_or` gives beyond the end
abbrev pub Filled : {A : Type 0} → A → (ℕ → A) → ℕ → List A → Type 0
Filled d f n xs = (i : ℕ) → i < n → get_or xs i d ≡ f i

module _ {A : Type 0} (d : A) (f : ℕ → A) where
  -- entries other than the one that is set
  other : (xs : List A) (n : ℕ) (x : A) (i : ℕ) → i < n → get_or (set xs n x) i d ≡ get_or xs i d
  other xs n x i h = get_or-set_other xs n i x d (λ e. lt_irrefl n (subst (λ (m : ℕ). m < n) e h))

  pub filled_next : (xs : List A) (n : ℕ) (x : A) → n < length xs → x ≡ f n → Filled d f n xs → Filled d f (n + 1) (set xs n x)
  filled_next xs n x h e F = below_more (λ i. get_or (set xs n x) i d ≡ f i) n (λ i k. other xs n x i k ∙ F i k) (get_or-set_same xs n x d h ∙ e)

  -- the same where the entry that is set is k and the next one is m
  pub filled_then : (xs : List A) (n k m : ℕ) (x : A) → n < length xs → x ≡ f n → k ≡ n → m ≡ n + 1 → Filled d f n xs → Filled d f m (set xs k x)
  filled_then xs n k m x h e ek em F = rw (ek, em) (filled_next xs n x h e F)

  pub filled_all : (xs : List A) (n : ℕ) → length xs ≡ n → Filled d f n xs → xs ≡ tabulate n f
  filled_all xs n e F = ext_get_or d xs (tabulate n f) (e ∙ sym (length-tabulate n f)) (λ i h. let k : i < n = omega arith in F i k ∙ sym (get_d_tabulate n f d i k))
