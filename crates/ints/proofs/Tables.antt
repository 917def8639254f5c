-- Tests that are computed once over a whole list and then hold at each entry.
-- Example: `same_list eqb eqb→eq xs (tabulate n f) tt : xs ≡ tabulate n f`, where antt computes both lists; `get_d_tabulate` for one entry of it.
use mathlib.Core.Path.{◌≡◌, refl, sym, ◌∙◌, ap, ap₂}
use mathlib.Core.Bool.{Bool, true, false, ◌&&◌}
use mathlib.Core.List.{List, [], ◌∷◌}
use Prim.Native.Nat.{ℕ, zero, suc, ◌+◌, ◌<◌}
use native.Mathlib.Nat.{add-zero, zero-add, add-suc, suc-add}
use native.Mathlib.Omega.{arith}
use lib.Dec.{T}
use lib.Ieee.Fits.{and_l, and_r}
use lib.ListN.{get_or, length}
use Rattle.ints.specs.Tabulate.{tabulate_from, tabulate}

never : (k : ℕ) → k < 0 → ⊥
never k h = omega arith

-- ---- the entries of a tabulated list

from : {A : Type 0} (n i : ℕ) (f : ℕ → A) (d : A) (k : ℕ) → k < n → get_or (tabulate_from i n f) k d ≡ f (i + k)
unfolding tabulate_from
from zero i f d k h = absurd (never k h)
from (suc n) i f d zero h = ap f (sym (add-zero i))
from (suc n) i f d (suc k) h = from n (suc i) f d k (omega arith) ∙ ap f (suc-add i k ∙ sym (add-suc i k))

pub get_d_tabulate : {A : Type 0} (n : ℕ) (f : ℕ → A) (d : A) (k : ℕ) → k < n → get_or (tabulate n f) k d ≡ f k
unfolding tabulate
get_d_tabulate n f d k h = from n 0 f d k h ∙ ap f (zero-add k)

length_from : {A : Type 0} (n i : ℕ) (f : ℕ → A) → length (tabulate_from i n f) ≡ n
unfolding tabulate_from
length_from zero i f = refl
length_from (suc n) i f = ap suc (length_from n (suc i) f)

pub length-tabulate : {A : Type 0} (n : ℕ) (f : ℕ → A) → length (tabulate n f) ≡ n
unfolding tabulate
length-tabulate n f = length_from n 0 f

-- ---- two lists, by a test of their entries

unfoldable pub same : {A : Type 0} → (A → A → Bool) → List A → List A → Bool
same t [] [] = true
same t [] (y ∷ ys) = false
same t (x ∷ xs) [] = false
same t (x ∷ xs) (y ∷ ys) = t x y && same t xs ys

pub same_list : {A : Type 0} (t : A → A → Bool) → ((x y : A) → T (t x y) → x ≡ y) → (xs ys : List A) → T (same t xs ys) → xs ≡ ys
unfolding same
same_list t sound [] [] h = refl
same_list t sound [] (y ∷ ys) h = absurd h
same_list t sound (x ∷ xs) [] h = absurd h
same_list t sound (x ∷ xs) (y ∷ ys) h = ap₂ (λ z zs. z ∷ zs) (sound x y (and_l (t x y) (same t xs ys) h)) (same_list t sound xs ys (and_r (t x y) (same t xs ys) h))

-- ---- two tables side by side, and a triangle of three: a test of f j, f k and g (j + k) for all j and k

unfoldable pub alongside : {A B : Type 0} → (A → B → Bool) → List A → List B → Bool
alongside t [] ys = true
alongside t (x ∷ xs) [] = false
alongside t (x ∷ xs) (y ∷ ys) = t x y && alongside t xs ys

unfoldable pub triangle : {A B : Type 0} → (A → A → B → Bool) → List A → List A → List B → Bool
unfolding alongside
triangle t fs [] gs = true
triangle t fs (x ∷ xs) [] = false
triangle t fs (x ∷ xs) (g ∷ gs) = alongside (t x) fs (g ∷ gs) && triangle t fs xs gs

module _ {A B : Type 0} (t : A → B → Bool) (f : ℕ → A) (g : ℕ → B) where
  alongside_from : (n m i j : ℕ) → T (alongside t (tabulate_from i n f) (tabulate_from j m g)) → (k : ℕ) → k < n → T (t (f (i + k)) (g (j + k)))
  unfolding alongside tabulate_from
  alongside_from zero m i j h k hk = absurd (never k hk)
  alongside_from (suc n) zero i j h k hk = absurd h
  alongside_from (suc n) (suc m) i j h zero hk = rw (add-zero i, add-zero j) (and_l (t (f i) (g j)) _ h)
  alongside_from (suc n) (suc m) i j h (suc k) hk = rw (add-suc i k, add-suc j k, sym (suc-add i k), sym (suc-add j k)) (alongside_from n m (suc i) (suc j) (and_r (t (f i) (g j)) _ h) k (omega arith))

  pub alongside_at : (n m : ℕ) → T (alongside t (tabulate n f) (tabulate m g)) → (k : ℕ) → k < n → T (t (f k) (g k))
  unfolding tabulate
  alongside_at n m h k hk = rw zero-add at (alongside_from n m 0 0 h k hk)

module _ {A B : Type 0} (t : A → A → B → Bool) (f : ℕ → A) (g : ℕ → B) where
  row_from : (n m i : ℕ) (fs : List A) → T (triangle t fs (tabulate_from i n f) (tabulate_from i m g)) → (j : ℕ) → j < n → (l : ℕ) × T (alongside (t (f (i + j))) fs (tabulate_from (i + j) l g))
  unfolding triangle tabulate_from
  row_from zero m i fs h j hj = absurd (never j hj)
  row_from (suc n) zero i fs h j hj = absurd h
  row_from (suc n) (suc m) i fs h zero hj = (suc m, rw (add-zero i) (and_l (alongside (t (f i)) fs (g i ∷ tabulate_from (suc i) m g)) _ h))
  row_from (suc n) (suc m) i fs h (suc j) hj = rw (add-suc i j, sym (suc-add i j)) (row_from n m (suc i) fs (and_r (alongside (t (f i)) fs (g i ∷ tabulate_from (suc i) m g)) _ h) j (omega arith))

  pub triangle_at : (n m : ℕ) → T (triangle t (tabulate n f) (tabulate n f) (tabulate m g)) → (j k : ℕ) → j < n → k < n → T (t (f j) (f k) (g (j + k)))
  unfolding tabulate
  triangle_at n m h j k hj hk = go (row_from n m 0 (tabulate_from 0 n f) h j hj)
    where
      go : (l : ℕ) × T (alongside (t (f (0 + j))) (tabulate_from 0 n f) (tabulate_from (0 + j) l g)) → T (t (f j) (f k) (g (j + k)))
      go p = rw (zero-add j, zero-add k) at (alongside_from (t (f (0 + j))) f g n p.0 0 (0 + j) p.1 k hk)
