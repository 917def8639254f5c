-- A block's kind is given exactly for the lengths 2^P with P from 1 to 10.
-- Example: `(kind-length n P e).cells : n ≡ 2 ^ P`, with e : kind_of n ≡ Some (kind_with P).
use mathlib.Core.Path.{◌≡◌, refl, sym, ◌∙◌, ap}
use mathlib.Core.Bool.{Bool, true, false, cond}
use mathlib.Core.List.{List, [], ◌∷◌}
use Prim.Native.Nat.{ℕ, zero, suc, ◌^◌, ◌≤◌, ◌<◌}
use native.Mathlib.Omega.{arith}
use borrow.Author.Tests.{eq-eqb, ne_eqb, eqb-true, ltb-true, ltb-false}
use lib.Dec.{eqb, ltb}
use lib.Pow.{pow-lt}
use Rattle.std.specs.Prelude.{Option, Some, None}
use Rattle.kind.specs.declared.BlockKind.{BlockKind}
use Rattle.kind.specs.BlockKinds.{kind_with, exponent, found, kind_of, kind_numbers, numbers_in, length_numbers}

-- ---- the exponent

pub exponent_none : (most n : ℕ) → ((P : ℕ) → 1 ≤ P → P ≤ most → 2 ^ P ≡ n → ⊥) → exponent most n ≡ 0
unfolding exponent
exponent_none zero n h = refl
exponent_none (suc m) n h = rw (ne_eqb (2 ^ suc m) n (h (suc m) (omega arith) (omega arith))) (exponent_none m n (λ P a b. h P a (omega arith)))

pub exponent-pow : (most P : ℕ) → 1 ≤ P → P ≤ most → exponent most (2 ^ P) ≡ P
unfolding exponent
exponent-pow zero P a b = omega arith
exponent-pow (suc m) P a b = go (ltb P (suc m)) refl (exponent-pow m P a)
  where
    below : P < suc m → 2 ^ suc m ≡ 2 ^ P → ⊥
    below h e = omega (arith, pow-lt h)

    go : (t : Bool) → ltb P (suc m) ≡ t → (P ≤ m → exponent m (2 ^ P) ≡ P) → cond (eqb (2 ^ suc m) (2 ^ P)) (suc m) (exponent m (2 ^ P)) ≡ P
    go true e f = let h : P < suc m = ltb-true P (suc m) e in rw (ne_eqb _ _ (below h)) (f (omega arith))
    go false e f = let h : P ≡ suc m = omega (arith, ltb-false P (suc m) e) in rw (eq-eqb _ _ (ap (λ (x : ℕ). 2 ^ x) (sym h))) (sym h)

is-power : (most n P : ℕ) → exponent most n ≡ suc P → (suc P ≤ most) × (n ≡ 2 ^ suc P)
unfolding exponent
is-power zero n P e = cc
is-power (suc m) n P e = go (eqb (2 ^ suc m) n) refl (is-power m n P) e
  where
    go : (t : Bool) → eqb (2 ^ suc m) n ≡ t → (exponent m n ≡ suc P → (suc P ≤ m) × (n ≡ 2 ^ suc P)) → cond t (suc m) (exponent m n) ≡ suc P → (suc P ≤ suc m) × (n ≡ 2 ^ suc P)
    go true t f e = (omega arith, sym (eqb-true _ _ t) ∙ ap (λ (x : ℕ). 2 ^ x) e)
    go false t f e = let g = f e in (omega arith, g.1)

-- ---- the kind

pub record KindLength (n P : ℕ) : Type 0 where
  pub least : 1 ≤ P
  pub most : P ≤ 10
  pub cells : n ≡ 2 ^ P

pub kind-length : (n P : ℕ) → kind_of n ≡ Some (kind_with P) → KindLength n P
unfolding kind_of
kind-length n P e = go (exponent 10 n) refl e
  where
    go : (x : ℕ) → exponent 10 n ≡ x → found x ≡ Some (kind_with P) → KindLength n P
    go zero e k = cc
    go (suc x) e k = let same : kind_with (suc x) ≡ kind_with P = cc in let f = is-power 10 n x e in
        record { least = omega (arith, ap (λ (k : BlockKind). k.p) same); most = omega (arith, ap (λ (k : BlockKind). k.p) same); cells = f.1 ∙ ap (λ (k : BlockKind). 2 ^ k.p) same }

pub kind-given : (n P : ℕ) → KindLength n P → kind_of n ≡ Some (kind_with P)
unfolding kind_of
kind-given n P h = ap (λ (x : ℕ). found (exponent 10 x)) h.cells ∙ ap found (exponent-pow 10 P h.least h.most) ∙ go P h.least
  where
    go : (P : ℕ) → 1 ≤ P → found P ≡ Some (kind_with P)
    go zero h = absurd (omega arith)
    go (suc P) h = refl

pub kind_none : (n : ℕ) → ((P : ℕ) → KindLength n P → ⊥) → kind_of n ≡ None
unfolding kind_of
kind_none n h = ap found (exponent_none 10 n (λ P a b e. h P (record { least = a; most = b; cells = sym e })))

-- ---- the kind in numbers, by the ten lengths

in_numbers : (n : ℕ) → kind_numbers (kind_of n) ≡ length_numbers n
unfolding kind_of numbers_in exponent
in_numbers n = step 9 (step 8 (step 7 (step 6 (step 5 (step 4 (step 3 (step 2 (step 1 (step 0 refl)))))))))
  where
    either : (t : Bool) (m x : ℕ) {rest : List ℕ} → kind_numbers (found x) ≡ rest → kind_numbers (found (cond t (suc m) x)) ≡ cond t (suc m ∷ []) rest
    either true m x e = refl
    either false m x e = e

    step : (m : ℕ) {rest : List ℕ} → kind_numbers (found (exponent m n)) ≡ rest → kind_numbers (found (exponent (suc m) n)) ≡ cond (eqb (2 ^ suc m) n) (suc m ∷ []) rest
    step m e = either (eqb (2 ^ suc m) n) m (exponent m n) e

-- an answer, and the same in numbers
pub both_ways : {r : Option BlockKind} (n : ℕ) → r ≡ kind_of n → record { answer : r ≡ kind_of n; numbers : kind_numbers r ≡ length_numbers n }
both_ways n e = record { answer = e; numbers = ap kind_numbers e ∙ in_numbers n }
