-- The lowest of the lines that pass the test `among` and that none of these beats: what a line must have to be it. Either search is this, with tests of its own.
-- Example: `best-is among beats n v in_List is_among unbeaten lower : best among beats n ≡ Some (record { 0 = v })`.
use mathlib.Core.Path.{◌≡◌, refl, sym, ◌∙◌, ap, subst}
use mathlib.Core.Bool.{Bool, true, false, cond, not, ◌&&◌}
use mathlib.Core.Logic.{◌⊎◌, inl, inr}
use Prim.Native.Nat.{ℕ, zero, suc, ◌+◌, ◌≤◌, ◌<◌}
use native.Mathlib.Nat.{eq-or-lt_of_le}
use native.Mathlib.Omega.{arith}
use lib.Dec.{T}
use Rattle.std.specs.Prelude.{Some, None}
use Rattle.kind.specs.declared.Line.{Line}
use Rattle.search.specs.Search.{some, lowest, best}

-- a test has one outcome
pub one_outcome : {A : Type 0} {t : Bool} → t ≡ true → t ≡ false → A
one_outcome e f = absurd (subst T (sym e ∙ f) tt)

-- ---- of n lines from v on: whether one passes a test, and the lowest that does

module _ (test : ℕ → Bool) where
  abbrev Fails : ℕ → ℕ → Type 0
  Fails v n = (w : ℕ) → v ≤ w → w < v + n → test w ≡ false

  some_none : (v n : ℕ) → Fails v n → some test v n ≡ false
  unfolding some
  some_none v zero h = refl
  some_none v (suc n) h = rw (h v (omega arith) (omega arith)) (some_none (suc v) n (λ w a b. h w (omega arith) (omega arith)))

  some_one : (v n w : ℕ) → v ≤ w → w < v + n → test w ≡ true → some test v n ≡ true
  unfolding some
  some_one v zero w a b t = absurd (omega arith)
  some_one v (suc n) w a b t = go (test v) refl (some_one (suc v) n w) (eq-or-lt_of_le a)
    where
      go : (u : Bool) → test v ≡ u → (suc v ≤ w → w < suc v + n → test w ≡ true → some test (suc v) n ≡ true) → (v ≡ w) ⊎ (v < w) → some test v (suc n) ≡ true
      go true e f either = rw e refl
      go false e f (inl same) = one_outcome t (ap test (sym same) ∙ e)
      go false e f (inr above) = rw e (f (omega arith) (omega arith) t)

  lowest_none : (v n : ℕ) → Fails v n → lowest test v n ≡ None
  unfolding lowest
  lowest_none v zero h = refl
  lowest_none v (suc n) h = rw (h v (omega arith) (omega arith)) (lowest_none (suc v) n (λ w a b. h w (omega arith) (omega arith)))

  lowest-is : (v n w : ℕ) → v ≤ w → w < v + n → test w ≡ true → ((u : ℕ) → v ≤ u → u < w → test u ≡ false) → lowest test v n ≡ Some (record { 0 = w })
  unfolding lowest
  lowest-is v zero w a b t h = absurd (omega arith)
  lowest-is v (suc n) w a b t h = go (eq-or-lt_of_le a) (lowest-is (suc v) n w)
    where
      go : (v ≡ w) ⊎ (v < w) → (suc v ≤ w → w < suc v + n → test w ≡ true → ((u : ℕ) → suc v ≤ u → u < w → test u ≡ false) → lowest test (suc v) n ≡ Some (record { 0 = w }))
          → lowest test v (suc n) ≡ Some (record { 0 = w })
      go (inl same) f = rw (same, t) refl
      go (inr above) f = rw (h v (omega arith) (omega arith)) (f (omega arith) (omega arith) t (λ u c d. h u (omega arith) d))

  lowest-below : (v n : ℕ) (line : Line) → lowest test v n ≡ Some line → line.0 < v + n
  unfolding lowest
  lowest-below v zero line e = let z : ◌≡◌ {A = ℕ} 0 1 = cc in absurd (omega arith)
  lowest-below v (suc n) line e = go (test v) e (lowest-below (suc v) n line)
    where
      go : (t : Bool) → cond t (Some (record { 0 = v })) (lowest test (suc v) n) ≡ Some line → (lowest test (suc v) n ≡ Some line → line.0 < suc v + n) → line.0 < v + suc n
      go true e f = let same : v ≡ line.0 = cc in omega arith
      go false e f = let h = f e in omega arith

-- ---- the best of those that pass the test `among`

module _ (among : ℕ → Bool) (beats : ℕ → ℕ → Bool) (n : ℕ) where
  -- w is among them and beats v
  abbrev Beats : ℕ → ℕ → Bool
  Beats v w = among w && beats w v

  pub best-is : (v : ℕ) → v < n → among v ≡ true → ((w : ℕ) → w < n → among w ≡ true → beats w v ≡ false) → ((w : ℕ) → w < v → among w ≡ true → beats v w ≡ true)
      → best among beats n ≡ Some (record { 0 = v })
  best-is v in_List is_among unbeaten lower = lowest-is (λ v. among v && not (some (Beats v) 0 n)) 0 n v (omega arith) (omega arith) passes (λ w a b. fails w b (among w) refl)
    where
      beaten-not : (w : ℕ) (t : Bool) → w < n → among w ≡ t → Beats v w ≡ false
      beaten-not w true h e = rw e (unbeaten w h e)
      beaten-not w false h e = rw e refl

      passes : (among v && not (some (Beats v) 0 n)) ≡ true
      passes = rw (is_among, some_none (Beats v) 0 n (λ w a b. beaten-not w (among w) (omega arith) refl)) refl

      beaten : (w : ℕ) → w < v → among w ≡ true → Beats w v ≡ true
      beaten w h e = rw is_among (lower w h e)

      fails : (w : ℕ) → w < v → (t : Bool) → among w ≡ t → (among w && not (some (Beats w) 0 n)) ≡ false
      fails w h true e = rw (e, some_one (Beats w) 0 n v (omega arith) (omega arith) (beaten w h e)) refl
      fails w h false e = rw e refl

  pub best_none : ((v : ℕ) → v < n → among v ≡ false) → best among beats n ≡ None
  best_none h = lowest_none (λ v. among v && not (some (Beats v) 0 n)) 0 n (λ v a b. rw (h v (omega arith)) refl)

  pub best-below : (line : Line) → best among beats n ≡ Some line → line.0 < n
  best-below line e = omega (arith, lowest-below (λ v. among v && not (some (Beats v) 0 n)) 0 n line e)
