-- The checks of a search: which lengths a list of powers can have, what is known of what is taken, and that the checks say in numbers what the rows say.
-- Example: `strongest_numbers_lem ps low high : search_numbers (strongest_answer ps low high) ≡ strongest_numbers ps low.0 high.0`.
use mathlib.Core.Path.{◌≡◌, refl, sym, ◌∙◌, ap}
use mathlib.Core.Bool.{Bool, true, false, cond}
use mathlib.Core.List.{List, [], ◌∷◌}
use Prim.Native.Nat.{ℕ, zero, suc, ◌+◌, ◌*◌, ◌-◌, ◌^◌, ◌≤◌, ◌<◌}
use native.Mathlib.Omega.{arith}
use borrow.Author.Tests.{eq-eqb, eqb-true, eqb-false, ne_eqb, lt-ltb, le-ltb, ltb-true, ltb-false}
use lib.Dec.{eqb, ltb}
use lib.IntN.{ℤ}
use lib.ListN.{length}
use lib.Pow.{pow_mono, pow_pos}
use Rattle.std.specs.Prelude.{not, is_none, is_some, Option, Some, None, Result, Ok, Err}
use Rattle.ints.specs.Cells.{cell}
use Rattle.kind.specs.declared.BlockKind.{BlockKind}
use Rattle.kind.specs.declared.Line.{Line}
use Rattle.kind.specs.BlockKinds.{exponent, found, kind_of}
use Rattle.kind.proofs.Lengths.{kind_none}
use Rattle.refusal.specs.declared.Refusal.{Refusal}
use Rattle.refusal.specs.declared.Refusal.TheVariants.{Length, Line as LineAbove}
use Rattle.search.specs.Search.{in_band, is_nearer, is_stronger, nearest, reaches, strongest}
use Rattle.search.specs.SearchTests.{absent, first_given, length_row, tested_band, tested_chosen, wrong_length}
use Rattle.search.proofs.Lowest.{best-below, one_outcome}
use Rattle.search.specs.SearchAnswers.{answer_to, nearest_answer, nearest_numbers, search_numbers, strongest_answer, strongest_numbers}

-- ---- 1: the lengths

-- no cell, and more than any block has
pub no_power : (n : ℕ) → n ≡ 0 → wrong_length n ≡ true
unfolding wrong_length exponent kind_of
no_power n e = rw e refl

pub too_many : (n : ℕ) → 1024 < n → wrong_length n ≡ true
unfolding wrong_length
too_many n h = rw (kind_none (2 * (n - 1)) (λ P k. beyond P k.most k.cells)) refl
  where
    beyond : (P : ℕ) → P ≤ 10 → 2 * (n - 1) ≡ 2 ^ P → ⊥
    beyond P m e = omega (arith, pow_mono m)

pub some-power : (n : ℕ) → wrong_length n ≡ false → 1 ≤ n
some-power zero e = one_outcome (no_power 0 refl) e
some-power (suc n) e = omega arith

few-powers : (n : ℕ) → wrong_length n ≡ false → n ≤ 1024
few-powers n e = go (ltb 1024 n) refl
  where
    go : (t : Bool) → ltb 1024 n ≡ t → n ≤ 1024
    go true h = one_outcome (too_many n (ltb-true 1024 n h)) e
    go false h = ltb-false 1024 n h

-- none has m cells, which is that N
pub none_is : (n : ℕ) {m : ℕ} {k : Option BlockKind} {r : Bool} → k ≡ kind_of m → m ≡ 2 * (n - 1) → is_some k ≡ not r → r ≡ wrong_length n
unfolding wrong_length
none_is n {k = k} {r = r} e f g = told k r g ∙ ap is_none (e ∙ ap kind_of f)
  where
    told : (k : Option BlockKind) (r : Bool) → is_some k ≡ not r → r ≡ is_none k
    told (Some kind) true g = g
    told (Some kind) false g = refl
    told None true g = refl
    told None false g = g

-- 2^m + 1 lines are those of a block of 2^(m + 1) cells
same_length : (m n : ℕ) → eqb (2 ^ suc m) (2 * (n - 1)) ≡ eqb n (2 ^ m + 1)
same_length m n = go (eqb n (2 ^ m + 1)) refl
  where
    go : (t : Bool) → eqb n (2 ^ m + 1) ≡ t → eqb (2 ^ suc m) (2 * (n - 1)) ≡ t
    go true e = let f = eqb-true n (2 ^ m + 1) e in eq-eqb (2 ^ suc m) (2 * (n - 1)) (omega arith)
    go false e = let f = eqb-false n (2 ^ m + 1) e in ne_eqb (2 ^ suc m) (2 * (n - 1)) (λ g. f (omega (arith, g, pow_pos m)))

pub length_row_lem : (n : ℕ) → wrong_length n ≡ (length_row n).0
unfolding wrong_length kind_of exponent absent
length_row_lem n = step 9 (step 8 (step 7 (step 6 (step 5 (step 4 (step 3 (step 2 (step 1 (step 0 refl)))))))))
  where
    either : (t : Bool) (m x : ℕ) {rest : Bool} → is_none (found x) ≡ rest → is_none (found (cond t (suc m) x)) ≡ cond t false rest
    either true m x e = refl
    either false m x e = e

    step : (m : ℕ) {rest : Bool} → is_none (found (exponent m (2 * (n - 1)))) ≡ rest → is_none (found (exponent (suc m) (2 * (n - 1)))) ≡ cond (eqb n (2 ^ m + 1)) false rest
    step m e = rw (same_length m n) (either (eqb n (2 ^ m + 1)) m (exponent m (2 * (n - 1))) e)

-- ---- the checks in turn, each after those that are passed

module _ (n : ℕ) (low high : Line) where
  pub band_length : wrong_length n ≡ true → Err Length ≡ tested_band n low high
  unfolding tested_band first_given
  band_length e = rw e refl

  module _ (right : wrong_length n ≡ false) where
    pub low_beyond : n - 1 < low.0 → Err (LineAbove low) ≡ tested_band n low high
    unfolding tested_band first_given
    low_beyond h = rw (right, lt-ltb (n - 1) low.0 h) refl

    module _ (low-listed : low.0 ≤ n - 1) where
      pub high-beyond : n - 1 < high.0 → Err (LineAbove high) ≡ tested_band n low high
      unfolding tested_band first_given
      high-beyond h = rw (right, le-ltb (n - 1) low.0 low-listed, lt-ltb (n - 1) high.0 h) refl

      module _ (high-listed : high.0 ≤ n - 1) where
        pub turned_round : high.0 < low.0 → Err (LineAbove low) ≡ tested_band n low high
        unfolding tested_band first_given
        turned_round h = rw (right, le-ltb (n - 1) low.0 low-listed, le-ltb (n - 1) high.0 high-listed, lt-ltb high.0 low.0 h) refl

        pub band-taken : low.0 ≤ high.0 → Ok tt ≡ tested_band n low high
        unfolding tested_band first_given
        band-taken h = rw (right, le-ltb (n - 1) low.0 low-listed, le-ltb (n - 1) high.0 high-listed, le-ltb high.0 low.0 h) refl

module _ (n : ℕ) (chosen : Line) where
  pub chosen_length : wrong_length n ≡ true → Err Length ≡ tested_chosen n chosen
  unfolding tested_chosen first_given
  chosen_length e = rw e refl

  pub chosen_beyond : wrong_length n ≡ false → n - 1 < chosen.0 → Err (LineAbove chosen) ≡ tested_chosen n chosen
  unfolding tested_chosen first_given
  chosen_beyond right h = rw (right, lt-ltb (n - 1) chosen.0 h) refl

  pub chosen_taken : wrong_length n ≡ false → chosen.0 ≤ n - 1 → Ok tt ≡ tested_chosen n chosen
  unfolding tested_chosen first_given
  chosen_taken right h = rw (right, le-ltb (n - 1) chosen.0 h) refl

-- ---- what is known of what is taken

pub record BandTaken (n : ℕ) (low high : Line) : Type 0 where
  pub ordered : low.0 ≤ high.0
  pub listed : high.0 < n
  pub few : n ≤ 1024

pub band_known : (n : ℕ) (low high : Line) → tested_band n low high ≡ Ok tt → BandTaken n low high
band_known n low high e = go (wrong_length n) (ltb (n - 1) low.0) (ltb (n - 1) high.0) (ltb high.0 low.0) refl refl refl refl
  where
    refused : {refusal : Refusal} → Err refusal ≡ tested_band n low high → BandTaken n low high
    refused f = let z : ◌≡◌ {A = ℕ} 0 1 = cc in absurd (omega arith)

    go : (t u v w : Bool) → wrong_length n ≡ t → ltb (n - 1) low.0 ≡ u → ltb (n - 1) high.0 ≡ v → ltb high.0 low.0 ≡ w → BandTaken n low high
    go true u v w a b c d = refused (band_length n low high a)
    go false true v w a b c d = refused (low_beyond n low high a (ltb-true _ _ b))
    go false false true w a b c d = refused (high-beyond n low high a (ltb-false _ _ b) (ltb-true _ _ c))
    go false false false true a b c d = refused (turned_round n low high a (ltb-false _ _ b) (ltb-false _ _ c) (ltb-true _ _ d))
    go false false false false a b c d = record { ordered = ltb-false _ _ d; listed = omega (arith, ltb-false (n - 1) high.0 c, some-power n a); few = few-powers n a }

pub record ChosenTaken (n : ℕ) (chosen : Line) : Type 0 where
  pub listed : chosen.0 < n
  pub few : n ≤ 1024

pub chosen_known : (n : ℕ) (chosen : Line) → tested_chosen n chosen ≡ Ok tt → ChosenTaken n chosen
chosen_known n chosen e = go (wrong_length n) (ltb (n - 1) chosen.0) refl refl
  where
    refused : {refusal : Refusal} → Err refusal ≡ tested_chosen n chosen → ChosenTaken n chosen
    refused f = let z : ◌≡◌ {A = ℕ} 0 1 = cc in absurd (omega arith)

    go : (t u : Bool) → wrong_length n ≡ t → ltb (n - 1) chosen.0 ≡ u → ChosenTaken n chosen
    go true u a b = refused (chosen_length n chosen a)
    go false true a b = refused (chosen_beyond n chosen a (ltb-true _ _ b))
    go false false a b = record { listed = omega (arith, ltb-false (n - 1) chosen.0 b, some-power n a); few = few-powers n a }

-- ---- in numbers

module _ (ps : List ℤ) where
  pub strongest_numbers_lem : (low high : Line) → search_numbers (strongest_answer ps low high) ≡ strongest_numbers ps low.0 high.0
  unfolding strongest_answer strongest_numbers tested_band first_given
  strongest_numbers_lem low high = rw (← length_row_lem (length ps)) (go (wrong_length (length ps)) (ltb (length ps - 1) low.0) (ltb (length ps - 1) high.0) (ltb high.0 low.0))
    where
      go : (t u v w : Bool) → search_numbers (answer_to (cond t (Err Length) (cond u (Err (LineAbove low)) (cond v (Err (LineAbove high)) (cond w (Err (LineAbove low)) (Ok tt))))) (strongest ps low.0 high.0))
          ≡ cond t (1 ∷ 0 ∷ []) (cond u (4 ∷ low.0 ∷ []) (cond v (4 ∷ high.0 ∷ []) (cond w (4 ∷ low.0 ∷ []) (search_numbers (Ok (strongest ps low.0 high.0))))))
      go true u v w = refl
      go false true v w = refl
      go false false true w = refl
      go false false false true = refl
      go false false false false = refl

  pub nearest_numbers_lem : (chosen : Line) (level : ℤ) → search_numbers (nearest_answer ps chosen level) ≡ nearest_numbers ps chosen.0 level
  unfolding nearest_answer nearest_numbers tested_chosen first_given
  nearest_numbers_lem chosen level = rw (← length_row_lem (length ps)) (go (wrong_length (length ps)) (ltb (length ps - 1) chosen.0))
    where
      go : (t u : Bool) → search_numbers (answer_to (cond t (Err Length) (cond u (Err (LineAbove chosen)) (Ok tt))) (nearest ps chosen.0 level))
          ≡ cond t (1 ∷ 0 ∷ []) (cond u (4 ∷ chosen.0 ∷ []) (search_numbers (Ok (nearest ps chosen.0 level))))
      go true u = refl
      go false true = refl
      go false false = refl

-- ---- an answer by what the checks of n powers have found, and the same in numbers

module _ (ps : List ℤ) (low high : Line) {n : ℕ} {k : Result (Unit {0}) Refusal} (many : n ≡ length ps) (e : k ≡ tested_band n low high) where
  checked_band : k ≡ tested_band (length ps) low high
  checked_band = e ∙ ap (λ (n : ℕ). tested_band n low high) many

  pub band_taken : k ≡ Ok tt → BandTaken (length ps) low high
  band_taken f = band_known (length ps) low high (sym checked_band ∙ f)

  pub strongest_so : (verdict : Result (Unit {0}) Refusal) → k ≡ verdict → {r : Result (Option Line) Refusal} → r ≡ answer_to verdict (strongest ps low.0 high.0)
      → (r ≡ strongest_answer ps low high) × (search_numbers r ≡ strongest_numbers ps low.0 high.0)
  unfolding strongest_answer
  strongest_so verdict f {r} g = (is, ap search_numbers is ∙ strongest_numbers_lem ps low high)
    where
      is : r ≡ strongest_answer ps low high
      is = g ∙ ap (λ (k : Result (Unit {0}) Refusal). answer_to k (strongest ps low.0 high.0)) (sym f ∙ checked_band)

module _ (ps : List ℤ) (chosen : Line) (level : ℤ) {n : ℕ} {k : Result (Unit {0}) Refusal} (many : n ≡ length ps) (e : k ≡ tested_chosen n chosen) where
  checked_chosen : k ≡ tested_chosen (length ps) chosen
  checked_chosen = e ∙ ap (λ (n : ℕ). tested_chosen n chosen) many

  pub listed_chosen : k ≡ Ok tt → chosen.0 < length ps
  listed_chosen f = (chosen_known (length ps) chosen (sym checked_chosen ∙ f)).listed

  pub nearest_so : (verdict : Result (Unit {0}) Refusal) → k ≡ verdict → {r : Result (Option Line) Refusal} → r ≡ answer_to verdict (nearest ps chosen.0 level)
      → (r ≡ nearest_answer ps chosen level) × (search_numbers r ≡ nearest_numbers ps chosen.0 level)
  unfolding nearest_answer
  nearest_so verdict f {r} g = (is, ap search_numbers is ∙ nearest_numbers_lem ps chosen level)
    where
      is : r ≡ nearest_answer ps chosen level
      is = g ∙ ap (λ (k : Result (Unit {0}) Refusal). answer_to k (nearest ps chosen.0 level)) (sym f ∙ checked_chosen)

-- ---- how large the numbers of an answer can be, and that neither search refuses by itself what the checks have taken

module _ (ps : List ℤ) where
  pub strongest-listed : (low high line : Line) → strongest ps low.0 high.0 ≡ Some line → line.0 < length ps
  unfolding strongest
  strongest-listed low high line e = best-below (in_band low.0 high.0) (is_stronger ps) (length ps) line e

  pub strongest_unrefused : (low high : Line) (refusal : Refusal) → answer_to (Ok tt) (strongest ps low.0 high.0) ≡ Err refusal → ⊥
  strongest_unrefused low high refusal e = cc

  pub nearest-listed : (chosen : Line) (level : ℤ) (line : Line) → nearest ps chosen.0 level ≡ Some line → line.0 < length ps
  unfolding nearest
  nearest-listed chosen level line e = best-below (λ v. reaches (cell ps v) level) (is_nearer chosen.0) (length ps) line e

  pub nearest_unrefused : (chosen : Line) (level : ℤ) (refusal : Refusal) → answer_to (Ok tt) (nearest ps chosen.0 level) ≡ Err refusal → ⊥
  nearest_unrefused chosen level refusal e = cc
