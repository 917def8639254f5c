-- Document 02's numbers in the packed answer of a search: the line that is found fits its two bytes, and the line of a refusal 4 is one that the host has given.
-- Example: `strongest_told ps low high e : unpacked_search (end_asked (length ps) low.0 high.0) answer ≡ strongest_numbers ps low.0 high.0`, with
-- e : answer ≡ packed_search (strongest_answer ps low high).
use mathlib.Core.Path.{◌≡◌, refl, ◌∙◌, ap, subst}
use mathlib.Core.Bool.{Bool, true, false}
use mathlib.Core.List.{List}
use Prim.Native.Nat.{ℕ, ◌-◌, ◌≤◌, ◌<◌}
use native.Mathlib.Omega.{arith}
use borrow.Author.Tests.{le-ltb, ltb-true, ltb-false}
use lib.Dec.{ltb}
use lib.IntN.{ℤ}
use lib.ListN.{length}
use Rattle.std.specs.Prelude.{Option, Some, Result, Ok, Err}
use Rattle.kind.specs.declared.Line.{Line}
use Rattle.refusal.specs.declared.Refusal.{Refusal}
use Rattle.refusal.specs.declared.Refusal.TheVariants.{Length, Line as LineAbove}
use Rattle.search.specs.Search.{nearest, strongest}
use Rattle.search.specs.SearchTests.{tested_band, tested_chosen, wrong_length}
use Rattle.search.specs.SearchAnswers.{answer_to, nearest_answer, nearest_numbers, search_numbers, strongest_answer, strongest_numbers}
use Rattle.search.proofs.Checks.{band_known, band_length, band-taken, chosen_beyond, chosen_known, chosen_length, chosen_taken, high-beyond, low_beyond, nearest-listed, nearest_numbers_lem, strongest-listed, strongest_numbers_lem, turned_round}
use Rattle.packing.specs.Packing.{packed_search, unpacked_search}
use Rattle.packing.proofs.Packing.{Tellable, in_block_tellable, line_tellable, search_unpacked}
use Rattle.search_bytes.specs.Asked.{end_asked}

-- ---- an answer by what the checks have found: its line is one of the list, and its refusal is that of the checks

module _ (asked n : ℕ) (found : Option Line) (few : (line : Line) → found ≡ Some line → line.0 < n) where
  told : (k : Result (Unit {0}) Refusal) → (k ≡ Ok tt → n ≤ 1024) → ((refusal : Refusal) → k ≡ Err refusal → Tellable asked refusal)
      → unpacked_search asked (packed_search (answer_to k found)) ≡ search_numbers (answer_to k found)
  told (Ok taken) small tellable = search_unpacked asked (Ok found) (λ refusal e. cc) (λ line e. let is : found ≡ Some line = cc in omega (arith, few line is, small refl))
  told (Err refusal) small tellable = search_unpacked asked (Err refusal)
      (λ other e. let same : refusal ≡ other = cc in subst (Tellable asked) same (tellable refusal refl)) (λ line e. cc)

-- ---- the refusals of the checks

module _ (asked : ℕ) {k : Result (Unit {0}) Refusal} (refusal : Refusal) (e : k ≡ Err refusal) where
  -- the checks refuse by this one, and its place can be told
  so : (given : Refusal) → Err given ≡ k → Tellable asked given → Tellable asked refusal
  so given f h = let same : given ≡ refusal = cc in subst (Tellable asked) same h

  never : Ok tt ≡ k → Tellable asked refusal
  never f = cc

module _ (n : ℕ) (low high : Line) where
  abbrev end : ℕ
  end = end_asked n low.0 high.0

  band_tellable : (refusal : Refusal) → tested_band n low high ≡ Err refusal → Tellable end refusal
  band_tellable refusal e = go (wrong_length n) (ltb (n - 1) low.0) (ltb (n - 1) high.0) (ltb high.0 low.0) refl refl refl refl
    where
      go : (t u v w : Bool) → wrong_length n ≡ t → ltb (n - 1) low.0 ≡ u → ltb (n - 1) high.0 ≡ v → ltb high.0 low.0 ≡ w → Tellable end refusal
      go true u v w a b c d = so end refusal e Length (band_length n low high a) (in_block_tellable end Length (omega arith, omega arith))
      go false true v w a b c d = so end refusal e (LineAbove low) (low_beyond n low high a (ltb-true _ _ b)) (line_tellable low (rw b refl))
      go false false true w a b c d = let above = ltb-true (n - 1) high.0 c in let below = ltb-false (n - 1) low.0 b in
          so end refusal e (LineAbove high) (high-beyond n low high a below above) (line_tellable high (rw (b, le-ltb high.0 low.0 (omega arith)) refl))
      go false false false true a b c d = so end refusal e (LineAbove low) (turned_round n low high a (ltb-false _ _ b) (ltb-false _ _ c) (ltb-true _ _ d)) (line_tellable low (rw (b, d) refl))
      go false false false false a b c d = never end refusal e (band-taken n low high a (ltb-false _ _ b) (ltb-false _ _ c) (ltb-false _ _ d))

module _ (n : ℕ) (chosen : Line) where
  chosen_tellable : (refusal : Refusal) → tested_chosen n chosen ≡ Err refusal → Tellable chosen.0 refusal
  chosen_tellable refusal e = go (wrong_length n) (ltb (n - 1) chosen.0) refl refl
    where
      go : (t u : Bool) → wrong_length n ≡ t → ltb (n - 1) chosen.0 ≡ u → Tellable chosen.0 refusal
      go true u a b = so chosen.0 refusal e Length (chosen_length n chosen a) (in_block_tellable chosen.0 Length (omega arith, omega arith))
      go false true a b = so chosen.0 refusal e (LineAbove chosen) (chosen_beyond n chosen a (ltb-true _ _ b)) (line_tellable chosen refl)
      go false false a b = never chosen.0 refusal e (chosen_taken n chosen a (ltb-false _ _ b))

-- ---- the two searches

module _ (ps : List ℤ) where
  pub strongest_told : (low high : Line) {answer : ℕ} → answer ≡ packed_search (strongest_answer ps low high)
      → unpacked_search (end_asked (length ps) low.0 high.0) answer ≡ strongest_numbers ps low.0 high.0
  unfolding strongest_answer
  strongest_told low high e = let n = length ps in let k = tested_band n low high in ap (unpacked_search (end_asked n low.0 high.0)) e
      ∙ told (end_asked n low.0 high.0) n (strongest ps low.0 high.0) (strongest-listed ps low high) k (λ t. (band_known n low high t).few) (band_tellable n low high)
      ∙ strongest_numbers_lem ps low high

  pub nearest_told : (chosen : Line) (level : ℤ) {answer : ℕ} → answer ≡ packed_search (nearest_answer ps chosen level)
      → unpacked_search chosen.0 answer ≡ nearest_numbers ps chosen.0 level
  unfolding nearest_answer
  nearest_told chosen level e = let n = length ps in let k = tested_chosen n chosen in ap (unpacked_search chosen.0) e
      ∙ told chosen.0 n (nearest ps chosen.0 level) (nearest-listed ps chosen level) k (λ t. (chosen_known n chosen t).few) (chosen_tellable n chosen)
      ∙ nearest_numbers_lem ps chosen level
