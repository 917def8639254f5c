-- Unpacking an answer gives back what was packed, since each part stays within its bytes.
-- Example: `block_unpacked k : unpacked_block (packed (block_answer k)) ≡ verdict_numbers k`.
use mathlib.Core.Path.{◌≡◌, refl, sym, ◌∙◌, ap}
use mathlib.Core.Bool.{Bool, true, false, cond, ◌||◌}
use mathlib.Core.List.{List, [], ◌∷◌}
use Prim.Native.Nat.{ℕ, ◌+◌, ◌*◌, ◌/◌, ◌%◌, ◌^◌, ◌≤◌, ◌<◌}
use native.Mathlib.Omega.{arith}
use borrow.Author.Tests.{eq-eqb, ne_eqb, eqb-true, eqb-false}
use lib.Dec.{eqb}
use lib.IntN.{ℤ}
use lib.ListN.{length}
use Rattle.std.specs.Prelude.{Option, Some, None, Result, Ok, Err}
use Rattle.kind.specs.declared.BlockKind.{BlockKind}
use Rattle.kind.specs.declared.Line.{Line as LineOf}
use Rattle.little_endian.specs.Reading.{unsigned}
use Rattle.little_endian.specs.Spelling.{spelled}
use Rattle.refusal.specs.declared.Refusal.{Refusal}
use Rattle.refusal.specs.declared.Refusal.TheVariants.{Line, Absent}
use Rattle.refusal.specs.RefusalTable.{number, place}
use Rattle.refusal.proofs.Numbers.{number_fits}
use Rattle.block.specs.BlockAnswers.{block_answer, verdict_numbers}
use Rattle.distance.specs.BoundAnswers.{bound_answer_numbers}
use Rattle.fourier.specs.declared.ScaledLine.TheVariants.{Mean, Last, Pair}
use Rattle.fourier.specs.Parts.{H}
use Rattle.fourier.specs.Scaled.{quotient, scaled_line, scaled_parts, scaled_to}
use Rattle.block.proofs.Refused.{InBlock}
use Rattle.record.proofs.Places.{InTrace}
use Rattle.trace.specs.declared.Summary.{Summary}
use Rattle.trace.specs.Contents.{LONGEST}
use Rattle.trace.specs.TraceAnswers.{trace_answer_numbers}
use Rattle.search.specs.SearchAnswers.{search_numbers}
use Rattle.save_tests.specs.Save.{save_answer_numbers}
use Rattle.packing.specs.Packing.{blocks_in, case_numbers, case_of, case_packed, number_in, packed, packed_bound, packed_refusal, packed_save, packed_scaled, packed_search, packed_trace, p_in, place_for, place_in, rate_in, unless_refused, unpacked_block, unpacked_bound, unpacked_fetch, unpacked_save, unpacked_scaled, unpacked_search, unpacked_trace}

-- ---- a refusal

module _ (refusal : Refusal) where
  number-back : number_in (packed_refusal refusal) ≡ number refusal
  unfolding packed_refusal
  number-back = omega (arith, (number_fits refusal).1)

  place-back : place refusal < 256 ^ 7 → place_in (packed_refusal refusal) ≡ place refusal
  unfolding packed_refusal
  place-back small = omega (arith, (number_fits refusal).1)

  -- it is not taken for an answer that refuses nothing
  pub refused_at_all : eqb (number_in (packed_refusal refusal)) 0 ≡ false
  refused_at_all = rw number-back (ne_eqb (number refusal) 0 (λ e. omega (arith, (number_fits refusal).0)))

  told : (shown : ℕ) (done : List ℕ) → shown ≡ place refusal → unless_refused (packed_refusal refusal) shown done ≡ number refusal ∷ place refusal ∷ []
  told shown done e = rw (refused_at_all, number-back, e) refl

-- the place is what the host has asked for where the refusal is 4 or 16, and else fits its bytes
pub record Tellable (asked : ℕ) (refusal : Refusal) : Type 0 where
  pub line_asked : number refusal ≡ 4 → place refusal ≡ asked
  pub block_asked : number refusal ≡ 16 → place refusal ≡ asked
  pub fits : (number refusal ≡ 4 → ⊥) → (number refusal ≡ 16 → ⊥) → place refusal < 256 ^ 7

module _ (asked : ℕ) (refusal : Refusal) where
  place_for_lem : Tellable asked refusal → place_for asked (packed_refusal refusal) ≡ place refusal
  place_for_lem h = rw (number-back refusal) (go (eqb (number refusal) 4) (eqb (number refusal) 16) refl refl)
    where
      go : (t u : Bool) → eqb (number refusal) 4 ≡ t → eqb (number refusal) 16 ≡ u → cond (t || u) asked (place_in (packed_refusal refusal)) ≡ place refusal
      go true u e f = sym (h.line_asked (eqb-true (number refusal) 4 e))
      go false true e f = sym (h.block_asked (eqb-true (number refusal) 16 f))
      go false false e f = place-back refusal (h.fits (eqb-false (number refusal) 4 e) (eqb-false (number refusal) 16 f))

  small_tellable : (number refusal ≡ 4 → ⊥) → (number refusal ≡ 16 → ⊥) → place refusal < 256 ^ 7 → Tellable asked refusal
  small_tellable four sixteen small = record { line_asked = λ e. absurd (four e); block_asked = λ e. absurd (sixteen e); fits = λ f s. small }

  -- a refusal of a trace has its place in it
  pub in_trace_tellable : InTrace LONGEST refusal → Tellable asked refusal
  in_trace_tellable h = small_tellable (λ e. omega arith) h.1 (omega arith)

  -- and a refusal of a block
  pub in_block_tellable : InBlock refusal → Tellable asked refusal
  in_block_tellable h = small_tellable (λ e. omega arith) (λ e. omega arith) (omega arith)

-- a line or a block that is asked for
pub line_tellable : {asked : ℕ} (line : LineOf) → line.0 ≡ asked → Tellable asked (Line line)
line_tellable line e = record { line_asked = λ f. e; block_asked = λ f. e; fits = λ four sixteen. absurd (four refl) }

pub absent_tellable : (block : ℕ) → Tellable block (Absent block)
absent_tellable block = record { line_asked = λ f. refl; block_asked = λ f. refl; fits = λ four sixteen. absurd (sixteen refl) }

-- ---- a call on a block

pub nothing_refused : (answer : Result (Unit {0}) Refusal) → packed answer ≡ 0 → answer ≡ Ok tt
unfolding packed_refusal
nothing_refused (Ok done) e = refl
nothing_refused (Err refusal) e = absurd (omega (arith, (number_fits refusal).0))

pub block_unpacked : (k : Result BlockKind Refusal) → ((refusal : Refusal) → k ≡ Err refusal → place refusal < 256 ^ 7) → unpacked_block (packed (block_answer k)) ≡ verdict_numbers k
unfolding unpacked_block
block_unpacked (Ok kind) h = refl
block_unpacked (Err refusal) h = told refusal _ [] (place-back refusal (h refusal refl))

-- ---- a scaled line

packs_case : (xs : List ℤ) (v : ℕ) → case_packed (scaled_line xs v) ≡ 256 * case_of (length xs) v
packs_case xs v = go (eqb v 0) (eqb v (length xs / 2))
  where
    go : (t u : Bool) → case_packed (cond t (Mean (quotient (H xs 0) (length xs))) (cond u (Last (quotient (H xs (length xs / 2)) (length xs))) (Pair (scaled_parts xs v)))) ≡ 256 * cond t 1 (cond u 2 3)
    go true u = refl
    go false true = refl
    go false false = refl

case_small : (N v : ℕ) → case_of N v < 256
case_small N v = go (eqb v 0) (eqb v (N / 2))
  where
    go : (t u : Bool) → cond t 1 (cond u 2 3) < 256
    go true u = omega arith
    go false true = omega arith
    go false false = omega arith

case_unpacked : (line c : ℕ) → c < 256 → unpacked_scaled line (256 * c) ≡ c ∷ []
unfolding unpacked_scaled
case_unpacked line c h = let none : number_in (256 * c) ≡ 0 = omega arith in let one : 256 * c / 256 ≡ c = omega arith in let same : c % 256 ≡ c = omega arith in
    rw (eq-eqb (number_in (256 * c)) 0 none, one, same) refl

line_refused : (asked : ℕ) (refusal : Refusal) → Tellable asked refusal → unpacked_scaled asked (packed_refusal refusal) ≡ number refusal ∷ place refusal ∷ []
unfolding unpacked_scaled
line_refused asked refusal h = told refusal _ _ (place_for_lem asked refusal h)

pub scaled_unpacked : (xs : List ℤ) (line : LineOf) (k : Result BlockKind Refusal) → ((refusal : Refusal) → k ≡ Err refusal → Tellable line.0 refusal)
    → unpacked_scaled line.0 (packed_scaled (scaled_to xs line k)) ≡ case_numbers (length xs) line.0 k
scaled_unpacked xs line (Ok kind) h = ap (unpacked_scaled line.0) (packs_case xs line.0) ∙ case_unpacked line.0 (case_of (length xs) line.0) (case_small (length xs) line.0)
scaled_unpacked xs line (Err refusal) h = line_refused line.0 refusal (h refusal refl)

-- ---- a check

-- every number of an accepted trace fits its bytes
abbrev pub Fitting : Summary → Type 0
Fitting summary = (summary.head.rate < 256 ^ 4) × (summary.head.p ≤ 10) × (summary.blocks < 256 ^ 2)

-- the lower two and the lower four bytes of x
two_bytes : (x : ℕ) → x % 256 + 256 * (x / 256 % 256) ≡ x % 256 ^ 2
two_bytes x = omega arith

four_bytes : (x : ℕ) → x % 256 + 256 * (x / 256 % 256 + 256 * (x / 256 / 256 % 256 + 256 * (x / 256 / 256 / 256 % 256))) ≡ x % 256 ^ 4
four_bytes x = joined x (x / 256 / 256) _ _ _ _ (omega arith) (two_bytes x) (two_bytes (x / 256 / 256))
  where
    joined : (x y a b c d : ℕ) → y ≡ x / 256 ^ 2 → a + 256 * b ≡ x % 256 ^ 2 → c + 256 * d ≡ y % 256 ^ 2 → a + 256 * (b + 256 * (c + 256 * d)) ≡ x % 256 ^ 4
    joined x y a b c d e low high = omega arith

pub accepted-packed : (summary : Summary) → packed_trace (Ok summary) ≡ 256 * (summary.head.p % 256 + 256 * (summary.blocks % 256 ^ 2 + 256 ^ 2 * (summary.head.rate % 256 ^ 4)))
unfolding unsigned spelled
accepted-packed summary = summed _ _ _ _ _ _ _ _ _ (two_bytes summary.blocks) (four_bytes summary.head.rate)
  where
    summed : (p a b c d e f count rate : ℕ) → a + 256 * b ≡ count → c + 256 * (d + 256 * (e + 256 * f)) ≡ rate
        → 0 + 256 * (p + 256 * (a + 256 * (b + 256 * (c + 256 * (d + 256 * (e + 256 * (f + 256 * 0))))))) ≡ 256 * (p + 256 * (count + 256 ^ 2 * rate))
    summed p a b c d e f count rate ec er = omega arith

module _ (summary : Summary) (f : Fitting summary) where
  fitting_packed : packed_trace (Ok summary) ≡ 256 * (summary.head.p + 256 * (summary.blocks + 256 ^ 2 * summary.head.rate))
  fitting_packed = accepted-packed summary ∙ omega arith

  -- whatever a place would be
  accepted_told : (shown : ℕ) → let a = packed_trace (Ok summary) in unless_refused a shown (rate_in a ∷ p_in a ∷ blocks_in a ∷ []) ≡ trace_answer_numbers (Ok summary)
  accepted_told shown = let head = summary.head in let blocks = summary.blocks in let a = 256 * (head.p + 256 * (blocks + 256 ^ 2 * head.rate)) in
      let none : number_in a ≡ 0 = omega arith in
      let rate : rate_in a ≡ head.rate = omega arith in
      let after-1 : a / 256 ≡ head.p + 256 * (blocks + 256 ^ 2 * head.rate) = omega arith in
      let after-2 : a / 256 ^ 2 ≡ blocks + 256 ^ 2 * head.rate = omega arith in
      let exponent : (head.p + 256 * (blocks + 256 ^ 2 * head.rate)) % 256 ≡ head.p = omega arith in
      let count : (blocks + 256 ^ 2 * head.rate) % 256 ^ 2 ≡ blocks = omega arith in
      rw (fitting_packed, eq-eqb (number_in a) 0 none, rate, after-1, exponent, after-2, count) refl

pub trace_unpacked : (answer : Result Summary Refusal) → ((refusal : Refusal) → answer ≡ Err refusal → place refusal < 256 ^ 7) → ((summary : Summary) → answer ≡ Ok summary → Fitting summary)
    → unpacked_trace (packed_trace answer) ≡ trace_answer_numbers answer
unfolding unpacked_trace
trace_unpacked (Ok summary) small fits = accepted_told summary (fits summary refl) _
trace_unpacked (Err refusal) small fits = told refusal _ _ (place-back refusal (small refusal refl))

pub fetch_unpacked : (k : ℕ) (answer : Result Summary Refusal) → ((refusal : Refusal) → answer ≡ Err refusal → Tellable k refusal) → ((summary : Summary) → answer ≡ Ok summary → Fitting summary)
    → unpacked_fetch k (packed_trace answer) ≡ trace_answer_numbers answer
unfolding unpacked_fetch
fetch_unpacked k (Ok summary) small fits = accepted_told summary (fits summary refl) _
fetch_unpacked k (Err refusal) small fits = told refusal _ _ (place_for_lem k refusal (small refusal refl))

-- ---- a search

pub search_unpacked : (asked : ℕ) (answer : Result (Option LineOf) Refusal) → ((refusal : Refusal) → answer ≡ Err refusal → Tellable asked refusal) → ((line : LineOf) → answer ≡ Ok (Some line) → line.0 < 256 ^ 2)
    → unpacked_search asked (packed_search answer) ≡ search_numbers answer
unfolding unpacked_search
search_unpacked asked (Ok (Some line)) tellable fits = let v = line.0 in let h = fits line refl in let a = 256 * (1 + 256 * v) in
    let small : v % 256 ^ 2 ≡ v = omega arith in let done : number_in a ≡ 0 = omega arith in let after-1 : a / 256 ≡ 1 + 256 * v = omega arith in
    let one : (1 + 256 * v) % 256 ≡ 1 = omega arith in let after-2 : a / 256 ^ 2 ≡ v = omega arith in
    rw (small, eq-eqb (number_in a) 0 done, after-1, one, after-2, small) refl
search_unpacked asked (Ok None) tellable fits = refl
search_unpacked asked (Err refusal) tellable fits = told refusal _ _ (place_for_lem asked refusal (tellable refusal refl))

-- ---- a number in seven bytes: the bytes that a saved trace takes, or the bound of a block

pub seven_bytes : (n : ℕ) → n < 256 ^ 7 → let a = 256 * (n % 256 ^ 7) in (number_in a ≡ 0) × (a / 256 ≡ n)
seven_bytes n h = (omega arith, omega arith)

seven_told : (n shown : ℕ) → n < 256 ^ 7 → let a = 256 * (n % 256 ^ 7) in unless_refused a shown (a / 256 ∷ []) ≡ n ∷ []
seven_told n shown h = let s = seven_bytes n h in rw (eq-eqb (number_in (256 * (n % 256 ^ 7))) 0 s.0, s.1) refl

-- it, or the place of a refusal, fits seven bytes
abbrev pub SevenBytes : Result ℕ Refusal → Type 0
SevenBytes (Ok n) = n < 256 ^ 7
SevenBytes (Err refusal) = place refusal < 256 ^ 7

-- ---- a call that saves

pub save_unpacked : (answer : Result ℕ Refusal) → SevenBytes answer → unpacked_save (packed_save answer) ≡ save_answer_numbers answer
unfolding unpacked_save
save_unpacked (Ok used) h = seven_told used _ h
save_unpacked (Err refusal) h = told refusal _ _ (place-back refusal h)

-- ---- a call for a bound

pub bound_unpacked : (answer : Result ℕ Refusal) → SevenBytes answer → unpacked_bound (packed_bound answer) ≡ bound_answer_numbers answer
unfolding unpacked_bound
bound_unpacked (Ok bound) h = seven_told bound _ h
bound_unpacked (Err refusal) h = told refusal _ _ (place-back refusal h)
