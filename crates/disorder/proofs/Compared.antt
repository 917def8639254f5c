-- The rule as it was and the rule in force, held against each other for every trace: test by test, then record by record; and at last what stands before
-- the place of 18 and of 19.
-- Example: `compared trace b : SideBySide (Disorder trace) (formerly trace) (contents trace)`, with b : Bytes trace.
use mathlib.Core.Path.{◌≡◌, refl, sym, ap₂}
use mathlib.Core.Bool.{Bool, true, false, cond, not}
use mathlib.Core.List.{List, [], ◌∷◌}
use mathlib.Core.Logic.{◌↔◌, ⊎_elim}
use mathlib.Mathlib.Data.Bool.Basic.{and-eq-true-eq-eq-true-and-eq-true as both}
use Prim.Native.Nat.{ℕ, zero, suc, ◌+◌, ◌≤◌, ◌<◌}
use native.Mathlib.Nat.{eq-or-lt_of_le}
use native.Mathlib.Omega.{arith}
use borrow.Author.Tests.{ltb-true, ltb-false, eqb-true, eqb-false, not-true}
use lib.Dec.{eqb, ltb}
use lib.IntN.{ℤ}
use lib.ListN.{length, drop, length-drop}
use lib.Seq.{drop-drop}
use Rattle.std.specs.Prelude.{Option, Some, None}
use Rattle.refusal.specs.declared.Refusal.{Refusal}
use Rattle.refusal.specs.declared.Refusal.TheVariants.{Long, Cut, Kind, Size, Head as BadHead, Headless, SecondHead, Tail}
use Rattle.refusal.specs.RefusalTable.{number, place}
use Rattle.little_endian.specs.Reading.{Bytes}
use Rattle.record.specs.declared.Head.{Head}
use Rattle.record.specs.Fields.{HEAD, NOTE, END, PREFIX, kind, record_bytes, following, head_in}
use Rattle.record.specs.Tests.{outside, headless, second_head, Test, verdict, tests}
use Rattle.record.proofs.PassedRecords.{not_outside}
use Rattle.trace.specs.Contents.{LONGEST, Contents, holds, faulty, unless_fault, samples, records, contents}
use Rattle.trace.specs.Contents as now
use Rattle.grammar.proofs.Kept.{not_long, kept, cut_off}
use Rattle.disorder.specs.Formerly.{Former, held, FormerTest, former_tests, unless, formerly}
use Rattle.disorder.specs.Formerly as former
use Rattle.disorder.specs.SideBySide.{Disorder, headless as headless-first, second_head as second_head_first, tail, SideBySide, accepted, unchanged, parted}

-- ---- what the tests of a record tell

-- a record of a known kind that is not a head has a higher one
above_head : (k : ℕ) → outside HEAD END k ≡ false → not (eqb k HEAD) ≡ true → HEAD < k
above_head k known other = let l = not_outside HEAD END k known in let differs = eqb-false k HEAD (not-true (eqb k HEAD) other) in
    ⊎_elim (λ e. absurd (differs (sym e))) (λ h. h) (eq-or-lt_of_le l.0)

module _ (trace : List ℕ) where
  -- what stands at the place of 17, 18 or 19, by the test that brings it
  data Stands : Refusal → Type 0 where
    first : PREFIX ≤ length trace → HEAD < kind trace → Stands (Headless 0)
    again : (at : ℕ) → 1 ≤ at → at + PREFIX ≤ length trace → kind (drop at trace) ≡ HEAD → Stands (SecondHead at)
    behind : (at : ℕ) → at < length trace → Stands (Tail at)

  abbrev Alike : Former → Contents → Type 0
  Alike = SideBySide Stands

  -- ---- one test of both rules: where it finds no fault, those after it decide

  module _ (a : Former) (b : Contents) (t : Bool) (olds : List FormerTest) (news : List Test) (later : t ≡ false → Alike (unless olds a) (unless_fault (verdict news) b)) where
    -- the same in both
    same : (refusal : Refusal) → number refusal ≤ 15 → Alike (unless ((t, number refusal, place refusal) ∷ olds) a) (unless_fault (verdict ((t, refusal) ∷ news)) b)
    unfolding verdict unless
    same refusal small = go t refl
      where
        go : (u : Bool) → t ≡ u → Alike (unless ((u, number refusal, place refusal) ∷ olds) a) (unless_fault (verdict ((u, refusal) ∷ news)) b)
        go true e = unchanged refusal small
        go false e = later e

    -- 13, and what stands for it now
    for_13 : (refusal : Refusal) → (t ≡ true → Stands refusal) → Alike (unless ((t, 13, place refusal) ∷ olds) a) (unless_fault (verdict ((t, refusal) ∷ news)) b)
    unfolding verdict unless
    for_13 refusal found = go t refl
      where
        go : (u : Bool) → t ≡ u → Alike (unless ((u, 13, place refusal) ∷ olds) a) (unless_fault (verdict ((u, refusal) ∷ news)) b)
        go true e = parted refusal (found e)
        go false e = later e

  module _ (a : Former) (b : Contents) where
    -- a test that there was not, and that finds nothing
    idle : (olds : List FormerTest) (news : List Test) (refusal : Refusal) → Alike (unless olds a) (unless_fault (verdict news) b)
        → Alike (unless olds a) (unless_fault (verdict ((false, refusal) ∷ news)) b)
    unfolding verdict unless
    idle olds news refusal h = h

    no_more : Alike a b → Alike (unless [] a) (unless_fault (verdict []) b)
    unfolding verdict unless
    no_more h = h

  -- ---- one record

  module _ (a : Former) (b : Contents) (h : Alike a b) where
    -- its tests after 17 and 18
    sized_on : (before : Option Head) (at : ℕ) (rest : List ℕ) → (PREFIX < length rest → at + PREFIX < length trace)
        → Alike (unless (drop 3 (former_tests before at rest)) a) (unless_fault (verdict (drop 4 (tests before at rest))) b)
    unfolding tests
    sized_on before at rest l =
        same a b _ _ _ (λ sized. same a b _ _ _ (λ whole. same a b _ _ _ (λ right. for_13 a b _ _ _ (λ none. no_more a b h)
        (Tail (at + PREFIX)) (λ t. behind (at + PREFIX) (l (ltb-true PREFIX (length rest) ((both (eqb (kind rest) END) (ltb PREFIX (length rest))).0 t).1)))) (BadHead at) (omega arith)) (Cut at) (omega arith)) (Size at) (omega arith)

    -- the first one
    first_record : Alike (unless (former_tests None 0 trace) a) (unless_fault (verdict (tests None 0 trace)) b)
    unfolding tests headless second_head
    first_record =
        same a b _ _ _ (λ six. same a b _ _ _ (λ known. for_13 a b _ _ _ (λ headed. idle a b _ _ (SecondHead 0) (sized_on None 0 trace (λ l. l)))
        (Headless 0) (λ other. first (ltb-false _ _ six) (above_head (kind trace) known other))) (Kind 0) (omega arith)) (Cut 0) (omega arith)

    -- one after the head, at byte `at`
    later_record : (head : Head) (at : ℕ) → 1 ≤ at → let rest = drop at trace in Alike (unless (former_tests (Some head) at rest) a) (unless_fault (verdict (tests (Some head) at rest)) b)
    unfolding tests headless second_head
    later_record head at l = let rest = drop at trace in
        same a b _ _ _ (λ six. same a b _ _ _ (λ known. idle a b _ _ (Headless at) (for_13 a b _ _ _ (λ only. sized_on (Some head) at rest (λ long. omega (arith, length-drop at trace)))
        (SecondHead at) (λ is-head. again at l (omega (arith, ltb-false (length rest) PREFIX six, length-drop at trace)) (eqb-true _ _ is-head)))) (Kind at) (omega arith)) (Cut at) (omega arith)

  -- ---- all of them

  either : {a c : Former} {b d : Contents} (t : Bool) → Alike a b → Alike c d → Alike (cond t a c) (cond t b d)
  either true h k = h
  either false h k = k

  with_block_lem : {a : Former} {b : Contents} (xs : List ℤ) → Alike a b → Alike (former.with_block xs a) (now.with_block xs b)
  with_block_lem xs (accepted head blocks) = accepted head (xs ∷ blocks)
  with_block_lem xs (unchanged refusal small) = unchanged refusal small
  with_block_lem xs (parted refusal s) = parted refusal s

  later_records : (n : ℕ) (head : Head) (at : ℕ) → 1 ≤ at → Alike (former.walk n head at (drop at trace)) (now.walk n head at (drop at trace))
  unfolding former.walk now.walk
  later_records zero head at l = unchanged (Cut at) (omega arith)
  later_records (suc n) head at l = let rest = drop at trace in
      let next = rw (← (drop-drop (record_bytes rest) at trace)) at (later_records n head (at + record_bytes rest) (omega arith)) in
      later_record _ _ (either (eqb (kind rest) END) (accepted head []) (either (eqb (kind rest) NOTE) next (with_block_lem (samples head rest) next))) head at l

  alike : Alike (formerly trace) (contents trace)
  unfolding formerly contents records
  alike = let rest = following trace in let head = head_in trace in let at = record_bytes trace in
      same (former.walk (length rest) head at rest) (now.walk (length rest) head at rest) (ltb LONGEST (length trace)) (former_tests None 0 trace) _
      (λ short. first_record _ _ (later_records (length rest) head at (omega arith))) Long (omega arith)

  -- ---- what stands before the place of 18 and of 19

  module _ (b : Bytes trace) where
    disorder : (refusal : Refusal) → contents trace ≡ faulty refusal → Stands refusal → Disorder trace refusal
    disorder _ e (first six k) = headless-first six k
    disorder _ e (again at l six k) = let t = kept trace b (SecondHead at) e l (λ n. omega arith) (omega (arith, not_long trace b (SecondHead at) e l)) in
        second_head_first at t.head t.blocks t.derived six k
    disorder _ e (behind at l) = let t = cut_off trace b at e in tail at t.head t.blocks t.derived l

    pub compared : SideBySide (Disorder trace) (formerly trace) (contents trace)
    compared = go alike refl
      where
        go : {a : Former} {c : Contents} → Alike a c → contents trace ≡ c → SideBySide (Disorder trace) a c
        go (accepted head blocks) e = accepted head blocks
        go (unchanged refusal small) e = unchanged refusal small
        go (parted refusal s) e = parted refusal (disorder refusal e s)

  -- so a trace is accepted exactly when it was, and holds what it held
  pub accepted_as_before : (head : Head) (blocks : List (List ℤ)) → (formerly trace ≡ held head blocks) ↔ (contents trace ≡ holds head blocks)
  accepted_as_before head blocks = go alike
    where
      go : {a : Former} {b : Contents} → Alike a b → (a ≡ held head blocks) ↔ (b ≡ holds head blocks)
      go (accepted h bs) = (λ e. let one : h ≡ head = cc in let other : bs ≡ blocks = cc in ap₂ holds one other, λ e. let one : h ≡ head = cc in let other : bs ≡ blocks = cc in ap₂ held one other)
      go (unchanged refusal small) = (λ e. absurd (cc), λ e. let z : ◌≡◌ {A = ℕ} 0 1 = cc in absurd (omega arith))
      go (parted refusal s) = (λ e. absurd (cc), λ e. let z : ◌≡◌ {A = ℕ} 0 1 = cc in absurd (omega arith))
