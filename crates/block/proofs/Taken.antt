-- What the tests tell: a block that is taken has the length of its kind, no cell outside the limits and outputs that fit; and a block of
-- which all that holds is taken.
-- Example: `samples-quiet xs kind e i : nat_abs (cell xs i) ≤ LOUDEST_SAMPLE`, with e : tested_samples xs ≡ Ok kind.
use mathlib.Core.Path.{◌≡◌, refl, ap}
use mathlib.Core.Bool.{Bool, true, false, cond, not, ◌||◌, true≢false}
use mathlib.Core.List.{List, [], ◌∷◌}
use Prim.Native.Nat.{ℕ, zero, suc, ◌+◌, ◌/◌, ◌≤◌}
use native.Mathlib.Omega.{arith}
use borrow.Author.Tests.{eqb-true, le-ltb, ltb-false}
use lib.Dec.{eqb, ltb}
use lib.IntN.{ℤ, pos, neg_ℤ, nat_abs}
use lib.ListN.{length}
use lib.Signed.{lt_z, lt_z_no}
use Rattle.std.specs.Prelude.{Option, Some, None, Result, Ok, Err}
use Rattle.ints.proofs.Ring.{quotes}
use Rattle.ints.proofs.Order.{◌≼◌, le_fact}
use Rattle.ints.proofs.Comparisons.{at_most_test}
use Rattle.ints.proofs.Abs.{abs_fact}
use Rattle.kind.specs.declared.BlockKind.{BlockKind}
use Rattle.kind.specs.declared.Line.{Line}
use Rattle.refusal.specs.declared.Refusal.{Refusal}
use Rattle.refusal.specs.declared.Refusal.TheVariants.{Misfit, Loud, Line as LineAbove}
use Rattle.kind.specs.BlockKinds.{kind_with, kind_of}
use Rattle.kind.proofs.Lengths.{KindLength, kind-length, kind-given}
use Rattle.ints.specs.Cells.{cell}
use Rattle.kind.specs.Loudness.{LOUDEST_SAMPLE, LOUDEST_LINE}
use Rattle.block.specs.Transformable.{Transformable}
use Rattle.block.specs.Tests.{of_length, refused_if, misfit, first_loud, tested, tested_samples, tested_spectrum, tested_line}

-- ---- a list with no loud cell

neither : (t u : Bool) (n i : ℕ) → suc n ≤ cond (t || u) 0 (suc i) → (t ≡ false) × (u ≡ false) × (n ≤ i)
neither true u n i h = absurd (omega arith)
neither false true n i h = absurd (omega arith)
neither false false n i h = (refl, refl, omega arith)

between : (a b m : ℕ) (x : ℤ) → a ≤ m → b ≤ m → lt_z x (neg_ℤ (pos a)) ≡ false → lt_z (pos b) x ≡ false → nat_abs x ≤ m
between a b m x h k e f = let Γ = x ∷ pos a ∷ pos b ∷ [] in
    let above : neg_ℤ (pos a) ≼ x = lt_z_no (rw e tt) in
    let below : x ≼ pos b = lt_z_no (rw f tt) in
    omega (arith, abs_fact Γ x (search quotes), le_fact Γ above (search quotes), le_fact Γ below (search quotes))

module _ (a b m : ℕ) (ha : a ≤ m) (hb : b ≤ m) where
  quiet : (xs : List ℤ) → length xs ≤ first_loud (neg_ℤ (pos a)) (pos b) xs → (k : ℕ) → nat_abs (cell xs k) ≤ m
  unfolding first_loud
  quiet [] h k = omega arith
  quiet (x ∷ xs) h zero = let p = neither (lt_z x (neg_ℤ (pos a))) (lt_z (pos b) x) (length xs) _ h in between a b m x ha hb p.0 p.1
  quiet (x ∷ xs) h (suc k) = let p = neither (lt_z x (neg_ℤ (pos a))) (lt_z (pos b) x) (length xs) _ h in quiet xs p.2 k

-- every cell lies within the limits, and so does 0, which stands past the last
pub quiet_cells : (low high : ℤ) → low ≼ pos 0 → pos 0 ≼ high → (xs : List ℤ) → length xs ≤ first_loud low high xs → (k : ℕ) → (low ≼ cell xs k) × (cell xs k ≼ high)
unfolding first_loud
quiet_cells low high a b [] h k = (a, b)
quiet_cells low high a b (x ∷ xs) h zero = let p = neither (lt_z x low) (lt_z high x) (length xs) _ h in (lt_z_no (rw p.0 tt), lt_z_no (rw p.1 tt))
quiet_cells low high a b (x ∷ xs) h (suc k) = let p = neither (lt_z x low) (lt_z high x) (length xs) _ h in quiet_cells low high a b xs p.2 k

-- ---- a test that is passed

pub passed : (fault : Bool) (refusal : Refusal) (k : Result BlockKind Refusal) (kind : BlockKind) → refused_if fault refusal k ≡ Ok kind → (fault ≡ false) × (k ≡ Ok kind)
passed fault refusal (Err earlier) kind e = cc
passed true refusal (Ok asked) kind e = cc
passed false refusal (Ok asked) kind e = (refl, e)

-- a length that is taken is that of the kind
pub length_found : (k : Option BlockKind) (kind : BlockKind) → of_length k ≡ Ok kind → k ≡ Some kind
length_found (Some asked) kind e = let same : asked ≡ kind = cc in ap Some same
length_found None kind e = cc

-- ---- outputs that fit

pub output_fits : (wanted n : ℕ) (ns : List ℕ) → misfit wanted (n ∷ ns) ≡ false → (n ≡ wanted) × (misfit wanted ns ≡ false)
unfolding misfit
output_fits wanted n ns e = go (eqb n wanted) refl e
  where
    go : (t : Bool) → eqb n wanted ≡ t → (not t || misfit wanted ns) ≡ false → (n ≡ wanted) × (misfit wanted ns ≡ false)
    go true f e = (eqb-true n wanted f, e)
    go false f e = absurd (true≢false e)

pub output_none : (wanted : ℕ) → misfit wanted [] ≡ false
unfolding misfit
output_none wanted = refl

-- ---- a block that is taken

module _ (low high : ℤ) (outputs : List ℕ) (xs : List ℤ) (kind : BlockKind) (e : tested low high outputs xs ≡ Ok kind) where
  quiet_then : (ltb (first_loud low high xs) (length xs) ≡ false) × (refused_if (misfit (length xs / 2 + 1) outputs) Misfit (of_length (kind_of (length xs))) ≡ Ok kind)
  unfolding tested
  quiet_then = passed (ltb (first_loud low high xs) (length xs)) (Loud (first_loud low high xs)) (refused_if (misfit (length xs / 2 + 1) outputs) Misfit (of_length (kind_of (length xs)))) kind e

  fits_then : (misfit (length xs / 2 + 1) outputs ≡ false) × (of_length (kind_of (length xs)) ≡ Ok kind)
  fits_then = passed (misfit (length xs / 2 + 1) outputs) Misfit (of_length (kind_of (length xs))) kind quiet_then.1

  pub taken_found : kind_of (length xs) ≡ Some kind
  taken_found = length_found (kind_of (length xs)) kind fits_then.1

  pub taken_kind : KindLength (length xs) kind.p
  taken_kind = kind-length (length xs) kind.p taken_found

  pub taken_fits : misfit (length xs / 2 + 1) outputs ≡ false
  taken_fits = fits_then.0

taken_quiet : (a b m : ℕ) (outputs : List ℕ) (xs : List ℤ) (kind : BlockKind) → a ≤ m → b ≤ m → tested (neg_ℤ (pos a)) (pos b) outputs xs ≡ Ok kind
    → (i : ℕ) → nat_abs (cell xs i) ≤ m
taken_quiet a b m outputs xs kind ha hb e = quiet a b m ha hb xs (ltb-false _ _ (quiet_then (neg_ℤ (pos a)) (pos b) outputs xs kind e).0)

pub samples-quiet : (xs : List ℤ) (kind : BlockKind) → tested_samples xs ≡ Ok kind → (i : ℕ) → nat_abs (cell xs i) ≤ LOUDEST_SAMPLE
samples-quiet xs kind e = taken_quiet 32768 32767 LOUDEST_SAMPLE [] xs kind (omega arith) (omega arith) e

-- within any limits up to 2^28
taken_accepted : (a b : ℕ) (outputs : List ℕ) (xs : List ℤ) (kind : BlockKind) → a ≤ LOUDEST_LINE → b ≤ LOUDEST_LINE → tested (neg_ℤ (pos a)) (pos b) outputs xs ≡ Ok kind
    → Transformable kind.p xs
taken_accepted a b outputs xs kind ha hb e = let k = taken_kind (neg_ℤ (pos a)) (pos b) outputs xs kind e in
    record { least = k.least; most = k.most; long = k.cells; quiet = taken_quiet a b LOUDEST_LINE outputs xs kind ha hb e }

pub samples-accepted : (xs : List ℤ) (kind : BlockKind) → tested_samples xs ≡ Ok kind → Transformable kind.p xs
samples-accepted xs kind e = taken_accepted 32768 32767 [] xs kind (omega arith) (omega arith) e

pub spectrum_accepted : (outputs : List ℕ) (xs : List ℤ) (kind : BlockKind) → tested_spectrum outputs xs ≡ Ok kind → Transformable kind.p xs
spectrum_accepted outputs xs kind e = taken_accepted LOUDEST_LINE LOUDEST_LINE outputs xs kind (omega arith) (omega arith) e

pub taken_line : (line : Line) (xs : List ℤ) (kind : BlockKind) → tested_line line xs ≡ Ok kind → (tested_spectrum [] xs ≡ Ok kind) × (line.0 ≤ length xs / 2)
taken_line line xs kind e = let p = passed (ltb (length xs / 2) line.0) (LineAbove line) (tested_spectrum [] xs) kind e in (p.1, ltb-false _ _ p.0)

-- ---- and a block that must be taken

pub all_quiet : (low high : ℤ) (xs : List ℤ) → ((i : ℕ) → low ≼ cell xs i) → ((i : ℕ) → cell xs i ≼ high) → first_loud low high xs ≡ length xs
unfolding first_loud
all_quiet low high [] h k = refl
all_quiet low high (x ∷ xs) h k = rw (at_most_test x low (h 0), at_most_test high x (k 0)) (ap suc (all_quiet low high xs (λ i. h (suc i)) (λ i. k (suc i))))

pub must_take : (low high : ℤ) (P : ℕ) (outputs : List ℕ) (xs : List ℤ) → KindLength (length xs) P → misfit (length xs / 2 + 1) outputs ≡ false
    → ((i : ℕ) → low ≼ cell xs i) → ((i : ℕ) → cell xs i ≼ high) → tested low high outputs xs ≡ Ok (kind_with P)
unfolding tested
must_take low high P outputs xs n f h k = rw (all_quiet low high xs h k, le-ltb (length xs) (length xs) (omega arith), f, kind-given (length xs) P n) refl
