-- `tested` is right because it makes the definition's tests in the definition's order.
use borrow.Author.Rules.{rules}
use borrow.Author.Tests.{eq-eqb, ne_eqb}
use mathlib.Core.Path.{◌≡◌, refl, sym, ◌∙◌}
use mathlib.Core.Bool.{Bool, true, false, not}
use mathlib.Core.List.{List}
use Prim.Native.Nat.{ℕ}
use native.Mathlib.Omega.{arith}
use lib.Dec.{eqb, ltb}
use lib.IntN.{ℤ}
use lib.ListN.{length}
use Rattle.std.specs.Prelude.{Option, Some, None, Result, Ok, Err}
use Rattle.kind.specs.declared.BlockKind.{BlockKind}
use Rattle.kind.specs.BlockKinds.{kind_of}
use Rattle.kind.specs.Loudness.{LEAST_SAMPLE, LARGEST_SAMPLE}
use Rattle.refusal.specs.declared.Refusal.{Refusal}
use Rattle.refusal.specs.declared.Refusal.TheVariants.{Length, Misfit, Loud, Weights}
use Rattle.ints.specs.Place.{place_below}
use Rattle.block.specs.Tests.{first_loud}
use Rattle.smooth_tests.specs.Tests.{first_heavy, tested_smoothing}
use Rattle.smooth_tests.proofs.InNumbers.{both_ways}
use Rattle.smooth_tests.proofs.tested.Goals as goal

-- the answer by what the tests find: the kind, whether the weights do not fit, and the places of a loud sample and of a heavy weight
abbrev found : Option BlockKind → Bool → Option ℕ → Option ℕ → Result BlockKind Refusal
found None unfit loud heavy = Err Length
found (Some kind) true loud heavy = Err Misfit
found (Some kind) false (Some place) heavy = Err (Loud place)
found (Some kind) false None (Some place) = Err (Weights place)
found (Some kind) false None None = Ok kind

module _ (xs ws : List ℤ) where
  abbrev louds : ℕ
  louds = first_loud LEAST_SAMPLE LARGEST_SAMPLE xs

  by : (kind : Option BlockKind) (unfit loud heavy : Bool) → kind_of (length xs) ≡ kind → not (eqb (length ws) (length xs)) ≡ unfit → ltb louds (length xs) ≡ loud
      → ltb (first_heavy ws) (length ws) ≡ heavy → found kind unfit (place_below (length xs) louds) (place_below (length ws) (first_heavy ws)) ≡ tested_smoothing xs ws
  unfolding tested_smoothing
  by None unfit loud heavy e f g h = rw e refl
  by (Some kind) true loud heavy e f g h = rw (e, f) refl
  by (Some kind) false true heavy e f g h = rw (e, f, g) refl
  by (Some kind) false false true e f g h = rw (e, f, g, h) refl
  by (Some kind) false false false e f g h = rw (e, f, g, h) refl

  in_turn : {kind : Option BlockKind} {unfit : Bool} {loud heavy : Option ℕ} → kind ≡ kind_of (length xs) → unfit ≡ not (eqb (length ws) (length xs))
      → loud ≡ place_below (length xs) louds → heavy ≡ place_below (length ws) (first_heavy ws) → found kind unfit loud heavy ≡ tested_smoothing xs ws
  in_turn e f g h = rw (e, f, g, h) (by (kind_of (length xs)) (not (eqb (length ws) (length xs))) (ltb louds (length xs)) (ltb (first_heavy ws) (length ws)) refl refl refl refl)

  fit : length ws ≡ length xs → false ≡ not (eqb (length ws) (length xs))
  fit h = rw (eq-eqb (length ws) (length xs) h) refl

-- ---- the goals

pub returns-in_err-kind : goal.returns-in_err-kind
returns-in_err-kind c = let h : c.from_residual.result ≡ Err c.in_err-kind.field-0.0 = search rules in let none : c.of_len.result ≡ None = c.in_err-kind.ensures.ok_part in
    let same : Err c.in_err-kind.field-0.0 ≡ Err Length = rw none at c.in_err-kind.ensures.value in
    both_ways c.args.cells.now c.args.weights.now (h ∙ same ∙ in_turn _ _ (sym none ∙ c.of_len.ensures.answer) refl refl refl)

pub returns-then-weights-cells : goal.returns-then-weights-cells
returns-then-weights-cells c = let xs = c.args.cells.now in let ws = c.args.weights.now in
    both_ways xs ws (in_turn xs ws {unfit = true} (sym c.in_ok-kind.ensures.ok_part ∙ c.of_len.ensures.answer) (rw (ne_eqb (length ws) (length xs) (λ e. omega arith)) refl) refl refl)

pub returns-in-Some : goal.returns-in-Some
returns-in-Some c = both_ways c.args.cells.now c.args.weights.now (in_turn _ _ (sym c.in_ok-kind.ensures.ok_part ∙ c.of_len.ensures.answer) (fit _ _ (omega arith)) c.in-Some.ensures refl)

pub returns-in-Some-first_heavy : goal.returns-in-Some-first_heavy
returns-in-Some-first_heavy c = both_ways c.args.cells.now c.args.weights.now
    (in_turn _ _ {loud = None} (sym c.in_ok-kind.ensures.ok_part ∙ c.of_len.ensures.answer) (fit _ _ (omega arith)) (search rules) c.in-Some-first_heavy.ensures)

pub returns-in-None : goal.returns-in-None
returns-in-None c = both_ways c.args.cells.now c.args.weights.now
    (in_turn _ _ {loud = None} (sym c.in_ok-kind.ensures.ok_part ∙ c.of_len.ensures.answer) (fit _ _ (omega arith)) (search rules) c.in-None.ensures)
