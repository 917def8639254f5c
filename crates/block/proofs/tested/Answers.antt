-- `tested` is right because it makes the definition's tests in the definition's order.
use mathlib.Core.Path.{◌≡◌, refl, sym, ◌∙◌}
use mathlib.Core.Bool.{Bool, true, false}
use mathlib.Core.List.{List}
use Prim.Native.Nat.{ℕ, ◌+◌, ◌/◌}
use lib.Dec.{ltb}
use lib.IntN.{ℤ}
use lib.ListN.{length}
use mir.Facts.{to_z-of_z}
use Rattle.std.proofs.Common.{rules}
use Rattle.std.specs.Prelude.{Option, Some, None, Result, Ok, Err}
use Rattle.kind.specs.declared.BlockKind.{BlockKind}
use Rattle.kind.specs.BlockKinds.{kind_of}
use Rattle.refusal.specs.declared.Refusal.{Refusal}
use Rattle.refusal.specs.declared.Refusal.TheVariants.{Length, Misfit, Loud}
use Rattle.ints.specs.Place.{place_below}
use Rattle.block.specs.Tests.{misfit, first_loud, tested}
use Rattle.block.proofs.tested.Goals as goal

-- the answer by what the tests find: the kind, whether an output is misfit, and the place of a loud cell
abbrev found : Option BlockKind → Bool → Option ℕ → Result BlockKind Refusal
found None unfit loud = Err Length
found (Some kind) true loud = Err Misfit
found (Some kind) false (Some place) = Err (Loud place)
found (Some kind) false None = Ok kind

module _ (low high : ℤ) (outputs : List ℕ) (xs : List ℤ) where
  by : (kind : Option BlockKind) (unfit loud : Bool) → kind_of (length xs) ≡ kind → misfit (length xs / 2 + 1) outputs ≡ unfit → ltb (first_loud low high xs) (length xs) ≡ loud
      → found kind unfit (place_below (length xs) (first_loud low high xs)) ≡ tested low high outputs xs
  unfolding tested
  by None unfit loud e f g = rw e refl
  by (Some kind) true loud e f g = rw (e, f) refl
  by (Some kind) false true e f g = rw (e, f, g) refl
  by (Some kind) false false e f g = rw (e, f, g) refl

  in_turn : {kind : Option BlockKind} {unfit : Bool} {loud : Option ℕ} → kind ≡ kind_of (length xs) → unfit ≡ misfit (length xs / 2 + 1) outputs
      → loud ≡ place_below (length xs) (first_loud low high xs) → found kind unfit loud ≡ tested low high outputs xs
  in_turn e f g = rw (e, f, g) (by (kind_of (length xs)) (misfit (length xs / 2 + 1) outputs) (ltb (first_loud low high xs) (length xs)) refl refl refl)

-- ---- the goals

pub returns-in_err-kind : goal.returns-in_err-kind
returns-in_err-kind c = let h : c.from_residual.result ≡ Err c.in_err-kind.field-0.0 = search rules in let none : c.of_len.result ≡ None = c.in_err-kind.ensures.ok_part in
    let same : Err c.in_err-kind.field-0.0 ≡ Err Length = rw none at c.in_err-kind.ensures.value in
    h ∙ same ∙ in_turn _ _ _ _ (sym none ∙ c.of_len.ensures.answer) refl refl

pub returns-then-misfit : goal.returns-then-misfit
returns-then-misfit c = in_turn _ _ _ _ (sym c.in_ok-kind.ensures.ok_part ∙ c.of_len.ensures.answer) c.if-misfit.ensures refl

pub returns-in-Some : goal.returns-in-Some
returns-in-Some c = in_turn _ _ _ _ (sym c.in_ok-kind.ensures.ok_part ∙ c.of_len.ensures.answer) c.if-misfit.ensures (rw (to_z-of_z c.ranges.low, to_z-of_z c.ranges.high) at c.in-Some.ensures)

pub returns-in-None : goal.returns-in-None
returns-in-None c = in_turn _ _ _ _ (sym c.in_ok-kind.ensures.ok_part ∙ c.of_len.ensures.answer) c.if-misfit.ensures (rw (to_z-of_z c.ranges.low, to_z-of_z c.ranges.high) at c.in-None.ensures)
