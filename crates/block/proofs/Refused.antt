-- What the tests tell where they refuse: a length that no block has is refusal 1 whatever else is lent, outputs matter only by whether they fit, and the
-- refusal is 1, 2 or 3, at a place of at most 1,024.
-- Example: `refused-place low high outputs xs refusal e : place refusal ≤ LARGEST`, with e : tested low high outputs xs ≡ Err refusal.
use mathlib.Core.Path.{◌≡◌, refl, subst}
use mathlib.Core.Bool.{Bool, true, false}
use mathlib.Core.List.{List}
use Prim.Native.Nat.{ℕ, ◌+◌, ◌/◌, ◌^◌, ◌≤◌}
use native.Mathlib.Omega.{arith}
use borrow.Author.Tests.{ltb-true}
use lib.Dec.{ltb}
use lib.IntN.{ℤ}
use lib.ListN.{length}
use lib.Pow.{pow_mono}
use Rattle.std.specs.Prelude.{Option, Some, None, Result, Ok, Err}
use Rattle.refusal.specs.declared.Refusal.{Refusal}
use Rattle.refusal.specs.declared.Refusal.TheVariants.{Length, Misfit, Loud}
use Rattle.refusal.specs.RefusalTable.{number, place}
use Rattle.kind.specs.BlockKinds.{LARGEST, kind_of}
use Rattle.kind.proofs.Lengths.{KindLength, kind-length, kind_none}
use Rattle.block.specs.Tests.{of_length, refused_if, misfit, first_loud, tested}
use Rattle.kind.specs.declared.BlockKind.{BlockKind}

-- a block has 2 cells or more, and not more than the largest
pub kind-least : {n P : ℕ} → KindLength n P → 2 ≤ n
kind-least {n} {P} k = let two : 2 ^ 1 ≤ 2 ^ P = pow_mono k.least in omega (arith, k.cells)

pub kind-largest : {n P : ℕ} → KindLength n P → n ≤ LARGEST
kind-largest {n} {P} k = let most : 2 ^ P ≤ 2 ^ 10 = pow_mono k.most in omega (arith, k.cells)

module _ (low high : ℤ) where
  -- 1, whatever the outputs are
  pub tested-length : (outputs : List ℕ) (xs : List ℤ) → ((P : ℕ) → KindLength (length xs) P → ⊥) → tested low high outputs xs ≡ Err Length
  unfolding tested
  tested-length outputs xs h = rw (kind_none (length xs) h) refl

  -- outputs that fit as little, or as much, as others
  pub tested_outputs : (os ps : List ℕ) (xs : List ℤ) → ((P : ℕ) → KindLength (length xs) P → misfit (length xs / 2 + 1) os ≡ misfit (length xs / 2 + 1) ps)
      → tested low high os xs ≡ tested low high ps xs
  unfolding tested
  tested_outputs os ps xs h = go (kind_of (length xs)) refl
    where
      go : (k : Option BlockKind) → kind_of (length xs) ≡ k → refused_if (ltb (first_loud low high xs) (length xs)) (Loud (first_loud low high xs)) (refused_if (misfit (length xs / 2 + 1) os) Misfit (of_length k))
          ≡ refused_if (ltb (first_loud low high xs) (length xs)) (Loud (first_loud low high xs)) (refused_if (misfit (length xs / 2 + 1) ps) Misfit (of_length k))
      go (Some kind) e = rw (h kind.p (kind-length (length xs) kind.p e)) refl
      go None e = refl

-- ---- the place of a refusal

-- 1, 2 or 3, at a cell of a block
abbrev pub InBlock : Refusal → Type 0
InBlock refusal = (number refusal ≤ 3) × (place refusal ≤ LARGEST)

abbrev Placed : Result BlockKind Refusal → Type 0
Placed (Ok kind) = Unit {0}
Placed (Err refusal) = InBlock refusal

placed_if : (fault : Bool) (refusal : Refusal) (k : Result BlockKind Refusal) → Placed k → (fault ≡ true → InBlock refusal) → Placed (refused_if fault refusal k)
placed_if fault refusal (Err earlier) h g = h
placed_if true refusal (Ok kind) h g = g refl
placed_if false refusal (Ok kind) h g = tt

module _ (low high : ℤ) (outputs : List ℕ) (xs : List ℤ) where
  placed : Placed (tested low high outputs xs)
  unfolding tested
  placed = go (kind_of (length xs)) refl
    where
      loud : ℕ
      loud = first_loud low high xs

      go : (k : Option BlockKind) → kind_of (length xs) ≡ k → Placed (refused_if (ltb loud (length xs)) (Loud loud) (refused_if (misfit (length xs / 2 + 1) outputs) Misfit (of_length k)))
      go (Some kind) e = let unfit = misfit (length xs / 2 + 1) outputs in
          placed_if (ltb loud (length xs)) (Loud loud) (refused_if unfit Misfit (Ok kind)) (placed_if unfit Misfit (Ok kind) tt (λ t. (omega arith, omega arith)))
          (λ t. (omega arith, omega (arith, ltb-true loud (length xs) t, kind-largest (kind-length (length xs) kind.p e))))
      go None e = (omega arith, omega arith)

  pub refused_in_block : (refusal : Refusal) → tested low high outputs xs ≡ Err refusal → InBlock refusal
  refused_in_block refusal e = subst Placed e placed

  pub refused-place : (refusal : Refusal) → tested low high outputs xs ≡ Err refusal → place refusal ≤ LARGEST
  refused-place refusal e = (refused_in_block refusal e).1
