-- What the tests of smoothing tell where they refuse: a length that no block has is refusal 1 whatever the weights are, and no place is above 1,024.
-- Example: `smoothing_place xs ws refusal e : place refusal ≤ LARGEST`, with e : tested_smoothing xs ws ≡ Err refusal.
use mathlib.Core.Path.{◌≡◌, refl, sym, subst}
use mathlib.Core.Bool.{Bool, true, false}
use mathlib.Core.List.{List, []}
use Prim.Native.Nat.{ℕ, ◌≤◌}
use native.Mathlib.Omega.{arith}
use borrow.Author.Tests.{eqb-true, eqb-false, ltb-true}
use lib.Dec.{eqb, ltb}
use lib.IntN.{ℤ}
use lib.ListN.{length}
use Rattle.std.specs.Prelude.{Option, Some, None, Result, Ok, Err}
use Rattle.kind.specs.BlockKinds.{LARGEST, kind_of}
use Rattle.kind.specs.Loudness.{LEAST_SAMPLE, LARGEST_SAMPLE}
use Rattle.kind.proofs.Lengths.{KindLength, kind_none}
use Rattle.refusal.specs.declared.Refusal.{Refusal}
use Rattle.refusal.specs.declared.Refusal.TheVariants.{Length, Misfit, Weights}
use Rattle.refusal.specs.RefusalTable.{place}
use Rattle.block.specs.Tests.{of_length, refused_if, tested_samples}
use Rattle.block.proofs.Refused.{kind-largest, refused-place}
use Rattle.block.proofs.Taken.{taken_kind}
use Rattle.smooth_tests.specs.Tests.{first_heavy, tested_smoothing}
use Rattle.smooth_tests.proofs.SmoothingTaken.{fit_tested, unfit_tested}
use Rattle.kind.specs.declared.BlockKind.{BlockKind}

-- 1, whatever the weights are
pub smoothing_length : (xs ws : List ℤ) → ((P : ℕ) → KindLength (length xs) P → ⊥) → tested_smoothing xs ws ≡ Err Length
unfolding tested_smoothing
smoothing_length xs ws h = rw (kind_none (length xs) h) refl

abbrev Placed : Result BlockKind Refusal → Type 0
Placed (Ok kind) = Unit {0}
Placed (Err refusal) = place refusal ≤ LARGEST

-- a misfit has the place 0
misfit_placed : (k : Option BlockKind) → Placed (refused_if true Misfit (of_length k))
misfit_placed None = omega arith
misfit_placed (Some kind) = omega arith

module _ (xs ws : List ℤ) where
  samples_placed : (k : Result BlockKind Refusal) → tested_samples xs ≡ k → Placed k
  samples_placed (Ok kind) e = tt
  samples_placed (Err refusal) e = refused-place LEAST_SAMPLE LARGEST_SAMPLE [] xs refusal e

  -- 20 comes once the samples are taken, so that the weight is one of a block's
  weights_placed : length ws ≡ length xs → (k : Result BlockKind Refusal) → tested_samples xs ≡ k → Placed (refused_if (ltb (first_heavy ws) (length ws)) (Weights (first_heavy ws)) k)
  weights_placed h (Err refusal) e = samples_placed (Err refusal) e
  weights_placed h (Ok kind) e = go (ltb (first_heavy ws) (length ws)) refl
    where
      go : (t : Bool) → ltb (first_heavy ws) (length ws) ≡ t → Placed (refused_if t (Weights (first_heavy ws)) (Ok kind))
      go true f = omega (arith, ltb-true (first_heavy ws) (length ws) f, h, kind-largest (taken_kind LEAST_SAMPLE LARGEST_SAMPLE [] xs kind e))
      go false f = tt

  placed : Placed (tested_smoothing xs ws)
  placed = go (eqb (length ws) (length xs)) refl
    where
      go : (t : Bool) → eqb (length ws) (length xs) ≡ t → Placed (tested_smoothing xs ws)
      go true f = let h = eqb-true _ _ f in subst Placed (sym (fit_tested xs ws h)) (weights_placed h (tested_samples xs) refl)
      go false f = subst Placed (sym (unfit_tested xs ws (eqb-false _ _ f))) (misfit_placed (kind_of (length xs)))

  pub smoothing_place : (refusal : Refusal) → tested_smoothing xs ws ≡ Err refusal → place refusal ≤ LARGEST
  smoothing_place refusal e = subst Placed e placed
