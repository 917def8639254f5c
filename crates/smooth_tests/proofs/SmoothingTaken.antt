-- What the tests of smoothing tell: what is taken is a block of samples with as many weights, which are within their limit; and weights that do not fit are
-- all answered alike.
-- Example: `(smoothing_taken xs ws kind e).light : running ws (length xs) ≤ LARGEST_WEIGHTS`, with e : tested_smoothing xs ws ≡ Ok kind.
use mathlib.Core.Path.{◌≡◌, refl, sym, ◌∙◌}
use mathlib.Core.Bool.{Bool, true, false, true≢false}
use mathlib.Core.List.{List}
use Prim.Native.Nat.{ℕ, ◌^◌, ◌≤◌}
use borrow.Author.Tests.{eq-eqb, ne_eqb, eqb-true, eqb-false, ltb-false}
use lib.Dec.{eqb, ltb}
use lib.IntN.{ℤ, nat_abs}
use lib.ListN.{length}
use Rattle.std.specs.Prelude.{Option, Some, None, Ok}
use Rattle.ints.specs.Cells.{cell}
use Rattle.kind.specs.declared.BlockKind.{BlockKind}
use Rattle.kind.specs.BlockKinds.{kind_of}
use Rattle.kind.specs.Loudness.{LOUDEST_SAMPLE}
use Rattle.refusal.specs.declared.Refusal.{Refusal}
use Rattle.refusal.specs.declared.Refusal.TheVariants.{Misfit, Weights}
use Rattle.block.specs.Tests.{misfit, of_length, refused_if, tested, tested_samples}
use Rattle.block.proofs.Taken.{passed, samples-accepted, samples-quiet}
use Rattle.exact.specs.Smoothing.{LARGEST_WEIGHTS, running}
use Rattle.smooth_tests.specs.Tests.{first_heavy, tested_smoothing}
use Rattle.smooth_tests.proofs.Heavy.{heavy_none}

pub record SmoothingTaken (P : ℕ) (xs ws : List ℤ) : Type 0 where
  pub least : 1 ≤ P
  pub most : P ≤ 10
  pub long : length xs ≡ 2 ^ P
  pub as_long : length ws ≡ length xs
  pub quiet : (i : ℕ) → nat_abs (cell xs i) ≤ LOUDEST_SAMPLE
  pub light : running ws (length xs) ≤ LARGEST_WEIGHTS

-- ---- a refusal

-- the tests that come after 2 change no refusal
stays : (k : Option BlockKind) (loud heavy : Bool) (third fourth : Refusal) → refused_if heavy fourth (refused_if loud third (refused_if true Misfit (of_length k))) ≡ refused_if true Misfit (of_length k)
stays None loud heavy third fourth = refl
stays (Some kind) loud heavy third fourth = refl

module _ (xs ws : List ℤ) where
  -- ---- weights that do not fit, and weights that do

  pub unfit_tested : ¬ (length ws ≡ length xs) → tested_smoothing xs ws ≡ refused_if true Misfit (of_length (kind_of (length xs)))
  unfolding tested_smoothing
  unfit_tested h = rw (ne_eqb (length ws) (length xs) h) (stays (kind_of (length xs)) _ _ _ _)

  pub fit_tested : length ws ≡ length xs → tested_smoothing xs ws ≡ refused_if (ltb (first_heavy ws) (length ws)) (Weights (first_heavy ws)) (tested_samples xs)
  unfolding tested_smoothing tested misfit
  fit_tested h = rw (eq-eqb (length ws) (length xs) h) refl

  -- ---- what is taken

  module _ (kind : BlockKind) (e : tested_smoothing xs ws ≡ Ok kind) where
    fits : length ws ≡ length xs
    fits = go (eqb (length ws) (length xs)) refl
      where
        go : (t : Bool) → eqb (length ws) (length xs) ≡ t → length ws ≡ length xs
        go true f = eqb-true _ _ f
        go false f = let u = passed true Misfit (of_length (kind_of (length xs))) kind (sym (unfit_tested (eqb-false _ _ f)) ∙ e) in absurd (true≢false u.0)

    both : (ltb (first_heavy ws) (length ws) ≡ false) × (tested_samples xs ≡ Ok kind)
    both = passed (ltb (first_heavy ws) (length ws)) (Weights (first_heavy ws)) (tested_samples xs) kind (sym (fit_tested fits) ∙ e)

    pub smoothing_taken : SmoothingTaken kind.p xs ws
    smoothing_taken = let samples = samples-accepted xs kind both.1 in record {
      least = samples.least;
      most = samples.most;
      long = samples.long;
      as_long = fits;
      quiet = samples-quiet xs kind both.1;
      light = rw (← fits) (heavy_none ws (ltb-false _ _ both.0));
    }

pub misfit_alike : (xs ws vs : List ℤ) → ¬ (length ws ≡ length xs) → ¬ (length vs ≡ length xs) → tested_smoothing xs ws ≡ tested_smoothing xs vs
misfit_alike xs ws vs h k = unfit_tested xs ws h ∙ sym (unfit_tested xs vs k)
