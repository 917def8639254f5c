-- `first_heavy` is right because the sum of the magnitudes before weight i is at hand and within the limit, so that the weights that are left decide.
use borrow.Author.Rules.{rules}
use mathlib.Core.Path.{◌≡◌, ◌∙◌, ap}
use mathlib.Core.List.{List, ◌∷◌}
use Prim.Native.Nat.{ℕ, suc, ◌+◌, ◌≤◌, ◌<◌, ◌^◌}
use native.Mathlib.Numerals.{add-one}
use native.Mathlib.Omega.{arith}
use lib.IntN.{ℤ, pos, nat_abs}
use lib.ListN.{length, drop, drop_of_length-le}
use lib.Seq.{drop-cons}
use lib.Signed.{nat_abs-le}
use mir.Facts.{to_z-of_z}
use mir.Syntax.{w64}
use mir.Val.{SFits, to_z, of_z}
use Rattle.ints.specs.Cells.{cell}
use Rattle.block.proofs.Place.{place_at, place_none}
use Rattle.exact.specs.Smoothing.{LARGEST_WEIGHTS}
use Rattle.smooth_tests.specs.Tests.{first_heavy_from, first_heavy}
use Rattle.smooth_tests.proofs.Heavy.{heavy_here, heavy_later}
use Rattle.smooth_tests.proofs.first_heavy.Invariants.{Weighed}
use Rattle.smooth_tests.proofs.first_heavy.Goals as goal

-- ---- weights weighed one by one

weighed-none : {ws : List ℤ} → Weighed ws 0 0
unfolding first_heavy
weighed-none = record { light = omega arith; so_far = omega arith }

module _ {ws : List ℤ} {sum i : ℕ} (w : Weighed ws sum i) where
  weighed-all : length ws ≤ i → i ≡ first_heavy ws
  unfolding first_heavy_from
  weighed-all h = let none : first_heavy_from sum (drop i ws) ≡ 0 = rw (drop_of_length-le ws h) in omega (arith, w.so_far)

  -- m is the magnitude of weight i, as the machine reads it
  module _ {m : ℕ} (h : i < length ws) (f : SFits w64 (cell ws i)) (e : m ≡ nat_abs (to_z w64 (of_z w64 (cell ws i)))) where
    told : m ≡ nat_abs (cell ws i)
    told = e ∙ ap nat_abs (to_z-of_z f)

    rest : first_heavy_from sum (drop i ws) ≡ first_heavy_from sum (cell ws i ∷ drop (suc i) ws)
    rest = ap (first_heavy_from sum) (drop-cons ws i (pos 0) h)

    weighed-fits : sum + m < 2 ^ 64
    weighed-fits = omega (arith, w.light, told, nat_abs-le (cell ws i) f.sfits)

    weighed-heavy : LARGEST_WEIGHTS < sum + m → i ≡ first_heavy ws
    weighed-heavy n = omega (arith, told, w.so_far, rest ∙ heavy_here sum (cell ws i) (drop (suc i) ws) (omega (arith, told)))

    weighed-next : sum + m ≤ LARGEST_WEIGHTS → Weighed ws (sum + m) (i + 1)
    weighed-next l = rw told (record {
      light = omega (arith, told);
      so_far = rw add-one (omega (arith, w.so_far, rest ∙ heavy_later sum (cell ws i) (drop (suc i) ws) (omega (arith, told))));
    })

pub loop-i-init : goal.loop-i-init
loop-i-init c = weighed-none

pub overflow_add-running : goal.overflow_add-running
overflow_add-running c = record { fits = weighed-fits c.loop-i.invariant (omega arith) (search rules) c.magnitude-running.ensures }

pub returns-then-running-gt-LARGEST_WEIGHTS : goal.returns-then-running-gt-LARGEST_WEIGHTS
returns-then-running-gt-LARGEST_WEIGHTS c = place_at (omega arith) (weighed-heavy c.loop-i.invariant (omega arith) (search rules) c.magnitude-running.ensures (omega arith))

pub loop-i-preserved : goal.loop-i-preserved
loop-i-preserved c = weighed-next c.loop-i.invariant (omega arith) (search rules) c.magnitude-running.ensures (omega arith)

pub returns : goal.returns
returns c = place_none (omega (arith, weighed-all c.loop-i.invariant (omega arith)))
