-- `slide` is right because the sum at moment t is the dot product of the samples and of as many turned weights, from place n − 1 − t on.
use mathlib.Core.Path.{◌≡◌, ◌∙◌, ap}
use mathlib.Core.List.{List}
use Prim.Native.Nat.{ℕ, ◌+◌, ◌-◌, ◌^◌, ◌≤◌}
use native.Mathlib.Omega.{arith}
use lib.IntN.{ℤ, pos}
use lib.ListN.{length, take, drop}
use mir.Syntax.{w64}
use mir.Val.{to_z, of_z}
use Rattle.ints.proofs.Filling.{Filled, filled_next, filled_all}
use Rattle.ints.proofs.Fit.{reads_back}
use Rattle.cyclic_sums.specs.Short.{SHORT, Short, Sliding, dot_product, slid_sum, slid_sums}
use Rattle.cyclic_sums.proofs.Sizes.{dot_size}
use Rattle.cyclic_sums.proofs.Turning.{part_short}
use Rattle.cyclic_sums.proofs.slide.Goals as goal

all : (xs ts sums : List ℤ) (t : ℕ) → length sums ≡ length xs → length xs ≤ t → Filled (pos 0) (slid_sum xs ts) t sums → sums ≡ slid_sums xs ts
unfolding slid_sums
all xs ts sums t e h F = filled_all (pos 0) (slid_sum xs ts) sums (length xs) e (λ i k. F i (omega arith))

-- ---- as it is lent and computed

-- n entries of ts from place k on
part : (n k : ℕ) (ts : List ℤ) → take (k + n - k) (drop k ts) ≡ take n (drop k ts)
part n k ts = let same : k + n - k ≡ n = omega arith in ap (λ (m : ℕ). take m (drop k ts)) same

module _ {xs ts : List ℤ} (few : length xs ≤ SHORT) (s : Sliding xs ts) (t : ℕ) where
  abbrev start : ℕ
  start = length xs - 1 - t

  lent-short : (length xs ≤ SHORT) × Short xs (take (start + length xs - start) (drop start ts))
  lent-short = rw (part (length xs) start ts) (few, part_short s start (omega arith))

  result-is : (r : ℤ) → r ≡ dot_product xs (take (start + length xs - start) (drop start ts)) → to_z w64 (of_z w64 r) ≡ slid_sum xs ts t
  result-is r e = reads_back r (2 ^ 60) (omega arith) (rw e (dot_size lent-short.1 few)) ∙ e ∙ ap (dot_product xs) (part (length xs) start ts)

-- ---- the needs

pub loop-t-init : goal.loop-t-init
loop-t-init c = λ i h. absurd (omega arith)

pub overflow_add-start : goal.overflow_add-start
overflow_add-start c = omega (arith, c.requires.0)

pub slice_bounds-dot-end : goal.slice_bounds-dot-end
slice_bounds-dot-end c = omega (arith, c.requires.1.twice)

pub dot-requires : goal.dot-requires
dot-requires c = lent-short c.requires.0 c.requires.1 c.loop-t.t

pub loop-t-preserved : goal.loop-t-preserved
loop-t-preserved c = filled_next (pos 0) (slid_sum c.args.samples.now c.args.turned.now) c.loop-t.sums c.loop-t.t _ (omega arith)
    (result-is c.requires.0 c.requires.1 c.loop-t.t c.dot.result c.dot.ensures) c.loop-t.invariant

pub returns : goal.returns
returns c = all _ _ c.loop-t.sums c.loop-t.t (c.loop-t.auto.sums ∙ c.requires.2) (omega (arith, c.requires.2)) c.loop-t.invariant
