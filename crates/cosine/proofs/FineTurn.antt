-- What demand 3 uses of the fine cosines c and sines s, for all steps of the turn: the sum law, its exact case, and their sizes.
-- Example: `cas-sum j k : nat_abs (cas fine (j + k) *ℤ pos (2 ^ 60) -ℤ (cas fine j *ℤ cosine fine k +ℤ opposite j *ℤ sine fine k)) ≤ 2 ^ 67`.
use mathlib.Core.Path.{◌≡◌, sym, ◌∙◌, ap, ap₂}
use mathlib.Core.List.{[], ◌∷◌}
use Prim.Native.Nat.{ℕ, zero, suc, ◌+◌, ◌*◌, ◌-◌, ◌^◌, ◌≤◌, ◌<◌}
use native.Mathlib.Nat.{zero-add, add_assoc, add_right_comm}
use native.Mathlib.Omega.{arith}
use lib.IntN.{ℤ, pos, neg_ℤ, nat_abs, ◌+ℤ◌, ◌-ℤ◌, ◌*ℤ◌}
use Rattle.ints.proofs.Ring.{ring, quotes}
use Rattle.ints.proofs.Order.{◌≼◌, le_goal}
use Rattle.ints.proofs.Abs.{abs_fact, abs_plus, abs_neg}
use Rattle.cosine.specs.Cosine.{half_turn, cosine, sine, cas, fine}
use Rattle.cosine.proofs.Turn.{cosine-half_turn, cosine-first, sine-first, cosine_quarter, sine_quarter, by_quarters}
use Rattle.cosine.proofs.HalfAngle.{fine_top, fine_end}
use Rattle.cosine.proofs.FineQuarter.{SumLaw, quarter_sum, quarter_size}

-- ---- the sum law. A quarter turn on makes (c, s) into (−s, c), which makes each of the two laws into the other.

module _ (x y a b p r u : ℤ) where
  first-cosine : neg_ℤ y *ℤ u -ℤ (neg_ℤ b *ℤ p -ℤ a *ℤ r) ≡ neg_ℤ (y *ℤ u -ℤ (b *ℤ p +ℤ a *ℤ r))
  first-cosine = ring (y ∷ a ∷ b ∷ p ∷ r ∷ u ∷ []) (search quotes depth 40) tt

  first-sine : x *ℤ u -ℤ (a *ℤ p +ℤ neg_ℤ b *ℤ r) ≡ x *ℤ u -ℤ (a *ℤ p -ℤ b *ℤ r)
  first-sine = ring (x ∷ a ∷ b ∷ p ∷ r ∷ u ∷ []) (search quotes depth 40) tt

  second-cosine : neg_ℤ y *ℤ u -ℤ (a *ℤ neg_ℤ r -ℤ b *ℤ p) ≡ neg_ℤ (y *ℤ u -ℤ (b *ℤ p +ℤ a *ℤ r))
  second-cosine = ring (y ∷ a ∷ b ∷ p ∷ r ∷ u ∷ []) (search quotes depth 40) tt

  second-sine : x *ℤ u -ℤ (b *ℤ neg_ℤ r +ℤ a *ℤ p) ≡ x *ℤ u -ℤ (a *ℤ p -ℤ b *ℤ r)
  second-sine = ring (x ∷ a ∷ b ∷ p ∷ r ∷ u ∷ []) (search quotes depth 40) tt

  of_cas : (x +ℤ y) *ℤ u -ℤ ((a +ℤ b) *ℤ p +ℤ (a -ℤ b) *ℤ r) ≡ (x *ℤ u -ℤ (a *ℤ p -ℤ b *ℤ r)) +ℤ (y *ℤ u -ℤ (b *ℤ p +ℤ a *ℤ r))
  of_cas = ring (x ∷ y ∷ a ∷ b ∷ p ∷ r ∷ u ∷ []) (search quotes depth 40) tt

module _ (x y a b p r : ℤ) (h : SumLaw x y a b p r) where
  first_on : SumLaw (neg_ℤ y) x (neg_ℤ b) a p r
  first_on = record {
    of_cosine = rw (first-cosine x y a b p r (pos (2 ^ 60)), abs_neg) h.of_sine;
    of_sine = rw (first-sine x y a b p r (pos (2 ^ 60))) h.of_cosine;
  }

  second_on : SumLaw (neg_ℤ y) x a b (neg_ℤ r) p
  second_on = record {
    of_cosine = rw (second-cosine x y a b p r (pos (2 ^ 60)), abs_neg) h.of_sine;
    of_sine = rw (second-sine x y a b p r (pos (2 ^ 60))) h.of_cosine;
  }

  cas_law : nat_abs ((x +ℤ y) *ℤ pos (2 ^ 60) -ℤ ((a +ℤ b) *ℤ p +ℤ (a -ℤ b) *ℤ r)) ≤ 2 ^ 67
  cas_law = rw (of_cas x y a b p r (pos (2 ^ 60)))
      (omega (arith, abs_plus (x *ℤ pos (2 ^ 60) -ℤ (a *ℤ p -ℤ b *ℤ r)) (y *ℤ pos (2 ^ 60) -ℤ (b *ℤ p +ℤ a *ℤ r)), h.of_cosine, h.of_sine))

cosine_on : (j : ℕ) → cosine fine (j + 256) ≡ neg_ℤ (sine fine j)
cosine_on = cosine_quarter fine fine_end

sine_on : (j : ℕ) → sine fine (j + 256) ≡ cosine fine j
sine_on = sine_quarter fine fine_end

abbrev Holds : ℕ → ℕ → Type 0
Holds j k = SumLaw (cosine fine (j + k)) (sine fine (j + k)) (cosine fine j) (sine fine j) (cosine fine k) (sine fine k)

pub sum_law : (j k : ℕ) → Holds j k
sum_law j k = by_quarters (λ j. (k : ℕ) → Holds j k) (λ j hj. by_quarters (Holds j) (λ k hk. quarter_sum j k hj hk) (second j)) first j k
  where
    second : (j k : ℕ) → Holds j k → Holds j (k + 256)
    second j k h = rw (sym (add_assoc j k 256), cosine_on (j + k), sine_on (j + k), cosine_on k, sine_on k) (second_on _ _ _ _ _ _ h)

    first : (j : ℕ) → ((k : ℕ) → Holds j k) → (k : ℕ) → Holds (j + 256) k
    first j h k = rw (add_right_comm j 256 k, cosine_on (j + k), sine_on (j + k), cosine_on j, sine_on j) (first_on _ _ _ _ _ _ (h k))

-- cas of the opposite angle
abbrev pub opposite : ℕ → ℤ
opposite j = cosine fine j -ℤ sine fine j

pub cas-sum : (j k : ℕ) → nat_abs (cas fine (j + k) *ℤ pos (2 ^ 60) -ℤ (cas fine j *ℤ cosine fine k +ℤ opposite j *ℤ sine fine k)) ≤ 2 ^ 67
unfolding cas
cas-sum j k = cas_law _ _ _ _ _ _ (sum_law j k)

-- ---- its exact case: m quarter turns on, with their cosine and sine as −1, 0 or 1

unfoldable pub quarter_unit : ℕ → ℤ × ℤ
quarter_unit zero = (pos 1, pos 0)
quarter_unit (suc m) = (neg_ℤ (quarter_unit m).1, (quarter_unit m).0)

on : (m j : ℕ) →
    (cosine fine (j + m * 256) ≡ cosine fine j *ℤ (quarter_unit m).0 -ℤ sine fine j *ℤ (quarter_unit m).1)
    × (sine fine (j + m * 256) ≡ sine fine j *ℤ (quarter_unit m).0 +ℤ cosine fine j *ℤ (quarter_unit m).1)
unfolding quarter_unit
on zero j = (
  ap (cosine fine) none ∙ ring (cosine fine j ∷ sine fine j ∷ []) (search quotes depth 40) tt,
  ap (sine fine) none ∙ ring (cosine fine j ∷ sine fine j ∷ []) (search quotes) tt,
)
  where
    none : j + 0 * 256 ≡ j
    none = omega arith
on (suc m) j = (
  ap (cosine fine) more ∙ cosine_on (j + m * 256) ∙ ap neg_ℤ (on m j).1
      ∙ ring (cosine fine j ∷ sine fine j ∷ (quarter_unit m).0 ∷ (quarter_unit m).1 ∷ []) (search quotes) tt,
  ap (sine fine) more ∙ sine_on (j + m * 256) ∙ (on m j).0
      ∙ ring (cosine fine j ∷ sine fine j ∷ (quarter_unit m).0 ∷ (quarter_unit m).1 ∷ []) (search quotes) tt,
)
  where
    more : j + suc m * 256 ≡ j + m * 256 + 256
    more = omega arith

pub cosine_zero : cosine fine 0 ≡ pos (2 ^ 60)
cosine_zero = cosine-first fine 0 (omega arith) ∙ ap pos fine_top

pub sine_zero : sine fine 0 ≡ pos 0
sine_zero = sine-first fine 0 (omega arith) ∙ ap pos fine_end

pub cosine_quarters : (m : ℕ) → cosine fine (m * 256) ≡ (quarter_unit m).0 *ℤ pos (2 ^ 60)
cosine_quarters m = ap (cosine fine) (sym (zero-add (m * 256))) ∙ (on m 0).0 ∙ ap₂ (λ (c s : ℤ). c *ℤ (quarter_unit m).0 -ℤ s *ℤ (quarter_unit m).1) cosine_zero sine_zero
    ∙ ring ((quarter_unit m).0 ∷ (quarter_unit m).1 ∷ []) (search quotes depth 40) tt

pub sine_quarters : (m : ℕ) → sine fine (m * 256) ≡ (quarter_unit m).1 *ℤ pos (2 ^ 60)
sine_quarters m = ap (sine fine) (sym (zero-add (m * 256))) ∙ (on m 0).1 ∙ ap₂ (λ (c s : ℤ). s *ℤ (quarter_unit m).0 +ℤ c *ℤ (quarter_unit m).1) cosine_zero sine_zero
    ∙ ring ((quarter_unit m).0 ∷ (quarter_unit m).1 ∷ []) (search quotes) tt

pub cas_quarters : (m j : ℕ) → cas fine (j + m * 256) ≡ cas fine j *ℤ (quarter_unit m).0 +ℤ opposite j *ℤ (quarter_unit m).1
unfolding cas
cas_quarters m j = ap₂ ◌+ℤ◌ (on m j).0 (on m j).1 ∙ ring (cosine fine j ∷ sine fine j ∷ (quarter_unit m).0 ∷ (quarter_unit m).1 ∷ []) (search quotes depth 40) tt

-- ---- the sizes

pub record FineSize (c s : ℤ) : Type 0 where
  pub cosine-size : nat_abs c ≤ 2 ^ 60
  pub sine-size : nat_abs s ≤ 2 ^ 60
  pub pair_size : nat_abs c + nat_abs s ≤ 92682 * 2 ^ 44

pub fine-size : (j : ℕ) → FineSize (cosine fine j) (sine fine j)
fine-size = by_quarters (λ j. FineSize (cosine fine j) (sine fine j)) first next
  where
    first : (i : ℕ) → i < 256 → FineSize (cosine fine i) (sine fine i)
    first i h = rw (cosine-first fine i (omega arith), sine-first fine i (omega arith)) (record {
      cosine-size = (quarter_size i (omega arith)).alone;
      sine-size = (quarter_size (256 - i) (omega arith)).alone;
      pair_size = (quarter_size i (omega arith)).together;
    })

    next : (j : ℕ) → FineSize (cosine fine j) (sine fine j) → FineSize (cosine fine (j + 256)) (sine fine (j + 256))
    next j h = rw (cosine_on j, sine_on j)
        (record { cosine-size = rw abs_neg h.sine-size; sine-size = h.cosine-size; pair_size = rw abs_neg (omega (arith, h.pair_size)) })

-- 2^60 + G of the half-angle law is never negative
pub no_less : (j : ℕ) → j ≤ 256 → pos 0 ≼ pos (2 ^ 60) +ℤ half_turn fine (2 * j)
no_less j h = rw (sym (cosine-half_turn fine (2 * j) (omega arith))) (go (cosine fine (2 * j)) (fine-size (2 * j)).cosine-size)
  where
    go : (z : ℤ) → nat_abs z ≤ 2 ^ 60 → pos 0 ≼ pos (2 ^ 60) +ℤ z
    go z k = let Γ = z ∷ [] in le_goal Γ (search quotes) (omega (arith, abs_fact Γ z (search quotes)))
