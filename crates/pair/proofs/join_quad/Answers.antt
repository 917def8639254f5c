-- `join_quad` is right because both cells of the second half are read before one of the four is written, and the first step leaves cell n − v as it was.
use mathlib.Core.Path.{◌≡◌, refl, ◌∙◌, ap, ap₂}
use mathlib.Core.List.{List, [], ◌∷◌}
use Prim.Native.Nat.{ℕ, ◌+◌, ◌-◌, ◌*◌, ◌^◌, ◌≤◌, ◌<◌}
use native.Mathlib.Nat.{le_trans, mul-le-mul_left}
use native.Mathlib.Omega.{arith}
use lib.IntN.{ℤ, pos, neg_ℤ, nat_abs, ◌-ℤ◌}
use lib.ListN.{length}
use lib.Pow.{pow_pos, pow_mono}
use mir.Facts.{to_z-of_z}
use mir.Syntax.{w64}
use mir.Val.{SFits, to_z, of_z}
use Rattle.ints.specs.Quotient.{rounded}
use Rattle.ints.proofs.Ring.{ring, quotes}
use Rattle.ints.proofs.Abs.{abs_neg}
use Rattle.ints.proofs.Fit.{fits}
use Rattle.ints.proofs.Rounding.{rounded-size}
use Rattle.ints.specs.Cells.{cell}
use Rattle.spectrum.specs.Limits.{LARGEST_PRODUCT, LARGEST_SUM, Room}
use Rattle.pair.specs.Pair.{split, turned}
use Rattle.pair.proofs.Splitting.{room_small, room_back, small-back, split-long, split_other}
use Rattle.pair.proofs.join_quad.Goals as goal

-- a cell as it is read, times a cosine or sine
product_small : (s : ℕ) (z t : ℤ) → Room s z → nat_abs t ≤ 2 ^ s → nat_abs (to_z w64 (of_z w64 z)) * nat_abs t ≤ LARGEST_PRODUCT
product_small s z t h k = rw (room_back s z h) (le_trans (mul-le-mul_left (nat_abs z) k) h)

-- ---- minus the cosine

minus_is : (z : ℤ) → pos 0 -ℤ z ≡ neg_ℤ z
minus_is z = ring (z ∷ []) (search quotes) tt

scale_small : (s : ℕ) → s ≤ 22 → 2 ^ s ≤ 2 ^ 22
scale_small s h = pow_mono {i = s} {j = 22} h

minus-size : (s : ℕ) (z : ℤ) → nat_abs z ≤ 2 ^ s → nat_abs (pos 0 -ℤ z) ≤ 2 ^ s
minus-size s z h = rw (minus_is z, abs_neg z) h

minus_fits : (s : ℕ) (z : ℤ) → s ≤ 22 → nat_abs z ≤ 2 ^ s → SFits w64 (pos 0 -ℤ z)
minus_fits s z k h = fits (pos 0 -ℤ z) (omega (arith, minus-size s z h, scale_small s k))

-- ---- the two quotients

read_small : (z : ℤ) → nat_abs z ≤ LARGEST_SUM → nat_abs (to_z w64 (of_z w64 z)) ≤ LARGEST_SUM
read_small z h = rw (small-back z h) h

-- a quotient is no larger than the sum
quotient-small : (s : ℕ) (x r : ℤ) → nat_abs x ≤ LARGEST_SUM → r ≡ rounded (2 ^ s) (to_z w64 (of_z w64 x)) → nat_abs r ≤ LARGEST_SUM
quotient-small s x r h e = rw (e, small-back x h) (le_trans (rounded-size (2 ^ s) (pow_pos s) x) h)

-- ---- after the first step

module _ (s : ℕ) (xs ys : List ℤ) (n v : ℕ) (q : ℤ) (e : ys ≡ split xs n v q) (some : 0 < v) (below : 2 * v < n) where
  still-long : length xs ≡ 2 * n → length ys ≡ 2 * n
  still-long h = ap length e ∙ split-long xs n v q ∙ h

  still-room : Room s (cell xs (n - v)) → nat_abs (cell ys (n - v)) ≤ LARGEST_PRODUCT
  still-room h = rw (ap (λ (zs : List ℤ). cell zs (n - v)) e ∙ split_other xs n v q (n - v) one two) (room_small s (cell xs (n - v)) h)
    where
      one : n - v ≡ v → ⊥
      one e = omega arith

      two : n - v ≡ n + v → ⊥
      two e = omega arith

pub sum_of_products-requires : goal.sum_of_products-requires
sum_of_products-requires c = let a = c.args in let p = c.requires in (
  product_small a.scale.digits (cell a.cells.now (a.n + a.v)) (to_z w64 (of_z w64 a.cosine)) p.second (rw (to_z-of_z c.ranges.cosine) p.cosine),
  product_small a.scale.digits (cell a.cells.now (a.n + (a.n - a.v))) (to_z w64 (of_z w64 a.sine)) p.second_mirror (rw (to_z-of_z c.ranges.sine) p.sine),
)

pub rounded-q-requires : goal.rounded-q-requires
rounded-q-requires c = read_small c.sum_of_products.result c.sum_of_products.ensures.1

pub overflow_sub-cosine : goal.overflow_sub-cosine
overflow_sub-cosine c = rw (to_z-of_z c.ranges.cosine) (minus_fits c.args.scale.digits c.args.cosine c.requires.scale.most c.requires.cosine)

pub sum_of_products-requires-2 : goal.sum_of_products-requires-2
sum_of_products-requires-2 c = let a = c.args in let p = c.requires in (
  product_small a.scale.digits (cell a.cells.now (a.n + a.v)) (to_z w64 (of_z w64 a.sine)) p.second (rw (to_z-of_z c.ranges.sine) p.sine),
  product_small a.scale.digits (cell a.cells.now (a.n + (a.n - a.v))) (to_z w64 (of_z w64 (pos 0 -ℤ to_z w64 (of_z w64 a.cosine)))) p.second_mirror
      (rw (to_z-of_z c.ranges.cosine, to_z-of_z (minus_fits a.scale.digits a.cosine p.scale.most p.cosine)) (minus-size a.scale.digits a.cosine p.cosine)),
)

pub rounded-r-requires : goal.rounded-r-requires
rounded-r-requires c = read_small c.sum_of_products-2.result c.sum_of_products-2.ensures.1

pub put_both-requires : goal.put_both-requires
put_both-requires c =
    let first_small : nat_abs c.rounded-q.result ≤ LARGEST_SUM = let z = c.sum_of_products in quotient-small c.args.scale.digits z.result _ z.ensures.1 c.rounded-q.ensures in
    let a = c.args in let p = c.requires in
    (p.long, omega (arith, p.below), room_small a.scale.digits (cell a.cells.now a.v) p.first, read_small c.rounded-q.result first_small)

pub put_both-requires-2 : goal.put_both-requires-2
put_both-requires-2 c =
    let second-small : nat_abs c.rounded-r.result ≤ LARGEST_SUM = let z = c.sum_of_products-2 in quotient-small c.args.scale.digits z.result _ z.ensures.1 c.rounded-r.ensures in
    let a = c.args in let p = c.requires in let e = c.put_both.ensures in
    (still-long a.scale.digits a.cells.now _ a.n a.v _ e p.some p.below p.long, omega (arith, p.below, p.some), still-room a.scale.digits a.cells.now _ a.n a.v _ e p.some p.below p.first_mirror, read_small c.rounded-r.result second-small)

pub returns : goal.returns
returns c =
    let first-is : let a = c.args in
    c.rounded-q.result ≡ turned a.scale.digits (cell a.cells.now (a.n + a.v)) (cell a.cells.now (a.n + (a.n - a.v))) a.cosine a.sine = let a = c.args in let p = c.requires in let z = c.sum_of_products in
    c.rounded-q.ensures ∙ ap (rounded (2 ^ a.scale.digits)) (small-back z.result z.ensures.1 ∙ z.ensures.0
    ∙ rw (room_back a.scale.digits (cell a.cells.now (a.n + a.v)) p.second, room_back a.scale.digits (cell a.cells.now (a.n + (a.n - a.v))) p.second_mirror, to_z-of_z c.ranges.cosine, to_z-of_z c.ranges.sine) refl) in
    let second_is : let a = c.args in
    c.rounded-r.result ≡ turned a.scale.digits (cell a.cells.now (a.n + a.v)) (cell a.cells.now (a.n + (a.n - a.v))) a.sine (neg_ℤ a.cosine) = let a = c.args in let p = c.requires in let z = c.sum_of_products-2 in
    c.rounded-r.ensures ∙ ap (rounded (2 ^ a.scale.digits)) (small-back z.result z.ensures.1 ∙ z.ensures.0
    ∙ rw (
      room_back a.scale.digits (cell a.cells.now (a.n + a.v)) p.second,
      room_back a.scale.digits (cell a.cells.now (a.n + (a.n - a.v))) p.second_mirror,
      to_z-of_z c.ranges.cosine,
      to_z-of_z c.ranges.sine,
      to_z-of_z (minus_fits a.scale.digits a.cosine p.scale.most p.cosine),
      minus_is a.cosine,
    ) refl) in
    let first_small : nat_abs c.rounded-q.result ≤ LARGEST_SUM = let z = c.sum_of_products in quotient-small c.args.scale.digits z.result _ z.ensures.1 c.rounded-q.ensures in
    let second-small : nat_abs c.rounded-r.result ≤ LARGEST_SUM = let z = c.sum_of_products-2 in quotient-small c.args.scale.digits z.result _ z.ensures.1 c.rounded-r.ensures in
    let a = c.args in
    c.put_both-2.ensures
    ∙ ap₂ (λ (ys : List ℤ) (r : ℤ). split ys a.n (a.n - a.v) r) (c.put_both.ensures ∙ ap (split a.cells.now a.n a.v) (small-back c.rounded-q.result first_small ∙ first-is))
    (small-back c.rounded-r.result second-small ∙ second_is)
