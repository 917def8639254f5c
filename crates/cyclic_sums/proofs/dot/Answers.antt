-- `dot` is right because the products before sample i are added, and no sum of so few of them is too large.
use mathlib.Core.Path.{◌≡◌, refl, ◌∙◌, ap, ap₂}
use mathlib.Core.List.{List}
use Prim.Native.Nat.{ℕ, ◌+◌, ◌^◌, ◌≤◌, ◌<◌}
use native.Mathlib.Numerals.{add-one}
use native.Mathlib.Omega.{arith}
use lib.IntN.{ℤ, pos, nat_abs, ◌+ℤ◌, ◌*ℤ◌}
use lib.ListN.{length}
use mir.Syntax.{w64}
use mir.Val.{SFits, to_z, of_z}
use Rattle.ints.specs.Cells.{cell}
use Rattle.ints.specs.Sum.{sum}
use Rattle.ints.proofs.Fit.{fits, reads_back}
use Rattle.cyclic_sums.specs.Short.{SHORT, Short, dot_product}
use Rattle.cyclic_sums.proofs.Sizes.{product_size, sum-size}
use Rattle.cyclic_sums.proofs.dot.Invariants.{product, Added}
use Rattle.cyclic_sums.proofs.dot.Goals as goal

-- ---- products added one by one

module _ {xs ys : List ℤ} where
  added_none : Added xs ys (pos 0) 0
  unfolding sum
  added_none = record { so-many = omega arith; so_far = refl }

  module _ {z : ℤ} {i : ℕ} (a : Added xs ys z i) where
    added_next : i < length xs → Added xs ys (z +ℤ product xs ys i) (i + 1)
    unfolding sum
    added_next h = rw add-one (record { so-many = omega arith; so_far = ap (λ (s : ℤ). s +ℤ product xs ys i) a.so_far })

    added-all : length xs ≤ i → z ≡ dot_product xs ys
    unfolding dot_product
    added-all h = let last : i ≡ length xs = omega (arith, a.so-many) in a.so_far ∙ ap (λ (n : ℕ). sum n (product xs ys)) last

    -- a sum of at most 32 products
    added-size : Short xs ys → length xs ≤ SHORT → nat_abs z ≤ 2 ^ 60
    added-size s few = rw a.so_far (sum-size s i (omega (arith, a.so-many)))

-- ---- as the machine computes it

module _ {xs ys : List ℤ} (few : length xs ≤ SHORT) (s : Short xs ys) {z : ℤ} {i : ℕ} (a : Added xs ys z i) (h : i < length xs) where
  abbrev computed : ℤ
  computed = to_z w64 (of_z w64 (cell xs i)) *ℤ to_z w64 (of_z w64 (cell ys i))

  computed-is : computed ≡ product xs ys i
  computed-is = ap₂ ◌*ℤ◌ (reads_back (cell xs i) (2 ^ 40) (omega arith) (s.quiet i)) (reads_back (cell ys i) (2 ^ 15) (omega arith) (s.light i))

  product-back : to_z w64 (of_z w64 computed) ≡ product xs ys i
  product-back = rw computed-is (reads_back (product xs ys i) (2 ^ 55) (omega arith) (product_size s i))

  product_fits : SFits w64 computed
  product_fits = rw computed-is (fits (product xs ys i) (omega (arith, product_size s i)))

  next-size : nat_abs (z +ℤ product xs ys i) ≤ 2 ^ 60
  next-size = added-size (added_next a h) s few

  next_fits : SFits w64 (z +ℤ to_z w64 (of_z w64 computed))
  next_fits = rw product-back (fits (z +ℤ product xs ys i) (omega (arith, next-size)))

  next-added : Added xs ys (to_z w64 (of_z w64 (z +ℤ to_z w64 (of_z w64 computed)))) (i + 1)
  next-added = rw (product-back, reads_back (z +ℤ product xs ys i) (2 ^ 60) (omega arith) next-size) (added_next a h)

-- ---- the needs

pub loop-i-init : goal.loop-i-init
loop-i-init c = added_none

pub overflow_mul-sum : goal.overflow_mul-sum
overflow_mul-sum c = let p = c.requires in product_fits p.0 p.1 c.loop-i.invariant (omega arith)

pub overflow_add-sum : goal.overflow_add-sum
overflow_add-sum c = let p = c.requires in next_fits p.0 p.1 c.loop-i.invariant (omega arith)

pub loop-i-preserved : goal.loop-i-preserved
loop-i-preserved c = let p = c.requires in next-added p.0 p.1 c.loop-i.invariant (omega arith)

pub returns : goal.returns
returns c = added-all c.loop-i.invariant (omega arith)
