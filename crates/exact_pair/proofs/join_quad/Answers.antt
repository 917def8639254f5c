-- `join_quad` is right because both cells of the second half are read before one of the four is written, and the first step leaves cell n − v as it was.
use borrow.Author.Rules.{sfits_of}
use mathlib.Core.Path.{◌≡◌, refl, ◌∙◌, ap, ap₂}
use mathlib.Core.List.{List, [], ◌∷◌}
use Prim.Native.Nat.{ℕ, ◌+◌, ◌-◌, ◌*◌, ◌^◌, ◌≤◌}
use native.Mathlib.Omega.{arith}
use lib.IntN.{ℤ, pos, neg_ℤ, nat_abs, ◌-ℤ◌}
use lib.ListN.{length}
use mir.Facts.{to_z-of_z}
use mir.Syntax.{w64}
use mir.Val.{SFits, to_z, of_z}
use Rattle.ints.specs.Cells.{cell}
use Rattle.ints.proofs.Abs.{abs_neg}
use Rattle.ints.proofs.Fit.{fits, reads_back}
use Rattle.ints.proofs.Ring.{ring, quotes}
use Rattle.spectrum.specs.Limits.{LARGEST_PRODUCT}
use Rattle.pair.specs.Pair.{split}
use Rattle.pair.proofs.Splitting.{split-long, split_other}
use Rattle.residues.specs.Folded.{folded}
use Rattle.exact_pair.specs.Pair.{FIRST, Factors, Quad, products}
use Rattle.exact_pair.proofs.Products.{folded-cell, folded-products}
use Rattle.exact_pair.proofs.join_quad.Goals as goal

-- ---- minus the cosine

minus_is : (z : ℤ) → pos 0 -ℤ z ≡ neg_ℤ z
minus_is z = ring (z ∷ []) (search quotes) tt

minus_fits : (z : ℤ) → nat_abs z ≤ 2 ^ 30 → SFits w64 (pos 0 -ℤ z)
minus_fits z h = fits (pos 0 -ℤ z) (rw (minus_is z, abs_neg z) (omega arith))

-- ---- the four numbers of a quad: two folded cells, cosine and sine

module _ {n v : ℕ} {c d : ℤ} {xs : List ℤ} (Q : Quad n v c d xs) where
  back-of : (z : ℤ) → nat_abs z ≤ n * FIRST → to_z w64 (of_z w64 z) ≡ z
  back-of z h = reads_back z (512 * FIRST) (omega arith) (omega (arith, Q.few))

  first_back : to_z w64 (of_z w64 (cell xs (n + v))) ≡ cell xs (n + v)
  first_back = back-of (cell xs (n + v)) Q.second

  second_back : to_z w64 (of_z w64 (cell xs (n + (n - v)))) ≡ cell xs (n + (n - v))
  second_back = back-of (cell xs (n + (n - v))) Q.second_mirror

  first_small : nat_abs (folded (cell xs (n + v))) ≤ 2 ^ 31 + 2 ^ 12
  first_small = folded-cell n (cell xs (n + v)) Q.few Q.second

  second-small : nat_abs (folded (cell xs (n + (n - v)))) ≤ 2 ^ 31 + 2 ^ 12
  second-small = folded-cell n (cell xs (n + (n - v))) Q.few Q.second_mirror

  factors : Factors (folded (cell xs (n + v))) (folded (cell xs (n + (n - v)))) c d
  factors = record { first = first_small; second = second-small; cosine = Q.cosine; sine = Q.sine }

  mirror-factors : Factors (folded (cell xs (n + v))) (folded (cell xs (n + (n - v)))) d (neg_ℤ c)
  mirror-factors = record { first = first_small; second = second-small; cosine = Q.sine; sine = rw (abs_neg c) Q.cosine }

  -- after the first step
  module _ (ys : List ℤ) (q : ℤ) (e : ys ≡ split xs n v q) where
    still-long : length ys ≡ 2 * n
    still-long = ap length e ∙ split-long xs n v q ∙ Q.long

    still-small : nat_abs (cell ys (n - v)) ≤ LARGEST_PRODUCT
    still-small = rw (ap (λ (zs : List ℤ). cell zs (n - v)) e ∙ split_other xs n v q (n - v) one two) (omega (arith, Q.first_mirror, Q.few))
      where
        one : n - v ≡ v → ⊥
        one e = omega (arith, Q.below)

        two : n - v ≡ n + v → ⊥
        two e = omega (arith, Q.some)

-- ---- what the calls tell

pub folded_sum-q-requires : goal.folded_sum-q-requires
folded_sum-q-requires c =
    let first-told : let a = c.args in to_z w64 (of_z w64 c.folded-b.result) ≡ folded (cell a.cells.now (a.n + a.v)) = to_z-of_z {w = w64} (sfits_of c.folded-b.type_inv) ∙ c.folded-b.ensures ∙ ap folded (first_back c.requires) in
    let second-told : let a = c.args in to_z w64 (of_z w64 c.folded-mirrored.result) ≡ folded (cell a.cells.now (a.n + (a.n - a.v))) = to_z-of_z {w = w64} (sfits_of c.folded-mirrored.type_inv) ∙ c.folded-mirrored.ensures ∙ ap folded (second_back c.requires) in
    rw (first-told, second-told, to_z-of_z c.ranges.cosine, to_z-of_z c.ranges.sine) (factors c.requires)

pub overflow_sub-cosine : goal.overflow_sub-cosine
overflow_sub-cosine c = rw (to_z-of_z c.ranges.cosine) (minus_fits c.args.cosine c.requires.cosine)

pub folded_sum-r-requires : goal.folded_sum-r-requires
folded_sum-r-requires c =
    let first-told : let a = c.args in to_z w64 (of_z w64 c.folded-b.result) ≡ folded (cell a.cells.now (a.n + a.v)) = to_z-of_z {w = w64} (sfits_of c.folded-b.type_inv) ∙ c.folded-b.ensures ∙ ap folded (first_back c.requires) in
    let second-told : let a = c.args in to_z w64 (of_z w64 c.folded-mirrored.result) ≡ folded (cell a.cells.now (a.n + (a.n - a.v))) = to_z-of_z {w = w64} (sfits_of c.folded-mirrored.type_inv) ∙ c.folded-mirrored.ensures ∙ ap folded (second_back c.requires) in
    rw (first-told, second-told, to_z-of_z c.ranges.cosine, to_z-of_z c.ranges.sine, to_z-of_z (minus_fits c.args.cosine c.requires.cosine), minus_is c.args.cosine) (mirror-factors c.requires)

pub put_both-requires : goal.put_both-requires
put_both-requires c =
    let first-told : let a = c.args in to_z w64 (of_z w64 c.folded-b.result) ≡ folded (cell a.cells.now (a.n + a.v)) = to_z-of_z {w = w64} (sfits_of c.folded-b.type_inv) ∙ c.folded-b.ensures ∙ ap folded (first_back c.requires) in
    let second-told : let a = c.args in to_z w64 (of_z w64 c.folded-mirrored.result) ≡ folded (cell a.cells.now (a.n + (a.n - a.v))) = to_z-of_z {w = w64} (sfits_of c.folded-mirrored.type_inv) ∙ c.folded-mirrored.ensures ∙ ap folded (second_back c.requires) in
    let line-told : let a = c.args in
    to_z w64 (of_z w64 c.folded_sum-q.result) ≡ folded (products (folded (cell a.cells.now (a.n + a.v))) (folded (cell a.cells.now (a.n + (a.n - a.v)))) a.cosine a.sine) = to_z-of_z {w = w64} (sfits_of c.folded_sum-q.type_inv) ∙ c.folded_sum-q.ensures
    ∙ rw (first-told, second-told, to_z-of_z c.ranges.cosine, to_z-of_z c.ranges.sine) refl in
    let p = c.requires in
    (p.long, omega (arith, p.below), omega (arith, p.first, p.few), rw line-told (omega (arith, folded-products (factors p))))

pub put_both-requires-2 : goal.put_both-requires-2
put_both-requires-2 c =
    let first-told : let a = c.args in to_z w64 (of_z w64 c.folded-b.result) ≡ folded (cell a.cells.now (a.n + a.v)) = to_z-of_z {w = w64} (sfits_of c.folded-b.type_inv) ∙ c.folded-b.ensures ∙ ap folded (first_back c.requires) in
    let second-told : let a = c.args in to_z w64 (of_z w64 c.folded-mirrored.result) ≡ folded (cell a.cells.now (a.n + (a.n - a.v))) = to_z-of_z {w = w64} (sfits_of c.folded-mirrored.type_inv) ∙ c.folded-mirrored.ensures ∙ ap folded (second_back c.requires) in
    let mirror-told : let a = c.args in
    to_z w64 (of_z w64 c.folded_sum-r.result) ≡ folded (products (folded (cell a.cells.now (a.n + a.v))) (folded (cell a.cells.now (a.n + (a.n - a.v)))) a.sine (neg_ℤ a.cosine)) = to_z-of_z {w = w64} (sfits_of c.folded_sum-r.type_inv) ∙ c.folded_sum-r.ensures
    ∙ rw (first-told, second-told, to_z-of_z c.ranges.cosine, to_z-of_z c.ranges.sine, to_z-of_z (minus_fits c.args.cosine c.requires.cosine), minus_is c.args.cosine) refl in
    let p = c.requires in let e = c.put_both.ensures in
    (still-long p _ _ e, omega (arith, p.below, p.some), still-small p _ _ e, rw mirror-told (omega (arith, folded-products (mirror-factors p))))

pub returns : goal.returns
returns c =
    let first-told : let a = c.args in to_z w64 (of_z w64 c.folded-b.result) ≡ folded (cell a.cells.now (a.n + a.v)) = to_z-of_z {w = w64} (sfits_of c.folded-b.type_inv) ∙ c.folded-b.ensures ∙ ap folded (first_back c.requires) in
    let second-told : let a = c.args in to_z w64 (of_z w64 c.folded-mirrored.result) ≡ folded (cell a.cells.now (a.n + (a.n - a.v))) = to_z-of_z {w = w64} (sfits_of c.folded-mirrored.type_inv) ∙ c.folded-mirrored.ensures ∙ ap folded (second_back c.requires) in
    let line-told : let a = c.args in
    to_z w64 (of_z w64 c.folded_sum-q.result) ≡ folded (products (folded (cell a.cells.now (a.n + a.v))) (folded (cell a.cells.now (a.n + (a.n - a.v)))) a.cosine a.sine) = to_z-of_z {w = w64} (sfits_of c.folded_sum-q.type_inv) ∙ c.folded_sum-q.ensures
    ∙ rw (first-told, second-told, to_z-of_z c.ranges.cosine, to_z-of_z c.ranges.sine) refl in
    let mirror-told : let a = c.args in
    to_z w64 (of_z w64 c.folded_sum-r.result) ≡ folded (products (folded (cell a.cells.now (a.n + a.v))) (folded (cell a.cells.now (a.n + (a.n - a.v)))) a.sine (neg_ℤ a.cosine)) = to_z-of_z {w = w64} (sfits_of c.folded_sum-r.type_inv) ∙ c.folded_sum-r.ensures
    ∙ rw (first-told, second-told, to_z-of_z c.ranges.cosine, to_z-of_z c.ranges.sine, to_z-of_z (minus_fits c.args.cosine c.requires.cosine), minus_is c.args.cosine) refl in
    let a = c.args in
    c.put_both-2.ensures
    ∙ ap₂ (λ (ys : List ℤ) (r : ℤ). split ys a.n (a.n - a.v) r) (c.put_both.ensures ∙ ap (split a.cells.now a.n a.v) line-told) mirror-told
