-- `combine_lines` is right because both lines are read before either is written, and folded lines have room for two products with numbers up to 2^30.
use borrow.Author.Rules.{sfits_of}
use mathlib.Core.Path.{◌≡◌, ◌∙◌, ap₂}
use mathlib.Core.List.{List}
use Prim.Native.Nat.{ℕ, ◌*◌}
use native.Mathlib.Omega.{arith}
use lib.IntN.{ℤ, ◌+ℤ◌, ◌-ℤ◌, ◌*ℤ◌}
use lib.ListN.{set}
use mir.Facts.{to_z-of_z}
use mir.Syntax.{w64}
use mir.Val.{SFits, to_z, of_z}
use Rattle.ints.specs.Cells.{cell}
use Rattle.ints.proofs.Abs.{abs_plus, abs_minus}
use Rattle.ints.proofs.Fit.{fits, reads_back}
use Rattle.residues.specs.Residue.{centred, residue}
use Rattle.residues.specs.Folded.{folded}
use Rattle.exact.specs.Smoothing.{divided}
use Rattle.exact_pair.specs.Pair.{FIRST}
use Rattle.smoothing.specs.Inner.{LineRoom, Lines, even_of, odd_of}
use Rattle.smoothing.proofs.Dividing.{product_fits}
use Rattle.smoothing.proofs.Products.{Factors, sum_fits, difference_fits, line_factors, opposite_factors}
use Rattle.smoothing.proofs.combine_lines.Goals as goal

-- a number as the machine reads it back from its bits; what has room is read as it was written
abbrev again : ℤ → ℤ
again z = to_z w64 (of_z w64 z)

back : (z : ℤ) → LineRoom z → again z ≡ z
back z room = reads_back z (2 * (1024 * FIRST)) (omega arith) room

module _ {v o : ℕ} {hs ks : List ℤ} (L : Lines v o hs ks) where
  sum_room : LineRoom (cell ks v +ℤ cell ks o)
  sum_room = omega (arith, abs_plus (cell ks v) (cell ks o), L.second, L.second-opposite)

  difference-room : LineRoom (cell ks v -ℤ cell ks o)
  difference-room = omega (arith, abs_minus (cell ks v) (cell ks o), L.second, L.second-opposite)

  sum_back : again (cell ks v +ℤ cell ks o) ≡ cell ks v +ℤ cell ks o
  sum_back = back (cell ks v +ℤ cell ks o) sum_room

  difference-back : again (cell ks v -ℤ cell ks o) ≡ cell ks v -ℤ cell ks o
  difference-back = back (cell ks v -ℤ cell ks o) difference-room

  ks-back : again (cell ks v) ≡ cell ks v
  ks-back = back (cell ks v) (omega (arith, L.second))

  ks-opposite-back : again (cell ks o) ≡ cell ks o
  ks-opposite-back = back (cell ks o) (omega (arith, L.second-opposite))

-- the factors as the machine has them, and what it makes of them
record Held (x y even odd X Y E O : ℤ) : Type 0 where
  factors : Factors x y even odd
  x-held : X ≡ folded x
  y-held : Y ≡ folded y
  even-held : E ≡ even
  odd-held : O ≡ odd

module _ {x y even odd X Y E O : ℤ} (H : Held x y even odd X Y E O) where
  first-product : SFits w64 (X *ℤ E)
  first-product = rw (H.x-held, H.even-held) (product_fits x even H.factors.first H.factors.even-small)

  second-product : SFits w64 (Y *ℤ O)
  second-product = rw (H.y-held, H.odd-held) (product_fits y odd H.factors.second H.factors.odd_small)

  products : X *ℤ E +ℤ Y *ℤ O ≡ folded x *ℤ even +ℤ folded y *ℤ odd
  products = rw (H.x-held, H.even-held, H.y-held, H.odd-held)

  products-apart : X *ℤ E -ℤ Y *ℤ O ≡ folded x *ℤ even -ℤ folded y *ℤ odd
  products-apart = rw (H.x-held, H.even-held, H.y-held, H.odd-held)

  added : SFits w64 (again (X *ℤ E) +ℤ again (Y *ℤ O))
  added = rw (to_z-of_z first-product, to_z-of_z second-product, products) (sum_fits H.factors)

  subtracted : SFits w64 (again (X *ℤ E) -ℤ again (Y *ℤ O))
  subtracted = rw (to_z-of_z first-product, to_z-of_z second-product, products-apart) (difference_fits H.factors)

  added-back : again (again (X *ℤ E) +ℤ again (Y *ℤ O)) ≡ folded x *ℤ even +ℤ folded y *ℤ odd
  added-back = to_z-of_z added ∙ rw (to_z-of_z first-product, to_z-of_z second-product) products

  subtracted-back : again (again (X *ℤ E) -ℤ again (Y *ℤ O)) ≡ folded x *ℤ even -ℤ folded y *ℤ odd
  subtracted-back = to_z-of_z subtracted ∙ rw (to_z-of_z first-product, to_z-of_z second-product) products-apart

-- line and opposite as the machine has them after the calls; even, odd, first and opposite are what the calls answer
module _ {v o : ℕ} {hs ks : List ℤ} (L : Lines v o hs ks) {E O X Y : ℤ} (E-fits : SFits w64 E) (even : E ≡ centred (residue (divided 1 (again (again (cell ks v) +ℤ again (cell ks o))))))
    (O-fits : SFits w64 O) (odd : O ≡ centred (residue (divided 1 (again (again (cell ks v) -ℤ again (cell ks o))))))
    (X-fits : SFits w64 X) (first : X ≡ folded (again (cell hs v))) (Y-fits : SFits w64 Y) (opposite : Y ≡ folded (again (cell hs o))) where
  line_held : Held (cell hs v) (cell hs o) (even_of v o ks) (odd_of v o ks) (again X) (again Y) (again E) (again O)
  line_held = record {
    factors = line_factors L;
    x-held = to_z-of_z X-fits ∙ (rw (back (cell hs v) L.first) at first);
    y-held = to_z-of_z Y-fits ∙ (rw (back (cell hs o) L.first-opposite) at opposite);
    even-held = to_z-of_z E-fits ∙ (rw (ks-back L, ks-opposite-back L, sum_back L) at even);
    odd-held = to_z-of_z O-fits ∙ (rw (ks-back L, ks-opposite-back L, difference-back L) at odd);
  }

  opposite_held : Held (cell hs o) (cell hs v) (even_of v o ks) (odd_of v o ks) (again Y) (again X) (again E) (again O)
  opposite_held = let H = line_held in record { factors = opposite_factors L; x-held = H.y-held; y-held = H.x-held; even-held = H.even-held; odd-held = H.odd-held }

-- the sum of the two lines, and the difference whichever is taken from the other, has room

pub overflow_add-spectrum : goal.overflow_add-spectrum
overflow_add-spectrum c = let L = c.requires in rw (ks-back L, ks-opposite-back L) (fits _ (omega (arith, sum_room L)))

pub halved-even-requires : goal.halved-even-requires
halved-even-requires c = let L = c.requires in rw (ks-back L, ks-opposite-back L, sum_back L) (sum_room L)

pub overflow_sub-spectrum : goal.overflow_sub-spectrum
overflow_sub-spectrum c = let L = c.requires in rw (ks-back L, ks-opposite-back L) (fits _ (omega (arith, abs_minus, L.second, L.second-opposite)))

pub halved-odd-requires : goal.halved-odd-requires
halved-odd-requires c = let L = c.requires in rw (ks-back L, ks-opposite-back L, difference-back L) (difference-room L)

-- ---- the products

pub overflow_mul-x : goal.overflow_mul-x
overflow_mul-x c = first-product (line_held c.requires (sfits_of c.halved-even.type_inv) c.halved-even.ensures (sfits_of c.halved-odd.type_inv) c.halved-odd.ensures
    (sfits_of c.folded-x.type_inv) c.folded-x.ensures (sfits_of c.folded-y.type_inv) c.folded-y.ensures)

pub overflow_mul-y : goal.overflow_mul-y
overflow_mul-y c = second-product (line_held c.requires (sfits_of c.halved-even.type_inv) c.halved-even.ensures (sfits_of c.halved-odd.type_inv) c.halved-odd.ensures
    (sfits_of c.folded-x.type_inv) c.folded-x.ensures (sfits_of c.folded-y.type_inv) c.folded-y.ensures)

pub overflow_add-x : goal.overflow_add-x
overflow_add-x c = added (line_held c.requires (sfits_of c.halved-even.type_inv) c.halved-even.ensures (sfits_of c.halved-odd.type_inv) c.halved-odd.ensures
    (sfits_of c.folded-x.type_inv) c.folded-x.ensures (sfits_of c.folded-y.type_inv) c.folded-y.ensures)

pub overflow_mul-y-2 : goal.overflow_mul-y-2
overflow_mul-y-2 c = first-product (opposite_held c.requires (sfits_of c.halved-even.type_inv) c.halved-even.ensures (sfits_of c.halved-odd.type_inv) c.halved-odd.ensures
    (sfits_of c.folded-x.type_inv) c.folded-x.ensures (sfits_of c.folded-y.type_inv) c.folded-y.ensures)

pub overflow_mul-x-2 : goal.overflow_mul-x-2
overflow_mul-x-2 c = second-product (opposite_held c.requires (sfits_of c.halved-even.type_inv) c.halved-even.ensures (sfits_of c.halved-odd.type_inv) c.halved-odd.ensures
    (sfits_of c.folded-x.type_inv) c.folded-x.ensures (sfits_of c.folded-y.type_inv) c.folded-y.ensures)

pub overflow_sub-y : goal.overflow_sub-y
overflow_sub-y c = subtracted (opposite_held c.requires (sfits_of c.halved-even.type_inv) c.halved-even.ensures (sfits_of c.halved-odd.type_inv) c.halved-odd.ensures
    (sfits_of c.folded-x.type_inv) c.folded-x.ensures (sfits_of c.folded-y.type_inv) c.folded-y.ensures)

pub returns : goal.returns
returns c = ap₂ (λ (y z : ℤ). set (set c.args.cells.now c.args.v y) c.args.opposite z)
    (to_z-of_z {w = w64} (sfits_of c.folded.type_inv) ∙ (rw (added-back (line_held c.requires (sfits_of c.halved-even.type_inv) c.halved-even.ensures (sfits_of c.halved-odd.type_inv) c.halved-odd.ensures
    (sfits_of c.folded-x.type_inv) c.folded-x.ensures (sfits_of c.folded-y.type_inv) c.folded-y.ensures)) at c.folded.ensures))
    (to_z-of_z {w = w64} (sfits_of c.folded-2.type_inv) ∙ (rw (subtracted-back (opposite_held c.requires (sfits_of c.halved-even.type_inv) c.halved-even.ensures (sfits_of c.halved-odd.type_inv) c.halved-odd.ensures
    (sfits_of c.folded-x.type_inv) c.folded-x.ensures (sfits_of c.folded-y.type_inv) c.folded-y.ensures)) at c.folded-2.ensures))
