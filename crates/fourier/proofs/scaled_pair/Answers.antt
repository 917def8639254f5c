-- `scaled_pair` is right because each doubled part is small enough to be divided exactly, and the divisor is 2N.
use borrow.Author.Rules.{rules, sfits_of}
use mathlib.Core.Path.{◌≡◌, ◌∙◌, ap₂}
use Prim.Native.Nat.{ℕ, ◌*◌, ◌^◌, ◌≤◌, ◌<◌}
use native.Mathlib.Omega.{arith}
use lib.Ieee.{Float}
use lib.IntN.{ℤ, nat_abs}
use mir.Facts.{to_z-of_z}
use mir.Syntax.{w64}
use mir.Val.{SFits, to_z, of_z}
use Rattle.kind.specs.Loudness.{LOUDEST_LINE}
use Rattle.fourier.specs.declared.Doubled.{Doubled}
use Rattle.fourier.specs.declared.Doubled.TheVariants.{Real, Imaginary}
use Rattle.fourier.specs.declared.Pair.{Pair}
use Rattle.fourier.specs.Parts.{formula}
use Rattle.fourier.specs.Scaled.{quotient}
use Rattle.fourier.specs.Inner.{PowerOfTwo, scaled_pair}
use Rattle.fourier.proofs.Sizes.{line_fits, sum-size, difference_size}
use Rattle.fourier.proofs.Exact.{power_small}
use Rattle.fourier.proofs.Values.{twice}
use Rattle.fourier.proofs.scaled_pair.Goals as goal

-- ---- the divisor

twice-fits : (len : ℕ) → PowerOfTwo 10 len → 2 * len < 2 ^ 64
twice-fits len p = omega (arith, power_small 10 len p)

-- ---- a line h and its mirror m, and what the machine reads of them

module _ (h m : ℤ) (sh : nat_abs h ≤ LOUDEST_LINE) (sm : nat_abs m ≤ LOUDEST_LINE) where
  -- r is the doubled part of what is read of them
  part-read : (which : Doubled) (r : ℤ) → SFits w64 r → r ≡ formula which (to_z w64 (of_z w64 h)) (to_z w64 (of_z w64 m)) → to_z w64 (of_z w64 r) ≡ formula which h m
  part-read which r f e = to_z-of_z f ∙ e ∙ ap₂ (formula which) (to_z-of_z (line_fits h sh)) (to_z-of_z (line_fits m sm))

-- x is z over n, z is the part and n is 2 len
over : {x : Float} {z : ℤ} {n : ℕ} (len : ℕ) (w : ℤ) → x ≡ quotient z n → z ≡ w → n ≡ 2 * len → x ≡ quotient w (2 * len)
over len w e f g = e ∙ ap₂ quotient f g

both : {x y : Float} (h m : ℤ) (len : ℕ) → x ≡ quotient (formula Real h m) (2 * len) → y ≡ quotient (formula Imaginary h m) (2 * len)
    → ◌≡◌ {A = Pair} (record { real = x; imaginary = y }) (scaled_pair h m len)
both h m len e f = ap₂ (λ (x y : Float). record { real = x; imaginary = y }) e f

pub overflow_mul-len : goal.overflow_mul-len
overflow_mul-len c = search (rules, twice-fits)

pub quotient-requires : goal.quotient-requires
quotient-requires c =
    let real_read : to_z w64 (of_z w64 c.formula.result) ≡ formula Real c.args.h c.args.m = part-read c.args.h c.args.m c.requires.0 c.requires.1 Real _ (sfits_of c.formula.type_inv) c.formula.ensures in
    (rw real_read (omega (arith, sum-size c.args.h c.args.m c.requires.0 c.requires.1)), twice _ _ c.requires.2 (omega arith))

pub overflow_mul-len-2 : goal.overflow_mul-len-2
overflow_mul-len-2 c = search (rules, twice-fits)

pub quotient-requires-2 : goal.quotient-requires-2
quotient-requires-2 c =
    let imaginary-read : to_z w64 (of_z w64 c.formula-2.result) ≡ formula Imaginary c.args.h c.args.m = part-read c.args.h c.args.m c.requires.0 c.requires.1 Imaginary _ (sfits_of c.formula-2.type_inv) c.formula-2.ensures in
    (rw imaginary-read (omega (arith, difference_size c.args.m c.args.h c.requires.1 c.requires.0)), twice _ _ c.requires.2 (omega arith))

pub returns : goal.returns
returns c =
    let real_read : to_z w64 (of_z w64 c.formula.result) ≡ formula Real c.args.h c.args.m = part-read c.args.h c.args.m c.requires.0 c.requires.1 Real _ (sfits_of c.formula.type_inv) c.formula.ensures in
    let imaginary-read : to_z w64 (of_z w64 c.formula-2.result) ≡ formula Imaginary c.args.h c.args.m = part-read c.args.h c.args.m c.requires.0 c.requires.1 Imaginary _ (sfits_of c.formula-2.type_inv) c.formula-2.ensures in
    let n = c.args.len in
    both c.args.h c.args.m n (over n _ c.quotient.ensures.0 real_read (omega arith))
    (over n _ c.quotient-2.ensures.0 imaginary-read (omega arith))
