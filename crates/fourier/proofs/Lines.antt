-- A spectrum that is taken: what the machine reads of its cells, and which cells are H(v) and H(N − v).
-- Example: `line_at xs 3 h : cell xs 3 ≡ H xs 3`, with h : 3 < length xs.
use mathlib.Core.Path.{◌≡◌, sym, ap}
use mathlib.Core.List.{List}
use Prim.Native.Nat.{ℕ, ◌-◌, ◌%◌, ◌≤◌, ◌<◌}
use native.Mathlib.Nat.{mod-eq_of_lt}
use native.Mathlib.Omega.{arith}
use lib.IntN.{ℤ, nat_abs}
use lib.ListN.{length}
use lib.Pow.{pow_mono}
use mir.Facts.{to_z-of_z}
use mir.Syntax.{w64}
use mir.Val.{to_z, of_z}
use Rattle.ints.specs.Cells.{cell}
use Rattle.kind.specs.Loudness.{LOUDEST_LINE}
use Rattle.block.specs.Transformable.{Transformable}
use Rattle.fourier.specs.Parts.{H}
use Rattle.fourier.specs.Inner.{PowerOfTwo}
use Rattle.fourier.proofs.Sizes.{line_fits}

module _ {P : ℕ} {xs : List ℤ} (a : Transformable P xs) where
  pub power_of_two : (most : ℕ) → 10 ≤ most → PowerOfTwo most (length xs)
  power_of_two most h = record { exponent = P; few = omega arith; is = a.long }

  pub two_or_more : 2 ≤ length xs
  two_or_more = rw a.long (pow_mono {i = 1} a.least)

  pub line-back : (i : ℕ) → to_z w64 (of_z w64 (cell xs i)) ≡ cell xs i
  line-back i = to_z-of_z (line_fits (cell xs i) (a.quiet i))

  pub line_quiet : (i : ℕ) → nat_abs (to_z w64 (of_z w64 (cell xs i))) ≤ LOUDEST_LINE
  line_quiet i = rw (line-back i) (a.quiet i)

-- what the machine reads of a line is no louder
pub read_quiet : (x : ℤ) → nat_abs x ≤ LOUDEST_LINE → nat_abs (to_z w64 (of_z w64 x)) ≤ LOUDEST_LINE
read_quiet x h = rw (to_z-of_z (line_fits x h)) h

-- ---- H(N) is read as H(0): line N − v is cell (N − v) mod N

pub line_at : (xs : List ℤ) (v : ℕ) → v < length xs → cell xs v ≡ H xs v
line_at xs v h = ap (cell xs) (sym (mod-eq_of_lt h))

pub mirror_at : (xs : List ℤ) (v mirror : ℕ) → mirror ≡ (length xs - v) % length xs → cell xs mirror ≡ H xs (length xs - v)
mirror_at xs v mirror e = ap (cell xs) e
