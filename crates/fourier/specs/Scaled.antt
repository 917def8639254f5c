-- Document 01, Levels: a scaled line is an f64 answer.
-- Example: of {10, -4, -2, 0} line 0 is the mean 2.5, line 1 the pair -0.5 and 0.5, line 2 the last line -0.5, and line 3 is refused.
use Rattle.std.specs.Prelude.{◌≡◌, Bool, true, false, cond, List, [], ◌∷◌, ℕ, ◌*◌, ◌/◌, ◌<◌, eqb, Float, ℤ, pos, negsuc, nat_abs, length, Result, Ok, Err}
use Rattle.std.specs.Float.{fin, binary64}
use Rattle.std.specs.Float.Ieee.{of_int, mul, round}
use Rattle.std.specs.Float.Ieee.Exact.{HasValue}
use Rattle.kind.specs.declared.BlockKind.{BlockKind}
use Rattle.kind.specs.declared.Line.{Line}
use Rattle.refusal.specs.declared.Refusal.{Refusal}
use Rattle.refusal.specs.RefusalTable.{number, place}
use Rattle.fourier.specs.declared.Doubled.TheVariants.{Real, Imaginary}
use Rattle.fourier.specs.declared.Pair.{Pair as RealAndImaginary}
use Rattle.fourier.specs.declared.ScaledLine.{ScaledLine}
use Rattle.fourier.specs.declared.ScaledLine.TheVariants.{Mean, Last, Pair}
use Rattle.fourier.specs.Parts.{H, doubled_line}

-- ---- quotients

-- whether h is below 0
abbrev pub negative : ℤ → Bool
negative (pos n) = false
negative (negsuc n) = true

-- the f64 nearest to h / n
abbrev pub quotient : ℤ → ℕ → Float
quotient h n = round binary64 (negative h) (nat_abs h) n

-- x is h / n and nothing is lost: it has that value; multiplied back, x × n is the whole number h; x is not minus zero.
-- `HasValue x s a n`, of the kit: x is finite, has the minus sign exactly where s is true, and is a / n in size.
pub record Exactly (h : ℤ) (n : ℕ) (x : Float) : Type 0 where
  pub value : HasValue x (negative h) (nat_abs h) n
  pub back : HasValue (mul binary64 x (of_int binary64 (pos n))) (negative h) (nat_abs h) 1
  pub no_minus_zero : (e : ℤ) → x ≡ fin true 0 e → ⊥

-- ---- the answer

-- real and imaginary part of line v, each the doubled part over 2N
abbrev pub scaled_parts : List ℤ → ℕ → RealAndImaginary
scaled_parts xs v = let N = length xs in record { real = quotient (doubled_line Real xs v) (2 * N); imaginary = quotient (doubled_line Imaginary xs v) (2 * N) }

-- line 0 is a mean H(0)/N, line N/2 is a last line H(N/2)/N, every other line is a pair of real and imaginary part
abbrev pub scaled_line : List ℤ → ℕ → ScaledLine
scaled_line xs v = let N = length xs in
    cond (eqb v 0) (Mean (quotient (H xs 0) N))
    (cond (eqb v (N / 2)) (Last (quotient (H xs (N / 2)) N))
    (Pair (scaled_parts xs v)))

-- what is answered for a line, by what the tests say
abbrev pub scaled_to : List ℤ → Line → Result BlockKind Refusal → Result ScaledLine Refusal
scaled_to xs line (Ok kind) = Ok (scaled_line xs line.0)
scaled_to xs line (Err refusal) = Err refusal

-- document 01's number and place for an answer, nothing where there is a line
abbrev pub scaled_numbers : Result ScaledLine Refusal → List ℕ
scaled_numbers (Ok line) = []
scaled_numbers (Err refusal) = number refusal ∷ place refusal ∷ []

-- document 01's values for each case of an answer: which line it is for, and what its f64 are exactly
abbrev pub Values : List ℤ → Line → Result ScaledLine Refusal → Type 0
Values xs line (Ok (Mean mean)) = (line.0 ≡ 0) × Exactly (H xs 0) (length xs) mean
Values xs line (Ok (Last last)) = (line.0 ≡ length xs / 2) × Exactly (H xs (length xs / 2)) (length xs) last
Values xs line (Ok (Pair pair)) = (0 < line.0) × (line.0 < length xs / 2) × Exactly (doubled_line Real xs line.0) (2 * length xs) pair.real × Exactly (doubled_line Imaginary xs line.0) (2 * length xs) pair.imaginary
Values xs line (Err refusal) = Unit
