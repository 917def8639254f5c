-- Document 01, Levels: the doubled parts and the doubled power of a spectrum of N cells, for v from 0 to N/2.
-- Example: {10, -4, -2, 0} has the real parts {20, -4, -4}, the imaginary parts {0, 4, 0} and the powers {200, 16, 8}.
use Rattle.std.specs.Prelude.{List, [], ◌∷◌, map, ℕ, ◌+◌, ◌-◌, ◌*◌, ◌/◌, ◌%◌, ℤ, pos, nat_abs, ◌+ℤ◌, ◌-ℤ◌, length, Result}
use Rattle.ints.specs.Tabulate.{tabulate}
use Rattle.ints.specs.Cells.{cell}
use Rattle.block.specs.Tests.{tested, tested_spectrum}
use Rattle.block.specs.BlockAnswers.{cells_left}
use Rattle.fourier.specs.declared.Doubled.{Doubled}
use Rattle.fourier.specs.declared.Doubled.TheVariants.{Real, Imaginary}
use Rattle.kind.specs.declared.BlockKind.{BlockKind}
use Rattle.refusal.specs.declared.Refusal.{Refusal}

-- line v of the spectrum xs, H(N) being read as H(0)
abbrev pub H : List ℤ → ℕ → ℤ
H xs v = cell xs (v % length xs)

-- ---- the parts

-- with h for H(v) and m for H(N − v): doubled real part H(v) + H(N − v); doubled imaginary part H(N − v) − H(v)
abbrev pub formula : Doubled → ℤ → ℤ → ℤ
formula Real h m = h +ℤ m
formula Imaginary h m = m -ℤ h

-- one of the two for line v, and the list of them for v from 0 to N/2
abbrev pub doubled_line : Doubled → List ℤ → ℕ → ℤ
doubled_line which xs v = let N = length xs in formula which (H xs v) (H xs (N - v))

abbrev pub doubled_lines : Doubled → List ℤ → List ℤ
doubled_lines which xs = let N = length xs in tabulate (N / 2 + 1) (doubled_line which xs)

-- what is left in a list that was lent for them: these lines where the tests pass, else the list as it was lent
abbrev pub lines_left : Doubled → List ℤ → List ℤ → Result BlockKind Refusal → List ℤ
lines_left which xs lent verdict = cells_left (λ _. doubled_lines which xs) lent verdict

-- the call for the parts: the tests of the spectrum xs and of the two lists, and what is left in each
unfoldable pub tested_parts : List ℤ → List ℤ → List ℤ → Result BlockKind Refusal
unfolding tested
tested_parts xs real imaginary = tested_spectrum (length real ∷ length imaginary ∷ []) xs

abbrev pub real_left : List ℤ → List ℤ → List ℤ → List ℤ
real_left xs real imaginary = lines_left Real xs real (tested_parts xs real imaginary)

abbrev pub imaginary_left : List ℤ → List ℤ → List ℤ → List ℤ
imaginary_left xs real imaginary = lines_left Imaginary xs imaginary (tested_parts xs real imaginary)

-- ---- the power, a natural number

-- h²
abbrev pub square : ℤ → ℕ
square h = nat_abs h * nat_abs h

-- doubled power H(v)² + H(N − v)² of line v, and the list of them for v from 0 to N/2
abbrev pub power : List ℤ → ℕ → ℕ
power xs v = let N = length xs in square (H xs v) + square (H xs (N - v))

abbrev pub powers : List ℤ → List ℕ
powers xs = let N = length xs in tabulate (N / 2 + 1) (power xs)

-- how powers stand in cells: one signed cell each
abbrev pub in_cells : List ℕ → List ℤ
in_cells ns = map pos ns

-- the call for the power: the tests of the spectrum xs and of the one list, and what is left in it
unfoldable pub tested_power : List ℤ → List ℤ → Result BlockKind Refusal
unfolding tested
tested_power xs lent = tested_spectrum (length lent ∷ []) xs

abbrev pub powers_left : List ℤ → List ℤ → List ℤ
powers_left xs lent = cells_left (λ _. in_cells (powers xs)) lent (tested_power xs lent)
