-- Document 01, Refused input, said once more as its table has it: in numbers alone, with no refusal and no verdict named.
-- Example: `samples_numbers` of {1, 2, 3, 40000} is {3, 3}, and of {1, 2, 3, 4} it is {2}, which is P.
use Rattle.std.specs.Prelude.{Bool, cond, List, [], ◌∷◌, ◌++◌, ℕ, ◌+◌, ◌/◌, ◌^◌, eqb, ltb, ℤ, pos, neg_ℤ, length}
use Rattle.kind.specs.declared.Line.{Line}
use Rattle.kind.specs.BlockKinds.{exponent}
use Rattle.block.specs.Tests.{misfit, first_loud}

-- a row of the table: whether the refusal is given, its number, its place
abbrev pub RefusalRow : Type 0
RefusalRow = Bool × ℕ × ℕ

-- number and place of the first row that is given, or where none is the number that is answered then: P, for the tests below
unfoldable pub first_given : List RefusalRow → ℕ → List ℕ
first_given [] answered = answered ∷ []
first_given (row ∷ rows) answered = cond row.0 (row.1 ∷ row.2 ∷ []) (first_given rows answered)

-- rows 1, 2 and 3, for cells of low to high and for outputs that should have N/2 + 1 cells each; `exponent` is 0 where no block has N cells
abbrev pub refusal_rows : ℤ → ℤ → List ℕ → List ℤ → List RefusalRow
refusal_rows low high outputs xs =
    let N = length xs in
    let place = first_loud low high xs in
    (eqb (exponent 10 N) 0, 1, 0) ∷ (misfit (N / 2 + 1) outputs, 2, 0) ∷ (ltb place N, 3, place) ∷ []

-- forward: cells of -32,768 to 32,767
abbrev pub samples_numbers : List ℤ → List ℕ
samples_numbers xs = first_given (refusal_rows (neg_ℤ (pos 32768)) (pos 32767) [] xs) (exponent 10 (length xs))

-- any call that takes a spectrum: cells within ±2^28
abbrev pub spectrum_rows : List ℕ → List ℤ → List RefusalRow
spectrum_rows outputs xs = refusal_rows (neg_ℤ (pos (2 ^ 28))) (pos (2 ^ 28)) outputs xs

abbrev pub spectrum_numbers : List ℕ → List ℤ → List ℕ
spectrum_numbers outputs xs = first_given (spectrum_rows outputs xs) (exponent 10 (length xs))

-- and then row 4: a line above N/2
abbrev pub line_numbers : Line → List ℤ → List ℕ
line_numbers line xs = first_given (spectrum_rows [] xs ++ ((ltb (length xs / 2) line.0, 4, line.0) ∷ [])) (exponent 10 (length xs))
