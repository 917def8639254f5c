-- What the plain number means that answers a host in C. In eight bytes, least byte first: a refusal is its number in one byte and the lower seven bytes of
-- its place; an accepted trace is 0 in one byte, P in one, the number of blocks in two and the rate in four; a scaled line is 0 in one byte and its case in
-- the next; a line that a search finds is 0 in one byte, 1 in the next and the line in two; a saved trace is 0 in one byte and the bytes that it takes in seven; a
-- bound is 0 in one byte and the bound in seven; a search that finds none and a call on a block that is done are 0.
use Rattle.std.specs.Prelude.{cond, ◌||◌, List, [], ◌∷◌, ◌++◌, ℕ, ◌+◌, ◌*◌, ◌/◌, ◌%◌, ◌^◌, eqb, Option, Some, None, Result, Ok, Err}
use Rattle.refusal.specs.declared.Refusal.{Refusal}
use Rattle.refusal.specs.RefusalTable.{number, place}
use Rattle.little_endian.specs.Reading.{unsigned}
use Rattle.little_endian.specs.Spelling.{spelled}
use Rattle.kind.specs.declared.BlockKind.{BlockKind}
use Rattle.kind.specs.declared.Line.{Line}
use Rattle.trace.specs.declared.Summary.{Summary}
use Rattle.fourier.specs.declared.ScaledLine.{ScaledLine}
use Rattle.fourier.specs.declared.ScaledLine.TheVariants.{Mean, Last, Pair}

-- ---- packed

unfoldable pub packed_refusal : Refusal → ℕ
packed_refusal refusal = number refusal + 256 * (place refusal % 256 ^ 7)

abbrev pub packed : Result (Unit {0}) Refusal → ℕ
packed (Ok done) = 0
packed (Err refusal) = packed_refusal refusal

abbrev pub packed_bound : Result ℕ Refusal → ℕ
packed_bound (Ok B) = 256 * (B % 256 ^ 7)
packed_bound (Err refusal) = packed_refusal refusal

abbrev pub packed_trace : Result Summary Refusal → ℕ
packed_trace (Ok summary) = unsigned (spelled 1 0 ++ spelled 1 summary.head.p ++ spelled 2 summary.blocks ++ spelled 4 summary.head.rate)
packed_trace (Err refusal) = packed_refusal refusal

-- the cases of a scaled line: 1 is a mean, 2 a last line, 3 a pair; and which of them line v of N is
abbrev pub case_of : ℕ → ℕ → ℕ
case_of N v = cond (eqb v 0) 1 (cond (eqb v (N / 2)) 2 3)

abbrev pub case_packed : ScaledLine → ℕ
case_packed (Mean mean) = 256 * 1
case_packed (Last last) = 256 * 2
case_packed (Pair pair) = 256 * 3

abbrev pub packed_scaled : Result ScaledLine Refusal → ℕ
packed_scaled (Ok line) = case_packed line
packed_scaled (Err refusal) = packed_refusal refusal

abbrev pub found_packed : Line → ℕ
found_packed line = 256 * (1 + 256 * (line.0 % 256 ^ 2))

abbrev pub packed_search : Result (Option Line) Refusal → ℕ
packed_search (Ok (Some line)) = found_packed line
packed_search (Ok None) = 0
packed_search (Err refusal) = packed_refusal refusal

abbrev pub packed_save : Result ℕ Refusal → ℕ
packed_save (Ok used) = 256 * (used % 256 ^ 7)
packed_save (Err refusal) = packed_refusal refusal

-- ---- and unpacked

abbrev pub number_in : ℕ → ℕ
number_in answer = answer % 256

abbrev pub place_in : ℕ → ℕ
place_in answer = answer / 256

abbrev pub p_in : ℕ → ℕ
p_in answer = answer / 256 % 256

abbrev pub blocks_in : ℕ → ℕ
blocks_in answer = answer / 256 ^ 2 % 256 ^ 2

abbrev pub rate_in : ℕ → ℕ
rate_in answer = answer / 256 ^ 4

abbrev pub case_in : ℕ → ℕ
case_in answer = answer / 256 % 256

abbrev pub found_in : ℕ → ℕ
found_in answer = answer / 256 % 256

abbrev pub line_in : ℕ → ℕ
line_in answer = answer / 256 ^ 2 % 256 ^ 2

abbrev pub used_in : ℕ → ℕ
used_in answer = answer / 256

abbrev pub distance_in : ℕ → ℕ
distance_in answer = answer / 256

-- The place of 4 and 16 is the line or the block that was asked for, which the host has itself.
abbrev pub place_for : ℕ → ℕ → ℕ
place_for asked answer = cond (eqb (number_in answer) 4 || eqb (number_in answer) 16) asked (place_in answer)

-- the refusal's number and place where a call refuses, else what it answers
abbrev pub unless_refused : ℕ → ℕ → List ℕ → List ℕ
unless_refused answer place done = cond (eqb (number_in answer) 0) done (number_in answer ∷ place ∷ [])

-- document 01's numbers in the answer of a call on a block (nothing where it is done), of a check, and of a fetch of block k
unfoldable pub unpacked_block : ℕ → List ℕ
unpacked_block answer = unless_refused answer (place_in answer) []

unfoldable pub unpacked_trace : ℕ → List ℕ
unpacked_trace answer = unless_refused answer (place_in answer) (rate_in answer ∷ p_in answer ∷ blocks_in answer ∷ [])

unfoldable pub unpacked_fetch : ℕ → ℕ → List ℕ
unpacked_fetch k answer = unless_refused answer (place_for k answer) (rate_in answer ∷ p_in answer ∷ blocks_in answer ∷ [])

-- of a call for a scaled line: its case
unfoldable pub unpacked_scaled : ℕ → ℕ → List ℕ
unpacked_scaled line answer = unless_refused answer (place_for line answer) (case_in answer ∷ [])

-- and what it should be, by what the tests of the spectrum and of line v find
abbrev pub case_numbers : ℕ → ℕ → Result BlockKind Refusal → List ℕ
case_numbers N v (Ok kind) = case_of N v ∷ []
case_numbers N v (Err refusal) = number refusal ∷ place refusal ∷ []

-- of a search, where the line of a refusal 4 is the one asked for: the line that is found, nothing where there is none
unfoldable pub unpacked_search : ℕ → ℕ → List ℕ
unpacked_search asked answer = unless_refused answer (place_for asked answer) (cond (eqb (found_in answer) 0) [] (line_in answer ∷ []))

-- of a call that saves: the bytes that are used
unfoldable pub unpacked_save : ℕ → List ℕ
unpacked_save answer = unless_refused answer (place_in answer) (used_in answer ∷ [])

-- of a call for a bound: the bound
unfoldable pub unpacked_bound : ℕ → List ℕ
unpacked_bound answer = unless_refused answer (place_in answer) (distance_in answer ∷ [])
