-- Document 02, Item 2: what the two searches answer.
use Rattle.std.specs.Prelude.{List, [], ◌∷◌, ℕ, ℤ, length, Option, Some, None, Result, Ok, Err}
use Rattle.kind.specs.declared.Line.{Line}
use Rattle.refusal.specs.declared.Refusal.{Refusal}
use Rattle.refusal.specs.RefusalTable.{number, place}
use Rattle.search.specs.Search.{strongest, nearest}
use Rattle.search.specs.SearchTests.{absent, band_rows, chosen_rows, first_given, tested_band, tested_chosen}

-- what is found where the checks are passed, else the refusal
abbrev pub answer_to : Result (Unit {0}) Refusal → Option Line → Result (Option Line) Refusal
answer_to (Ok taken) found = Ok found
answer_to (Err refusal) found = Err refusal

-- the answer of a search that always finds a line, as one of those that may find none
abbrev pub as_found : Result Line Refusal → Result (Option Line) Refusal
as_found (Ok line) = Ok (Some line)
as_found (Err refusal) = Err refusal

unfoldable pub strongest_answer : List ℤ → Line → Line → Result (Option Line) Refusal
unfolding strongest tested_band
strongest_answer ps low high = answer_to (tested_band (length ps) low high) (strongest ps low.0 high.0)

unfoldable pub nearest_answer : List ℤ → Line → ℤ → Result (Option Line) Refusal
unfolding nearest tested_chosen
nearest_answer ps chosen level = answer_to (tested_chosen (length ps) chosen) (nearest ps chosen.0 level)

-- ---- in document 02's numbers: the line that is found, nothing where there is none, number and place of a refusal

abbrev pub search_numbers : Result (Option Line) Refusal → List ℕ
search_numbers (Ok (Some line)) = line.0 ∷ []
search_numbers (Ok None) = []
search_numbers (Err refusal) = number refusal ∷ place refusal ∷ []

unfoldable pub strongest_numbers : List ℤ → ℕ → ℕ → List ℕ
unfolding strongest first_given absent
strongest_numbers ps low high = first_given (band_rows (length ps) low high) (search_numbers (Ok (strongest ps low high)))

unfoldable pub nearest_numbers : List ℤ → ℕ → ℤ → List ℕ
unfolding nearest first_given absent
nearest_numbers ps chosen level = first_given (chosen_rows (length ps) chosen) (search_numbers (Ok (nearest ps chosen level)))
