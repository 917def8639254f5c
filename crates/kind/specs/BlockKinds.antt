-- Document 01: a block has 2^P cells, P from 1 to 10, and no other length. With the named constants of the block's kind.
use Rattle.std.specs.Prelude.{cond, List, [], ◌∷◌, ℕ, zero, suc, ◌^◌, eqb, Option, Some, None}
use Rattle.kind.specs.declared.BlockKind.{BlockKind}

-- the largest length of a block
abbrev pub LARGEST : ℕ
LARGEST = 1024

-- the steps of a turn
abbrev pub TURN : ℕ
TURN = 1024

-- the scale of the quarter table, 2^15 = 32,768
abbrev pub SCALE_DIGITS : ℕ
SCALE_DIGITS = 15

abbrev pub SCALE : ℕ
SCALE = 2 ^ SCALE_DIGITS

-- the kind of a block of 2^P cells
abbrev pub kind_with : ℕ → BlockKind
kind_with P = record { p = P }

-- the P with 2^P = n, looked for from m down to 1, or 0 where there is none
unfoldable pub exponent : ℕ → ℕ → ℕ
exponent zero n = 0
exponent (suc m) n = cond (eqb (2 ^ suc m) n) (suc m) (exponent m n)

-- the kind with that P, and none for 0
abbrev pub found : ℕ → Option BlockKind
found zero = None
found (suc m) = Some (kind_with (suc m))

-- the kind of a block of n cells, or none
unfoldable pub kind_of : ℕ → Option BlockKind
unfolding exponent
kind_of n = found (exponent 10 n)

-- ---- in document 01's numbers

-- P for a kind; number and place of refusal 1 for none
abbrev pub kind_numbers : Option BlockKind → List ℕ
kind_numbers (Some kind) = kind.p ∷ []
kind_numbers None = 1 ∷ 0 ∷ []

-- the lengths that a block can have, each with its P
abbrev pub lengths : List (ℕ × ℕ)
lengths = (1024, 10) ∷ (512, 9) ∷ (256, 8) ∷ (128, 7) ∷ (64, 6) ∷ (32, 5) ∷ (16, 4) ∷ (8, 3) ∷ (4, 2) ∷ (2, 1) ∷ []

-- the P of n in such a list; number and place of refusal 1 where n is not there
unfoldable pub numbers_in : List (ℕ × ℕ) → ℕ → List ℕ
numbers_in [] n = 1 ∷ 0 ∷ []
numbers_in (row ∷ rows) n = cond (eqb row.0 n) (row.1 ∷ []) (numbers_in rows n)

-- the same of a block of n cells
abbrev pub length_numbers : ℕ → List ℕ
length_numbers n = numbers_in lengths n
