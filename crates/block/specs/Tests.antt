-- Document 01, Refused input: block calls test 1, 2, 3, 4 in turn, and the first fault decides. Test 1 goes by `kind_of`.
use Rattle.std.specs.Prelude.{Bool, false, cond, not, ◌||◌, List, [], ◌∷◌, ℕ, suc, ◌+◌, ◌/◌, eqb, ltb, ℤ, pos, neg_ℤ, length, Option, Some, None, Result, Ok, Err}
use Rattle.std.specs.Int.Signed.{lt_z}
use Rattle.kind.specs.declared.Line.{Line}
use Rattle.refusal.specs.declared.Refusal.{Refusal}
use Rattle.refusal.specs.declared.Refusal.TheVariants.{Length, Misfit, Loud, Line as LineAbove}
use Rattle.kind.specs.BlockKinds.{kind_of}
use Rattle.kind.specs.Loudness.{LEAST_SAMPLE, LARGEST_SAMPLE, LOUDEST_LINE}
use Rattle.kind.specs.declared.BlockKind.{BlockKind}

-- 1, length: the block's kind, and the refusal where no block has this length
abbrev pub of_length : Option BlockKind → Result BlockKind Refusal
of_length (Some kind) = Ok kind
of_length None = Err Length

-- one test more: a kind that was taken so far is refused where there is a fault, and an earlier refusal stays
abbrev pub refused_if : Bool → Refusal → Result BlockKind Refusal → Result BlockKind Refusal
refused_if fault refusal (Ok kind) = cond fault (Err refusal) (Ok kind)
refused_if fault refusal (Err earlier) = Err earlier

-- 2, misfit: whether some lent output has not the wanted number of cells; an output is given by its number of cells
unfoldable pub misfit : ℕ → List ℕ → Bool
misfit wanted [] = false
misfit wanted (n ∷ ns) = not (eqb n wanted) || misfit wanted ns

-- 3, loud: whether a cell is outside low to high
abbrev pub loud : ℤ → ℤ → ℤ → Bool
loud low high x = lt_z x low || lt_z high x

-- the place of the first such cell, or the number of cells where there is none
unfoldable pub first_loud : ℤ → ℤ → List ℤ → ℕ
first_loud low high [] = 0
first_loud low high (x ∷ xs) = cond (loud low high x) 0 (suc (first_loud low high xs))

-- 1, 2 and 3 in turn: for cells of low to high, and for outputs that should have N/2 + 1 cells each
unfoldable pub tested : ℤ → ℤ → List ℕ → List ℤ → Result BlockKind Refusal
unfolding misfit first_loud
tested low high outputs xs =
    let N = length xs in
    let place = first_loud low high xs in
    let after-1 = of_length (kind_of N) in
    let after-2 = refused_if (misfit (N / 2 + 1) outputs) Misfit after-1 in
    refused_if (ltb place N) (Loud place) after-2

-- forward: cells of -32,768 to 32,767
abbrev pub tested_samples : List ℤ → Result BlockKind Refusal
tested_samples xs = tested LEAST_SAMPLE LARGEST_SAMPLE [] xs

-- any call that takes a spectrum: cells within ±2^28
abbrev pub tested_spectrum : List ℕ → List ℤ → Result BlockKind Refusal
tested_spectrum outputs xs = tested (neg_ℤ (pos LOUDEST_LINE)) (pos LOUDEST_LINE) outputs xs

-- and then 4, line: the line that is asked for is above N/2
abbrev pub tested_line : Line → List ℤ → Result BlockKind Refusal
tested_line line xs = refused_if (ltb (length xs / 2) line.0) (LineAbove line) (tested_spectrum [] xs)
