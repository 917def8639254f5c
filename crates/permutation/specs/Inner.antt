-- What the steps of the permutation leave. It stands in no public promise.
use Rattle.std.specs.Prelude.{cond, List, ℕ, ◌+◌, ◌*◌, ltb, ℤ, set}
use Rattle.ints.specs.Cells.{cell}

-- cells i and j exchanged
abbrev pub exchanged : ℕ → ℕ → List ℤ → List ℤ
exchanged i j xs = set (set xs i (cell xs j)) j (cell xs i)

-- the exchanges of number u and its partner r among the places with different first and last digits, and, once for both, among those with the same
abbrev pub four_exchanged : ℕ → ℕ → ℕ → List ℤ → List ℤ
four_exchanged u r half xs = let ys = exchanged (2 * u + 1) (half + 2 * r) xs in
    cond (ltb u r) (exchanged (half + (2 * u + 1)) (half + (2 * r + 1)) (exchanged (2 * u) (2 * r) ys)) ys
