-- Document 02, Item 7: a block smoothed by weights. First what it is, the plain cyclic sum; then the path by way of exact spectra, the level rule modulo
-- 2^31 − 1. Both are the same, whichever pair is chosen (`smoothing_exact` in proofs/ExactSmoothing).
-- Example: the block {1, 2, 3, 4} smoothed by the weights {0, 1, 0, 0} is {4, 1, 2, 3}, either way.
use Rattle.std.specs.Prelude.{List, map, ℕ, zero, suc, ◌+◌, ◌-◌, ◌%◌, ◌^◌, ℤ, pos, nat_abs, ◌+ℤ◌, ◌-ℤ◌, ◌*ℤ◌, length}
use Rattle.ints.specs.Cells.{cell}
use Rattle.ints.specs.Sum.{sum}
use Rattle.ints.specs.Tabulate.{tabulate}
use Rattle.spectrum.specs.Levels.{transformed}
use Rattle.residues.specs.Residue.{centred, residue}
use Rattle.turns.specs.Turn.{Pair, cosine_at, sine_at}

-- ---- the plain sum

-- at moment t the sum over moments u of sample(u) × weight((t − u) mod N)
unfoldable pub cyclic_sum : ℕ → List ℤ → List ℤ → ℕ → ℤ
unfolding sum
cyclic_sum N xs ws t = sum N (λ u. cell xs u *ℤ cell ws ((t + N - u) % N))

-- at every moment of the block xs
unfoldable pub cyclic_sums : List ℤ → List ℤ → List ℤ
unfolding cyclic_sum tabulate
cyclic_sums xs ws = let N = length xs in tabulate N (cyclic_sum N xs ws)

-- ---- the path by way of spectra

-- the exact spectrum of 2^P cells: the level rule of document 01 with the pair's cosines and sines and with nothing to round, each line modulo 2^31 − 1
unfoldable pub exact_spectrum : Pair → ℕ → List ℤ → List ℤ
unfolding transformed residue
exact_spectrum q P xs = map (λ z. pos (residue z)) (transformed (λ z. z) (cosine_at q) (sine_at q) P xs)

-- z / 2^k modulo 2^31 − 1, since 2^k × 2^(31 − k) is 2^31, which is 1
abbrev pub divided : ℕ → ℤ → ℤ
divided k z = z *ℤ pos (2 ^ (31 - k))

-- two spectra combined, source document 001, VII: H1(v) H2e(v) + H1(−v) H2o(v), where hs are the lines of H1, ks those of H2, and H2e and H2o the even and
-- the odd part of H2
module _ (N : ℕ) where
  -- the line −v
  abbrev pub opposite : ℕ → ℕ
  opposite v = (N - v) % N

  abbrev pub even_part : List ℤ → ℕ → ℤ
  even_part ks v = divided 1 (cell ks v +ℤ cell ks (opposite v))

  abbrev pub odd_part : List ℤ → ℕ → ℤ
  odd_part ks v = divided 1 (cell ks v -ℤ cell ks (opposite v))

  unfoldable pub combined : List ℤ → List ℤ → ℕ → ℤ
  combined hs ks v = cell hs v *ℤ even_part ks v +ℤ cell hs (opposite v) *ℤ odd_part ks v

-- back from the spectrum of a spectrum of 2^P lines: divided by N, and the number between −(2^30 − 1) and 2^30 − 1 with that residue
unfoldable pub restored : ℕ → ℤ → ℤ
unfolding residue centred
restored P z = centred (residue (divided P z))

-- the block xs of 2^P samples smoothed by the weights ws: two spectra, combined, and back
unfoldable pub smoothed : Pair → ℕ → List ℤ → List ℤ → List ℤ
unfolding exact_spectrum combined restored tabulate
smoothed q P xs ws =
    let lines = tabulate (2 ^ P) (combined (2 ^ P) (exact_spectrum q P xs) (exact_spectrum q P ws)) in
    map (restored P) (exact_spectrum q P lines)

-- ---- the limit of the weights, refusal 20

-- the magnitudes of the first n weights added
unfoldable pub running : List ℤ → ℕ → ℕ
running ws zero = 0
running ws (suc n) = running ws n + nat_abs (cell ws n)

-- the most that they may add to
abbrev pub LARGEST_WEIGHTS : ℕ
LARGEST_WEIGHTS = 32767
