-- Document 01, Levels: the permutation, the rule of a level and the levels in turn, over any rounding and any table.
-- Example: with the cosines and the rounding in force, levels 1 and 2 make {1, 3, 2, 4} into {10, −4, −2, 0} (the starred rows).
use Rattle.std.specs.Prelude.{List, ℤ, ◌+ℤ◌, ◌*ℤ◌, length}
use Prim.Native.Nat.{ℕ, zero, suc, ◌+◌, ◌*◌, ◌-◌, ◌/◌, ◌%◌, ◌^◌}
use Rattle.ints.specs.Tabulate.{tabulate}
use Rattle.kind.specs.BlockKinds.{TURN}
use Rattle.ints.specs.Cells.{cell}

-- ---- 1. Permute

-- the P binary digits of t, reversed: its last digit comes first
unfoldable pub reversed : ℕ → ℕ → ℕ
reversed zero t = 0
reversed (suc P) t = t % 2 * 2 ^ P + reversed P (t / 2)

-- Cell t goes to the place whose P binary digits are those of t reversed. Twice reversed is t again, so what comes to place i is the cell
-- whose digits are those of i reversed (`cell_goes` in proofs/Reversal).
unfoldable pub permuted : ℕ → List ℤ → List ℤ
unfolding tabulate reversed
permuted P xs = tabulate (2 ^ P) (λ i. cell xs (reversed P i))

-- ---- 2. Levels. R divides by the table's scale with rounding; C and S are the table's cosine and sine at a step of the turn.

module _ (R : ℤ → ℤ) (C S : ℕ → ℤ) where
  -- line v of the joined halves a and b of n cells: a(v mod n) + Q, where Q is b(v mod n) × C + b((n − (v mod n)) mod n) × S, divided by
  -- the scale with rounding, taken on the sum of both products; C and S at v × 1,024 / 2n
  abbrev pub line : ℕ → (ℕ → ℤ) → (ℕ → ℤ) → ℕ → ℤ
  line n a b v = let step = v * TURN / (2 * n) in
      a (v % n) +ℤ R (b (v % n) *ℤ C step +ℤ b ((n - v % n) % n) *ℤ S step)

  -- cell i when neighbouring halves of n cells are joined: a line of the pair of halves in which i lies, the first cell of which is `base`
  abbrev pub joined : ℕ → (ℕ → ℤ) → ℕ → ℤ
  joined n x i = let base = i / (2 * n) * (2 * n) in
      line n (λ j. x (base + j)) (λ j. x (base + (n + j))) (i % (2 * n))

  unfoldable pub level : ℕ → List ℤ → List ℤ
  unfolding tabulate
  level n xs = tabulate (length xs) (joined n (cell xs))

  -- levels 1 to L; level L joins halves of 2^(L−1) cells
  unfoldable pub levels : ℕ → List ℤ → List ℤ
  unfolding level
  levels zero xs = xs
  levels (suc L) xs = level (2 ^ L) (levels L xs)

  -- the steps of a block of 2^P cells: permute, then levels 1 to P
  unfoldable pub transformed : ℕ → List ℤ → List ℤ
  unfolding permuted levels
  transformed P xs = levels P (permuted P xs)
