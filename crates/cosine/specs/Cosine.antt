-- Document 01, Cosines. A step is a 1,024th of a turn; F stands for the cosines of a quarter, at 0 to 256 steps.
use Rattle.std.specs.Prelude.{true, false, cond, List, ℕ, zero, suc, ◌+◌, ◌-◌, ◌*◌, ◌/◌, ◌%◌, ◌^◌, min, leb, eqb, ℤ, pos, neg_ℤ, nat_abs, ◌+ℤ◌, ◌*ℤ◌, get_or}
use Rattle.kind.specs.BlockKinds.{TURN}
use Rattle.cosine.specs.Root.{root}

-- a quarter's cosines as a list has them
abbrev pub entries : List ℕ → ℕ → ℕ
entries quarter j = get_or quarter j 0

-- ---- the whole turn of a quarter F, by the cosine's symmetries

-- odd about 256: the cosine at k steps, 0 to 512, is F(k) if k is at most 256, else minus F(512 - k)
unfoldable pub half_turn : (ℕ → ℕ) → ℕ → ℤ
half_turn F k = elim (leb k 256) [ true ↦ pos (F k) | false ↦ neg_ℤ (pos (F (512 - k))) ]

-- even about 0: the steps from j to the nearest whole turn, 0 to 512, on whichever side that is
abbrev pub away : ℕ → ℕ
away j = min (j % TURN) (TURN - j % TURN)

unfoldable pub cosine : (ℕ → ℕ) → ℕ → ℤ
unfolding half_turn
cosine F j = half_turn F (away j)

-- the sine at j is the cosine at j - 256, that is, a turn on, at j + 768
unfoldable pub sine : (ℕ → ℕ) → ℕ → ℤ
unfolding cosine
sine F j = cosine F (j + 768)

-- cas is cosine plus sine
unfoldable pub cas : (ℕ → ℕ) → ℕ → ℤ
unfolding cosine sine
cas F j = cosine F j +ℤ sine F j

-- ---- the fine cosines F(j), at scale 2^b with b = 60 in force

-- the half-angle law: from G, the cosine of twice the angle, the whole square root, rounded down, of (2^60 + G) × 2^59.
-- 2^60 + G is never negative (`no_less` in proofs/FineTurn).
abbrev pub half_angle : ℕ → ℤ → ℕ
half_angle b G = root (nat_abs ((pos (2 ^ b) +ℤ G) *ℤ pos (2 ^ (b - 1))))

-- F(0) = 2^60, F(256) = 0, and for 0 < j < 256 the half-angle law, where G is F(2j) if 2j is at most 256, else minus F(512 - 2j).
-- By recursion on d, the doublings of the angle that are left.
unfoldable pub fine_with : ℕ → ℕ → ℕ → ℕ
unfolding root half_turn
fine_with b zero j = cond (eqb j 0) (2 ^ b) 0
fine_with b (suc d) j = cond (eqb j 0) (2 ^ b) (cond (eqb j 256) 0 (half_angle b (half_turn (fine_with b d) (2 * j))))

-- F(j): eight doublings lead from every j to 0 or 256
unfoldable pub fine : ℕ → ℕ
unfolding fine_with
fine j = fine_with 60 8 j

-- ---- the quarter table at scale 2^s, 257 numbers

-- T(j) = (F(j) + 2^(59-s)) / 2^(60-s), rounded down; document 01's is s = 15: (F(j) + 2^44) / 2^45
unfoldable pub quarter_table : ℕ → ℕ → ℕ
unfolding fine
quarter_table s j = (fine j + 2 ^ (59 - s)) / 2 ^ (60 - s)
