-- What the join of two halves of an exact spectrum asks of its callers and leaves. It stands in no public promise.
use Rattle.std.specs.Prelude.{◌≡◌, List, ℕ, ◌+◌, ◌*◌, ◌-◌, ◌^◌, ◌≤◌, ◌<◌, ℤ, neg_ℤ, nat_abs, ◌+ℤ◌, ◌*ℤ◌, length}
use Rattle.ints.specs.Cells.{cell}
use Rattle.ints.specs.Tabulate.{tabulate}
use Rattle.spectrum.specs.Levels.{line}
use Rattle.pair.specs.Pair.{split}
use Rattle.residues.specs.Residue.{centred, residue}
use Rattle.residues.specs.Folded.{folded}
use Rattle.turns.specs.Turn.{CHOSEN, cosine_at, sine_at, steps}

-- line v of the joined halves of n cells, the first half at cell 0 of x and the second at cell n: the level rule with the chosen pair's cosines and sines
-- and with nothing to round
abbrev pub exact_line : ℕ → (ℕ → ℤ) → ℕ → ℤ
exact_line n x v = line (λ z. z) (cosine_at CHOSEN) (sine_at CHOSEN) n x (λ j. x (n + j)) v

-- ---- cells that stand for numbers modulo 2^31 − 1

-- the limit on every cell before level 1; each level doubles the limit
abbrev pub FIRST : ℕ
FIRST = 2 ^ 34

-- no cell is above b in magnitude
abbrev pub NoneAbove : ℕ → List ℤ → Type 0
NoneAbove b xs = (i : ℕ) → nat_abs (cell xs i) ≤ b

-- N cells with the residues of f 0, f 1, .., none above b
pub record Stands (b N : ℕ) (f : ℕ → ℤ) (ys : List ℤ) : Type 0 where
  pub long : length ys ≡ N
  pub same : (i : ℕ) → i < N → residue (cell ys i) ≡ residue (f i)
  pub small : NoneAbove b ys

-- ---- the quarter's cosines

-- the chosen pair's cosine at step j of the turn, between −(2^30 − 1) and 2^30 − 1
abbrev pub cosine_step : ℕ → ℤ
cosine_step j = centred (steps CHOSEN j).cosine

-- the same for the sine
abbrev pub sine_step : ℕ → ℤ
sine_step j = centred (steps CHOSEN j).sine

-- 2^t + 1 cosines, equally apart, over a quarter of the turn
abbrev pub quarter_of : ℕ → List ℤ
quarter_of t = tabulate (2 ^ t + 1) (λ j. cosine_step (j * 2 ^ (8 - t)))

-- ---- what can be joined

-- two halves, of 4 k cells together: the k strides of their quarter have `apart` steps of the turn between neighbouring entries
pub record PairReady (stride : ℕ) (quarter xs : List ℤ) : Type 0 where
  pub k : ℕ
  pub some : 0 < k
  pub few : k ≤ 256
  pub long : length xs ≡ 4 * k
  pub apart : ℕ
  pub spans : k * stride * apart ≡ 256
  pub at_quarter : quarter ≡ tabulate (k * stride + 1) (λ j. cosine_step (j * apart))
  pub small : NoneAbove (2 * k * FIRST) xs

-- two folded cells, cosine and sine: so small that both products and their sum have room
pub record Factors (b mirrored c d : ℤ) : Type 0 where
  pub first : nat_abs b ≤ 2 ^ 31 + 2 ^ 12
  pub second : nat_abs mirrored ≤ 2 ^ 31 + 2 ^ 12
  pub cosine : nat_abs c ≤ 2 ^ 30
  pub sine : nat_abs d ≤ 2 ^ 30

-- the two products of a line
abbrev pub products : ℤ → ℤ → ℤ → ℤ → ℤ
products b mirrored c d = b *ℤ c +ℤ mirrored *ℤ d

-- lines v, n − v, n + v and 2n − v, of the same four cells
abbrev pub folded_quad : ℕ → ℕ → ℤ → ℤ → List ℤ → List ℤ
folded_quad n v c d xs = let b = folded (cell xs (n + v)) in let mirrored = folded (cell xs (n + (n - v))) in
    split (split xs n v (folded (products b mirrored c d))) n (n - v) (folded (products b mirrored d (neg_ℤ c)))

-- they can be made
pub record Quad (n v : ℕ) (c d : ℤ) (xs : List ℤ) : Type 0 where
  pub long : length xs ≡ 2 * n
  pub some : 0 < v
  pub below : 2 * v < n
  pub few : n ≤ 512
  pub cosine : nat_abs c ≤ 2 ^ 30
  pub sine : nat_abs d ≤ 2 ^ 30
  pub first : nat_abs (cell xs v) ≤ n * FIRST
  pub first_mirror : nat_abs (cell xs (n - v)) ≤ n * FIRST
  pub second : nat_abs (cell xs (n + v)) ≤ n * FIRST
  pub second_mirror : nat_abs (cell xs (n + (n - v))) ≤ n * FIRST
