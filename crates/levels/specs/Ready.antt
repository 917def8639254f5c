-- What the levels ask of their callers. It stands in no public promise.
use Rattle.std.specs.Prelude.{◌≡◌, List, ℕ, suc, ◌+◌, ◌*◌, ◌-◌, ◌%◌, ◌^◌, ◌≤◌, ◌<◌, ℤ, nat_abs, length}
use Rattle.ints.specs.Cells.{cell}
use Rattle.ints.specs.Tabulate.{tabulate}
use Rattle.cosine.specs.Cosine.{quarter_table}
use Rattle.pair.specs.Pair.{Scale}
use Rattle.spectrum.specs.Limits.{Room}
use Rattle.spectrum.specs.Spectrum.{levels_at}

-- what a cell may be before the first levels of two or four cells, which need no product and so no scale; a cell that has room at a scale of 2^4 or more is
-- not above this
abbrev pub LARGEST_FIRST : ℕ
LARGEST_FIRST = 2 ^ 57

-- no cell is above b in magnitude
abbrev pub NoneAbove : ℕ → List ℤ → Type 0
NoneAbove b xs = (i : ℕ) → nat_abs (cell xs i) ≤ b

-- the quarter's cosines at scale 2^s, 2^t + 1 of them, serve the levels 1 to L
pub record Serves (s L : ℕ) (quarter : List ℕ) : Type 0 where
  pub scale : Scale s
  pub t : ℕ
  pub most : t ≤ 8
  pub enough : L ≤ t + 2
  pub at_quarter : quarter ≡ tabulate (2 ^ t + 1) (λ j. quarter_table s (j * 2 ^ (8 - t)))

-- levels 1 to L can run on cells in whole blocks of 2^L: before each of them every cell has room
pub record Ready (s L : ℕ) (quarter : List ℕ) (xs : List ℤ) : Type 0 where
  pub table : Serves s L quarter
  pub whole : length xs % 2 ^ L ≡ 0
  pub room : (l : ℕ) → l < L → (i : ℕ) → Room s (cell (levels_at s l xs) i)

-- a level over halves of n cells can run: line v takes entry v × stride, and n/2 strides make the whole quarter
pub record LevelReady (s n stride : ℕ) (quarter : List ℕ) (xs : List ℤ) : Type 0 where
  pub l : ℕ
  pub table : Serves s (suc (suc l)) quarter
  pub halves : n ≡ 2 * 2 ^ l
  pub strides : stride ≡ 2 ^ (table.t - l)
  pub whole : length xs % (2 * n) ≡ 0
  pub room : (i : ℕ) → Room s (cell xs i)

-- levels 4 to P can run on 2^P cells that have levels 1 to 3 behind them
pub record LaterReady (s P : ℕ) (quarter : List ℕ) (ys : List ℤ) : Type 0 where
  pub least : 3 ≤ P
  pub most : P ≤ 10
  pub long : length ys ≡ 2 ^ P
  pub xs : List ℤ
  pub behind : ys ≡ levels_at s 3 xs
  pub ready : Ready s P quarter xs
