-- What the join of one pair of halves asks of its callers and leaves. It stands in no public promise.
use Rattle.std.specs.Prelude.{◌≡◌, List, ℕ, ◌+◌, ◌*◌, ◌/◌, ◌-◌, ◌^◌, ◌≤◌, ◌<◌, ℤ, neg_ℤ, nat_abs, ◌+ℤ◌, ◌-ℤ◌, ◌*ℤ◌, length, set}
use Rattle.ints.specs.Cells.{cell}
use Rattle.ints.specs.Quotient.{rounded}
use Rattle.ints.specs.Tabulate.{tabulate}
use Rattle.cosine.specs.Cosine.{quarter_table}
use Rattle.spectrum.specs.Limits.{Room}
use Rattle.spectrum.specs.Spectrum.{line_at}

-- line v of the joined halves of n cells at scale 2^s, the first half at cell 0 of x and the second at cell n
abbrev pub pair_line : ℕ → ℕ → (ℕ → ℤ) → ℕ → ℤ
pair_line s n x v = line_at s n x (λ j. x (n + j)) v

-- the lines of a pair
abbrev pub joined_pair : ℕ → List ℤ → List ℤ
joined_pair s xs = let n = length xs / 2 in tabulate (length xs) (pair_line s n (cell xs))

-- 2^s is a scale of the levels
pub record Scale (s : ℕ) : Type 0 where
  pub least : 4 ≤ s
  pub most : s ≤ 22

-- a pair of 4 k cells can be joined: line v takes entry v × stride of the quarter's cosines, whose neighbours are `apart`
-- steps of the turn apart, and which span a quarter of it
pub record Joinable (s stride : ℕ) (quarter : List ℕ) (xs : List ℤ) : Type 0 where
  pub scale : Scale s
  pub k : ℕ
  pub some : 0 < k
  pub long : length xs ≡ 4 * k
  pub apart : ℕ
  pub spans : k * stride * apart ≡ 256
  pub at_quarter : quarter ≡ tabulate (k * stride + 1) (λ j. quarter_table s (j * apart))
  pub room : (i : ℕ) → Room s (cell xs i)

-- cells v and n + v become the sum of cell v and q, and their difference
abbrev pub split : List ℤ → ℕ → ℕ → ℤ → List ℤ
split xs n v q = set (set xs v (cell xs v +ℤ q)) (n + v) (cell xs v -ℤ q)

-- the rounded quotient of two products, that of a cell with the cosine and that of the mirrored cell with the sine
abbrev pub turned : ℕ → ℤ → ℤ → ℤ → ℤ → ℤ
turned s b mirrored cosine sine = rounded (2 ^ s) (b *ℤ cosine +ℤ mirrored *ℤ sine)

-- lines v, n − v, n + v and 2n − v, of the same four cells
abbrev pub quadded : ℕ → ℕ → ℕ → ℤ → ℤ → List ℤ → List ℤ
quadded s n v cosine sine xs = let b = cell xs (n + v) in let mirrored = cell xs (n + (n - v)) in
    split (split xs n v (turned s b mirrored cosine sine)) n (n - v) (turned s b mirrored sine (neg_ℤ cosine))

-- they can be made
pub record Quad (s n v : ℕ) (c d : ℤ) (xs : List ℤ) : Type 0 where
  pub scale : Scale s
  pub long : length xs ≡ 2 * n
  pub some : 0 < v
  pub below : 2 * v < n
  pub cosine : nat_abs c ≤ 2 ^ s
  pub sine : nat_abs d ≤ 2 ^ s
  pub first : Room s (cell xs v)
  pub first_mirror : Room s (cell xs (n - v))
  pub second : Room s (cell xs (n + v))
  pub second_mirror : Room s (cell xs (n + (n - v)))
