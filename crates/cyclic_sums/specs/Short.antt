-- What the plain sums of a short block ask of their callers and leave. It stands in no public promise.
use Rattle.std.specs.Prelude.{◌≡◌, List, ℕ, ◌*◌, ◌-◌, ◌%◌, ◌^◌, ◌≤◌, ℤ, nat_abs, ◌*ℤ◌, length, take, drop}
use Rattle.ints.specs.Cells.{cell}
use Rattle.ints.specs.Sum.{sum}
use Rattle.ints.specs.Tabulate.{tabulate}

-- the cells of the longest block that is summed so
abbrev pub SHORT : ℕ
SHORT = 32

-- as many weights as samples, and room for a sum of their products
pub record Short (xs ws : List ℤ) : Type 0 where
  pub as_long : length ws ≡ length xs
  pub quiet : (i : ℕ) → nat_abs (cell xs i) ≤ 2 ^ 40
  pub light : (i : ℕ) → nat_abs (cell ws i) ≤ 2 ^ 15

-- the same with twice as many weights as samples
pub record Sliding (xs ts : List ℤ) : Type 0 where
  pub twice : length ts ≡ 2 * length xs
  pub quiet : (i : ℕ) → nat_abs (cell xs i) ≤ 2 ^ 40
  pub light : (i : ℕ) → nat_abs (cell ts i) ≤ 2 ^ 15

-- the weights backwards, twice: of u, v, w it is w, v, u, w, v, u
unfoldable pub turned_back : List ℤ → List ℤ
unfolding tabulate
turned_back ws = let n = length ws in tabulate (2 * n) (λ i. cell ws (n - 1 - i % n))

-- each sample times the factor at its place, added
unfoldable pub dot_product : List ℤ → List ℤ → ℤ
unfolding sum
dot_product xs ys = sum (length xs) (λ i. cell xs i *ℤ cell ys i)

-- at moment t of N samples: each times one of N turned weights, from place N − 1 − t on, added
abbrev pub slid_sum : List ℤ → List ℤ → ℕ → ℤ
slid_sum xs ts t = let n = length xs in dot_product xs (take n (drop (n - 1 - t) ts))

-- at every moment of the block xs
unfoldable pub slid_sums : List ℤ → List ℤ → List ℤ
unfolding tabulate
slid_sums xs ts = tabulate (length xs) (slid_sum xs ts)
