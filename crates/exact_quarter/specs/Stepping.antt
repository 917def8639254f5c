-- What the filling of the quarter asks of its callers. It stands in no public promise.
use Rattle.std.specs.Prelude.{◌≡◌, List, ℕ, ◌+◌, ◌-◌, ◌^◌, ◌≤◌, ℤ, length}
use Rattle.exact_pair.specs.Pair.{cosine_step, sine_step}

-- a list of 2^t + 1 entries, and the angle between neighbours
pub record Fills (quarter : List ℤ) (c d : ℤ) : Type 0 where
  pub t : ℕ
  pub most : t ≤ 8
  pub long : length quarter ≡ 2 ^ t + 1
  pub cosine : c ≡ cosine_step (2 ^ (8 - t))
  pub sine : d ≡ sine_step (2 ^ (8 - t))
