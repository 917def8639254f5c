-- What the inner functions ask of their callers and leave. None of it stands in a public promise.
use Rattle.std.specs.Prelude.{◌≡◌, ℕ, ◌*◌, ◌^◌, ◌≤◌, ℤ}
use Rattle.fourier.specs.declared.Doubled.TheVariants.{Real, Imaginary}
use Rattle.fourier.specs.declared.Pair.{Pair}
use Rattle.fourier.specs.Parts.{formula}
use Rattle.fourier.specs.Scaled.{quotient}

-- n is 2^k, k at most `most`
pub record PowerOfTwo (most n : ℕ) : Type 0 where
  pub exponent : ℕ
  pub few : exponent ≤ most
  pub is : n ≡ 2 ^ exponent

-- the real and the imaginary part of a line; h is H(v), m is H(N − v)
abbrev pub scaled_pair : ℤ → ℤ → ℕ → Pair
scaled_pair h m N = record { real = quotient (formula Real h m) (2 * N); imaginary = quotient (formula Imaginary h m) (2 * N) }
