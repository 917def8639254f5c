-- Document 01, Refused input, 3: how loud the cells of a block and the lines of a lent spectrum may be.
use Rattle.std.specs.Prelude.{ℕ, ◌^◌, ℤ, pos, neg_ℤ}

-- a sample is -32,768 to 32,767
abbrev pub LEAST_SAMPLE : ℤ
LEAST_SAMPLE = neg_ℤ (pos 32768)

abbrev pub LARGEST_SAMPLE : ℤ
LARGEST_SAMPLE = pos 32767

-- and so at most this in magnitude
abbrev pub LOUDEST_SAMPLE : ℕ
LOUDEST_SAMPLE = 32768

-- a line of a lent spectrum is within ±2^28
abbrev pub LOUDEST_LINE : ℕ
LOUDEST_LINE = 2 ^ 28
