-- Document 02, Item 2: the line that a refusal 4 of a search points at, which a host in C has given itself.
use Rattle.std.specs.Prelude.{cond, ◌||◌, ℕ, ◌-◌, ltb}

-- of a band in a list of n powers: its low end where that exceeds N/2 or the high end, else the high end
abbrev pub end_asked : ℕ → ℕ → ℕ → ℕ
end_asked n low high = cond (ltb (n - 1) low || ltb high low) low high
