-- The place of what is looked for among n things, where there is one. Example: `place_below 4 2` is `Some 2`, and `place_below 4 4` is `None`.
use Rattle.std.specs.Prelude.{ℕ, nat_lt, if◌then◌else◌, Option, Some, None}

-- a place below n, or none where the place is n or more
abbrev pub place_below : ℕ → ℕ → Option ℕ
place_below n place = if nat_lt place n then Some place else None
