-- The status that a program ends with whose output could not be written.
use Rattle.std.specs.Prelude.{ℕ, ◌+◌}
use Rattle.std.specs.declared.io.ErrorKind.{ErrorKind}
use Rattle.std.specs.declared.io.ErrorKind.TheVariants.{BrokenPipe}

-- that of a program which the signal of a closed pipe ends, 128 + 13
abbrev pub CLOSED : ℕ
CLOSED = 128 + 13

abbrev pub unwritten_status : ErrorKind → ℕ
unwritten_status BrokenPipe = CLOSED
unwritten_status _ = 0
