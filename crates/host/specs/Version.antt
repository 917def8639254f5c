-- The version of the interface for hosts in C: every new call, and every change to a signature, an answer or a refusal, counts one up. HARTLEY_VERSION of
-- host/hartley.h is held to it by tests/header.
use Rattle.std.specs.Prelude.{ℕ}

abbrev pub VERSION : ℕ
VERSION = 6
