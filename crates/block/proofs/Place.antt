-- A place that was looked for, as a function answers it: the place where there is one, and else none.
-- Example: `place_at h e : Some i ≡ place_below n place`, with h : i < n and e : i ≡ place.
use mathlib.Core.Path.{◌≡◌, refl, sym}
use Prim.Native.Nat.{ℕ, ◌≤◌, ◌<◌}
use borrow.Author.Tests.{lt-ltb, le-ltb}
use Rattle.std.specs.Prelude.{Some, None}
use Rattle.ints.specs.Place.{place_below}

pub place_at : {n i place : ℕ} → i < n → i ≡ place → Some i ≡ place_below n place
place_at {n} {i} {place} h e = rw (sym e, lt-ltb i n h) refl

pub place_none : {n place : ℕ} → n ≤ place → None ≡ place_below n place
place_none {n} {place} h = rw (le-ltb place n h) refl
