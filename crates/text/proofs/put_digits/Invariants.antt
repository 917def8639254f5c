use mathlib.Core.Path.{◌≡◌}
use mathlib.Core.List.{List}
use Prim.Native.Nat.{ℕ, ◌+◌, ◌≤◌, ◌<◌}
use lib.ListN.{length}
use Rattle.ints.specs.Written.{written}
use Rattle.text.specs.Decimals.{decimal}
use Rattle.text.proofs.put_digits.Given as goal

-- the digits `left` are still to be put, before byte `from`: those of `rest`, unless none is left
pub record Left (x : ℕ) (before : List ℕ) (at : ℕ) (now : List ℕ) (from rest : ℕ) : Type 0 where
  pub left : List ℕ
  pub are : at < from → left ≡ decimal rest
  pub place : from ≡ at + length left
  pub inside : from ≤ length now
  pub whole : written now at left ≡ written before at (decimal x)

abbrev pub invariant-loop-i : goal.invariant-loop-i
invariant-loop-i l = Left l.x l.initial.out l.at l.out l.i l.rest
