use mathlib.Core.List.{List}
use Prim.Native.Nat.{ℕ, ◌*◌, ◌≤◌}
use lib.ListN.{drop}
use Rattle.ints.proofs.Putting.{Still}
use Rattle.table_text.specs.TableText.{LINE_BYTES, number_lines}
use Rattle.table_text.proofs.put_numbers.Given as goal

-- the lines from number j on are still to be put
pub record Going (numbers before now : List ℕ) (j at : ℕ) : Type 0 where
  pub few : at ≤ LINE_BYTES * j
  pub still : Still (number_lines numbers) before 0 (number_lines (drop j numbers)) now at

abbrev pub invariant-loop-number : goal.invariant-loop-number
invariant-loop-number l = Going l.numbers l.initial.out l.out l.number-index l.at
