-- `put_numbers` is right because each turn puts the line of one number, and the lines of the numbers after it are still to be put.
use mathlib.Core.Path.{◌≡◌}
use mathlib.Core.List.{List, [], ◌∷◌}
use Prim.Native.Nat.{ℕ, ◌+◌, ◌≤◌, ◌<◌}
use native.Mathlib.Numerals.{add-one}
use native.Mathlib.Omega.{arith}
use lib.ListN.{length, get_or}
use lib.Seq.{drop-cons, drop-length}
use Rattle.ints.specs.Written.{Put}
use Rattle.ints.proofs.Putting.{still_begun, still_next, still_done}
use Rattle.text.specs.Decimals.{decimal}
use Rattle.text.specs.Lines.{text_line}
use Rattle.table_text.specs.TableText.{LINE_BYTES, number_lines}
use Rattle.table_text.proofs.put_numbers.Invariants.{Going}
use Rattle.table_text.proofs.put_numbers.Goals as goal

module _ {numbers before : List ℕ} where
  next : {now after : List ℕ} {at end : ℕ} (j : ℕ) → j < length numbers → at + LINE_BYTES ≤ length now → Going numbers before now j at
      → Put (text_line (decimal (get_or numbers j 0) ∷ [])) now at after end × (end ≤ at + LINE_BYTES) → Going numbers before after (j + 1) end
  unfolding number_lines
  next j h room g p = rw (add-one j) (record {
    few = omega (arith, g.few, p.1);
    still = still_next (rw (drop-cons numbers j 0 h) at g.still) p.0 (omega (arith, p.1));
  })

  done : {now : List ℕ} {at j : ℕ} → j ≡ length numbers → Going numbers before now j at → Put (number_lines numbers) before 0 now at
  unfolding number_lines
  done h g = still_done (rw (h, drop-length numbers) at g.still)

pub loop-number-init : goal.loop-number-init
loop-number-init c = record { few = omega arith; still = still_begun _ _ _ _ (omega arith) }

pub loop-number-preserved : goal.loop-number-preserved
loop-number-preserved c = next c.loop-number.number-index (omega arith) (omega arith) c.loop-number.invariant c.put_number-at.ensures

pub returns : goal.returns
returns c = (done (omega arith) c.loop-number.invariant, omega (arith, c.loop-number.invariant.few))
