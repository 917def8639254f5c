-- `put_field` is right because the byte after the number is put behind so many places as it has digits, and these are put into them.
use mathlib.Core.Path.{◌≡◌, ◌∙◌}
use mathlib.Core.List.{List, [], ◌∷◌}
use Prim.Native.Nat.{ℕ, ◌+◌, ◌≤◌}
use native.Mathlib.Omega.{arith}
use lib.ListN.{length, set, length-set}
use Rattle.ints.specs.Written.{written}
use Rattle.ints.proofs.Writing.{written_one, written_before}
use Rattle.text.specs.Decimals.{PutField}
use Rattle.text.proofs.put_field.Goals as goal

-- byte b was put at i, right behind the place of the field, and then the field
field_put : (field before : List ℕ) {after : List ℕ} {at : ℕ} (i b : ℕ) {end : ℕ} → at + length field + 1 ≤ length before → i ≡ at + length field
    → after ≡ written (set before i b) at field → end ≡ i + 1 → PutField field b before at after end
field_put field before {after} {at} i b h ei w ee = record { ends = omega arith; bytes = w ∙ rw (written_one before i b (omega arith), ei) (written_before before at field (b ∷ []) h) }

pub put_digits-requires : goal.put_digits-requires
put_digits-requires c = (omega arith, simp length-set (omega arith))

pub returns : goal.returns
returns c = field_put _ _ _ _ (omega arith) (omega arith) c.put_digits.ensures (omega arith)
