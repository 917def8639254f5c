-- `put_signed` is right because the number's magnitude is put, and a minus sign before it where the number is below zero.
use mathlib.Core.Bool.{true, false}
use mathlib.Core.Path.{◌≡◌, ◌∙◌}
use mathlib.Core.List.{List, [], ◌∷◌, ◌++◌}
use Prim.Native.Nat.{ℕ, ◌+◌, ◌≤◌}
use native.Mathlib.Omega.{arith}
use lib.IntN.{ℤ, pos, nat_abs}
use lib.ListN.{length, set}
use lib.Signed.{le_z}
use mir.Facts.{to_z-of_z}
use mir.Syntax.{w64}
use mir.Val.{SFits, to_z, of_z}
use Rattle.ints.proofs.Writing.{written_one, written_more}
use Rattle.text.specs.Decimals.{MINUS, PutField, decimal, signed_decimal}
use Rattle.text.proofs.Laws.{signed_below, signed-from_zero, word_length}
use Rattle.text.proofs.put_signed.Goals as goal

module _ (x : ℤ) (m : ℕ) (fits : SFits w64 x) (size : m ≡ nat_abs (to_z w64 (of_z w64 x))) where
  unsigned : le_z (pos 0) (to_z w64 (of_z w64 x)) ≡ true → decimal m ≡ signed_decimal x
  unsigned h = rw (size, to_z-of_z fits) (signed-from_zero x (rw (to_z-of_z fits) at h))

  signed : le_z (pos 0) (to_z w64 (of_z w64 x)) ≡ false → MINUS ∷ decimal m ≡ signed_decimal x
  signed h = rw (size, to_z-of_z fits) (signed_below x (rw (to_z-of_z fits) at h))

-- the sign was put at `at`, and m behind it
with_sign : (m : ℕ) {next : ℕ} {before after : List ℕ} {at end : ℕ} → at + 1 ≤ length before → PutField (decimal m) next (set before at MINUS) (at + 1) after end
    → PutField (MINUS ∷ decimal m) next before at after end
with_sign m {next} {before} {at = at} h p = record {
  ends = omega (arith, p.ends);
  bytes = p.bytes ∙ rw (written_one before at MINUS (omega arith)) (written_more before at (MINUS ∷ []) (decimal m ++ (next ∷ [])) (omega arith));
}

pub returns-then-x-ge0-clause-put : goal.returns-then-x-ge0-clause-put
returns-then-x-ge0-clause-put c =
    let e = unsigned c.args.x _ c.ranges.x c.magnitude-size.ensures c.if-x-ge0.true in rw (← e) c.put_decimal.ensures.put

pub returns-then-x-ge0-clause-kept : goal.returns-then-x-ge0-clause-kept
returns-then-x-ge0-clause-kept c =
    let e = unsigned c.args.x _ c.ranges.x c.magnitude-size.ensures c.if-x-ge0.true in rw (← e) c.put_decimal.ensures.kept

pub overflow_add-digits : goal.overflow_add-digits
overflow_add-digits c = omega (arith, word_length c.magnitude-size.result (omega arith))

pub returns-then-not-has_room-clause-put : goal.returns-then-not-has_room-clause-put
returns-then-not-has_room-clause-put c =
    let e = signed c.args.x _ c.ranges.x c.magnitude-size.ensures c.if-x-ge0.false in rw (← e) (grind arith)

pub returns-clause-put : goal.returns-clause-put
returns-clause-put c =
    let e = signed c.args.x _ c.ranges.x c.magnitude-size.ensures c.if-x-ge0.false in rw (← e) (λ room. with_sign c.magnitude-size.result (omega arith) c.put_field.ensures)

pub returns-clause-kept : goal.returns-clause-kept
returns-clause-kept c =
    let e = signed c.args.x _ c.ranges.x c.magnitude-size.ensures c.if-x-ge0.false in rw (← e) (grind arith)
