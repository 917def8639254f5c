-- `put_number` is right because a number of 32 bits has at most ten digits, for which there is room.
use mathlib.Core.Path.{refl}
use Prim.Native.Nat.{◌≤◌}
use native.Mathlib.Omega.{arith}
use lib.ListN.{length}
use Rattle.ints.proofs.Putting.{put_none}
use Rattle.text.specs.Decimals.{decimal}
use Rattle.text.proofs.Laws.{decimal-length}
use Rattle.text.proofs.Fields.{field_then}
use Rattle.table_text.proofs.put_number.Goals as goal

pub returns : goal.returns
returns c =
    let ten : length (decimal c.from.result) ≤ 10 = decimal-length 10 c.from.result (omega arith) (omega arith) in
    let put = c.put_decimal.ensures.put in
    (field_then decimal put (omega arith) c.from.ensures refl put_none, omega (arith, (put (omega arith)).ends))
