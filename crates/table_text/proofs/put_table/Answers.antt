-- `put_table` is right because the numbers that are put are the table's.
use native.Mathlib.Omega.{arith}
use Rattle.table_text.proofs.put_table.Goals as goal

pub returns : goal.returns
returns c = let put = rw c.quarter_table.ensures at c.put_numbers.ensures.0 in record {
  used = omega (arith, put.ends);
  text = put.bytes;
  fits = c.put_numbers.ensures.1;
}
