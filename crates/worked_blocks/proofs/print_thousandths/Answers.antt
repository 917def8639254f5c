-- `print_thousandths` is right because it cuts only what it has found to lie in the range of an i64.
use Rattle.std.proofs.Common.{T, sym, subst}
use lib.Ieee.{of_bits, neg}
use Rattle.worked_blocks.proofs.print_thousandths.Goals as goal

pub truncating_f64_to_i64-requires : goal.truncating_f64_to_i64-requires
unfolding of_bits neg
truncating_f64_to_i64-requires g c = record {
  lower_bound = subst T (sym c.if-x.true) tt;
  upper_bound = subst T (sym c.if-x-2.true) tt;
}
