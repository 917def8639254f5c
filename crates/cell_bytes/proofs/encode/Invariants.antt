use Prim.Native.Nat.{◌*◌}
use Rattle.little_endian.proofs.Numbers.{NumbersPut}
use Rattle.cell_bytes.proofs.encode.Given as goal

abbrev pub invariant-loop-i : goal.invariant-loop-i
invariant-loop-i l = NumbersPut 8 l.cells l.initial.bytes 0 l.i l.bytes (8 * l.i)
