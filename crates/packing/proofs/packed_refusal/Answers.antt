-- `packed_refusal` is right because the number takes one byte and the place seven.
use mathlib.Core.Path.{◌≡◌}
use Prim.Native.Nat.{ℕ, ◌+◌, ◌*◌, ◌%◌, ◌^◌}
use native.Mathlib.Omega.{arith}
use Rattle.refusal.specs.declared.Refusal.{Refusal}
use Rattle.refusal.specs.RefusalTable.{number, place}
use Rattle.packing.specs.Packing.{packed_refusal}
use Rattle.refusal.proofs.Numbers.{number_fits}
use Rattle.packing.proofs.packed_refusal.Goals as goal

packs : (refusal : Refusal) (n p r : ℕ) → n ≡ number refusal → p ≡ place refusal → r ≡ n + 256 * (p % 256 ^ 7) → r ≡ packed_refusal refusal
unfolding packed_refusal
packs refusal n p r en ep er = omega arith

pub overflow_add-result : goal.overflow_add-result
overflow_add-result c = let refusal = c.args.refusal in omega (arith, (number_fits refusal).1)

pub returns : goal.returns
returns c = packs _ _ _ _ c.number-number.ensures c.place.ensures (omega arith)
