-- `fill` is right because before line v the lines below v stand, and mirror is the place of H(N − v).
use borrow.Author.Rules.{sfits_of}
use mathlib.Core.Path.{refl}
use Prim.Native.Nat.{◌+◌, ◌<◌}
use native.Mathlib.Omega.{arith}
use lib.ListN.{length}
use Rattle.ints.proofs.Mirror.{mirror_first, mirror_later, mirror_in}
use Rattle.fourier.proofs.Lines.{two_or_more, line_at, mirror_at}
use Rattle.fourier.proofs.FillingLines.{none_filled, filled_more, line_written}
use Rattle.fourier.proofs.fill.Goals as goal

pub loop-v-init : goal.loop-v-init
loop-v-init g c = (none_filled (goal.F-post g c.args.value) c.args.spectrum.now c.args.lines.now, mirror_first (length c.args.spectrum.now) 0 0 refl refl)

pub bounds-spectrum-mirror : goal.bounds-spectrum-mirror
bounds-spectrum-mirror g c = mirror_in (length c.args.spectrum.now) c.loop-v.v c.loop-v.mirror (omega (arith, two_or_more c.requires.taken.1)) c.loop-v.invariant.1

pub loop-v-preserved : goal.loop-v-preserved
loop-v-preserved g c = let Q = goal.F-post g c.args.value in let xs = c.args.spectrum.now in let a = c.requires.taken.1 in let v = c.loop-v.v in let m = c.loop-v.mirror in
    let below : v < length xs = omega (arith, two_or_more a, c.requires.long, c.loop-v.auto.lines) in (
      filled_more Q xs c.loop-v.lines v _ (omega arith) c.loop-v.invariant.0
          (line_written Q xs a v m v (sfits_of c.value.type_inv) (line_at xs v below) (mirror_at xs v m c.loop-v.invariant.1) c.value.ensures),
      mirror_later (length xs) (v + 1) _ (omega arith) (omega arith) refl,
    )
