-- `strongest_of` is right because its checks are the definition's, and a line that has the relation `Strongest` is the definition's.
use mathlib.Core.Path.{refl, sym, ap}
use native.Mathlib.Omega.{arith}
use Rattle.std.specs.Prelude.{Ok, Err}
use Rattle.std.proofs.lemmas.Result.{err_from_is_err_and}
use Rattle.search.proofs.Band.{strongest-is}
use Rattle.search.proofs.Checks.{band_taken, strongest_so}
use Rattle.search.proofs.strongest_of.Goals as goal

pub look_through-requires : goal.look_through-requires
look_through-requires g c = let t = band_taken _ _ _ c.len.ensures c.tested_band.ensures c.in_ok-tested_band.was in (t.ordered, t.listed, omega arith)

pub returns-in_err-tested_band : goal.returns-in_err-tested_band
returns-in_err-tested_band g c =
    let p = err_from_is_err_and c.from_residual.result c.from_residual.ensures.1 in
    let r = strongest_so (g.C.Cells.list c.args.powers) c.args.low c.args.high c.len.ensures c.tested_band.ensures (Err _) c.in_err-tested_band.was refl in
    rw (p.1, p.2) (record { answer = r.0; numbers = r.1 })

pub returns : goal.returns
returns g c =
    let t = band_taken _ _ _ c.len.ensures c.tested_band.ensures c.in_ok-tested_band.was in
    let found = sym (strongest-is _ _ _ _ t.listed c.look_through.ensures) in
    let r = strongest_so (g.C.Cells.list c.args.powers) c.args.low c.args.high c.len.ensures c.tested_band.ensures (Ok _) c.in_ok-tested_band.was (ap Ok found) in
    record { answer = r.0; numbers = r.1 }
