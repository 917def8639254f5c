-- `nearest_of` is right because its checks are the definition's, and `look_outwards` finds the definition's line or none.
use mathlib.Core.Path.{refl, ap}
use mir.Facts.{to_z-of_z}
use Rattle.std.specs.Prelude.{Ok, Err}
use Rattle.std.proofs.lemmas.Result.{err_from_is_err_and}
use Rattle.search.proofs.Checks.{listed_chosen, nearest_so}
use Rattle.search.proofs.nearest_of.Goals as goal

pub look_outwards-requires : goal.look_outwards-requires
look_outwards-requires g c = listed_chosen _ _ c.args.level c.len.ensures c.tested_chosen.ensures c.in_ok-tested_chosen.was

pub returns-in_err-tested_chosen : goal.returns-in_err-tested_chosen
returns-in_err-tested_chosen g c =
    let p = err_from_is_err_and c.from_residual.result c.from_residual.ensures.1 in
    let r = nearest_so (g.C.Cells.list c.args.powers) c.args.chosen c.args.level c.len.ensures c.tested_chosen.ensures (Err _) c.in_err-tested_chosen.was refl in
    rw (p.1, p.2) (record { answer = r.0; numbers = r.1 })

pub returns : goal.returns
returns g c =
    let found = simp (to_z-of_z c.ranges.level) at c.look_outwards.ensures in
    let r = nearest_so (g.C.Cells.list c.args.powers) c.args.chosen c.args.level c.len.ensures c.tested_chosen.ensures (Ok _) c.in_ok-tested_chosen.was (ap Ok found) in
    record { answer = r.0; numbers = r.1 }
