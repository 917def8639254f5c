-- `smooth_in` is right because each step of the path has what it asks for in what the step before it leaves.
use mathlib.Core.Path.{sym, ◌∙◌}
use native.Mathlib.Omega.{arith}
use Rattle.smoothing.proofs.BySpectra.{quarter_long, cells_ready, weights_ready, spectra_ready, combined-ready, restore_ready, path_taken}
use Rattle.smoothing.proofs.smooth_in.Goals as goal

-- ---- the calls, each from the next

pub fill_quarter-requires : goal.fill_quarter-requires
fill_quarter-requires c = let p = c.requires in (omega (arith, p.le_p.1.most), p.spectrum_len.1 ∙ quarter_long p.le_p.1 p.le_p.0)

pub copy-requires : goal.copy-requires
copy-requires c = c.requires.spectrum_len.0 ∙ c.requires.le_p.1.long ∙ sym c.requires.le_p.1.as_long

pub transform-requires : goal.transform-requires
transform-requires c = weights_ready c.requires.le_p.1 c.requires.le_p.0 c.fill_quarter.ensures c.copy.ensures

pub transform-requires-2 : goal.transform-requires-2
transform-requires-2 c = cells_ready c.requires.le_p.1 c.requires.le_p.0 c.fill_quarter.ensures

pub combine-requires : goal.combine-requires
combine-requires c = spectra_ready c.requires.le_p.1 c.requires.le_p.0 c.transform-2.ensures c.transform.ensures

pub transform-requires-3 : goal.transform-requires-3
transform-requires-3 c = combined-ready c.requires.le_p.1 c.requires.le_p.0 c.fill_quarter.ensures c.transform-2.ensures c.combine.ensures

pub restore-requires : goal.restore-requires
restore-requires c = (c.requires.le_p.1.least, c.requires.le_p.1.most, restore_ready c.requires.le_p.1 c.transform-3.ensures)

pub returns : goal.returns
returns c = path_taken c.requires.le_p.1 c.copy.ensures c.transform.ensures c.transform-2.ensures c.combine.ensures c.transform-3.ensures c.restore.ensures
