-- `hartley_nearest` is right because it packs what `nearest` answers, and every number of that fits its bytes.
use mathlib.Core.Path.{◌∙◌, ap}
use mir.Facts.{to_z-of_z}
use Rattle.packing.specs.Packing.{packed_search}
use Rattle.scaled_bytes.specs.LineHeld.{as_line}
use Rattle.search_bytes.proofs.Told.{nearest_told}
use Rattle.host.proofs.hartley_nearest.Goals as goal

pub returns : goal.returns
returns c = let n = simp (to_z-of_z c.ranges.level) at c.nearest.ensures in
    let e = c.packed_search.ensures ∙ ap packed_search n in record {
      answer = e;
      numbers = nearest_told _ (as_line _) _ e;
    }
