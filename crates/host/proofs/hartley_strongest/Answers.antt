-- `hartley_strongest` is right because it packs what `strongest` answers, and every number of that fits its bytes.
use mathlib.Core.Path.{◌∙◌, ap}
use Rattle.packing.specs.Packing.{packed_search}
use Rattle.scaled_bytes.specs.LineHeld.{as_line}
use Rattle.search_bytes.proofs.Told.{strongest_told}
use Rattle.host.proofs.hartley_strongest.Goals as goal

pub returns : goal.returns
returns c = let e = c.packed_found.ensures ∙ ap packed_search c.strongest.ensures in record {
  answer = e;
  numbers = strongest_told _ (as_line _) (as_line _) e;
}
