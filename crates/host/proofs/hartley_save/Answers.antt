-- `hartley_save` is right because it packs what `save` answers.
use mathlib.Core.Path.{◌∙◌, ap}
use Rattle.packing.specs.Packing.{packed_save}
use Rattle.save_bytes.proofs.Told.{save_told}
use Rattle.host.proofs.hartley_save.Goals as goal

pub returns : goal.returns
returns c = let a = c.save.ensures in let e = c.packed_save.ensures ∙ ap packed_save a.says in record {
  answer = e;
  numbers = (λ few. save_told _ _ _ few e);
  bytes = a.leaves;
  reads_back = a.reads_back;
}
