-- `save_of` is right because `tested` says whether there is a fault, and `put_trace` puts the trace where there is none.
use Rattle.std.proofs.Common.{sym, ◌∙◌, arith}
use Rattle.saving.proofs.Outcome.{savable, saved_all}
use Rattle.saving.proofs.save_of.Goals as goal

pub put_trace-requires : goal.put_trace-requires
put_trace-requires g c = savable _ _ _ (omega arith) _ (sym c.in_ok-used.was ∙ c.tested.ensures.says _ (omega arith) c.first_loud.ensures)

pub returns : goal.returns
returns g c = let r = saved_all _ _ _ (omega arith) _ (sym c.in_ok-used.was ∙ c.tested.ensures.says _ (omega arith) c.first_loud.ensures) c.put_trace.ensures in record { answer = r.0; numbers = r.1.0; bytes = r.1.1.0; reads_back = r.1.1.1 }
