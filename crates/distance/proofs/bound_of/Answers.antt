-- `bound_of` is right because a length that no block has is refused first, and then the answer goes by what was heard of the cells.
use mathlib.Core.Path.{◌≡◌, sym, ◌∙◌, ap}
use Rattle.std.specs.Prelude.{Ok, Err}
use Rattle.std.proofs.lemmas.Result.{err_from_is_err_and}
use Rattle.refusal.specs.declared.Refusal.TheVariants.{Length}
use Rattle.distance.specs.Inner.{answer_by}
use Rattle.distance.proofs.Answered.{answered-heard, answered-quiet, answered_none, answered_numbers}
use Rattle.distance.proofs.bound_of.Goals as goal

pub returns-in_err-kind : goal.returns-in_err-kind
returns-in_err-kind g c =
    let xs = g.C.Cells.list c.args.cells in
    let p = err_from_is_err_and c.from_residual.result c.from_residual.ensures.1 in
    let none = c.in_err-kind.ensures.ok_part in
    let told = rw none at c.in_err-kind.ensures.value in
    let same : c.in_err-kind.field-0.0 ≡ Length = cc in
    let r = answered_numbers xs (p.1 ∙ ap Err (p.2 ∙ same) ∙ answered_none xs c.len.ensures (sym c.of_len.ensures.answer ∙ none)) in
    record { answer = r.0; numbers = r.1 }

pub answer-requires : goal.answer-requires
answer-requires g c = λ M e. let found = sym c.of_len.ensures.answer ∙ c.in_ok-kind.ensures.ok_part in
    (answered-quiet (g.C.Cells.list c.args.cells) c.len.ensures _ found M c.listen.ensures e).0

pub returns : goal.returns
returns g c =
    let xs = g.C.Cells.list c.args.cells in
    let found = sym c.of_len.ensures.answer ∙ c.in_ok-kind.ensures.ok_part in
    let r = answered_numbers xs (c.answer.ensures ∙ ap (answer_by _) c.listen.ensures ∙ answered-heard xs c.len.ensures _ found) in
    record { answer = r.0; numbers = r.1 }
