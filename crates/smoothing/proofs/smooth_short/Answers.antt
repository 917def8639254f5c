-- `smooth_short` is right because `tested` finds the first fault or none, and `fill_sums` leaves the plain sums.
use mathlib.Core.Path.{◌≡◌, refl, sym, ◌∙◌, ap}
use mathlib.Core.List.{List}
use borrow.Author.Rules.{rules}
use lib.IntN.{ℤ}
use Rattle.std.specs.Prelude.{Result, Ok, Err}
use Rattle.kind.specs.declared.BlockKind.{BlockKind}
use Rattle.refusal.specs.declared.Refusal.{Refusal}
use Rattle.block.specs.BlockAnswers.{block_answer, cells_left}
use Rattle.exact.specs.Smoothing.{cyclic_sums}
use Rattle.smooth_tests.specs.Tests.{tested_smoothing}
use Rattle.smoothing.specs.Promises.{sums_left}
use Rattle.smoothing.proofs.Smoothed.{accepted}
use Rattle.smoothing.proofs.Weights.{short}
use Rattle.smoothing.proofs.smooth_short.Goals as goal

-- r is answered for the samples xs and the weights ws, and zs is left of the list that was lent, by what the tests have found
promised : (xs ws lent zs : List ℤ) (r : Result (Unit {0}) Refusal) (k : Result BlockKind Refusal) → tested_smoothing xs ws ≡ k → r ≡ block_answer k → zs ≡ cells_left (λ P. cyclic_sums xs ws) lent k
    → (r ≡ block_answer (tested_smoothing xs ws)) × (zs ≡ sums_left xs ws lent)
promised xs ws lent zs r k e a z = (a ∙ sym (ap block_answer e), z ∙ sym (ap (cells_left (λ P. cyclic_sums xs ws) lent) e))

pub fill_sums-requires-clause-samples_len_bound : goal.fill_sums-requires-clause-samples_len_bound
fill_sums-requires-clause-samples_len_bound c = (c.requires.0, short (accepted _ _ _ (sym c.in_ok-tested.ensures.answer)))

pub returns-in_err-tested : goal.returns-in_err-tested
returns-in_err-tested c = let h : c.from_residual.result ≡ Err c.in_err-tested.field-0.0 = search rules in
    let r = promised _ _ _ _ _ (Err c.in_err-tested.field-0.0) (sym c.in_err-tested.ensures.answer) h refl in record { answer = r.0; sums = r.1 }

pub returns : goal.returns
returns c = let r = promised _ _ _ _ (Ok tt) (Ok c.in_ok-tested.field-0) (sym c.in_ok-tested.ensures.answer) refl c.fill_sums.ensures in
    record { answer = r.0; sums = r.1 }
