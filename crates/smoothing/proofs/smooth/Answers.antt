-- `smooth` is right because `tested` finds the first fault or none, and `smooth_taken` leaves the plain sums, which any pair's path gives.
use mathlib.Core.Path.{◌≡◌, refl, sym, ◌∙◌, ap}
use mathlib.Core.List.{List}
use borrow.Author.Rules.{rules}
use lib.IntN.{ℤ}
use Rattle.std.specs.Prelude.{Result, Ok, Err, OnOk}
use Rattle.kind.specs.declared.BlockKind.{BlockKind}
use Rattle.refusal.specs.declared.Refusal.{Refusal}
use Rattle.block.specs.BlockAnswers.{block_answer, cells_left, verdict_numbers, answer_numbers}
use Rattle.exact.specs.Smoothing.{cyclic_sums}
use Rattle.smooth_tests.specs.Tests.{tested_smoothing}
use Rattle.smoothing.specs.Promises.{AnyPair, smooth_left}
use Rattle.smoothing.proofs.Smoothed.{accepted, done_any_pair}
use Rattle.smoothing.proofs.smooth.Goals as goal

-- r is answered for the lent xs and the weights ws, and zs is left
module _ (xs ws zs : List ℤ) (r : Result (Unit {0}) Refusal) where
  abbrev Promised : Type 0
  Promised = (r ≡ block_answer (tested_smoothing xs ws)) × ((answer_numbers r ≡ verdict_numbers (tested_smoothing xs ws)) × ((zs ≡ smooth_left xs ws) × OnOk r (AnyPair xs ws zs)))

  -- by what the tests have found
  promised : (k : Result BlockKind Refusal) → tested_smoothing xs ws ≡ k → r ≡ block_answer k → answer_numbers r ≡ verdict_numbers k → zs ≡ cells_left (λ P. cyclic_sums xs ws) xs k → Promised
  promised k e a n z = let answer = a ∙ sym (ap block_answer e) in let left = z ∙ sym (ap (cells_left (λ P. cyclic_sums xs ws) xs) e) in
      (answer, (n ∙ sym (ap verdict_numbers e), (left, rw answer (done_any_pair xs ws zs left))))

pub smooth_taken-requires : goal.smooth_taken-requires
smooth_taken-requires c = accepted _ _ _ (sym c.in_ok-kind.ensures.answer)

pub returns-in_err-kind : goal.returns-in_err-kind
returns-in_err-kind c = let h : c.from_residual.result ≡ Err c.in_err-kind.field-0.0 = search rules in
    let r = promised _ _ _ _ (Err c.in_err-kind.field-0.0) (sym c.in_err-kind.ensures.answer) h (ap answer_numbers h) refl in
    record { answer = r.0; numbers = r.1.0; cells = r.1.1.0; any_pair = r.1.1.1 }

pub returns : goal.returns
returns c = let r = promised _ _ _ (Ok tt) (Ok c.in_ok-kind.kind) (sym c.in_ok-kind.ensures.answer) refl refl c.smooth_taken.ensures in
    record { answer = r.0; numbers = r.1.0; cells = r.1.1.0; any_pair = r.1.1.1 }
