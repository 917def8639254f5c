-- Of a block and weights that are taken the path gives the plain cyclic sums, whichever pair with a full turn is chosen.
-- Example: `any_pair P xs ws ys A e : AnyPair xs ws ys`, with A : Accepted P xs ws and e : ys ≡ cyclic_sums xs ws.
use mathlib.Core.Path.{◌≡◌, refl, sym, ◌∙◌, ap}
use mathlib.Core.List.{List}
use Prim.Native.Nat.{ℕ, ◌≤◌, ◌<◌}
use native.Mathlib.Omega.{arith}
use lib.IntN.{ℤ, pos, nat_abs}
use lib.ListN.{length}
use Rattle.ints.specs.Cells.{cell}
use Rattle.ints.specs.Tabulate.{tabulate}
use Rattle.ints.proofs.Powers.{same_power}
use Rattle.ints.proofs.Slices.{everywhere}
use Rattle.ints.proofs.Tables.{get_d_tabulate, length-tabulate}
use Rattle.kind.specs.declared.BlockKind.{BlockKind}
use Rattle.std.specs.Prelude.{Result, Ok, Err, OnOk}
use Rattle.refusal.specs.declared.Refusal.{Refusal}
use Rattle.block.specs.BlockAnswers.{block_answer, cells_left}
use Rattle.spectrum.specs.Limits.{LARGEST_CELL}
use Rattle.turns.specs.Turn.{CHOSEN, FullTurn, Pair}
use Rattle.turns.proofs.Chosen.{chosen_full}
use Rattle.exact.specs.Smoothing.{cyclic_sum, cyclic_sums, smoothed}
use Rattle.exact.proofs.ExactSmoothing.{smoothing_exact}
use Rattle.exact.proofs.Limits.{cyclic_small}
use Rattle.smooth_tests.specs.Tests.{tested_smoothing}
use Rattle.smooth_tests.proofs.SmoothingTaken.{smoothing_taken}
use Rattle.smoothing.specs.Inner.{Accepted}
use Rattle.smoothing.specs.Promises.{AnyPair, smooth_left}

sums_by : (q : Pair) → FullTurn q → {P : ℕ} {xs ws : List ℤ} → Accepted P xs ws → smoothed q P xs ws ≡ cyclic_sums xs ws
unfolding cyclic_sums
sums_by q full {P} {xs} {ws} A = smoothing_exact q full P A.most xs ws A.quiet A.light ∙ ap (λ (N : ℕ). tabulate N (cyclic_sum N xs ws)) (sym A.long)

pub sums_by_chosen : {P : ℕ} {xs ws ys : List ℤ} → Accepted P xs ws → ys ≡ smoothed CHOSEN P xs ws → ys ≡ cyclic_sums xs ws
sums_by_chosen A e = e ∙ sums_by CHOSEN chosen_full A

pub any_pair : (P : ℕ) (xs ws ys : List ℤ) → Accepted P xs ws → ys ≡ cyclic_sums xs ws → AnyPair xs ws ys
any_pair P xs ws ys A e q full P' long = rw (same_power P' P (sym long ∙ A.long)) (e ∙ sym (sums_by q full A))

-- ---- what the tests take

module _ (xs ws : List ℤ) where
  pub accepted : (kind : BlockKind) → tested_smoothing xs ws ≡ Ok kind → Accepted kind.p xs ws
  accepted kind e = let t = smoothing_taken xs ws kind e in record {
    least = t.least;
    most = t.most;
    long = t.long;
    as_long = t.as_long ∙ t.long;
    quiet = t.quiet;
    light = rw t.long at t.light;
  }

  pub done_any_pair : (ys : List ℤ) → ys ≡ smooth_left xs ws → OnOk (block_answer (tested_smoothing xs ws)) (AnyPair xs ws ys)
  done_any_pair ys = go (tested_smoothing xs ws) refl
    where
      go : (k : Result BlockKind Refusal) → tested_smoothing xs ws ≡ k → ys ≡ cells_left (λ P. cyclic_sums xs ws) xs k → OnOk (block_answer k) (AnyPair xs ws ys)
      go (Ok kind) e l = any_pair kind.p xs ws ys (accepted kind e) l
      go (Err refusal) e l = tt

  -- no sum is above 2^30, so that its bytes spell it
  pub sums_small : (kind : BlockKind) → tested_smoothing xs ws ≡ Ok kind → (i : ℕ) → nat_abs (cell (cyclic_sums xs ws) i) ≤ LARGEST_CELL
  unfolding cyclic_sums
  sums_small kind e = let A = accepted kind e in let N = length xs in
      everywhere (pos 0) (λ z. nat_abs z ≤ LARGEST_CELL) (omega arith) (tabulate N (cyclic_sum N xs ws)) (λ i h. let l : i < N = omega (arith, length-tabulate N (cyclic_sum N xs ws)) in
      rw (get_d_tabulate N (cyclic_sum N xs ws) (pos 0) i l) (omega (arith, cyclic_small N xs ws A.quiet (rw A.long A.light) i l)))
