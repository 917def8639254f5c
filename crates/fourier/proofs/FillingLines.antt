-- A list that is filled with a value of each line from 0 to N/2, which is made of H(v) and H(N − v). What is made of the two need not be a function of them:
-- Q h m r says that r may be made of h and m.
-- Example: `filled_more Q xs lines v x h F q` takes the lines below v to those below v + 1, with h : v < length lines and q : Q (H xs v) (H xs (length xs - v)) x.
use mathlib.Core.Path.{◌≡◌, ◌∙◌, subst, sym}
use mathlib.Core.List.{List}
use Prim.Native.Nat.{ℕ, ◌+◌, ◌-◌, ◌/◌, ◌<◌}
use native.Mathlib.Nat.{lt_irrefl}
use native.Mathlib.Omega.{arith}
use borrow.Author.Count.{below_more}
use lib.IntN.{ℤ, pos}
use lib.ListN.{length, set}
use lib.Seq.{get_or-set_same, get_or-set_other}
use mir.Facts.{to_z-of_z}
use mir.Syntax.{w64}
use mir.Val.{SFits, to_z, of_z}
use Rattle.ints.specs.Cells.{cell}
use Rattle.ints.specs.Tabulate.{tabulate}
use Rattle.ints.proofs.Filling.{filled_all}
use Rattle.block.specs.Transformable.{Transformable}
use Rattle.fourier.specs.Parts.{H}
use Rattle.fourier.proofs.Lines.{line-back}

-- the lines below v stand
abbrev pub LinesFilled : (ℤ → ℤ → ℤ → Type 0) → List ℤ → List ℤ → ℕ → Type 0
LinesFilled Q xs lines v = (k : ℕ) → k < v → Q (H xs k) (H xs (length xs - k)) (cell lines k)

module _ (Q : ℤ → ℤ → ℤ → Type 0) (xs : List ℤ) where
  pub none_filled : (lines : List ℤ) → LinesFilled Q xs lines 0
  none_filled lines k h = absurd (omega arith)

  pub filled_more : (lines : List ℤ) (v : ℕ) (x : ℤ) → v < length lines → LinesFilled Q xs lines v → Q (H xs v) (H xs (length xs - v)) x → LinesFilled Q xs (set lines v x) (v + 1)
  filled_more lines v x h F q = below_more (λ k. Q (H xs k) (H xs (length xs - k)) (cell (set lines v x) k)) v
      (λ k l. subst (Q (H xs k) (H xs (length xs - k))) (sym (get_or-set_other lines v k x (pos 0) (λ e. lt_irrefl v (subst (λ (n : ℕ). n < v) e l)))) (F k l))
      (subst (Q (H xs v) (H xs (length xs - v))) (sym (get_or-set_same lines v x (pos 0) h)) q)

  -- r, which is made of what the machine reads of cells i and j, is made of line v and its mirror, and is written
  pub line_written : {P : ℕ} → Transformable P xs → {r : ℤ} (i j v : ℕ) → SFits w64 r → cell xs i ≡ H xs v → cell xs j ≡ H xs (length xs - v)
      → Q (to_z w64 (of_z w64 (cell xs i))) (to_z w64 (of_z w64 (cell xs j))) r → Q (H xs v) (H xs (length xs - v)) (to_z w64 (of_z w64 r))
  line_written a i j v f ei ej q = rw (to_z-of_z f) (rw (line-back a i ∙ ei, line-back a j ∙ ej) at q)

-- every line stands, and each is g of the two
pub all_filled : (g : ℤ → ℤ → ℤ) (xs lines : List ℤ) → length lines ≡ length xs / 2 + 1 → LinesFilled (λ h m r. r ≡ g h m) xs lines (length lines)
    → lines ≡ tabulate (length xs / 2 + 1) (λ v. g (H xs v) (H xs (length xs - v)))
all_filled g xs lines e F = filled_all (pos 0) (λ v. g (H xs v) (H xs (length xs - v))) lines (length xs / 2 + 1) e (λ k h. F k (omega arith))
