-- `turn_back` is right because weight n − 1 − i goes to place i of both halves.
use borrow.Author.Count.{below_more}
use borrow.Author.Rules.{rules}
use mathlib.Core.Path.{◌≡◌, ◌∙◌}
use mathlib.Core.List.{List}
use Prim.Native.Nat.{ℕ, ◌+◌, ◌*◌, ◌-◌, ◌≤◌, ◌<◌}
use native.Mathlib.Omega.{arith}
use lib.IntN.{ℤ, pos}
use lib.ListN.{length, set, length-set}
use lib.Seq.{get_or-set_same, get_or-set_other}
use mir.Facts.{to_z-of_z}
use mir.Syntax.{w64}
use Rattle.ints.specs.Cells.{cell}
use Rattle.cyclic_sums.specs.Short.{turned_back}
use Rattle.cyclic_sums.proofs.Turning.{turned_all}
use Rattle.cyclic_sums.proofs.turn_back.Invariants.{Backed}
use Rattle.cyclic_sums.proofs.turn_back.Goals as goal

-- ---- both halves filled alike

module _ {ws ts : List ℤ} where
  backed-none : length ts ≡ 2 * length ws → Backed ws ts 0
  backed-none e = record { twice = e; first = λ j h. absurd (omega arith); again = λ j h. absurd (omega arith) }

  module _ {i : ℕ} (b : Backed ws ts i) where
    backed-next : (z : ℤ) → z ≡ cell ws (length ws - 1 - i) → i < length ws → Backed ws (set (set ts i z) (length ws + i) z) (i + 1)
    backed-next z e h = record {
      twice = length-set (set ts i z) (length ws + i) z ∙ length-set ts i z ∙ b.twice;
      first = below_more (λ j. cell (set (set ts i z) (length ws + i) z) j ≡ cell ws (length ws - 1 - j)) i (λ j k. apart j (omega arith) ∙ get_or-set_other ts i j z (pos 0) (omega arith) ∙ b.first j k)
          (apart i h ∙ get_or-set_same ts i z (pos 0) (omega (arith, b.twice)) ∙ e);
      again = below_more (λ j. cell (set (set ts i z) (length ws + i) z) (length ws + j) ≡ cell ws (length ws - 1 - j)) i
          (λ j k. get_or-set_other (set ts i z) (length ws + i) (length ws + j) z (pos 0) (omega arith) ∙ get_or-set_other ts i (length ws + j) z (pos 0) (omega arith) ∙ b.again j k)
          (get_or-set_same (set ts i z) (length ws + i) z (pos 0) (omega (arith, length-set ts i z, b.twice)) ∙ e);
    }
      where
        apart : (j : ℕ) → j < length ws → cell (set (set ts i z) (length ws + i) z) j ≡ cell (set ts i z) j
        apart j k = get_or-set_other (set ts i z) (length ws + i) j z (pos 0) (omega arith)

    backed-all : length ws ≤ i → ts ≡ turned_back ws
    backed-all h = turned_all ws ts b.twice (λ j k. b.first j (omega arith)) (λ j k. b.again j (omega arith))

-- ---- the needs

pub loop-i-init : goal.loop-i-init
loop-i-init c = backed-none c.requires

pub bounds-turned-i : goal.bounds-turned-i
bounds-turned-i c = omega (arith, c.loop-i.invariant.twice)

pub overflow_add-weight : goal.overflow_add-weight
overflow_add-weight c = omega (arith, c.loop-i.invariant.twice)

pub bounds-turned-n : goal.bounds-turned-n
bounds-turned-n c = omega (arith, length-set {A = ℤ}, c.loop-i.invariant.twice)

pub loop-i-preserved : goal.loop-i-preserved
loop-i-preserved c = let l = c.loop-i in backed-next l.invariant _ (to_z-of_z {w = w64} (search rules)) (omega arith)

pub returns : goal.returns
returns c = backed-all c.loop-i.invariant (omega arith)
