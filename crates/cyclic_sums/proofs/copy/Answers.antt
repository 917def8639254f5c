-- `copy` is right because cell i takes cell i.
use borrow.Author.Rules.{rules}
use mathlib.Core.Path.{◌≡◌, refl, ◌∙◌}
use mathlib.Core.List.{List}
use Prim.Native.Nat.{ℕ, ◌≤◌}
use native.Mathlib.Omega.{arith}
use lib.IntN.{ℤ, pos}
use lib.ListN.{length, length-set}
use lib.Seq.{ext_get_or}
use mir.Facts.{to_z-of_z}
use mir.Syntax.{w64}
use mir.Val.{to_z, of_z}
use Rattle.ints.specs.Cells.{cell}
use Rattle.ints.proofs.Filling.{Filled, filled_next}
use Rattle.cyclic_sums.proofs.copy.Goals as goal

all : (xs ys : List ℤ) (i : ℕ) → length xs ≡ length ys → length ys ≤ i → Filled (pos 0) (cell ys) i xs → xs ≡ ys
all xs ys i e h F = ext_get_or (pos 0) xs ys e (λ k l. F k (omega arith))

pub loop-i-init : goal.loop-i-init
loop-i-init c = (refl, λ i h. absurd (omega arith))

pub loop-i-preserved : goal.loop-i-preserved
loop-i-preserved c = let l = c.loop-i in let from = c.args.from.now in
    let back : to_z w64 (of_z w64 (cell from l.i)) ≡ cell from l.i = to_z-of_z {w = w64} (search rules) in
    (length-set l.to l.i _ ∙ l.invariant.0, rw back (filled_next (pos 0) (cell from) l.to l.i (cell from l.i) (omega arith) refl l.invariant.1))

pub returns : goal.returns
returns c = let l = c.loop-i in all l.to _ l.i (omega arith) (omega arith) l.invariant.1
