-- `divide` is right because after i rounds the first i cells are divided and the others are as they were.
use borrow.Author.Rules.{sfits_of}
use mathlib.Core.Path.{◌≡◌, refl, sym, ◌∙◌, ap}
use mathlib.Core.List.{List, [], ◌∷◌, map}
use Prim.Native.Nat.{ℕ, zero, suc, ◌+◌, ◌^◌, ◌≤◌, ◌<◌}
use native.Mathlib.Nat.{le_of_suc-le-suc}
use native.Mathlib.Omega.{arith}
use lib.IntN.{ℤ, pos, nat_abs}
use lib.ListN.{length, set, length-set, length-map}
use lib.Seq.{ext_get_or, get_or-set_other}
use mir.Facts.{to_z-of_z}
use mir.Syntax.{w64}
use mir.Val.{to_z, of_z}
use Rattle.ints.specs.Cells.{cell}
use Rattle.ints.specs.Quotient.{rounded}
use Rattle.ints.proofs.Filling.{filled_next}
use Rattle.ints.proofs.Fit.{reads_back}
use Rattle.spectrum.specs.Limits.{LARGEST_CELL}
use Rattle.hartley.specs.Inner.{CanDivide}
use Rattle.hartley.proofs.divide.Invariants.{Mapped}
use Rattle.hartley.proofs.divide.Goals as goal

cell-map : (f : ℤ → ℤ) (xs : List ℤ) (k : ℕ) → k < length xs → cell (map f xs) k ≡ f (cell xs k)
cell-map f [] k h = absurd (omega arith)
cell-map f (x ∷ xs) zero h = refl
cell-map f (x ∷ xs) (suc k) h = cell-map f xs k (le_of_suc-le-suc h)

mapped-none : (f : ℤ → ℤ) (ys : List ℤ) → Mapped f ys ys 0
mapped-none f ys = record { long = refl; new = λ k h. absurd (omega arith); old = λ k h. refl }

-- x, which is f of cell i, is written to it
mapped_next : (f : ℤ → ℤ) (ys xs : List ℤ) (i : ℕ) (x : ℤ) → i < length xs → x ≡ f (cell ys i) → Mapped f ys xs i → Mapped f ys (set xs i x) (i + 1)
mapped_next f ys xs i x h e m = record {
  long = length-set xs i x ∙ m.long;
  new = filled_next (pos 0) _ xs i x h e m.new;
  old = λ k g. get_or-set_other xs i k x (pos 0) (λ e. omega arith) ∙ m.old k (omega arith);
}

mapped-all : (f : ℤ → ℤ) (ys xs : List ℤ) (i : ℕ) → length xs ≤ i → Mapped f ys xs i → xs ≡ map f ys
mapped-all f ys xs i h m =
    ext_get_or (pos 0) xs (map f ys) (m.long ∙ sym (length-map ys f)) (λ k l. m.new k (omega arith) ∙ sym (cell-map f ys k (omega (arith, m.long))))

-- a cell that is not yet divided, as the machine reads it
module _ {P : ℕ} {xs : List ℤ} (D : CanDivide P xs) (ys : List ℤ) (i : ℕ) (e : cell ys i ≡ cell xs i) where
  read : to_z w64 (of_z w64 (cell ys i)) ≡ cell xs i
  read = rw e (reads_back (cell xs i) LARGEST_CELL (omega arith) (D.small i))

  left-small : nat_abs (to_z w64 (of_z w64 (cell ys i))) ≤ 2 ^ 62
  left-small = rw read (omega (arith, D.small i))

pub loop-x-init : goal.loop-x-init
loop-x-init c = mapped-none _ _

pub rounded-requires : goal.rounded-requires
rounded-requires c = let a = c.loop-x in left-small c.requires a.cells a.x-index (a.invariant.old a.x-index (omega arith))

pub loop-x-preserved : goal.loop-x-preserved
loop-x-preserved c = let a = c.loop-x in let told = rw c.by-scale.ensures at c.rounded.ensures in
    mapped_next _ c.args.cells.now a.cells a.x-index _ (omega arith)
    (to_z-of_z {w = w64} (sfits_of c.rounded.type_inv) ∙ told ∙ ap (rounded (2 ^ c.args.p)) (read c.requires a.cells a.x-index (a.invariant.old a.x-index (omega arith)))) a.invariant

pub returns : goal.returns
returns c = let a = c.loop-x in mapped-all _ _ a.cells a.x-index (omega arith) a.invariant
