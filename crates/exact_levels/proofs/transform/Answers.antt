-- `transform` is right because it permutes and runs all levels, and a permuted cell is a cell of the block.
use mathlib.Core.Path.{◌≡◌, ◌∙◌, ap}
use mathlib.Core.List.{List}
use Prim.Native.Nat.{ℕ, ◌*◌, ◌^◌, ◌≤◌}
use native.Mathlib.Omega.{arith}
use lib.IntN.{ℤ, pos, nat_abs}
use lib.ListN.{length}
use Rattle.ints.specs.Cells.{cell}
use Rattle.ints.proofs.Slices.{everywhere}
use Rattle.ints.proofs.Tables.{get_d_tabulate}
use Rattle.spectrum.specs.Levels.{permuted, reversed, transformed}
use Rattle.spectrum.proofs.Stages.{length-permuted}
use Rattle.exact_pair.specs.Pair.{FIRST, NoneAbove, Stands}
use Rattle.exact_levels.specs.Ready.{LevelsReady, exact_levels, exact_transformed}
use Rattle.exact_levels.proofs.transform.Goals as goal

permuted-small : (b P : ℕ) (xs : List ℤ) → NoneAbove b xs → NoneAbove b (permuted P xs)
unfolding permuted
permuted-small b P xs h = everywhere (pos 0) (λ z. nat_abs z ≤ b) (omega arith) (permuted P xs)
    (λ i k. rw (get_d_tabulate (2 ^ P) (λ i. cell xs (reversed P i)) (pos 0) i (omega (arith, length-permuted P xs))) (h (reversed P i)))

module _ (P : ℕ) (xs ys : List ℤ) (e : ys ≡ permuted P xs) where
  levels-ready : {quarter : List ℤ} → LevelsReady P quarter xs → LevelsReady P quarter ys
  levels-ready R = record { least = R.least; most = R.most; long = ap length e ∙ length-permuted P xs; at_quarter = R.at_quarter; small = rw e (permuted-small FIRST P xs R.small) }

  transformed-stand : (zs : List ℤ) → Stands (2 ^ P * FIRST) (2 ^ P) (cell (exact_levels P ys)) zs → Stands (2 ^ P * FIRST) (2 ^ P) (cell (exact_transformed P xs)) zs
  unfolding transformed
  transformed-stand zs Z = rw e at Z

pub join_levels-requires : goal.join_levels-requires
join_levels-requires c = levels-ready c.args.p c.args.cells.now _ c.permute.ensures c.requires

pub returns : goal.returns
returns c = transformed-stand c.args.p c.args.cells.now _ c.permute.ensures _ c.join_levels.ensures
