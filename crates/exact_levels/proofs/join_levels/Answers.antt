-- `join_levels` is right because the first two levels and those after them are all.
use mathlib.Core.Path.{sym, ◌∙◌, ap}
use mathlib.Core.List.{List}
use Prim.Native.Nat.{ℕ, ◌*◌, ◌%◌, ◌^◌}
use lib.IntN.{ℤ}
use lib.ListN.{length}
use Rattle.ints.specs.Cells.{cell}
use Rattle.exact_pair.specs.Pair.{FIRST, Stands}
use Rattle.exact_levels.specs.Ready.{FourReady, LaterReady, LevelsReady, exact_levels}
use Rattle.exact_levels.proofs.Powers.{power_divides}
use Rattle.exact_levels.proofs.join_levels.Goals as goal

module _ {P : ℕ} {quarter xs : List ℤ} (R : LevelsReady P quarter xs) where
  four-ready : FourReady xs
  four-ready = record { whole = ap (λ (n : ℕ). n % 4) R.long ∙ power_divides 2 P R.least; small = R.small }

  module _ {ys : List ℤ} (Z : Stands (4 * FIRST) (length xs) (cell (exact_levels 2 xs)) ys) where
    later-ready : LaterReady P quarter ys
    later-ready = record { least = R.least; most = R.most; long = Z.long ∙ R.long; at_quarter = R.at_quarter; small = Z.small }

    all-stand : Stands (4 * FIRST) (2 ^ P) (cell (exact_levels 2 xs)) ys
    all-stand = rw (sym R.long) Z

pub join_fours-requires : goal.join_fours-requires
join_fours-requires c = four-ready c.requires

pub join_later_levels-requires : goal.join_later_levels-requires
join_later_levels-requires c = later-ready c.requires c.join_fours.ensures

pub returns : goal.returns
returns c = c.join_later_levels.ensures c.args.cells.now c.requires.long (all-stand c.requires c.join_fours.ensures)
