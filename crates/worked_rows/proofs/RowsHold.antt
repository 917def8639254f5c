-- The starred samples hold, all rows by one computed test.
use mathlib.Core.Bool.{Bool, true, ◌&&◌}
use mathlib.Core.List.{List, [], ◌∷◌}
use lib.Dec.{T}
use lib.Ieee.Fits.{and_l, and_r}
use Rattle.ints.proofs.Order.{equal, equal_is}
use Rattle.ints.proofs.Tables.{same, same_list}
use Rattle.worked_rows.specs.Rows.{Row, rows, Hold}

test : List Row → Bool
test [] = true
test (r ∷ rs) = same equal r.given r.said && test rs

hold : (rs : List Row) → T (test rs) → Hold rs
unfolding test
hold [] t = tt
hold (r ∷ rs) t = (same_list equal equal_is r.given r.said (and_l (same equal r.given r.said) (test rs) t), hold rs (and_r (same equal r.given r.said) (test rs) t))

pub rows_hold : Hold rows
unfolding test same equal rows
rows_hold = hold rows tt
