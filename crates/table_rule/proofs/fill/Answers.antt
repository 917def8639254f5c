-- `fill` is right because each entry is F(j), with all its eight doublings, rounded as the table's rule says.
use borrow.Author.Rules.{rules}
use mathlib.Core.Path.{◌≡◌, ◌∙◌, ap}
use Prim.Native.Nat.{ℕ, ◌+◌, ◌-◌, ◌/◌, ◌^◌}
use native.Mathlib.Omega.{arith}
use Rattle.ints.proofs.Filling.{filled_next, filled_all}
use Rattle.cosine.specs.Cosine.{fine, fine_with, quarter_table}
use Rattle.table_rule.proofs.Rule.{fine_le}
use Rattle.table_rule.proofs.fill.Goals as goal

-- an entry, from the cosine f that is read with d doublings, and then rounded
entry : (s j d f x : ℕ) → d ≡ 8 → f ≡ fine_with 60 d j → x ≡ (f + 2 ^ (59 - s)) / 2 ^ (60 - s) → x ≡ quarter_table s j
unfolding quarter_table fine
entry s j d f x eight read e = e ∙ ap (λ (y : ℕ). (y + 2 ^ (59 - s)) / 2 ^ (60 - s)) (rw eight at read)

pub at_scale-requires : goal.at_scale-requires
at_scale-requires c = (search rules, rw c.quarter_cosine.ensures (fine_le 60 (omega arith) _ _))

pub loop-j-preserved : goal.loop-j-preserved
loop-j-preserved c = filled_next 0 _ c.loop-j.table c.loop-j.j _ (omega arith) (entry _ _ _ _ _ (omega arith) c.quarter_cosine.ensures c.at_scale.ensures) c.loop-j.invariant

pub returns : goal.returns
returns c = filled_all 0 _ _ _ (omega arith) (λ i h. c.loop-j.invariant i (omega arith))
