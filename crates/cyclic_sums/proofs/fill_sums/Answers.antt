-- `fill_sums` is right because a cyclic sum is the dot product of the samples and of as many of the weights backwards, twice.
use mathlib.Core.Path.{◌≡◌, sym, ◌∙◌, ap}
use mathlib.Core.List.{List}
use Prim.Native.Nat.{ℕ, ◌*◌}
use lib.IntN.{ℤ}
use Rattle.exact.specs.Smoothing.{cyclic_sums}
use Rattle.cyclic_sums.specs.Short.{Short, Sliding, slid_sums, turned_back}
use Rattle.cyclic_sums.proofs.Turning.{slid_cyclic, turned_sliding}
use Rattle.cyclic_sums.proofs.fill_sums.Goals as goal

-- ts are the weights ws turned back
module _ {xs ws ts : List ℤ} (s : Short xs ws) (e : ts ≡ turned_back ws) where
  sliding : Sliding xs ts
  sliding = rw e (turned_sliding s)

  sums-are : {sums : List ℤ} → sums ≡ slid_sums xs ts → sums ≡ cyclic_sums xs ws
  sums-are k = k ∙ ap (slid_sums xs) e ∙ slid_cyclic xs ws s.as_long

pub turn_back-requires : goal.turn_back-requires
turn_back-requires c = let p = c.requires in p.turned_len.0 ∙ ap (λ (n : ℕ). 2 * n) (sym p.samples_len_bound.1.as_long)

pub slide-requires : goal.slide-requires
slide-requires c = let p = c.requires in (p.samples_len_bound.0, sliding p.samples_len_bound.1 c.turn_back.ensures, p.turned_len.1)

pub returns : goal.returns
returns c = sums-are c.requires.samples_len_bound.1 c.turn_back.ensures c.slide.ensures
