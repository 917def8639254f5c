-- `sum_cells` is right because the samples are copied into a room of their own, so that they are still there when the sums take their place.
use mathlib.Core.Path.{◌≡◌, refl, sym, ◌∙◌, ap}
use mathlib.Core.List.{List}
use Prim.Native.Nat.{ℕ, ◌*◌, ◌≤◌}
use native.Mathlib.Omega.{arith}
use lib.IntN.{ℤ}
use lib.ListN.{length}
use lib.Seq.{length-take-le}
use Rattle.exact.specs.Smoothing.{cyclic_sums}
use Rattle.cyclic_sums.specs.Short.{SHORT, Short}
use Rattle.cyclic_sums.proofs.sum_cells.Goals as goal

-- what holds of the samples holds of their copy
of-copy : (xs ws copied : List ℤ) (room : ℕ) → copied ≡ xs → room ≡ 2 * length xs → length xs ≤ SHORT → Short xs ws
    → ((length copied ≤ SHORT) × Short copied ws) × ((room ≡ 2 * length copied) × (length xs ≡ length copied))
of-copy xs ws copied room e r few s = rw e ((few, s), (r, refl))

pub slice_bounds-samples-end : goal.slice_bounds-samples-end
slice_bounds-samples-end c = sym (length-take-le _ _ (omega arith))

pub copy-requires : goal.copy-requires
copy-requires c = length-take-le _ _ (omega arith)

pub slice_bounds-fill_sums-end : goal.slice_bounds-fill_sums-end
slice_bounds-fill_sums-end c = sym (length-take-le _ _ (omega arith))

pub fill_sums-requires : goal.fill_sums-requires
fill_sums-requires c = let r = of-copy _ _ _ _ c.copy.ensures (length-take-le _ _ (omega arith)) c.requires.0 c.requires.1 in record { samples_len_bound = r.0; turned_len = r.1 }

pub returns : goal.returns
returns c = c.fill_sums.ensures ∙ ap (λ (xs : List ℤ). cyclic_sums xs c.args.weights.now) c.copy.ensures
