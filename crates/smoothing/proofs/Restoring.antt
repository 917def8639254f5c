-- Cells that are restored in place, from the front on: those before t are done, the others still hold what they held.
use mathlib.Core.Path.{◌≡◌, refl, sym, ◌∙◌, ap}
use mathlib.Core.List.{List, map}
use Prim.Native.Nat.{ℕ, ◌+◌, ◌≤◌, ◌<◌}
use native.Mathlib.Omega.{arith}
use borrow.Author.Count.{below_more}
use lib.IntN.{ℤ, pos}
use lib.ListN.{length, set, length-map, length-set}
use lib.Seq.{get_or-set_same, get_or-set_other, ext_get_or}
use Rattle.ints.specs.Cells.{cell}
use Rattle.exact.specs.Smoothing.{restored}
use Rattle.exact.proofs.Path.{cell-restored}

pub record Restoring (P : ℕ) (zs : List ℤ) (t : ℕ) (ys : List ℤ) : Type 0 where
  pub long : length ys ≡ length zs
  pub done : (i : ℕ) → i < t → cell ys i ≡ restored P (cell zs i)
  pub left : (i : ℕ) → t ≤ i → cell ys i ≡ cell zs i

pub none_restored : (P : ℕ) (zs : List ℤ) → Restoring P zs 0 zs
none_restored P zs = record { long = refl; done = λ i h. absurd (omega arith); left = λ i h. refl }

pub next_restored : {P : ℕ} {zs : List ℤ} {t : ℕ} {ys : List ℤ} (R : Restoring P zs t ys) → t < length ys → (z : ℤ) →
    z ≡ restored P (cell ys t) → Restoring P zs (t + 1) (set ys t z)
next_restored {P} {zs} {t} {ys} R inside z e = record {
  long = length-set ys t z ∙ R.long;
  done = below_more (λ i. cell (set ys t z) i ≡ restored P (cell zs i)) t (λ i h. get_or-set_other ys t i z (pos 0) (λ k. omega arith) ∙ R.done i h)
      (get_or-set_same ys t z (pos 0) inside ∙ e ∙ ap (restored P) (R.left t (omega arith)));
  left = λ i h. get_or-set_other ys t i z (pos 0) (λ k. omega arith) ∙ R.left i (omega arith);
}

pub all_restored : {P : ℕ} {zs : List ℤ} {t : ℕ} {ys : List ℤ} → Restoring P zs t ys → length ys ≤ t → ys ≡ map (restored P) zs
all_restored {P} {zs} {t} {ys} R past = ext_get_or (pos 0) ys (map (restored P) zs) (R.long ∙ sym (length-map zs (restored P)))
    (λ i l. R.done i (omega arith) ∙ sym (cell-restored P zs i))
