-- The steps of a block are its permutation and its levels; two cells stay where they are.
use mathlib.Core.Path.{◌≡◌, sym, ◌∙◌, ap}
use mathlib.Core.List.{List}
use Prim.Native.Nat.{ℕ, zero, suc, ◌≤◌, ◌<◌}
use native.Mathlib.Omega.{arith}
use lib.IntN.{ℤ, pos}
use lib.ListN.{length}
use lib.Seq.{ext_get_or}
use Rattle.ints.specs.Cells.{cell}
use Rattle.ints.proofs.Tables.{get_d_tabulate}
use Rattle.kind.specs.BlockKinds.{SCALE_DIGITS}
use Rattle.spectrum.specs.Levels.{permuted, reversed, transformed}
use Rattle.spectrum.specs.Spectrum.{levels_at, forward_at, forward}
use Rattle.block.specs.Transformable.{Transformable}
use Rattle.spectrum.proofs.ForwardDistance.{level-room}
use Rattle.spectrum.proofs.Stages.{length-permuted}
use Rattle.hartley.specs.Inner.{CanRunLevels}

pub two_stay : (xs : List ℤ) → length xs ≡ 2 → permuted 1 xs ≡ xs
unfolding permuted reversed
two_stay xs long = ext_get_or (pos 0) (permuted 1 xs) xs (length-permuted 1 xs ∙ sym long) (λ i h. go i (omega (arith, length-permuted 1 xs)))
  where
    never : {i : ℕ} → suc (suc i) < 2 → ⊥
    never h = omega arith

    go : (i : ℕ) → i < 2 → cell (permuted 1 xs) i ≡ cell xs i
    go zero h = get_d_tabulate 2 (λ i. cell xs (reversed 1 i)) (pos 0) 0 h
    go (suc zero) h = get_d_tabulate 2 (λ i. cell xs (reversed 1 i)) (pos 0) 1 h
    go (suc (suc i)) h = absurd (never h)

pub steps : (P : ℕ) (xs ys : List ℤ) → ys ≡ permuted P xs → levels_at SCALE_DIGITS P ys ≡ forward P xs
unfolding forward forward_at transformed
steps P xs ys e = ap (levels_at SCALE_DIGITS P) e

-- before each level the permuted cells have room, by the magnitude law
pub levels_can_run : {P : ℕ} {xs ys : List ℤ} → Transformable P xs → ys ≡ permuted P xs → 3 ≤ P → CanRunLevels P ys
levels_can_run {P} {xs} {ys} t e least = record {
  least = least;
  most = t.most;
  long = ap length e ∙ length-permuted P xs;
  room = λ L h i. rw e (level-room SCALE_DIGITS (omega arith) (omega arith) L P h t.most xs t.quiet i);
}
