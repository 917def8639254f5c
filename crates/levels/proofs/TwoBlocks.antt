-- Blocks of 2^L cells, worked one after the other: the next one is ready, and where two are all cells, their join is level L + 1.
use mathlib.Core.Path.{◌≡◌, sym, ◌∙◌, ap}
use mathlib.Core.List.{List}
use Prim.Native.Nat.{ℕ, suc, ◌+◌, ◌*◌, ◌-◌, ◌/◌, ◌^◌, ◌≤◌}
use native.Mathlib.Nat.{div-add-mod'}
use native.Mathlib.Omega.{arith}
use lib.IntN.{ℤ, pos, nat_abs}
use lib.ListN.{length, take, drop}
use lib.Pow.{pow_pos}
use borrow.Rule.Slice.PartMut.{put_mid}
use Rattle.ints.specs.Cells.{cell}
use Rattle.ints.proofs.Powers.{two_pow}
use Rattle.ints.proofs.Slices.{everywhere, part_all}
use Rattle.spectrum.specs.Spectrum.{levels_at}
use Rattle.pair.specs.Pair.{joined_pair}
use Rattle.levels.specs.Ready.{NoneAbove, Ready}
use Rattle.levels.proofs.PartByPart.{Done, none_done, part_long, part_cell, done_next, all_done}
use Rattle.levels.proofs.Blocks.{levels_keep, levels-within-block, pair_is-level, next_level, block-ready}

-- levels 1 to L of the blocks before `base` are done
abbrev pub BlocksDone : ℕ → ℕ → List ℤ → ℕ → List ℤ → Type 0
BlocksDone s L xs base ys = Done (levels_at s L) (2 ^ L) (levels_keep s L) (levels-within-block s L) xs base ys

pub no_block_done : (s L : ℕ) (xs : List ℤ) → BlocksDone s L xs 0 xs
no_block_done s L = none_done (levels_at s L) (2 ^ L) (levels_keep s L) (levels-within-block s L)

module _ (s L : ℕ) {xs : List ℤ} {base : ℕ} {ys : List ℤ} (D : BlocksDone s L xs base ys) (end : ℕ) (ends : end ≡ base + 2 ^ L) (room : end ≤ length xs) where
  pub block_done : (zs : List ℤ) → zs ≡ levels_at s L (take (end - base) (drop base ys)) → BlocksDone s L xs end (put_mid base (end - base) ys zs)
  block_done = done_next (levels_at s L) (2 ^ L) (levels_keep s L) (levels-within-block s L) D end ends room

  pub next_long : length (take (end - base) (drop base ys)) ≡ 2 ^ L
  next_long = part_long (levels_at s L) (2 ^ L) (levels_keep s L) (levels-within-block s L) D end ends room

  pub next_ready : {K : ℕ} {quarter : List ℕ} → Ready s K quarter xs → L ≤ K → Ready s L quarter (take (end - base) (drop base ys))
  next_ready R le = block-ready R L (base / 2 ^ L) (take (end - base) (drop base ys)) le (omega (arith, start)) next_long
      (λ j k. ap (λ (b : ℕ). cell xs (b + j)) start ∙ sym (part_cell (levels_at s L) (2 ^ L) (levels_keep s L) (levels-within-block s L) D end ends room j k))
    where
      start : base / 2 ^ L * 2 ^ L ≡ base
      start = omega (arith, div-add-mod' base (2 ^ L), D.whole)

pub blocks_done : (s L : ℕ) {xs : List ℤ} {base : ℕ} {ys : List ℤ} → BlocksDone s L xs base ys → length xs ≤ base → ys ≡ levels_at s L xs
blocks_done s L = all_done (levels_at s L) (2 ^ L) (levels_keep s L) (levels-within-block s L)

-- ---- two blocks are all

module _ (s L : ℕ) (xs : List ℤ) (long : length xs ≡ 2 * 2 ^ L) where
  abbrev pub first_part : List ℤ
  first_part = take (2 ^ L - 0) (drop 0 xs)

  pub first-long : length first_part ≡ 2 ^ L
  first-long = next_long s L (no_block_done s L xs) (2 ^ L) (omega arith) (omega arith)

  module _ (zs : List ℤ) (e : zs ≡ levels_at s L first_part) where
    abbrev pub first_done : List ℤ
    first_done = put_mid 0 (2 ^ L - 0) xs zs

    pub one_done : BlocksDone s L xs (2 ^ L) first_done
    one_done = block_done s L (no_block_done s L xs) (2 ^ L) (omega arith) (omega arith) zs e

    abbrev pub second_part : List ℤ
    second_part = take (2 ^ suc L - 2 ^ L) (drop (2 ^ L) first_done)

    pub second-long : length second_part ≡ 2 ^ L
    second-long = next_long s L one_done (2 ^ suc L) (omega (arith, two_pow L)) (omega (arith, two_pow L))

    module _ (ws : List ℤ) (f : ws ≡ levels_at s L second_part) where
      abbrev pub both_done : List ℤ
      both_done = put_mid (2 ^ L) (2 ^ suc L - 2 ^ L) first_done ws

      pub two-done : both_done ≡ levels_at s L xs
      two-done = blocks_done s L (block_done s L one_done (2 ^ suc L) (omega (arith, two_pow L)) (omega (arith, two_pow L)) ws f) (omega (arith, two_pow L))

      pub both_long : length both_done ≡ 2 * 2 ^ L
      both_long = ap length two-done ∙ levels_keep s L xs ∙ long

      pub two_joined : (us : List ℤ) → us ≡ joined_pair s both_done → us ≡ levels_at s (suc L) xs
      two_joined us g = g ∙ pair_is-level s (2 ^ L) both_done (pow_pos L) both_long ∙ next_level s L xs both_done two-done

-- cells that are small are so in each of the two parts
module _ (b s L : ℕ) (xs : List ℤ) (long : length xs ≡ 2 * 2 ^ L) (small : NoneAbove b xs) where
  pub first_small : NoneAbove b (first_part s L xs long)
  first_small = part_all (pos 0) (λ z. nat_abs z ≤ b) (omega arith) 0 (2 ^ L - 0) xs small

  pub second-small : (zs : List ℤ) (e : zs ≡ levels_at s L (first_part s L xs long)) → NoneAbove b (second_part s L xs long zs e)
  second-small zs e = everywhere (pos 0) (λ z. nat_abs z ≤ b) (omega arith) (second_part s L xs long zs e)
      (λ i k. rw (part_cell (levels_at s L) (2 ^ L) (levels_keep s L) (levels-within-block s L) (one_done s L xs long zs e) (2 ^ suc L) (omega (arith, two_pow L)) (omega (arith, two_pow L)) i (omega (arith, second-long s L xs long zs e))) (small (2 ^ L + i)))
