-- `join_fours` is right because each round does levels 1 and 2 of one more four, from the front on, and leaves all others as they are.
use mathlib.Core.Path.{◌≡◌, refl, sym, ◌∙◌, ap}
use mathlib.Core.List.{List}
use Prim.Native.Nat.{ℕ, ◌+◌, ◌*◌, ◌-◌, ◌/◌, ◌≤◌, ◌<◌}
use native.Mathlib.Omega.{arith}
use lib.IntN.{ℤ}
use lib.ListN.{length, take, drop}
use borrow.Rule.Slice.PartMut.{put_mid}
use Rattle.ints.specs.Cells.{cell}
use Rattle.spectrum.proofs.Stages.{levels-within}
use Rattle.turns.specs.Turn.{CHOSEN, cosine_at, sine_at}
use Rattle.exact_pair.specs.Pair.{FIRST, Stands}
use Rattle.exact_levels.specs.Ready.{FourReady}
use Rattle.levels.proofs.PartByPart.{part_inside, parts_all}
use Rattle.exact_levels.proofs.PartByPart.{none_done, part_long, part_cell, part_small, done_next, all_done}
use Rattle.exact_levels.proofs.join_fours.Invariants.{lines, FoursDone}
use Rattle.exact_levels.proofs.join_fours.Goals as goal

one_more : (m : ℕ) → (m + 1) * 4 ≡ m * 4 + 4
one_more m = omega arith

-- ---- fours with levels 1 and 2 behind them, from the front on

module _ {xs : List ℤ} (R : FourReady xs) {base : ℕ} {ys : List ℤ} (D : FoursDone xs base ys) (end : ℕ) (ends : end ≡ base + 4) (room : end ≤ length xs) where
  abbrev four : List ℤ
  four = take (end - base) (drop base ys)

  long : length four ≡ 4
  long = part_long (4 * FIRST) 4 (lines xs) D end ends room

  next_ready : FourReady four
  next_ready = record { whole = rw long (omega arith); small = part_small (4 * FIRST) 4 (lines xs) D end ends room FIRST R.small }

  -- the levels do to the four what they do to those cells among all
  within : (i : ℕ) → i < 4 → lines four i ≡ lines xs (base + i)
  within i h = sym (levels-within (λ z. z) (cosine_at CHOSEN) (sine_at CHOSEN) 2 (base / 4) 1 xs four (omega (arith, start)) (omega (arith, long))
      (λ j k. ap (λ (b : ℕ). cell xs (b + j)) start ∙ sym (part_cell (4 * FIRST) 4 (lines xs) D end ends room j k)) i h) ∙ ap (λ (b : ℕ). lines xs (b + i)) start
    where
      start : base / 4 * 4 ≡ base
      start = omega (arith, D.whole)

  four-done : (zs : List ℤ) → Stands (4 * FIRST) 4 (lines four) zs → FoursDone xs end (put_mid base (end - base) ys zs)
  four-done zs Z = done_next (4 * FIRST) 4 (lines xs) D end ends room (lines four) zs Z within

pub loop-four-init : goal.loop-four-init
loop-four-init c = let xs = c.args.cells.now in none_done (4 * FIRST) 4 (lines xs) xs

pub join_four-requires : goal.join_four-requires
join_four-requires c =
    let inside : c.loop-four.four * 4 + 4 ≤ length c.args.cells.now = part_inside 4 c.loop-four.four (length c.args.cells.now) c.loop-four-test.true in
    let l = c.loop-four in let R = c.requires in (long R l.invariant (l.four * 4 + 4) refl inside, next_ready R l.invariant (l.four * 4 + 4) refl inside)

pub loop-four-preserved : goal.loop-four-preserved
loop-four-preserved c =
    let inside : c.loop-four.four * 4 + 4 ≤ length c.args.cells.now = part_inside 4 c.loop-four.four (length c.args.cells.now) c.loop-four-test.true in
    let l = c.loop-four in rw (one_more l.four) (four-done c.requires l.invariant (l.four * 4 + 4) refl inside _ c.join_four.ensures)

pub returns : goal.returns
returns c = let l = c.loop-four in
    all_done (4 * FIRST) 4 (lines c.args.cells.now) l.invariant (parts_all 4 l.four (length c.args.cells.now) c.requires.whole c.loop-four-test.false)
