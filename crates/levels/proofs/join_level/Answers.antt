-- `join_level` is right because each round joins one more pair, from the front on, and leaves all others as they are.
use borrow.Author.Rules.{rules}
use mathlib.Core.Path.{◌≡◌, refl, ◌∙◌}
use mathlib.Core.List.{List}
use Prim.Native.Nat.{ℕ, ◌+◌, ◌*◌, ◌-◌, ◌^◌, ◌≤◌, ◌<◌}
use native.Mathlib.Omega.{arith}
use lib.IntN.{ℤ, pos}
use lib.ListN.{length, take, drop}
use lib.Pow.{pow_pos}
use Rattle.ints.specs.Cells.{cell}
use Rattle.ints.proofs.Slices.{everywhere}
use Rattle.spectrum.specs.Limits.{Room}
use Rattle.spectrum.specs.Spectrum.{level_at}
use Rattle.pair.specs.Pair.{Joinable, joined_pair}
use Rattle.levels.specs.Ready.{LevelReady}
use Rattle.levels.proofs.PartByPart.{none_done, next_inside, part_long, part_cell, done_next, all_done}
use Rattle.levels.proofs.Blocks.{level_keeps, level-within, pair_is-level, pair_ready}
use Rattle.levels.proofs.join_level.Invariants.{PairsDone}
use Rattle.levels.proofs.join_level.Goals as goal

-- ---- pairs of halves of n cells, joined from the front on

module _ {s : ℕ} {n stride : ℕ} {quarter : List ℕ} {xs : List ℤ} (L : LevelReady s n stride quarter xs) (some : 0 < n) {base : ℕ} {ys : List ℤ} (D : PairsDone s n some xs base ys) (end : ℕ) (ends : end ≡ base + 2 * n) (room : end ≤ length xs) where
  abbrev pair : List ℤ
  pair = take (end - base) (drop base ys)

  long : length pair ≡ 2 * n
  long = part_long (level_at s n) (2 * n) (level_keeps s n) (level-within s n some) D end ends room

  -- past its end the pair's cells are 0
  quiet : (i : ℕ) → Room s (cell pair i)
  quiet = everywhere (pos 0) (λ z. Room s z) (omega arith) pair (λ j h. rw (part_cell (level_at s n) (2 * n) (level_keeps s n) (level-within s n some) D end ends room j (omega (arith, long))) (L.room (base + j)))

  next_ready : Joinable s stride quarter pair
  next_ready = pair_ready L.table pair stride (long ∙ four) L.strides quiet
    where
      four : 2 * n ≡ 4 * 2 ^ L.l
      four = omega (arith, L.halves)

  pair-done : (zs : List ℤ) → zs ≡ joined_pair s pair → PairsDone s n some xs end (borrow.Rule.Slice.PartMut.put_mid base (end - base) ys zs)
  pair-done zs e = done_next (level_at s n) (2 * n) (level_keeps s n) (level-within s n some) D end ends room zs (e ∙ pair_is-level s n pair some long)

some_cells : {s : ℕ} {n stride : ℕ} {quarter : List ℕ} {xs : List ℤ} → LevelReady s n stride quarter xs → 0 < n
some_cells L = omega (arith, L.halves, pow_pos L.l)

pub loop-base-init : goal.loop-base-init
loop-base-init c = let z = some_cells c.requires in (z, none_done (level_at c.args.scale.digits c.args.n) (2 * c.args.n) (level_keeps c.args.scale.digits c.args.n) (level-within c.args.scale.digits c.args.n z) c.args.cells.now)

pub overflow_mul-end : goal.overflow_mul-end
overflow_mul-end c =
    let inside : c.loop-base.base + 2 * c.args.n ≤ length c.args.cells.now = let l = c.loop-base in next_inside (2 * c.args.n) l.base (length c.args.cells.now) l.invariant.1.whole c.requires.whole (omega (arith, c.loop-base-test.true, l.invariant.1.long)) in
    search rules

pub overflow_add-end : goal.overflow_add-end
overflow_add-end c =
    let inside : c.loop-base.base + 2 * c.args.n ≤ length c.args.cells.now = let l = c.loop-base in next_inside (2 * c.args.n) l.base (length c.args.cells.now) l.invariant.1.whole c.requires.whole (omega (arith, c.loop-base-test.true, l.invariant.1.long)) in
    let e = c.loop-base.invariant.1.long in search rules

pub offset_bounds-cells-base : goal.offset_bounds-cells-base
offset_bounds-cells-base c =
    let inside : c.loop-base.base + 2 * c.args.n ≤ length c.args.cells.now = let l = c.loop-base in next_inside (2 * c.args.n) l.base (length c.args.cells.now) l.invariant.1.whole c.requires.whole (omega (arith, c.loop-base-test.true, l.invariant.1.long)) in
    let e = c.loop-base.invariant.1.long in search rules

pub slice_bounds-join-start : goal.slice_bounds-join-start
slice_bounds-join-start c =
    let inside : c.loop-base.base + 2 * c.args.n ≤ length c.args.cells.now = let l = c.loop-base in next_inside (2 * c.args.n) l.base (length c.args.cells.now) l.invariant.1.whole c.requires.whole (omega (arith, c.loop-base-test.true, l.invariant.1.long)) in
    let h = inside in omega (arith, h, c.loop-base.invariant.1.long)

pub slice_bounds-join-end : goal.slice_bounds-join-end
slice_bounds-join-end c =
    let inside : c.loop-base.base + 2 * c.args.n ≤ length c.args.cells.now = let l = c.loop-base in next_inside (2 * c.args.n) l.base (length c.args.cells.now) l.invariant.1.whole c.requires.whole (omega (arith, c.loop-base-test.true, l.invariant.1.long)) in
    let h = inside in omega (arith, h, c.loop-base.invariant.1.long)

pub join-requires : goal.join-requires
join-requires c =
    let inside : c.loop-base.base + 2 * c.args.n ≤ length c.args.cells.now = let l = c.loop-base in next_inside (2 * c.args.n) l.base (length c.args.cells.now) l.invariant.1.whole c.requires.whole (omega (arith, c.loop-base-test.true, l.invariant.1.long)) in
    let l = c.loop-base in next_ready c.requires l.invariant.0 l.invariant.1 _ refl inside

pub loop-base-smaller : goal.loop-base-smaller
loop-base-smaller c =
    let inside : c.loop-base.base + 2 * c.args.n ≤ length c.args.cells.now = let l = c.loop-base in next_inside (2 * c.args.n) l.base (length c.args.cells.now) l.invariant.1.whole c.requires.whole (omega (arith, c.loop-base-test.true, l.invariant.1.long)) in
    let h = inside in omega (arith, h, c.loop-base.invariant.0)

pub loop-base-preserved : goal.loop-base-preserved
loop-base-preserved c =
    let inside : c.loop-base.base + 2 * c.args.n ≤ length c.args.cells.now = let l = c.loop-base in next_inside (2 * c.args.n) l.base (length c.args.cells.now) l.invariant.1.whole c.requires.whole (omega (arith, c.loop-base-test.true, l.invariant.1.long)) in
    let l = c.loop-base in (l.invariant.0, pair-done c.requires l.invariant.0 l.invariant.1 _ refl inside _ c.join.ensures)

pub returns : goal.returns
returns c = let l = c.loop-base in all_done (level_at c.args.scale.digits c.args.n) (2 * c.args.n) (level_keeps c.args.scale.digits c.args.n) (level-within c.args.scale.digits c.args.n l.invariant.0) l.invariant.1 (omega (arith, l.invariant.1.long, c.loop-base-test.false))
