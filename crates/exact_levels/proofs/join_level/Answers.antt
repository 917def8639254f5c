-- `join_level` is right because each round joins one more pair, from the front on, and leaves all others as they are.
use mathlib.Core.Path.{◌≡◌, refl, sym, ◌∙◌, ap, subst}
use mathlib.Core.List.{List}
use Prim.Native.Nat.{ℕ, ◌+◌, ◌*◌, ◌-◌, ◌/◌, ◌%◌, ◌^◌, ◌≤◌, ◌<◌}
use native.Mathlib.Nat.{zero-mul, mul-div_right}
use native.Mathlib.Numerals.{add-one}
use native.Mathlib.Omega.{arith}
use lib.IntN.{ℤ}
use lib.ListN.{length, take, drop}
use lib.Pow.{pow_pos, pow_mono}
use borrow.Rule.Slice.PartMut.{put_mid}
use Rattle.ints.specs.Cells.{cell}
use Rattle.ints.specs.Tabulate.{tabulate}
use Rattle.ints.proofs.Powers.{two_pow, two_pow_pred}
use Rattle.ints.proofs.Tables.{length-tabulate}
use Rattle.spectrum.proofs.Pairs.{in_pair}
use Rattle.spectrum.proofs.Stages.{line_cong}
use Rattle.turns.specs.Turn.{CHOSEN, cosine_at, sine_at}
use Rattle.exact_pair.specs.Pair.{FIRST, NoneAbove, PairReady, Stands, cosine_step, exact_line}
use Rattle.exact_levels.specs.Ready.{LevelReady, exact_joined}
use Rattle.levels.proofs.PartByPart.{part_inside, parts_all}
use Rattle.exact_levels.proofs.PartByPart.{none_done, part_long, part_cell, part_small, done_next, all_done}
use Rattle.exact_levels.proofs.Powers.{power_product}
use Rattle.exact_levels.proofs.join_level.Invariants.{PairsDone}
use Rattle.exact_levels.proofs.join_level.Goals as goal

one_more : (m w : ℕ) → (m + 1) * w ≡ m * w + w
one_more m w = omega arith

-- what `join` says of a pair of N cells, of halves of n cells
of-halves : (n N : ℕ) (x : ℕ → ℤ) (zs : List ℤ) → N ≡ 2 * n → Stands (N * FIRST) N (exact_line (N / 2) x) zs → Stands (2 * n * FIRST) (2 * n) (exact_line n x) zs
of-halves n N x zs e Z = rw (e, half) at Z
  where
    half : 2 * n / 2 ≡ n
    half = omega arith

-- ---- how many cells a half has, and the stride

module _ {l : ℕ} {quarter xs : List ℤ} (R : LevelReady l quarter xs) where
  few : 2 ^ (l - 1) ≤ 2 ^ 8
  few = pow_mono {i = l - 1} {j = 8} (omega (arith, R.within, R.most))

  halves : 2 ^ l ≡ 2 * 2 ^ (l - 1)
  halves = two_pow_pred l (omega (arith, R.least))

  n-is : 1 * 2 ^ l % 2 ^ 64 ≡ 2 ^ l
  n-is = omega (arith, few, halves)

  entries-many : length quarter ≡ 2 ^ (l - 1) * 2 ^ (R.t - (l - 1)) + 1
  entries-many = ap length R.at_quarter ∙ length-tabulate (2 ^ R.t + 1) _ ∙ ap (λ (m : ℕ). m + 1) (sym (power_product (l - 1) (R.t - (l - 1)) R.t (omega (arith, R.within))))

  abbrev stride : ℕ
  stride = (length quarter - 1) / 2 ^ (l - 1)

  stride-is : stride ≡ 2 ^ (R.t - (l - 1))
  stride-is = ap (λ (m : ℕ). m / 2 ^ (l - 1)) (omega (arith, entries-many)) ∙ mul-div_right (2 ^ (R.t - (l - 1))) (pow_pos (l - 1))

  -- so many strides are all entries but the last, and with the steps between them the quarter of the turn
  strides_all : 2 ^ (l - 1) * stride ≡ 2 ^ R.t
  strides_all = rw stride-is (power_product (l - 1) (R.t - (l - 1)) R.t (omega (arith, R.within)))

  quarter_turn : 2 ^ R.t * 2 ^ (8 - R.t) ≡ 256
  quarter_turn = power_product R.t (8 - R.t) 8 (omega (arith, R.most))

  -- ---- pairs of halves of n cells, joined from the front on, where the machine has n for 2^l

  module _ (n : ℕ) (e : n ≡ 2 ^ l) where
    width : 2 ^ (l + 1) ≡ 2 * n
    width = rw (add-one l) (two_pow l ∙ ap (λ (m : ℕ). 2 * m) (sym e))

    some_cells : 0 < n
    some_cells = rw e (pow_pos l)

    pair_ready : (part : List ℤ) → length part ≡ 2 * n → NoneAbove (n * FIRST) part → PairReady stride quarter part
    pair_ready part long small = record {
      k = 2 ^ (l - 1);
      some = pow_pos (l - 1);
      few = few;
      long = long ∙ omega (arith, e, halves);
      apart = 2 ^ (8 - R.t);
      spans = rw strides_all quarter_turn;
      at_quarter = R.at_quarter ∙ ap (λ (m : ℕ). tabulate (m + 1) (λ j. cosine_step (j * 2 ^ (8 - R.t)))) (sym strides_all);
      small = rw (e ∙ halves) at small;
    }

    module _ {block : ℕ} {ys : List ℤ} (D : PairsDone n xs (block * (2 * n)) ys) where
      joined-all : length xs / 2 ^ (l + 1) ≤ block → Stands (2 * 2 ^ l * FIRST) (length xs) (exact_joined (2 ^ l) (cell xs)) ys
      joined-all h = rw e at (all_done (2 * n * FIRST) (2 * n) (exact_joined n (cell xs)) D
          (parts_all (2 * n) block (length xs) (rw e R.whole) (subst (λ (w : ℕ). length xs / w ≤ block) width h)))

      module _ (less : block < length xs / 2 ^ (l + 1)) where
        inside : block * (2 * n) + 2 * n ≤ length xs
        inside = part_inside (2 * n) block (length xs) (subst (λ (w : ℕ). block < length xs / w) width less)

        abbrev base : ℕ
        base = block * (2 * n)

        abbrev pair : List ℤ
        pair = take (base + 2 * n - base) (drop base ys)

        long : length pair ≡ 2 * n
        long = part_long (2 * n * FIRST) (2 * n) (exact_joined n (cell xs)) D (base + 2 * n) refl inside

        next_ready : PairReady stride quarter pair
        next_ready = pair_ready pair long (part_small (2 * n * FIRST) (2 * n) (exact_joined n (cell xs)) D (base + 2 * n) refl inside (n * FIRST) (rw e R.small))

        -- a line of the pair is that of all cells, there
        within : (i : ℕ) → i < 2 * n → exact_line n (cell pair) i ≡ exact_joined n (cell xs) (base + i)
        within i h = line_cong (λ z. z) (cosine_at CHOSEN) (sine_at CHOSEN) n _ _ _ _ i some_cells (λ j k. at j (omega arith)) (λ j k. at (n + j) (omega arith))
            ∙ sym (in_pair (λ z. z) (cosine_at CHOSEN) (sine_at CHOSEN) n some_cells (cell xs) block i h)
          where
            at : (j : ℕ) → j < 2 * n → cell pair j ≡ cell xs (base + j)
            at j k = part_cell (2 * n * FIRST) (2 * n) (exact_joined n (cell xs)) D (base + 2 * n) refl inside j k

        pair-done : (zs : List ℤ) → Stands (length pair * FIRST) (length pair) (exact_line (length pair / 2) (cell pair)) zs →
            PairsDone n xs ((block + 1) * (2 * n)) (put_mid base (base + 2 * n - base) ys zs)
        pair-done zs Z = rw (one_more block (2 * n))
            (done_next (2 * n * FIRST) (2 * n) (exact_joined n (cell xs)) D (base + 2 * n) refl inside (exact_line n (cell pair)) zs (of-halves n (length pair) (cell pair) zs long Z) within)

pub overflow_sub-stride : goal.overflow_sub-stride
overflow_sub-stride c = omega (arith, entries-many c.requires)

pub loop-block-init : goal.loop-block-init
loop-block-init c = let n = 1 * 2 ^ c.args.done % 2 ^ 64 in let xs = c.args.cells.now in rw (zero-mul (2 * n)) (none_done (2 * n * FIRST) (2 * n) (exact_joined n (cell xs)) xs)

pub slice_bounds-join-end : goal.slice_bounds-join-end
slice_bounds-join-end c = let l = c.loop-block in let h = inside c.requires _ (n-is c.requires) l.invariant c.loop-block-test.true in omega (arith, h, l.auto.cells)

pub join-requires : goal.join-requires
join-requires c = let l = c.loop-block in next_ready c.requires _ (n-is c.requires) l.invariant c.loop-block-test.true

pub loop-block-preserved : goal.loop-block-preserved
loop-block-preserved c = let l = c.loop-block in pair-done c.requires _ (n-is c.requires) l.invariant c.loop-block-test.true _ c.join.ensures

pub returns : goal.returns
returns c = let l = c.loop-block in joined-all c.requires _ (n-is c.requires) l.invariant c.loop-block-test.false
