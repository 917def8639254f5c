-- Cells that are worked part by part, from the front on: what is done to each part of w cells makes up what is done to all of them. F is what is done, a
-- level or some levels, and `within` says that it does to a part what it does to those cells of a longer list.
use mathlib.Core.Path.{◌≡◌, refl, sym, ◌∙◌, ap}
use mathlib.Core.List.{List}
use Prim.Native.Nat.{ℕ, ◌+◌, ◌*◌, ◌-◌, ◌/◌, ◌%◌, ◌≤◌, ◌<◌}
use native.Mathlib.Nat.{mul-le-mul_right, lt_of_mul-lt-mul_right, div-add-mod', add-mod_right, zero-mod, not-suc-le-zero}
use native.Mathlib.Omega.{arith}
use lib.IntN.{ℤ, pos}
use lib.ListN.{length, take, drop}
use lib.Seq.{ext_get_or}
use borrow.Rule.Slice.PartMut.{put_mid, same_len_mid}
use Rattle.ints.specs.Cells.{cell}
use Rattle.ints.proofs.Filling.{Filled}
use Rattle.ints.proofs.Slices.{part_at, length_part, filled_part, after_part}

-- of parts that begin at multiples of w, one that begins inside ends inside
pub next_inside : (w base N : ℕ) → base % w ≡ 0 → N % w ≡ 0 → base < N → base + w ≤ N
next_inside w base N e f h = omega (arith, div-add-mod' base w, div-add-mod' N w, mul-le-mul_right w (lt_of_mul-lt-mul_right w {m = base / w} {n = N / w} (omega (arith, div-add-mod' base w, div-add-mod' N w))))

-- part m of w cells is inside, where so many parts are, and the parts are all
pub part_inside : (w m N : ℕ) → m < N / w → m * w + w ≤ N
part_inside w m N h = omega (arith, div-add-mod' N w, mul-le-mul_right w h)

pub parts_all : (w m N : ℕ) → N % w ≡ 0 → N / w ≤ m → N ≤ m * w
parts_all w m N e h = omega (arith, div-add-mod' N w, mul-le-mul_right w h)

module _ (F : List ℤ → List ℤ) (w : ℕ) (keeps : (xs : List ℤ) → length (F xs) ≡ length xs)
    (within : (m : ℕ) (xs part : List ℤ) → m * w + w ≤ length xs → length part ≡ w → ((j : ℕ) → j < w → cell xs (m * w + j) ≡ cell part j) → (i : ℕ) → i < w → cell (F xs) (m * w + i) ≡ cell (F part) i) where
  -- of ys the cells before `base` are done, and those from there on are as they were in xs
  pub record Done (xs : List ℤ) (base : ℕ) (ys : List ℤ) : Type 0 where
    pub inside : base ≤ length xs
    pub whole : base % w ≡ 0
    pub long : length ys ≡ length xs
    pub filled : Filled (pos 0) (cell (F xs)) base ys
    pub left : (i : ℕ) → base ≤ i → cell ys i ≡ cell xs i

  pub none_done : (xs : List ℤ) → Done xs 0 xs
  none_done xs = record { inside = omega arith; whole = zero-mod w; long = refl; filled = λ i h. absurd (not-suc-le-zero h); left = λ i h. refl }

  -- the part from `base` to `end`, as it is lent, and written back
  module _ {xs : List ℤ} {base : ℕ} {ys : List ℤ} (D : Done xs base ys) (end : ℕ) (ends : end ≡ base + w) (room : end ≤ length xs) where
    abbrev pub part : List ℤ
    part = take (end - base) (drop base ys)

    width : end - base ≡ w
    width = omega arith

    pub part_long : length part ≡ w
    part_long = length_part (pos 0) base (end - base) ys (omega (arith, D.long)) ∙ width

    pub part_cell : (j : ℕ) → j < w → cell part j ≡ cell xs (base + j)
    part_cell j h = part_at (pos 0) base (end - base) ys j (omega arith) ∙ D.left (base + j) (omega arith)

    start : base / w * w ≡ base
    start = omega (arith, div-add-mod' base w, D.whole)

    -- what is done to the part is what is done to all, there
    part_done : (i : ℕ) → i < w → cell (F part) i ≡ cell (F xs) (base + i)
    part_done i h = sym (within (base / w) xs part (omega (arith, start)) part_long (λ j k. ap (λ (b : ℕ). cell xs (b + j)) start ∙ sym (part_cell j k)) i h) ∙ ap (λ (b : ℕ). cell (F xs) (b + i)) start

    pub done_next : (zs : List ℤ) → zs ≡ F part → Done xs end (put_mid base (end - base) ys zs)
    done_next zs e = record {
      inside = room;
      whole = ap (λ (b : ℕ). b % w) ends ∙ add-mod_right base w ∙ D.whole;
      long = same_len_mid base (end - base) ys zs (zs-long ∙ sym part_long) ∙ D.long;
      filled = λ i h. filled_part (pos 0) (cell (F xs)) base w ys zs _ (omega (arith, D.long)) D.filled zs-long (λ j k. ap (λ (l : List ℤ). cell l j) e ∙ part_done j k) i (omega arith);
      left = λ i h. after_part (pos 0) base (end - base) ys zs (omega (arith, D.long)) (zs-long ∙ sym width) i (omega arith) ∙ D.left i (omega arith);
    }
      where
        zs-long : length zs ≡ w
        zs-long = ap length e ∙ keeps part ∙ part_long

  pub all_done : {xs : List ℤ} {base : ℕ} {ys : List ℤ} → Done xs base ys → length xs ≤ base → ys ≡ F xs
  all_done {xs} {base} {ys} D h = ext_get_or (pos 0) ys (F xs) (D.long ∙ sym (keeps xs)) (λ i k. D.filled i (omega (arith, D.long)))
