-- Cells that are worked part by part, from the front on: where each part of w cells stands for its lines of f, in the end all of them do.
use mathlib.Core.Path.{◌≡◌, refl, sym, ◌∙◌, ap, subst}
use mathlib.Core.List.{List, ◌++◌}
use Prim.Native.Nat.{ℕ, ◌+◌, ◌-◌, ◌%◌, ◌≤◌, ◌<◌}
use native.Mathlib.Nat.{add-mod_right, zero-mod, not-suc-le-zero}
use native.Mathlib.Decide.{dec_lt}
use native.Mathlib.Omega.{arith}
use lib.IntN.{ℤ, pos, nat_abs}
use lib.ListN.{length, take, drop, get_or-append}
use lib.Seq.{get_or-append-add, get_or-take, length-take-le}
use borrow.Rule.Slice.PartMut.{put_mid, same_len_mid}
use Rattle.ints.specs.Cells.{cell}
use Rattle.ints.proofs.Slices.{part_at, length_part, after_part, everywhere}
use Rattle.residues.specs.Residue.{residue}
use Rattle.exact_pair.specs.Pair.{Stands}

-- what is true of the cells before place k, and of those of a part that is written there, is true of all up to its end
up_to_part : (Q : ℕ → ℤ → Type 0) (k : ℕ) (ys zs rest : List ℤ) → k ≤ length ys → ((i : ℕ) → i < k → Q i (cell ys i)) → ((i : ℕ) → i < length zs → Q (k + i) (cell zs i)) →
    (i : ℕ) → i < k + length zs → Q i (cell (take k ys ++ (zs ++ rest)) i)
up_to_part Q k ys zs rest room before part i h = go (dec_lt i k)
  where
    many : length (take k ys) ≡ k
    many = length-take-le k ys room

    in_part : (j : ℕ) → j < length zs → cell (take k ys ++ (zs ++ rest)) (k + j) ≡ cell zs j
    in_part j l = ap (λ (m : ℕ). cell (take k ys ++ (zs ++ rest)) (m + j)) (sym many) ∙ get_or-append-add (take k ys) (zs ++ rest) j (pos 0) ∙ get_or-append zs rest (pos 0) j l

    at : (j : ℕ) → j < length zs → Q (k + j) (cell (take k ys ++ (zs ++ rest)) (k + j))
    at j l = rw (in_part j l) (part j l)

    go : Dec (i < k) → Q i (cell (take k ys ++ (zs ++ rest)) i)
    go (yes l) = rw (get_or-append (take k ys) (zs ++ rest) (pos 0) i (omega (arith, many)), get_or-take k ys i (pos 0) l) (before i l)
    go (no l) = subst (λ (m : ℕ). Q m (cell (take k ys ++ (zs ++ rest)) m)) back (at (i - k) (omega arith))
      where
        back : k + (i - k) ≡ i
        back = omega arith

-- a cell y that stands for z
pub record StandsFor (b : ℕ) (z y : ℤ) : Type 0 where
  pub same : residue y ≡ residue z
  pub small : nat_abs y ≤ b

module _ (b w : ℕ) (f : ℕ → ℤ) where
  -- of ys the cells before `base` stand for f, and those from there on are as they were in xs
  pub record Done (xs : List ℤ) (base : ℕ) (ys : List ℤ) : Type 0 where
    pub whole : base % w ≡ 0
    pub long : length ys ≡ length xs
    pub stand : (i : ℕ) → i < base → StandsFor b (f i) (cell ys i)
    pub left : (i : ℕ) → base ≤ i → cell ys i ≡ cell xs i

  pub none_done : (xs : List ℤ) → Done xs 0 xs
  none_done xs = record { whole = zero-mod w; long = refl; stand = λ i h. absurd (not-suc-le-zero h); left = λ i h. refl }

  -- the part from `base` to `end`, as it is lent, and written back
  module _ {xs : List ℤ} {base : ℕ} {ys : List ℤ} (D : Done xs base ys) (end : ℕ) (ends : end ≡ base + w) (room : end ≤ length xs) where
    abbrev pub part : List ℤ
    part = take (end - base) (drop base ys)

    width : end - base ≡ w
    width = omega arith

    pub part_long : length part ≡ w
    part_long = length_part (pos 0) base (end - base) ys (omega (arith, D.long)) ∙ width

    pub part_cell : (j : ℕ) → j < w → cell part j ≡ cell xs (base + j)
    part_cell j h = part_at (pos 0) base (end - base) ys j (omega arith) ∙ D.left (base + j) (omega arith)

    -- past its end the cells of the part are 0
    pub part_small : (a : ℕ) → ((i : ℕ) → nat_abs (cell xs i) ≤ a) → (i : ℕ) → nat_abs (cell part i) ≤ a
    part_small a h = everywhere (pos 0) (λ z. nat_abs z ≤ a) (omega arith) part (λ i k. rw (part_cell i (omega (arith, part_long))) (h (base + i)))

    pub done_next : (g : ℕ → ℤ) (zs : List ℤ) → Stands b w g zs → ((i : ℕ) → i < w → g i ≡ f (base + i)) → Done xs end (put_mid base (end - base) ys zs)
    done_next g zs Z same = record {
      whole = ap (λ (b : ℕ). b % w) ends ∙ add-mod_right base w ∙ D.whole;
      long = same_len_mid base (end - base) ys zs (Z.long ∙ sym part_long) ∙ D.long;
      stand = λ i h. up_to_part (λ i y. StandsFor b (f i) y) base ys zs _ (omega (arith, D.long)) D.stand (λ j k. next j (omega (arith, Z.long))) i (omega (arith, Z.long));
      left = λ i h. after_part (pos 0) base (end - base) ys zs (omega (arith, D.long)) (Z.long ∙ sym width) i (omega arith) ∙ D.left i (omega arith);
    }
      where
        next : (j : ℕ) → j < w → StandsFor b (f (base + j)) (cell zs j)
        next j k = record { same = Z.same j k ∙ ap residue (same j k); small = Z.small j }

  pub all_done : {xs : List ℤ} {base : ℕ} {ys : List ℤ} → Done xs base ys → length xs ≤ base → Stands b (length xs) f ys
  all_done {xs} {base} {ys} D h = record {
    long = D.long;
    same = λ i k. (D.stand i (omega arith)).same;
    small = everywhere (pos 0) (λ z. nat_abs z ≤ b) (omega arith) ys (λ i k. (D.stand i (omega (arith, D.long))).small);
  }
