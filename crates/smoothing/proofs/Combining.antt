-- Two spectra whose lines are combined in the cells of the first, each line with its opposite, from the outside in: lines below v and above N − v are done,
-- those between still hold what they held. Line 0 is its own opposite, and so is line N/2; such a line is written twice, and the second time counts.
use mathlib.Core.Path.{◌≡◌, refl, sym, ◌∙◌, ap, ap₂, subst}
use mathlib.Core.List.{List}
use Prim.Native.Nat.{ℕ, ◌+◌, ◌*◌, ◌-◌, ◌≤◌, ◌<◌}
use native.Mathlib.Decide.{dec_lt, ℕ_discrete}
use native.Mathlib.Omega.{arith}
use borrow.Author.Count.{below_more}
use lib.IntN.{ℤ, pos, nat_abs, ◌+ℤ◌, ◌-ℤ◌, ◌*ℤ◌}
use lib.ListN.{length, set, length-set}
use lib.Seq.{get_or-set_same, get_or-set_other}
use Rattle.ints.specs.Cells.{cell}
use Rattle.ints.proofs.Slices.{everywhere}
use Rattle.ints.proofs.Mirror.{mirror_first, mirror_later}
use Rattle.residues.specs.Folded.{folded}
use Rattle.residues.proofs.Congruent.{◌≈◌, ◌⊙◌, ≈-is}
use Rattle.residues.proofs.Residues.{same-residue}
use Rattle.exact.specs.Smoothing.{combined, opposite}
use Rattle.exact_pair.specs.Pair.{FIRST, Stands}
use Rattle.smoothing.specs.Inner.{Lines, Spectra, even_of, odd_of, lines_combined}
use Rattle.smoothing.proofs.Products.{combination, folded-sum, folded_difference, line_factors, opposite_factors, line_≈, opposite_≈}

-- z stands for line i of the combined spectra, and is small
pub record Line (hs ks : List ℤ) (i : ℕ) (z : ℤ) : Type 0 where
  pub same : z ≈ combined (length hs) hs ks i
  pub small : nat_abs z ≤ FIRST

pub record Combining (hs ks : List ℤ) (v : ℕ) (ys : List ℤ) : Type 0 where
  pub long : length ys ≡ length hs
  pub low : (i : ℕ) → i < v → Line hs ks i (cell ys i)
  pub high : (i : ℕ) → length hs < i + v → i < length hs → Line hs ks i (cell ys i)
  pub left : (i : ℕ) → v ≤ i → i + v ≤ length hs → cell ys i ≡ cell hs i

-- ---- two cells written, the second last

module _ (ys : List ℤ) (v o : ℕ) (y z : ℤ) where
  both_long : length (set (set ys v y) o z) ≡ length ys
  both_long = length-set (set ys v y) o z ∙ length-set ys v y

  both_other : (i : ℕ) → (i ≡ v → ⊥) → (i ≡ o → ⊥) → cell (set (set ys v y) o z) i ≡ cell ys i
  both_other i a b = get_or-set_other (set ys v y) o i z (pos 0) b ∙ get_or-set_other ys v i y (pos 0) a

  both_first : v < length ys → (v ≡ o → ⊥) → cell (set (set ys v y) o z) v ≡ y
  both_first h a = get_or-set_other (set ys v y) o v z (pos 0) a ∙ get_or-set_same ys v y (pos 0) h

  both_last : o < length ys → cell (set (set ys v y) o z) o ≡ z
  both_last h = get_or-set_same (set ys v y) o z (pos 0) (omega (arith, length-set ys v y))

-- ---- two lines, each the other's opposite, that still hold what they held

pub record Facing (hs : List ℤ) (v o : ℕ) (ys : List ℤ) : Type 0 where
  pub long : length ys ≡ length hs
  pub inside : v < length hs
  pub opposite-inside : o < length hs
  pub there : opposite (length hs) v ≡ o
  pub back : opposite (length hs) o ≡ v
  pub held : cell ys v ≡ cell hs v
  pub opposite-held : cell ys o ≡ cell hs o

-- line v, where o is the opposite one
line_at : (N : ℕ) (hs ks : List ℤ) (v o : ℕ) → opposite N v ≡ o → combined N hs ks v ≡ combination (cell hs v) (cell hs o) (cell ks v) (cell ks o)
unfolding combined
line_at N hs ks v o e = ap (λ (o : ℕ). combination (cell hs v) (cell hs o) (cell ks v) (cell ks o)) e

module _ {hs ks : List ℤ} (S : Spectra hs ks) {v o : ℕ} {ys : List ℤ} (F : Facing hs v o ys) where
  pub lines_ready : Lines v o ys ks
  lines_ready = record {
    as_long = S.as_long ∙ sym (F.long ∙ S.long);
    inside = omega (arith, F.long, F.inside);
    opposite-inside = omega (arith, F.long, F.opposite-inside);
    first = rw F.held (omega (arith, S.first v));
    first-opposite = rw F.opposite-held (omega (arith, S.first o));
    second = S.second v;
    second-opposite = S.second o;
  }

  abbrev even : ℤ
  even = even_of v o ks

  abbrev odd : ℤ
  odd = odd_of v o ks

  abbrev first : ℤ
  first = folded (folded (cell ys v) *ℤ even +ℤ folded (cell ys o) *ℤ odd)

  abbrev second : ℤ
  second = folded (folded (cell ys o) *ℤ even -ℤ folded (cell ys v) *ℤ odd)

  first-line : Line hs ks v first
  first-line = record {
    same = line_≈ (cell ys v) (cell ys o) (cell ks v) (cell ks o)
        ⊙ ≈-is (ap₂ (λ (x y : ℤ). combination x y (cell ks v) (cell ks o)) F.held F.opposite-held ∙ sym (line_at (length hs) hs ks v o F.there));
    small = folded-sum (line_factors lines_ready);
  }

  second-line : Line hs ks o second
  second-line = record {
    same = opposite_≈ (cell ys v) (cell ys o) (cell ks v) (cell ks o)
        ⊙ ≈-is (ap₂ (λ (x y : ℤ). combination y x (cell ks o) (cell ks v)) F.held F.opposite-held ∙ sym (line_at (length hs) hs ks o v F.back));
    small = folded_difference (opposite_factors lines_ready);
  }

  abbrev after : List ℤ
  after = lines_combined v o ys ks

  after_long : length after ≡ length hs
  after_long = both_long ys v o first second ∙ F.long

  after_other : (i : ℕ) → (i ≡ v → ⊥) → (i ≡ o → ⊥) → cell after i ≡ cell ys i
  after_other = both_other ys v o first second

  after_opposite : Line hs ks o (cell after o)
  after_opposite = rw (both_last ys v o first second lines_ready.opposite-inside) second-line

  after_line : Line hs ks v (cell after v)
  after_line = go (ℕ_discrete v o)
    where
      go : Dec (v ≡ o) → Line hs ks v (cell after v)
      go (yes e) = subst (λ (i : ℕ). Line hs ks i (cell after i)) (sym e) after_opposite
      go (no n) = rw (both_first ys v o first second lines_ready.inside n) first-line

-- ---- line 0 first

module _ {hs ks : List ℤ} (S : Spectra hs ks) where
  pub first_facing : Facing hs 0 0 hs
  first_facing = let e : 0 ≡ opposite (length hs) 0 = mirror_first (length hs) 0 0 refl refl in let h : 0 < length hs = omega (arith, S.long, S.some) in
      record { long = refl; inside = h; opposite-inside = h; there = sym e; back = sym e; held = refl; opposite-held = refl }

  pub first-combined : Combining hs ks 1 (lines_combined 0 0 hs ks)
  first-combined = record {
    long = after_long S first_facing;
    low = λ i h. rw (only i h) (after_line S first_facing);
    high = λ i h l. absurd (omega arith);
    left = λ i h l. after_other S first_facing i (λ e. omega arith) (λ e. omega arith);
  }
    where
      only : (i : ℕ) → i < 1 → i ≡ 0
      only i h = omega arith

-- ---- then line v and line N − v

module _ {hs ks : List ℤ} (S : Spectra hs ks) {v : ℕ} {ys : List ℤ} (C : Combining hs ks v ys) (some : 0 < v) (few : v ≤ S.half) where
  abbrev o : ℕ
  o = length ys - v

  there : o + v ≡ length hs
  there = omega (arith, C.long, S.long)

  below : 2 * v ≤ length hs
  below = omega (arith, S.long)

  pub next_facing : Facing hs v o ys
  next_facing = record {
    long = C.long;
    inside = omega (arith, below);
    opposite-inside = omega (arith, there);
    there = sym (mirror_later (length hs) v o some (omega (arith, below)) (omega (arith, there)));
    back = sym (mirror_later (length hs) o v (omega (arith, there, below)) (omega (arith, there)) (omega (arith, there)));
    held = C.left v (omega arith) (omega (arith, below));
    opposite-held = C.left o (omega (arith, there, below)) (omega (arith, there));
  }

  abbrev later : List ℤ
  later = lines_combined v o ys ks

  other : (i : ℕ) → (i ≡ v → ⊥) → (i ≡ o → ⊥) → cell later i ≡ cell ys i
  other = after_other S next_facing

  pub next_combined : Combining hs ks (v + 1) later
  next_combined = record {
    long = after_long S next_facing;
    low = below_more (λ i. Line hs ks i (cell later i)) v lower (after_line S next_facing);
    high = λ i h l. upper i h l (dec_lt (length hs) (i + v));
    left = λ i h l. other i (λ e. omega arith) (λ e. omega (arith, there)) ∙ C.left i (omega arith) (omega arith);
  }
    where
      lower : (i : ℕ) → i < v → Line hs ks i (cell later i)
      lower i h = rw (other i (λ e. omega arith) (λ e. omega (arith, there, below))) (C.low i h)

      upper : (i : ℕ) → length hs < i + (v + 1) → i < length hs → Dec (length hs < i + v) → Line hs ks i (cell later i)
      upper i h l (yes k) = rw (other i (λ e. omega (arith, below)) (λ e. omega (arith, there))) (C.high i k l)
      upper i h l (no k) = rw at (after_opposite S next_facing)
        where
          at : i ≡ o
          at = omega (arith, there)

-- ---- past the middle all are done

pub all_combined : {hs ks : List ℤ} (S : Spectra hs ks) {v : ℕ} {ys : List ℤ} → Combining hs ks v ys → S.half < v →
    Stands FIRST (length hs) (combined (length hs) hs ks) ys
all_combined {hs} {ks} S {v} {ys} C past = record {
  long = C.long;
  same = λ i l. same-residue (every i l).same;
  small = everywhere (pos 0) (λ z. nat_abs z ≤ FIRST) (omega arith) ys (λ i l. (every i (omega (arith, C.long))).small);
}
  where
    every : (i : ℕ) → i < length hs → Line hs ks i (cell ys i)
    every i l = go (dec_lt i v)
      where
        go : Dec (i < v) → Line hs ks i (cell ys i)
        go (yes h) = C.low i h
        go (no n) = C.high i (omega (arith, S.long)) l
