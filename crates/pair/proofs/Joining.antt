-- A pair whose lines are made four at a time, from the outside in: lines below v and above n − v of both halves are done, line 0 and those between still hold
-- what they held. Nothing is kept aside.
use mathlib.Core.Path.{◌≡◌, refl, sym, ◌∙◌, ap}
use mathlib.Core.Bool.{Bool, true, false, not}
use mathlib.Core.List.{List}
use Prim.Native.Nat.{ℕ, zero, suc, ◌+◌, ◌*◌, ◌-◌, ◌≤◌, ◌<◌}
use native.Mathlib.Omega.{arith}
use borrow.Author.Count.{below_more}
use lib.Dec.{T, ltb, ltb→lt, nltb→le}
use lib.IntN.{ℤ, pos, ◌+ℤ◌, ◌-ℤ◌}
use lib.ListN.{length}
use Rattle.ints.specs.Tabulate.{tabulate}
use Rattle.ints.proofs.Filling.{Filled, filled_all}
use Rattle.ints.specs.Cells.{cell}
use Rattle.pair.specs.Pair.{split}
use Rattle.pair.proofs.Splitting.{split-long, split_other, split-first, split-second}

-- cells j and n + j are h's
pub record Both (h : ℕ → ℤ) (n : ℕ) (ys : List ℤ) (j : ℕ) : Type 0 where
  pub one : cell ys j ≡ h j
  pub two : cell ys (n + j) ≡ h (n + j)

pub record Joined (f x : ℕ → ℤ) (n v : ℕ) (ys : List ℤ) : Type 0 where
  pub long : length ys ≡ 2 * n
  pub low : (j : ℕ) → j < v → 0 < j → Both f n ys j
  pub high : (j : ℕ) → n < j + v → j < n → Both f n ys j
  pub start : Both x n ys 0
  pub left : (j : ℕ) → v ≤ j → j + v ≤ n → Both x n ys j

-- before the first step
pub none_joined : (f : ℕ → ℤ) (n : ℕ) (xs : List ℤ) → length xs ≡ 2 * n → Joined f (cell xs) n 1 xs
none_joined f n xs e = record {
  long = e;
  low = λ j h z. absurd (never_low j h z);
  high = λ j h l. absurd (never_high j h l);
  start = record { one = refl; two = refl };
  left = λ j h l. record { one = refl; two = refl };
}
  where
    never_low : (j : ℕ) → j < 1 → 0 < j → ⊥
    never_low j h z = omega arith

    never_high : (j : ℕ) → n < j + 1 → j < n → ⊥
    never_high j h l = omega arith

-- ---- one line and its partner in the other half

module _ (h : ℕ → ℤ) (xs : List ℤ) (n v : ℕ) (q : ℤ) (long : length xs ≡ 2 * n) (below : v < n) where
  pub split_both : cell xs v +ℤ q ≡ h v → cell xs v -ℤ q ≡ h (n + v) → Both h n (split xs n v q) v
  split_both e f = record { one = split-first xs n v q long below ∙ e; two = split-second xs n v q long below ∙ f }

  pub split_still : (j : ℕ) → j < n → (j ≡ v → ⊥) → Both h n xs j → Both h n (split xs n v q) j
  split_still j k apart B = record {
    one = split_other xs n v q j apart low-high ∙ B.one;
    two = split_other xs n v q (n + j) high-low high-high ∙ B.two;
  }
    where
      low-high : j ≡ n + v → ⊥
      low-high e = omega arith

      high-low : n + j ≡ v → ⊥
      high-low e = omega arith

      high-high : n + j ≡ n + v → ⊥
      high-high e = apart (omega arith)

-- ---- four lines: v and its mirror, in both halves

module _ (f x : ℕ → ℤ) (n v : ℕ) (ys : List ℤ) (q r : ℤ) (J : Joined f x n v ys) (some : 0 < v) (below : 2 * v < n) where
  abbrev first : List ℤ
  first = split ys n v q

  abbrev pub after : List ℤ
  after = split first n (n - v) r

  first-long : length first ≡ 2 * n
  first-long = split-long ys n v q ∙ J.long

  still : (h : ℕ → ℤ) (j : ℕ) → j < n → (j ≡ v → ⊥) → (j ≡ n - v → ⊥) → Both h n ys j → Both h n after j
  still h j k a b B = split_still h first n (n - v) r first-long (omega arith) j k b (split_still h ys n v q J.long (omega arith) j k a B)

  apart : v ≡ n - v → ⊥
  apart e = omega arith

  mirror_still : cell first (n - v) ≡ cell ys (n - v)
  mirror_still = split_other ys n v q (n - v) (λ e. apart (sym e)) other
    where
      other : n - v ≡ n + v → ⊥
      other e = omega arith

  pub joined_next : cell ys v +ℤ q ≡ f v → cell ys v -ℤ q ≡ f (n + v) → cell ys (n - v) +ℤ r ≡ f (n - v) → cell ys (n - v) -ℤ r ≡ f (n + (n - v)) → Joined f x n (v + 1) after
  joined_next a b c d = record {
    long = split-long first n (n - v) r ∙ first-long;
    low = below_more (λ j. 0 < j → Both f n after j) v (λ j h z. still f j (omega arith) (not-v j h) (not-mirror j h) (J.low j h z)) (λ z. at-v);
    high = λ j h l. upper j h l (ltb n (j + v)) (ltb→lt n (j + v)) (nltb→le n (j + v));
    start = still x 0 (omega arith) (λ e. zero-v e) (λ e. zero-mirror e) J.start;
    left = λ j h l. still x j (omega arith) (inner-v j h) (inner-mirror j l) (J.left j (omega arith) (omega arith));
  }
    where
      at-v : Both f n after v
      at-v = split_still f first n (n - v) r first-long (omega arith) v (omega arith) apart (split_both f ys n v q J.long (omega arith) a b)

      at-mirror : Both f n after (n - v)
      at-mirror = split_both f first n (n - v) r first-long (omega arith) (ap (λ (y : ℤ). y +ℤ r) mirror_still ∙ c) (ap (λ (y : ℤ). y -ℤ r) mirror_still ∙ d)

      not-v : (j : ℕ) → j < v → j ≡ v → ⊥
      not-v j h e = omega arith

      not-mirror : (j : ℕ) → j < v → j ≡ n - v → ⊥
      not-mirror j h e = omega arith

      zero-v : 0 ≡ v → ⊥
      zero-v e = omega arith

      zero-mirror : 0 ≡ n - v → ⊥
      zero-mirror e = omega arith

      inner-v : (j : ℕ) → v + 1 ≤ j → j ≡ v → ⊥
      inner-v j h e = omega arith

      inner-mirror : (j : ℕ) → j + (v + 1) ≤ n → j ≡ n - v → ⊥
      inner-mirror j h e = omega arith

      upper : (j : ℕ) → n < j + (v + 1) → j < n → (t : Bool) → (T t → n < j + v) → (T (not t) → j + v ≤ n) → Both f n after j
      upper j h l true near far = still f j l over-v over-mirror (J.high j (near tt) l)
        where
          over-v : j ≡ v → ⊥
          over-v e = omega (arith, near tt)

          over-mirror : j ≡ n - v → ⊥
          over-mirror e = omega (arith, near tt)
      upper j h l false near far = rw at (at-mirror)
        where
          at : j ≡ n - v
          at = omega (arith, far tt)

-- ---- lines 0 and k of both halves last

pub both_halves : (f : ℕ → ℤ) (n : ℕ) (xs : List ℤ) → ((j : ℕ) → j < n → Both f n xs j) → Filled (pos 0) f (2 * n) xs
both_halves f n xs B i h = go (ltb i n) (ltb→lt i n) (nltb→le i n)
  where
    go : (t : Bool) → (T t → i < n) → (T (not t) → n ≤ i) → cell xs i ≡ f i
    go true near far = (B i (near tt)).one
    go false near far = ap (cell xs) (back (far tt)) ∙ (B (i - n) (omega (arith, far tt))).two ∙ ap f (sym (back (far tt)))
      where
        back : n ≤ i → i ≡ n + (i - n)
        back l = omega arith

module _ (f x : ℕ → ℤ) (n k : ℕ) (ys : List ℤ) (q r : ℤ) (J : Joined f x n k ys) (some : 0 < k) (half : n ≡ 2 * k) where
  abbrev pub first_plain : List ℤ
  first_plain = split ys n 0 q

  abbrev pub last_plain : List ℤ
  last_plain = split first_plain n k r

  plain_long : length first_plain ≡ 2 * n
  plain_long = split-long ys n 0 q ∙ J.long

  pub middle_still : Both x n first_plain k
  middle_still = split_still x ys n 0 q J.long (omega arith) k (omega arith) other (J.left k (omega arith) (omega arith))
    where
      other : k ≡ 0 → ⊥
      other e = omega arith

  pub joined_all : x 0 +ℤ q ≡ f 0 → x 0 -ℤ q ≡ f (n + 0) → x k +ℤ r ≡ f k → x k -ℤ r ≡ f (n + k) → last_plain ≡ tabulate (2 * n) f
  joined_all a b c d = filled_all (pos 0) f last_plain (2 * n) (split-long first_plain n k r ∙ plain_long) (both_halves f n last_plain every)
    where
      at_zero : Both f n first_plain 0
      at_zero = split_both f ys n 0 q J.long (omega arith) (ap (λ (y : ℤ). y +ℤ q) J.start.one ∙ a) (ap (λ (y : ℤ). y -ℤ q) J.start.one ∙ b)

      at-middle : Both f n last_plain k
      at-middle = split_both f first_plain n k r plain_long (omega arith) (ap (λ (y : ℤ). y +ℤ r) middle_still.one ∙ c) (ap (λ (y : ℤ). y -ℤ r) middle_still.one ∙ d)

      keep : (j : ℕ) → j < n → (j ≡ k → ⊥) → Both f n first_plain j → Both f n last_plain j
      keep j l a B = split_still f first_plain n k r plain_long (omega arith) j l a B

      every : (j : ℕ) → j < n → Both f n last_plain j
      every zero l = keep zero l zero-k at_zero
        where
          zero-k : 0 ≡ k → ⊥
          zero-k e = omega arith
      every (suc j) l = go (ltb (suc j) k) (ltb→lt (suc j) k) (nltb→le (suc j) k) (ltb k (suc j)) (ltb→lt k (suc j)) (nltb→le k (suc j))
        where
          pass : (suc j ≡ k → ⊥) → Both f n ys (suc j) → Both f n last_plain (suc j)
          pass a B = keep (suc j) l a (split_still f ys n 0 q J.long (omega arith) (suc j) l (λ e. omega arith) B)

          go : (t : Bool) → (T t → suc j < k) → (T (not t) → k ≤ suc j) → (u : Bool) → (T u → k < suc j) → (T (not u) → suc j ≤ k) → Both f n last_plain (suc j)
          go true a b u c d = pass (λ e. omega (arith, a tt)) (J.low (suc j) (a tt) (omega arith))
          go false a b true c d = pass (λ e. omega (arith, c tt)) (J.high (suc j) (omega (arith, c tt)) l)
          go false a b false c d = rw at at-middle
            where
              at : suc j ≡ k
              at = omega (arith, b tt, d tt)
