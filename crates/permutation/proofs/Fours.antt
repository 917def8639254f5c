-- The permutation four places at a time. The places of a block of 4 M cells are, for u below M, 2u and 2M + 2u + 1, whose partners are of the same sort,
-- and 2u + 1 and 2M + 2u, whose partners are of each other's. The partner of u is ρ u, which is u with its digits reversed.
use mathlib.Core.Path.{◌≡◌, refl, sym, ◌∙◌, ap, ap₂}
use mathlib.Core.Bool.{Bool, true, false, not, cond}
use mathlib.Core.List.{List}
use Prim.Native.Nat.{ℕ, zero, suc, ◌+◌, ◌*◌, ◌-◌, ◌/◌, ◌%◌, ◌^◌, ◌≤◌, ◌<◌}
use native.Mathlib.Omega.{arith}
use lib.Dec.{T, ltb, ltb→lt, nltb→le}
use lib.IntN.{ℤ, pos}
use lib.ListN.{length, length-set}
use Rattle.ints.proofs.Powers.{two_pow}
use Rattle.ints.proofs.Filling.{filled_all}
use Rattle.ints.specs.Cells.{cell}
use Rattle.spectrum.specs.Levels.{permuted, reversed}
use Rattle.spectrum.proofs.Reversal.{reversed-lt, reversed-twice, reversed-split}
use Rattle.permutation.specs.Inner.{exchanged, four_exchanged}
use Rattle.permutation.proofs.Exchanging.{exchanged-first, exchanged-second, exchanged_other}

-- ---- views: what stands at the places of one sort, by u below M; ρ is the partner's number

module _ (M : ℕ) (ρ : ℕ → ℕ) (inside : (u : ℕ) → u < M → ρ u < M) (twice : (u : ℕ) → u < M → ρ (ρ u) ≡ u) where
  -- what holds below k and of k holds below k + 1
  split : {A : Type 0} (k t : ℕ) → t < k + 1 → (t < k → A) → (t ≡ k → A) → A
  split {A} k t h one two = go (ltb t k) (ltb→lt t k) (nltb→le t k)
    where
      go : (b : Bool) → (T b → t < k) → (T (not b) → k ≤ t) → A
      go true near far = one (near tt)
      go false near far = two (omega (arith, far tt))

  of_partner : (k u : ℕ) → u < M → ρ u ≡ k → u ≡ ρ k
  of_partner k u h e = sym (twice u h) ∙ ap ρ e

  -- partners of the same sort: x is the view before, v the view now
  pub record Same (x v : ℕ → ℤ) (k : ℕ) : Type 0 where
    pub low : (u : ℕ) → u < M → u < k → v u ≡ x (ρ u)
    pub partner : (u : ℕ) → u < M → ρ u < k → v u ≡ x (ρ u)
    pub left : (u : ℕ) → u < M → k ≤ u → k ≤ ρ u → v u ≡ x u

  module _ (x v w : ℕ → ℤ) (k : ℕ) (below : k < M) (E : Same x v k) where
    same_up : k < ρ k → w k ≡ v (ρ k) → w (ρ k) ≡ v k → ((u : ℕ) → u < M → (u ≡ k → ⊥) → (u ≡ ρ k → ⊥) → w u ≡ v u) → Same x w (k + 1)
    same_up up one two others = record {
      low = λ u h l. split k u l (λ near. others u h (λ e. omega arith) (λ e. omega arith) ∙ E.low u h near) (λ e. rw e (one ∙ E.left (ρ k) (inside k below) (omega arith) (omega (arith, twice k below))));
      partner = λ u h l. split k (ρ u) l (λ near. others u h (λ e. omega (arith, ap ρ e)) (λ e. omega (arith, ap ρ e, twice k below)) ∙ E.partner u h near)
          (λ e. rw (of_partner k u h e) (two ∙ E.left k below (omega arith) (omega arith) ∙ ap x (sym (twice k below))));
      left = λ u h a b. others u h (λ e. omega arith) (λ e. omega (arith, ap ρ e, twice k below)) ∙ E.left u h (omega arith) (omega arith);
    }

    module _ (down : ρ k ≤ k) where
      stays : v k ≡ x (ρ k)
      stays = go (ltb (ρ k) k) (ltb→lt (ρ k) k) (nltb→le (ρ k) k)
        where
          go : (b : Bool) → (T b → ρ k < k) → (T (not b) → k ≤ ρ k) → v k ≡ x (ρ k)
          go true near far = E.partner k below (near tt)
          go false near far = E.left k below (omega arith) (far tt) ∙ ap x same
            where
              same : k ≡ ρ k
              same = omega (arith, far tt)

      partner-stays : v (ρ k) ≡ x (ρ (ρ k))
      partner-stays = go (ltb (ρ k) k) (ltb→lt (ρ k) k) (nltb→le (ρ k) k)
        where
          go : (b : Bool) → (T b → ρ k < k) → (T (not b) → k ≤ ρ k) → v (ρ k) ≡ x (ρ (ρ k))
          go true near far = E.low (ρ k) (inside k below) (near tt)
          go false near far = ap v same ∙ stays ∙ ap (λ (u : ℕ). x (ρ u)) (sym same)
            where
              same : ρ k ≡ k
              same = omega (arith, far tt)

      same-keep : ((u : ℕ) → u < M → w u ≡ v u) → Same x w (k + 1)
      same-keep others = record {
        low = λ u h l. others u h ∙ split k u l (λ near. E.low u h near) (λ e. rw e stays);
        partner = λ u h l. others u h ∙ split k (ρ u) l (λ near. E.partner u h near) (λ e. rw (of_partner k u h e) partner-stays);
        left = λ u h a b. others u h ∙ E.left u h (omega arith) (omega arith);
      }

  -- partners of the other sort: x and y are the views before, v and w those now
  pub record Crossed (x y v w : ℕ → ℤ) (k : ℕ) : Type 0 where
    pub up : (u : ℕ) → u < M → u < k → v u ≡ y (ρ u)
    pub up_left : (u : ℕ) → u < M → k ≤ u → v u ≡ x u
    pub down : (u : ℕ) → u < M → ρ u < k → w u ≡ x (ρ u)
    pub down_left : (u : ℕ) → u < M → k ≤ ρ u → w u ≡ y u

  crossed_next : (x y v w v' w' : ℕ → ℤ) (k : ℕ) → k < M → Crossed x y v w k → v' k ≡ w (ρ k) → w' (ρ k) ≡ v k →
      ((u : ℕ) → u < M → (u ≡ k → ⊥) → v' u ≡ v u) → ((u : ℕ) → u < M → (u ≡ ρ k → ⊥) → w' u ≡ w u) → Crossed x y v' w' (k + 1)
  crossed_next x y v w v' w' k below C one two others others' = record {
    up = λ u h l. split k u l (λ near. others u h (λ e. omega arith) ∙ C.up u h near) (λ e. rw e (one ∙ C.down_left (ρ k) (inside k below) (omega (arith, twice k below))));
    up_left = λ u h l. others u h (λ e. omega arith) ∙ C.up_left u h (omega arith);
    down = λ u h l. split k (ρ u) l (λ near. others' u h (λ e. omega (arith, ap ρ e, twice k below)) ∙ C.down u h near) (λ e. rw (of_partner k u h e) (two ∙ C.up_left k below (omega arith) ∙ ap x (sym (twice k below))));
    down_left = λ u h l. others' u h (λ e. omega (arith, ap ρ e, twice k below)) ∙ C.down_left u h (omega arith);
  }

  -- ---- the four sorts of places of a list of 4 M cells

  abbrev pub evens : (ℕ → ℤ) → ℕ → ℤ
  evens x u = x (2 * u)

  abbrev pub odds : (ℕ → ℤ) → ℕ → ℤ
  odds x u = x (2 * M + (2 * u + 1))

  abbrev pub lows : (ℕ → ℤ) → ℕ → ℤ
  lows x u = x (2 * u + 1)

  abbrev pub highs : (ℕ → ℤ) → ℕ → ℤ
  highs x u = x (2 * M + 2 * u)

  pub record Fours (x : ℕ → ℤ) (k : ℕ) (ys : List ℤ) : Type 0 where
    pub long : length ys ≡ 4 * M
    pub even : Same (evens x) (evens (cell ys)) k
    pub odd : Same (odds x) (odds (cell ys)) k
    pub cross : Crossed (lows x) (highs x) (lows (cell ys)) (highs (cell ys)) k

  pub none_exchanged : (xs : List ℤ) → length xs ≡ 4 * M → Fours (cell xs) 0 xs
  none_exchanged xs e = record { long = e; even = same (evens (cell xs)); odd = same (odds (cell xs)); cross = record { up = λ u h l. absurd (never l); up_left = λ u h l. refl; down = λ u h l. absurd (never l); down_left = λ u h l. refl } }
    where
      never : {t : ℕ} → t < 0 → ⊥
      never l = omega arith

      same : (v : ℕ → ℤ) → Same v v 0
      same v = record { low = λ u h l. absurd (never l); partner = λ u h l. absurd (never l); left = λ u h a b. refl }

  -- ---- one step

  module _ (x : ℕ → ℤ) (k : ℕ) (ys : List ℤ) (below : k < M) (F : Fours x k ys) where
    abbrev r : ℕ
    r = ρ k

    r_in : r < M
    r_in = inside k below

    -- first the places of different sorts
    abbrev ys₁ : List ℤ
    ys₁ = exchanged (2 * k + 1) (2 * M + 2 * r) ys

    long₁ : length ys₁ ≡ 4 * M
    long₁ = rw (length-set, length-set) F.long

    evens₁ : (u : ℕ) → u < M → cell ys₁ (2 * u) ≡ cell ys (2 * u)
    evens₁ u h = exchanged_other ys (2 * k + 1) (2 * M + 2 * r) (2 * u) (λ e. omega arith) (λ e. omega arith)

    odds₁ : (u : ℕ) → u < M → cell ys₁ (2 * M + (2 * u + 1)) ≡ cell ys (2 * M + (2 * u + 1))
    odds₁ u h = exchanged_other ys (2 * k + 1) (2 * M + 2 * r) (2 * M + (2 * u + 1)) (λ e. omega arith) (λ e. omega arith)

    cross₁ : Crossed (lows x) (highs x) (lows (cell ys₁)) (highs (cell ys₁)) (k + 1)
    cross₁ = crossed_next (lows x) (highs x) (lows (cell ys)) (highs (cell ys)) (lows (cell ys₁)) (highs (cell ys₁)) k below F.cross
        (exchanged-first ys (2 * k + 1) (2 * M + 2 * r) (λ e. omega arith) (omega (arith, F.long)) (omega (arith, F.long, r_in)))
        (exchanged-second ys (2 * k + 1) (2 * M + 2 * r) (λ e. omega arith) (omega (arith, F.long)) (omega (arith, F.long, r_in)))
        (λ u h a. exchanged_other ys (2 * k + 1) (2 * M + 2 * r) (2 * u + 1) (λ e. a (omega arith)) (λ e. omega arith))
        (λ u h a. exchanged_other ys (2 * k + 1) (2 * M + 2 * r) (2 * M + 2 * u) (λ e. omega arith) (λ e. a (omega arith)))

    -- then those of the same sort, where the partner lies further up
    abbrev ys₂ : List ℤ
    ys₂ = exchanged (2 * k) (2 * r) ys₁

    abbrev ys₃ : List ℤ
    ys₃ = exchanged (2 * M + (2 * k + 1)) (2 * M + (2 * r + 1)) ys₂

    long₂ : length ys₂ ≡ 4 * M
    long₂ = rw (length-set, length-set) long₁

    module _ (up : k < r) where
      apart-even : 2 * k ≡ 2 * r → ⊥
      apart-even e = omega arith

      apart-odd : 2 * M + (2 * k + 1) ≡ 2 * M + (2 * r + 1) → ⊥
      apart-odd e = omega arith

      evens₃ : (u : ℕ) → u < M → cell ys₃ (2 * u) ≡ cell ys₂ (2 * u)
      evens₃ u h = exchanged_other ys₂ (2 * M + (2 * k + 1)) (2 * M + (2 * r + 1)) (2 * u) (λ e. omega arith) (λ e. omega arith)

      odds₂ : (u : ℕ) → u < M → cell ys₂ (2 * M + (2 * u + 1)) ≡ cell ys (2 * M + (2 * u + 1))
      odds₂ u h = exchanged_other ys₁ (2 * k) (2 * r) (2 * M + (2 * u + 1)) (λ e. omega arith) (λ e. omega (arith, r_in)) ∙ odds₁ u h

      even₃ : Same (evens x) (evens (cell ys₃)) (k + 1)
      even₃ = same_up (evens x) (evens (cell ys)) (evens (cell ys₃)) k below F.even up
          (evens₃ k below ∙ exchanged-first ys₁ (2 * k) (2 * r) apart-even (omega (arith, long₁)) (omega (arith, long₁, r_in)) ∙ evens₁ r r_in)
          (evens₃ r r_in ∙ exchanged-second ys₁ (2 * k) (2 * r) apart-even (omega (arith, long₁)) (omega (arith, long₁, r_in)) ∙ evens₁ k below)
          (λ u h a b. evens₃ u h ∙ exchanged_other ys₁ (2 * k) (2 * r) (2 * u) (λ e. a (omega arith)) (λ e. b (omega arith)) ∙ evens₁ u h)

      odd₃ : Same (odds x) (odds (cell ys₃)) (k + 1)
      odd₃ = same_up (odds x) (odds (cell ys)) (odds (cell ys₃)) k below F.odd up
          (exchanged-first ys₂ (2 * M + (2 * k + 1)) (2 * M + (2 * r + 1)) apart-odd (omega (arith, long₂)) (omega (arith, long₂, r_in)) ∙ odds₂ r r_in)
          (exchanged-second ys₂ (2 * M + (2 * k + 1)) (2 * M + (2 * r + 1)) apart-odd (omega (arith, long₂)) (omega (arith, long₂, r_in)) ∙ odds₂ k below)
          (λ u h a b. exchanged_other ys₂ (2 * M + (2 * k + 1)) (2 * M + (2 * r + 1)) (2 * M + (2 * u + 1)) (λ e. a (omega arith)) (λ e. b (omega arith)) ∙ odds₂ u h)

      lows₃ : (u : ℕ) → u < M → cell ys₃ (2 * u + 1) ≡ cell ys₁ (2 * u + 1)
      lows₃ u h = exchanged_other ys₂ (2 * M + (2 * k + 1)) (2 * M + (2 * r + 1)) (2 * u + 1) (λ e. omega arith) (λ e. omega arith)
          ∙ exchanged_other ys₁ (2 * k) (2 * r) (2 * u + 1) (λ e. omega arith) (λ e. omega arith)

      highs₃ : (u : ℕ) → u < M → cell ys₃ (2 * M + 2 * u) ≡ cell ys₁ (2 * M + 2 * u)
      highs₃ u h = exchanged_other ys₂ (2 * M + (2 * k + 1)) (2 * M + (2 * r + 1)) (2 * M + 2 * u) (λ e. omega arith) (λ e. omega arith)
          ∙ exchanged_other ys₁ (2 * k) (2 * r) (2 * M + 2 * u) (λ e. omega arith) (λ e. omega (arith, r_in))

      cross₃ : Crossed (lows x) (highs x) (lows (cell ys₃)) (highs (cell ys₃)) (k + 1)
      cross₃ = record {
        up = λ u h l. lows₃ u h ∙ cross₁.up u h l;
        up_left = λ u h l. lows₃ u h ∙ cross₁.up_left u h l;
        down = λ u h l. highs₃ u h ∙ cross₁.down u h l;
        down_left = λ u h l. highs₃ u h ∙ cross₁.down_left u h l;
      }

      next_up : Fours x (k + 1) ys₃
      next_up = record { long = rw (length-set, length-set) long₂; even = even₃; odd = odd₃; cross = cross₃ }

    next_down : r ≤ k → Fours x (k + 1) ys₁
    next_down d = record { long = long₁; even = same-keep (evens x) (evens (cell ys)) (evens (cell ys₁)) k below F.even d evens₁; odd = same-keep (odds x) (odds (cell ys)) (odds (cell ys₁)) k below F.odd d odds₁; cross = cross₁ }

    pub fours_next : (j half : ℕ) (zs : List ℤ) → j ≡ ρ k → half ≡ 2 * M → zs ≡ four_exchanged k j half ys → Fours x (k + 1) zs
    fours_next j half zs e f g = rw (g, f, e) (go (ltb k r) (ltb→lt k r) (nltb→le k r))
      where
        go : (b : Bool) → (T b → k < r) → (T (not b) → r ≤ k) → Fours x (k + 1) (cond b ys₃ ys₁)
        go true near far = next_up (near tt)
        go false near far = next_down (far tt)

-- ---- the reversed digits of a place: first and last digit exchanged, and those between reversed

one_digit : (d : ℕ) → d ≤ 1 → reversed 1 d ≡ d
one_digit d h = unfold reversed in omega arith

pub reversed_four : (Q u m e : ℕ) → u < 2 ^ Q → m ≤ 1 → e ≤ 1 → reversed (suc (suc Q)) (m * (2 * 2 ^ Q) + (2 * u + e)) ≡ e * (2 * 2 ^ Q) + (2 * reversed Q u + m)
reversed_four Q u m e h hm he = ap (reversed (suc (suc Q))) (regroup (2 ^ Q)) ∙ reversed-split 1 (suc Q) (suc (suc Q)) (m * 2 ^ Q + u) e (omega arith) (omega arith)
    ∙ ap₂ (λ (a b : ℕ). a * 2 ^ suc Q + b) (one_digit e he) (reversed-split Q 1 (suc Q) m u (omega arith) h ∙ ap (λ (b : ℕ). reversed Q u * 2 ^ 1 + b) (one_digit m hm))
    ∙ ap (λ (y : ℕ). e * y + (reversed Q u * 2 ^ 1 + m)) (two_pow Q) ∙ turn (reversed Q u)
  where
    regroup : (M : ℕ) → m * (2 * M) + (2 * u + e) ≡ (m * M + u) * 2 ^ 1 + e
    regroup M = omega arith

    turn : (a : ℕ) → e * (2 * 2 ^ Q) + (a * 2 ^ 1 + m) ≡ e * (2 * 2 ^ Q) + (2 * a + m)
    turn a = omega arith

pub all_exchanged : (Q : ℕ) (xs ys : List ℤ) → Fours (2 ^ Q) (reversed Q) (λ u h. reversed-lt Q u) (reversed-twice Q) (cell xs) (2 ^ Q) ys → ys ≡ permuted (suc (suc Q)) xs
all_exchanged Q xs ys F = filled_all (pos 0) (λ i. cell xs (reversed (suc (suc Q)) i)) ys (2 ^ suc (suc Q)) (F.long ∙ sym four) every ∙ unfold permuted in refl
  where
    four : 2 ^ suc (suc Q) ≡ 4 * 2 ^ Q
    four = omega (arith, two_pow (suc Q), two_pow Q)

    finish : (m e u i : ℕ) → m ≤ 1 → e ≤ 1 → u < 2 ^ Q → i ≡ m * (2 * 2 ^ Q) + (2 * u + e) → cell ys (m * (2 * 2 ^ Q) + (2 * u + e)) ≡ cell xs (e * (2 * 2 ^ Q) + (2 * reversed Q u + m)) →
        cell ys i ≡ cell xs (reversed (suc (suc Q)) i)
    finish m e u i hm he h f g = ap (cell ys) f ∙ g ∙ ap (cell xs) (sym (ap (reversed (suc (suc Q))) f ∙ reversed_four Q u m e h hm he))

    moved : (a b c d : ℕ) → a ≡ b → c ≡ d → cell ys b ≡ cell xs d → cell ys a ≡ cell xs c
    moved a b c d e f g = ap (cell ys) e ∙ g ∙ ap (cell xs) (sym f)

    every : (i : ℕ) → i < 2 ^ suc (suc Q) → cell ys i ≡ cell xs (reversed (suc (suc Q)) i)
    every i h = go (ltb i (2 * 2 ^ Q)) (ltb→lt i (2 * 2 ^ Q)) (nltb→le i (2 * 2 ^ Q)) (i % 2) refl
      where
        go : (b : Bool) → (T b → i < 2 * 2 ^ Q) → (T (not b) → 2 * 2 ^ Q ≤ i) → (e : ℕ) → i % 2 ≡ e → cell ys i ≡ cell xs (reversed (suc (suc Q)) i)
        go true near far zero p = let u : i / 2 < 2 ^ Q = omega (arith, near tt) in
            finish 0 0 (i / 2) i (omega arith) (omega arith) u (omega arith) (moved _ (2 * (i / 2)) _ (2 * reversed Q (i / 2)) (omega arith) (omega arith) (F.even.low (i / 2) u u))
        go true near far (suc zero) p = let u : i / 2 < 2 ^ Q = omega (arith, near tt) in
            finish 0 1 (i / 2) i (omega arith) (omega arith) u (omega arith) (moved _ (2 * (i / 2) + 1) _ (2 * 2 ^ Q + 2 * reversed Q (i / 2)) (omega arith) (omega arith) (F.cross.up (i / 2) u u))
        go false near far zero p = let u : (i - 2 * 2 ^ Q) / 2 < 2 ^ Q = omega (arith, four) in let w = (i - 2 * 2 ^ Q) / 2 in
            finish 1 0 w i (omega arith) (omega arith) u (omega (arith, far tt)) (moved _ (2 * 2 ^ Q + 2 * w) _ (2 * reversed Q w + 1) (omega arith) (omega arith) (F.cross.down w u (reversed-lt Q w)))
        go false near far (suc zero) p = let u : (i - 2 * 2 ^ Q) / 2 < 2 ^ Q = omega (arith, four) in let w = (i - 2 * 2 ^ Q) / 2 in
            finish 1 1 w i (omega arith) (omega arith) u (omega (arith, far tt)) (moved _ (2 * 2 ^ Q + (2 * w + 1)) _ (2 * 2 ^ Q + (2 * reversed Q w + 1)) (omega arith) (omega arith) (F.odd.low w u u))
        go b near far (suc (suc e)) p = absurd (never p)
          where
            never : i % 2 ≡ suc (suc e) → ⊥
            never p = omega arith
