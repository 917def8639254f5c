-- The steps of `join` on a pair that can be joined: the entries of line v, that its four cells can be read, what they are afterwards, and the two plain steps at the end.
use mathlib.Core.Path.{◌≡◌, refl, sym, ◌∙◌, ap, ap₂, subst}
use mathlib.Core.List.{List}
use Prim.Native.Nat.{ℕ, ◌+◌, ◌*◌, ◌-◌, ◌/◌, ◌^◌, ◌≤◌, ◌<◌}
use native.Mathlib.Nat.{mul-le-mul_right}
use native.Mathlib.Omega.{arith}
use lib.IntN.{ℤ, pos, neg_ℤ, nat_abs, ◌+ℤ◌, ◌-ℤ◌}
use lib.ListN.{length, get_or}
use lib.Pow.{pow_mono}
use mir.Syntax.{w64}
use mir.Val.{to_z, of_z}
use Rattle.ints.specs.Tabulate.{tabulate}
use Rattle.ints.proofs.Tables.{get_d_tabulate, length-tabulate}
use Rattle.cosine.specs.Cosine.{quarter_table}
use Rattle.cosine.proofs.TableNear.{entry_size}
use Rattle.ints.specs.Cells.{cell}
use Rattle.spectrum.specs.Limits.{LARGEST_PRODUCT}
use Rattle.pair.specs.Pair.{Quad, Joinable, joined_pair, pair_line, quadded, split, turned}
use Rattle.pair.proofs.Splitting.{room_small, small-back, split_other}
use Rattle.pair.proofs.Lines.{Q, line_first, line_second, Q_zero, Q_middle, Q_line, Q_mirror}
use Rattle.pair.proofs.Joining.{Both, Joined, none_joined, joined_next, joined_all, middle_still}

-- an entry of a table as a signed number
abbrev pub entry : List ℕ → ℕ → ℤ
entry quarter j = pos (get_or quarter j 0)

module _ {s : ℕ} {stride : ℕ} {quarter : List ℕ} {xs : List ℤ} (J : Joinable s stride quarter xs) where
  abbrev pub n : ℕ
  n = length xs / 2

  abbrev k : ℕ
  k = J.k

  abbrev g : ℕ
  g = stride * J.apart

  pub two_halves : n ≡ 2 * J.k
  two_halves = omega (arith, J.long)

  pub middle : n / 2 ≡ J.k
  middle = omega (arith, J.long)

  pub whole : length xs ≡ 2 * n
  whole = omega (arith, J.long)

  quarter_turn : k * g ≡ 256
  quarter_turn = omega (arith, J.spans)

  pub entries-many : length quarter ≡ J.k * stride + 1
  entries-many = ap length J.at_quarter ∙ length-tabulate (k * stride + 1) _

  entry_at : (j : ℕ) → j ≤ k * stride → entry quarter j ≡ pos (quarter_table s (j * J.apart))
  entry_at j h = ap pos (ap (λ (l : List ℕ). get_or l j 0) J.at_quarter ∙ get_d_tabulate (k * stride + 1) _ 0 j (omega arith))

  abbrev pub lines : ℕ → ℤ
  lines = pair_line s n (cell xs)

  -- the rounded quotient of line v, and the two lines that have it
  abbrev quotient : ℕ → ℤ
  quotient = Q s J.scale.least J.scale.most k n g J.some two_halves quarter_turn (cell xs)

  line-is : (v : ℕ) → v < n → lines v ≡ cell xs v +ℤ quotient v
  line-is = line_first s J.scale.least J.scale.most k n g J.some two_halves quarter_turn (cell xs)

  opposite-is : (v : ℕ) → v < n → lines (n + v) ≡ cell xs v -ℤ quotient v
  opposite-is = line_second s J.scale.least J.scale.most k n g J.some two_halves quarter_turn (cell xs)

  module _ (v : ℕ) (some : 0 < v) (below : v < J.k) where
    pub entry_in : v * stride + stride ≤ J.k * stride
    entry_in = omega (arith, mul-le-mul_right stride below)

    steps : v * g ≤ 256
    steps = omega (arith, quarter_turn, mul-le-mul_right g below)

    abbrev cosine_at : ℤ
    cosine_at = pos (quarter_table s (v * g))

    abbrev sine_at : ℤ
    sine_at = pos (quarter_table s (256 - v * g))

    pub cosine_entry : entry quarter (v * stride) ≡ pos (quarter_table s (v * (stride * J.apart)))
    cosine_entry = entry_at (v * stride) (omega (arith, entry_in)) ∙ ap (λ (j : ℕ). pos (quarter_table s j)) over
      where
        over : v * stride * J.apart ≡ v * g
        over = omega arith

    pub sine_entry : entry quarter (length quarter - 1 - v * stride) ≡ pos (quarter_table s (256 - v * (stride * J.apart)))
    sine_entry = ap (entry quarter) place ∙ entry_at ((k - v) * stride) (mul-le-mul_right stride fewer) ∙ ap (λ (j : ℕ). pos (quarter_table s j)) (over (k - v) (omega arith))
      where
        fewer : k - v ≤ k
        fewer = omega arith

        at : (d : ℕ) → d + v ≡ k → k * stride + 1 - 1 - v * stride ≡ d * stride
        at d e = omega (arith, ap (λ (y : ℕ). y * stride) e)

        place : length quarter - 1 - v * stride ≡ (k - v) * stride
        place = ap (λ (m : ℕ). m - 1 - v * stride) entries-many ∙ at (k - v) (omega arith)

        over : (d : ℕ) → d + v ≡ k → d * stride * J.apart ≡ 256 - v * g
        over d e = omega (arith, quarter_turn, ap (λ (y : ℕ). y * g) e)

    cosine-size : nat_abs (entry quarter (v * stride)) ≤ 2 ^ s
    cosine-size = subst (λ (z : ℤ). nat_abs z ≤ 2 ^ s) (sym cosine_entry) (entry_size s (omega (arith, J.scale.most)) (v * g) steps)

    sine-size : nat_abs (entry quarter (length quarter - 1 - v * stride)) ≤ 2 ^ s
    sine-size = subst (λ (z : ℤ). nat_abs z ≤ 2 ^ s) (sym sine_entry) (entry_size s (omega (arith, J.scale.most)) (256 - v * g) (omega arith))

    -- as the machine reads them back
    pub cosine-back : (z : ℤ) (at : ℕ) → z ≡ pos (get_or quarter at 0) → at ≡ v * stride → to_z w64 (of_z w64 z) ≡ entry quarter (v * stride)
    cosine-back z at h e = ap (λ (y : ℤ). to_z w64 (of_z w64 y)) (h ∙ ap (entry quarter) e) ∙ small-back (entry quarter (v * stride)) (omega (arith, cosine-size, pow_mono {i = s} {j = 22} J.scale.most))

    pub sine-back : (z : ℤ) (at : ℕ) → z ≡ pos (get_or quarter (length quarter - 1 - at) 0) → at ≡ v * stride → to_z w64 (of_z w64 z) ≡ entry quarter (length quarter - 1 - v * stride)
    sine-back z at h e = ap (λ (y : ℤ). to_z w64 (of_z w64 y)) (h ∙ ap (λ (j : ℕ). entry quarter (length quarter - 1 - j)) e)
        ∙ small-back (entry quarter (length quarter - 1 - v * stride)) (omega (arith, sine-size, pow_mono {i = s} {j = 22} J.scale.most))

    module _ (ys : List ℤ) (D : Joined lines (cell xs) n v ys) where
      at_line : Both (cell xs) n ys v
      at_line = D.left v (omega arith) (omega (arith, two_halves))

      at-mirror : Both (cell xs) n ys (n - v)
      at-mirror = D.left (n - v) (omega (arith, two_halves)) (omega (arith, two_halves))

      -- with the entries as the machine reads them, c and d
      pub quad-ready : (c d : ℤ) → c ≡ entry quarter (v * stride) → d ≡ entry quarter (length quarter - 1 - v * stride) → Quad s n v c d ys
      quad-ready c d ec ed = record {
        scale = J.scale;
        long = D.long;
        some = some;
        below = omega (arith, two_halves);
        cosine = rw ec cosine-size;
        sine = rw ed sine-size;
        first = rw at_line.one (J.room v);
        first_mirror = rw at-mirror.one (J.room (n - v));
        second = rw at_line.two (J.room (n + v));
        second_mirror = rw at-mirror.two (J.room (n + (n - v)));
      }

      pub quad-step : (c d : ℤ) (zs : List ℤ) → c ≡ entry quarter (v * stride) → d ≡ entry quarter (length quarter - 1 - v * stride) → zs ≡ quadded s n v c d ys → Joined lines (cell xs) n (v + 1) zs
      quad-step c d zs ec ed e = rw e (joined_next lines (cell xs) n v ys (turned s (cell ys (n + v)) (cell ys (n + (n - v))) c d) (turned s (cell ys (n + v)) (cell ys (n + (n - v))) d (neg_ℤ c)) D some (omega (arith, two_halves))
          (ap₂ (λ (a q : ℤ). a +ℤ q) at_line.one first-is ∙ sym (line-is v (omega (arith, two_halves))))
          (ap₂ (λ (a q : ℤ). a -ℤ q) at_line.one first-is ∙ sym (opposite-is v (omega (arith, two_halves))))
          (ap₂ (λ (a q : ℤ). a +ℤ q) at-mirror.one mirror-is ∙ sym (line-is (n - v) (omega (arith, two_halves))))
          (ap₂ (λ (a q : ℤ). a -ℤ q) at-mirror.one mirror-is ∙ sym (opposite-is (n - v) (omega (arith, two_halves)))))
        where
          c-is : c ≡ cosine_at
          c-is = ec ∙ cosine_entry

          d-is : d ≡ sine_at
          d-is = ed ∙ sine_entry

          first-is : turned s (cell ys (n + v)) (cell ys (n + (n - v))) c d ≡ quotient v
          first-is = ap₂ (λ (a b : ℤ). turned s a b c d) at_line.two at-mirror.two ∙ ap₂ (λ (c d : ℤ). turned s (cell xs (n + v)) (cell xs (n + (n - v))) c d) c-is d-is
              ∙ sym (Q_line s J.scale.least J.scale.most k n g J.some two_halves quarter_turn (cell xs) v some below)

          mirror-is : turned s (cell ys (n + v)) (cell ys (n + (n - v))) d (neg_ℤ c) ≡ quotient (n - v)
          mirror-is = ap₂ (λ (a b : ℤ). turned s a b d (neg_ℤ c)) at_line.two at-mirror.two ∙ ap₂ (λ (c d : ℤ). turned s (cell xs (n + v)) (cell xs (n + (n - v))) d (neg_ℤ c)) c-is d-is
              ∙ sym (Q_mirror s J.scale.least J.scale.most k n g J.some two_halves quarter_turn (cell xs) v some below)

  -- ---- the two plain steps at the end

  module _ (ys : List ℤ) (D : Joined lines (cell xs) n J.k ys) where
    pub start_small : (nat_abs (cell ys 0) ≤ LARGEST_PRODUCT) × (nat_abs (cell ys (n + 0)) ≤ LARGEST_PRODUCT)
    start_small = (rw D.start.one (room_small s (cell xs 0) (J.room 0)), rw D.start.two (room_small s (cell xs (n + 0)) (J.room (n + 0))))

    module _ (ws : List ℤ) (e : ws ≡ split ys n 0 (cell ys (n + 0))) where
      at-middle : Both (cell xs) n ws k
      at-middle = rw e (middle_still lines (cell xs) n k ys (cell ys (n + 0)) (cell ys (n + 0)) D J.some two_halves)

      pub middle-small : (m : ℕ) → m ≡ J.k → (nat_abs (cell ws m) ≤ LARGEST_PRODUCT) × (nat_abs (cell ws (n + m)) ≤ LARGEST_PRODUCT)
      middle-small m em = rw em (rw at-middle.one (room_small s (cell xs k) (J.room k)), rw at-middle.two (room_small s (cell xs (n + k)) (J.room (n + k))))

      pub plain-steps : (m : ℕ) (us : List ℤ) → m ≡ J.k → us ≡ split ws n m (cell ws (n + m)) → us ≡ joined_pair s xs
      plain-steps m us em f = f ∙ ap (λ (j : ℕ). split ws n j (cell ws (n + j))) em ∙ ap (λ (zs : List ℤ). split zs n k (cell ws (n + k))) e
          ∙ joined_all lines (cell xs) n k ys (cell ys (n + 0)) (cell ws (n + k)) D J.some two_halves
          (ap (λ (q : ℤ). cell xs 0 +ℤ q) start_is ∙ sym (line-is 0 (omega (arith, two_halves, J.some))))
          (ap (λ (q : ℤ). cell xs 0 -ℤ q) start_is ∙ sym (opposite-is 0 (omega (arith, two_halves, J.some))))
          (ap (λ (q : ℤ). cell xs k +ℤ q) middle_is ∙ sym (line-is k (omega (arith, two_halves, J.some))))
          (ap (λ (q : ℤ). cell xs k -ℤ q) middle_is ∙ sym (opposite-is k (omega (arith, two_halves, J.some))))
          ∙ ap (λ (m : ℕ). tabulate m lines) (sym whole)
        where
          start_is : cell ys (n + 0) ≡ quotient 0
          start_is = D.start.two ∙ sym (Q_zero s J.scale.least J.scale.most k n g J.some two_halves quarter_turn (cell xs))

          middle_is : cell ws (n + k) ≡ quotient k
          middle_is = at-middle.two ∙ sym (Q_middle s J.scale.least J.scale.most k n g J.some two_halves quarter_turn (cell xs))

-- ---- four cells, of which every line is plain

pub four_joined : (s : ℕ) → 4 ≤ s → s ≤ 22 → (xs ys zs : List ℤ) → length xs ≡ 4 → ys ≡ split xs 2 0 (cell xs 2) → zs ≡ split ys 2 1 (cell ys 3) → zs ≡ joined_pair s xs
four_joined s least most xs ys zs long e f = f ∙ ap (λ (ws : List ℤ). split ws 2 1 (cell ys 3)) e
    ∙ joined_all lines (cell xs) 2 1 xs (cell xs 2) (cell ys 3) start (omega arith) refl
    (ap (λ (q : ℤ). cell xs 0 +ℤ q) (sym start_is) ∙ sym (first 0 (omega arith))) (ap (λ (q : ℤ). cell xs 0 -ℤ q) (sym start_is) ∙ sym (second 0 (omega arith)))
    (ap (λ (q : ℤ). cell xs 1 +ℤ q) middle_is ∙ sym (first 1 (omega arith))) (ap (λ (q : ℤ). cell xs 1 -ℤ q) middle_is ∙ sym (second 1 (omega arith)))
    ∙ ap₂ (λ (m n : ℕ). tabulate m (pair_line s n (cell xs))) (sym long) half
  where
    lines : ℕ → ℤ
    lines = pair_line s 2 (cell xs)

    half : 2 ≡ length xs / 2
    half = omega arith

    start : Joined lines (cell xs) 2 1 xs
    start = none_joined lines 2 xs long

    first : (v : ℕ) → v < 2 → pair_line s 2 (cell xs) v ≡ cell xs v +ℤ Q s least most 1 2 256 (omega arith) refl refl (cell xs) v
    first = line_first s least most 1 2 256 (omega arith) refl refl (cell xs)

    second : (v : ℕ) → v < 2 → pair_line s 2 (cell xs) (2 + v) ≡ cell xs v -ℤ Q s least most 1 2 256 (omega arith) refl refl (cell xs) v
    second = line_second s least most 1 2 256 (omega arith) refl refl (cell xs)

    start_is : Q s least most 1 2 256 (omega arith) refl refl (cell xs) 0 ≡ cell xs 2
    start_is = Q_zero s least most 1 2 256 (omega arith) refl refl (cell xs)

    middle_is : cell ys 3 ≡ Q s least most 1 2 256 (omega arith) refl refl (cell xs) 1
    middle_is = ap (λ (ws : List ℤ). cell ws 3) e ∙ split_other xs 2 0 (cell xs 2) 3 (λ g. omega arith) (λ g. omega arith) ∙ sym (Q_middle s least most 1 2 256 (omega arith) refl refl (cell xs))
