-- The steps of `join` on a pair that can be joined: the entries of line v, that its four cells can be read, for what they stand afterwards, and the two plain
-- steps at the end.
use mathlib.Core.Path.{◌≡◌, refl, sym, ◌∙◌, ap, subst}
use mathlib.Core.List.{List, [], ◌∷◌}
use Prim.Native.Nat.{ℕ, ◌+◌, ◌*◌, ◌-◌, ◌/◌, ◌^◌, ◌≤◌, ◌<◌}
use native.Mathlib.Nat.{mul-le-mul_right}
use native.Mathlib.Omega.{arith}
use lib.IntN.{ℤ, pos, neg_ℤ, nat_abs, ◌+ℤ◌, ◌-ℤ◌}
use lib.ListN.{length}
use mir.Syntax.{w64}
use mir.Val.{to_z, of_z}
use Rattle.ints.specs.Cells.{cell}
use Rattle.ints.proofs.Abs.{abs_minus, abs_neg, abs_plus}
use Rattle.ints.proofs.Fit.{reads_back}
use Rattle.ints.proofs.Ring.{ring, quotes}
use Rattle.ints.proofs.Slices.{everywhere}
use Rattle.ints.proofs.Tables.{get_d_tabulate, length-tabulate}
use Rattle.spectrum.specs.Limits.{LARGEST_PRODUCT}
use Rattle.pair.specs.Pair.{split}
use Rattle.residues.specs.Folded.{folded}
use Rattle.residues.proofs.Congruent.{◌≈◌, ◌⊙◌, lin₁, ≈-is, ≈-minus, ≈-plus, ≈-sym, ≈-times}
use Rattle.residues.proofs.Folding.{folded_≈}
use Rattle.residues.proofs.Residues.{centred_≈, centred-small, same-residue}
use Rattle.turns.specs.Turn.{CHOSEN, cosine_at, sine_at, steps}
use Rattle.turns.proofs.Turning.{steps-below}
use Rattle.turns.proofs.Angles.{sine_by_cosine}
use Rattle.turns.proofs.Chosen.{chosen_turn, cosine_quarter, sine_quarter}
use Rattle.exact_pair.specs.Pair.{FIRST, Factors, PairReady, Quad, Stands, cosine_step, exact_line, folded_quad, products}
use Rattle.exact_pair.proofs.Products.{folded-cell, folded-products}
use Rattle.exact_pair.proofs.Lines.{Q, Q_line, Q_middle, Q_mirror, Q_zero, line_first, line_second}
use Rattle.exact_pair.proofs.Joining.{Both, Is, Joined, joined_all, joined-long, joined_next, middle_still}

-- ---- the chosen pair

abbrev C : ℕ → ℤ
C j = cosine_at CHOSEN j

abbrev S : ℕ → ℤ
S j = sine_at CHOSEN j

step_≈ : (j : ℕ) → cosine_step j ≈ cosine_at CHOSEN j
step_≈ j = centred_≈ (steps CHOSEN j).cosine

step_small : (j : ℕ) → nat_abs (cosine_step j) ≤ 2 ^ 30
step_small j = omega (arith, centred-small (steps CHOSEN j).cosine (steps-below CHOSEN j).0)

-- a cell that stands for line i, and is at most b
abbrev pub Stand : (ℕ → ℤ) → ℕ → ℕ → ℤ → Type 0
Stand f b i z = (z ≈ f i) × (nat_abs z ≤ b)

module _ {stride : ℕ} {quarter xs : List ℤ} (J : PairReady stride quarter xs) where
  abbrev pub n : ℕ
  n = length xs / 2

  abbrev k : ℕ
  k = J.k

  abbrev g : ℕ
  g = stride * J.apart

  pub two_halves : n ≡ 2 * J.k
  two_halves = omega (arith, J.long)

  pub middle : n / 2 ≡ J.k
  middle = omega (arith, J.long)

  pub whole : length xs ≡ 2 * n
  whole = omega (arith, J.long)

  quarter_turn : k * g ≡ 256
  quarter_turn = omega (arith, J.spans)

  pub entries-many : length quarter ≡ J.k * stride + 1
  entries-many = ap length J.at_quarter ∙ length-tabulate (k * stride + 1) _

  entry_at : (j : ℕ) → j ≤ k * stride → cell quarter j ≡ cosine_step (j * J.apart)
  entry_at j h = ap (λ (l : List ℤ). cell l j) J.at_quarter ∙ get_d_tabulate (k * stride + 1) _ (pos 0) j (omega arith)

  -- every cell before the level, and after it
  abbrev before : ℕ
  before = n * FIRST

  pub cell-small : (i : ℕ) → nat_abs (cell xs i) ≤ n * FIRST
  cell-small i = rw two_halves (J.small i)

  abbrev pub Done : ℕ → ℤ → Type 0
  Done = Stand (exact_line n (cell xs)) (2 * n * FIRST)

  abbrev sums : ℕ → ℤ
  sums = Q chosen_turn cosine_quarter sine_quarter k n g J.some two_halves quarter_turn (cell xs)

  -- the two lines that have a number q which stands for the products of line v
  module _ (v : ℕ) (below : v < n) (y q : ℤ) (is : y ≡ cell xs v) (e : q ≈ sums v) (small : nat_abs q ≤ n * FIRST) where
    line_done : Done v (y +ℤ q)
    line_done = (
      ≈-plus (≈-is is) e ⊙ ≈-sym (line_first chosen_turn cosine_quarter sine_quarter k n g J.some two_halves quarter_turn (cell xs) v below),
      omega (arith, abs_plus y q, ap nat_abs is, cell-small v, small),
    )

    opposite_done : Done (n + v) (y -ℤ q)
    opposite_done = (
      ≈-minus (≈-is is) e ⊙ ≈-sym (line_second chosen_turn cosine_quarter sine_quarter k n g J.some two_halves quarter_turn (cell xs) v below),
      omega (arith, abs_minus y q, ap nat_abs is, cell-small v, small),
    )

  module _ (v : ℕ) (some : 0 < v) (below : v < J.k) where
    pub entry_in : v * stride + stride ≤ J.k * stride
    entry_in = omega (arith, mul-le-mul_right stride below)

    inside : v * g ≤ 256
    inside = omega (arith, quarter_turn, mul-le-mul_right g below)

    pub cosine_entry : cell quarter (v * stride) ≡ cosine_step (v * (stride * J.apart))
    cosine_entry = entry_at (v * stride) (omega (arith, entry_in)) ∙ ap cosine_step over
      where
        over : v * stride * J.apart ≡ v * g
        over = omega arith

    pub sine_entry : cell quarter (length quarter - 1 - v * stride) ≡ cosine_step (256 - v * (stride * J.apart))
    sine_entry = ap (cell quarter) place ∙ entry_at ((k - v) * stride) (mul-le-mul_right stride fewer) ∙ ap cosine_step (over (k - v) (omega arith))
      where
        fewer : k - v ≤ k
        fewer = omega arith

        at : (d : ℕ) → d + v ≡ k → k * stride + 1 - 1 - v * stride ≡ d * stride
        at d e = omega (arith, ap (λ (y : ℕ). y * stride) e)

        place : length quarter - 1 - v * stride ≡ (k - v) * stride
        place = ap (λ (m : ℕ). m - 1 - v * stride) entries-many ∙ at (k - v) (omega arith)

        over : (d : ℕ) → d + v ≡ k → d * stride * J.apart ≡ 256 - v * g
        over d e = omega (arith, quarter_turn, ap (λ (y : ℕ). y * g) e)

    -- as the machine reads them back
    pub cosine-back : (at : ℕ) → at ≡ v * stride → to_z w64 (of_z w64 (cell quarter at)) ≡ cell quarter (v * stride)
    cosine-back at e = ap (λ (j : ℕ). to_z w64 (of_z w64 (cell quarter j))) e ∙ reads_back _ (2 ^ 30) (omega arith) (rw cosine_entry (step_small (v * g)))

    pub sine-back : (at : ℕ) → at ≡ v * stride → to_z w64 (of_z w64 (cell quarter (length quarter - 1 - at))) ≡ cell quarter (length quarter - 1 - v * stride)
    sine-back at e = ap (λ (j : ℕ). to_z w64 (of_z w64 (cell quarter (length quarter - 1 - j)))) e ∙ reads_back _ (2 ^ 30) (omega arith) (rw sine_entry (step_small (256 - v * g)))

    -- with the entries as they are read, c and d
    module _ (c d : ℤ) (ec : c ≡ cell quarter (v * stride)) (ed : d ≡ cell quarter (length quarter - 1 - v * stride)) (ys : List ℤ) (D : Joined Done (cell xs) n v ys) where
      c-≈ : c ≈ C (v * g)
      c-≈ = ≈-is (ec ∙ cosine_entry) ⊙ step_≈ (v * g)

      d-≈ : d ≈ S (v * g)
      d-≈ = ≈-is (ed ∙ sine_entry) ⊙ step_≈ (256 - v * g) ⊙ ≈-sym (sine_by_cosine chosen_turn cosine_quarter sine_quarter (v * g) (256 - v * g) rest)
        where
          rest : v * g + (256 - v * g) ≡ 256
          rest = omega (arith, inside)

      c-small : nat_abs c ≤ 2 ^ 30
      c-small = rw (ec ∙ cosine_entry) (step_small (v * g))

      d_small : nat_abs d ≤ 2 ^ 30
      d_small = rw (ed ∙ sine_entry) (step_small (256 - v * g))

      at_line : Both (Is (cell xs)) n ys v
      at_line = D.left v (omega arith) (omega (arith, two_halves))

      at-mirror : Both (Is (cell xs)) n ys (n - v)
      at-mirror = D.left (n - v) (omega (arith, two_halves)) (omega (arith, two_halves))

      halves-few : n ≤ 512
      halves-few = omega (arith, two_halves, J.few)

      -- the two cells of the second half, folded
      b-small : nat_abs (folded (cell ys (n + v))) ≤ 2 ^ 31 + 2 ^ 12
      b-small = rw at_line.two (folded-cell n (cell xs (n + v)) halves-few (cell-small (n + v)))

      mirrored-small : nat_abs (folded (cell ys (n + (n - v)))) ≤ 2 ^ 31 + 2 ^ 12
      mirrored-small = rw at-mirror.two (folded-cell n (cell xs (n + (n - v))) halves-few (cell-small (n + (n - v))))

      b-≈ : folded (cell ys (n + v)) ≈ cell xs (n + v)
      b-≈ = folded_≈ (cell ys (n + v)) ⊙ ≈-is at_line.two

      mirrored-≈ : folded (cell ys (n + (n - v))) ≈ cell xs (n + (n - v))
      mirrored-≈ = folded_≈ (cell ys (n + (n - v))) ⊙ ≈-is at-mirror.two

      abbrev q : ℤ
      q = folded (products (folded (cell ys (n + v))) (folded (cell ys (n + (n - v)))) c d)

      abbrev r : ℤ
      r = folded (products (folded (cell ys (n + v))) (folded (cell ys (n + (n - v)))) d (neg_ℤ c))

      q-≈ : q ≈ sums v
      q-≈ = folded_≈ _ ⊙ ≈-plus (≈-times b-≈ c-≈) (≈-times mirrored-≈ d-≈) ⊙ ≈-is (sym (Q_line chosen_turn cosine_quarter sine_quarter k n g J.some two_halves quarter_turn (cell xs) v some below))

      r-≈ : r ≈ sums (n - v)
      r-≈ = folded_≈ _ ⊙ ≈-plus (≈-times b-≈ d-≈) (≈-times mirrored-≈ (lin₁ (neg_ℤ (pos 1)) c-≈ (ring (c ∷ C (v * g) ∷ []) (search quotes depth 40) tt))) ⊙ ≈-sym (Q_mirror chosen_turn cosine_quarter sine_quarter k n g J.some two_halves quarter_turn (cell xs) v some below)

      factors : Factors (folded (cell ys (n + v))) (folded (cell ys (n + (n - v)))) c d
      factors = record { first = b-small; second = mirrored-small; cosine = c-small; sine = d_small }

      mirror-factors : Factors (folded (cell ys (n + v))) (folded (cell ys (n + (n - v)))) d (neg_ℤ c)
      mirror-factors = record { first = b-small; second = mirrored-small; cosine = d_small; sine = rw (abs_neg c) c-small }

      q-small : nat_abs q ≤ n * FIRST
      q-small = omega (arith, two_halves, J.some, folded-products factors)

      r_small : nat_abs r ≤ n * FIRST
      r_small = omega (arith, two_halves, J.some, folded-products mirror-factors)

      pub quad-ready : Quad (length xs / 2) v c d ys
      quad-ready = record {
        long = D.long;
        some = some;
        below = omega (arith, two_halves);
        few = halves-few;
        cosine = c-small;
        sine = d_small;
        first = rw at_line.one (cell-small v);
        first_mirror = rw at-mirror.one (cell-small (n - v));
        second = rw at_line.two (cell-small (n + v));
        second_mirror = rw at-mirror.two (cell-small (n + (n - v)));
      }

      pub quad-step : (zs : List ℤ) → zs ≡ folded_quad (length xs / 2) v c d ys → Joined (Stand (exact_line (length xs / 2) (cell xs)) (2 * (length xs / 2) * FIRST)) (cell xs) (length xs / 2) (v + 1) zs
      quad-step zs e = rw e (joined_next Done (cell xs) n v ys q r D some (omega (arith, two_halves))
          (line_done v (omega (arith, two_halves)) _ q at_line.one q-≈ q-small) (opposite_done v (omega (arith, two_halves)) _ q at_line.one q-≈ q-small)
          (line_done (n - v) (omega (arith, two_halves)) _ r at-mirror.one r-≈ r_small) (opposite_done (n - v) (omega (arith, two_halves)) _ r at-mirror.one r-≈ r_small))

  -- ---- the two plain steps at the end

  module _ (ys : List ℤ) (D : Joined Done (cell xs) n J.k ys) where
    room : (i : ℕ) → nat_abs (cell xs i) ≤ LARGEST_PRODUCT
    room i = omega (arith, two_halves, J.few, J.small i)

    pub start_small : (nat_abs (cell ys 0) ≤ LARGEST_PRODUCT) × (nat_abs (cell ys (n + 0)) ≤ LARGEST_PRODUCT)
    start_small = (rw D.start.one (room 0), rw D.start.two (room (n + 0)))

    module _ (ws : List ℤ) (e : ws ≡ split ys n 0 (cell ys (n + 0))) where
      at-middle : Both (Is (cell xs)) n ws k
      at-middle = rw e (middle_still Done (cell xs) n k ys (cell ys (n + 0)) (cell ys (n + 0)) D J.some two_halves)

      pub middle-small : (m : ℕ) → m ≡ J.k → (nat_abs (cell ws m) ≤ LARGEST_PRODUCT) × (nat_abs (cell ws (n + m)) ≤ LARGEST_PRODUCT)
      middle-small m em = rw em (rw at-middle.one (room k), rw at-middle.two (room (n + k)))

      start-≈ : cell ys (n + 0) ≈ sums 0
      start-≈ = ≈-is D.start.two ⊙ ≈-sym (Q_zero chosen_turn cosine_quarter sine_quarter k n g J.some two_halves quarter_turn (cell xs))

      middle-≈ : cell ws (n + k) ≈ sums k
      middle-≈ = ≈-is at-middle.two ⊙ ≈-sym (Q_middle chosen_turn cosine_quarter sine_quarter k n g J.some two_halves quarter_turn (cell xs))

      module _ (m : ℕ) (us : List ℤ) (em : m ≡ J.k) (f : us ≡ split ws n m (cell ws (n + m))) where
        last-is : us ≡ split (split ys n 0 (cell ys (n + 0))) n k (cell ws (n + k))
        last-is = f ∙ ap (λ (j : ℕ). split ws n j (cell ws (n + j))) em ∙ ap (λ (zs : List ℤ). split zs n k (cell ws (n + k))) e

        pub joined_keeps : length us ≡ length xs
        joined_keeps = ap length last-is ∙ joined-long Done (cell xs) n k ys (cell ys (n + 0)) (cell ws (n + k)) D J.some two_halves ∙ sym whole

        every : (i : ℕ) → i < 2 * n → Done i (cell us i)
        every i h = subst (λ (zs : List ℤ). Done i (cell zs i)) (sym last-is) (joined_all Done (cell xs) n k ys (cell ys (n + 0)) (cell ws (n + k)) D J.some two_halves
            (line_done 0 (omega (arith, two_halves, J.some)) _ _ refl start-≈ (rw D.start.two (cell-small (n + 0)))) (opposite_done 0 (omega (arith, two_halves, J.some)) _ _ refl start-≈ (rw D.start.two (cell-small (n + 0))))
            (line_done k (omega (arith, two_halves, J.some)) _ _ refl middle-≈ (rw at-middle.two (cell-small (n + k)))) (opposite_done k (omega (arith, two_halves, J.some)) _ _ refl middle-≈ (rw at-middle.two (cell-small (n + k)))) i h)

        pub pair-stands : Stands (length xs * FIRST) (length xs) (exact_line (length xs / 2) (cell xs)) us
        pair-stands = record {
          long = joined_keeps;
          same = λ i h. same-residue (every i (omega (arith, whole))).0;
          small = everywhere (pos 0) (λ z. nat_abs z ≤ length xs * FIRST) (omega arith) us (λ i h. rw whole (every i (omega (arith, whole, joined_keeps))).1);
        }
