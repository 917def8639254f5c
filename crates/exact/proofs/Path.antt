-- For a program that keeps in each cell some number with the right residue: every step of the path adds and multiplies, and so takes congruent
-- numbers to congruent ones, and at the end congruent numbers are restored to one and the same.
-- Example: `smoothed_by q P xs ws hs ks zs ys long first second back out : ys ≡ smoothed q P xs ws`, where hs and ks are the two spectra as they are
-- kept, zs is that of their combination, and ys has the cells restored from it.
use mathlib.Core.Path.{◌≡◌, refl, sym, ◌∙◌, ap}
use mathlib.Core.List.{List, map}
use Prim.Native.Nat.{ℕ, zero, suc, ◌-◌, ◌^◌, ◌<◌}
use native.Mathlib.Nat.{mod-lt, zero-mul}
use native.Mathlib.Decide.{dec_lt}
use native.Mathlib.Omega.{arith}
use lib.IntN.{ℤ, pos}
use lib.ListN.{length, get_or, length-map, get_or-eq_default, get_or-map}
use lib.Pow.{pow_pos}
use lib.Seq.{ext_get_or}
use Rattle.ints.specs.Cells.{cell}
use Rattle.ints.specs.Tabulate.{tabulate}
use Rattle.ints.proofs.Tables.{get_d_tabulate, length-tabulate}
use Rattle.spectrum.specs.Levels.{reversed, permuted, joined, level, levels, transformed}
use Rattle.spectrum.proofs.Reversal.{reversed-lt}
use Rattle.spectrum.proofs.Stages.{length-levels}
use Rattle.residues.specs.Residue.{residue, centred}
use Rattle.residues.proofs.Congruent.{◌≈◌, ◌⊙◌, ≈-is, ≈-sym, ≈-plus, ≈-minus, ≈-times, ≈-right}
use Rattle.residues.proofs.Residues.{same-residue}
use Rattle.turns.specs.Turn.{Pair, cosine_at, sine_at}
use Rattle.exact.specs.Smoothing.{exact_spectrum, opposite, combined, restored, smoothed}
use Rattle.exact.proofs.ExactLevels.{kept, exact_≈, length-exact}

-- ---- lists of congruent numbers

tabulate_≈ : (n : ℕ) (f g : ℕ → ℤ) → ((i : ℕ) → i < n → f i ≈ g i) → (i : ℕ) → cell (tabulate n f) i ≈ cell (tabulate n g) i
tabulate_≈ n f g h i = go (dec_lt i n)
  where
    go : Dec (i < n) → cell (tabulate n f) i ≈ cell (tabulate n g) i
    go (yes l) = ≈-is (get_d_tabulate n f (pos 0) i l) ⊙ h i l ⊙ ≈-is (sym (get_d_tabulate n g (pos 0) i l))
    go (no k) = ≈-is (get_or-eq_default (tabulate n f) (pos 0) {n = i} (omega (arith, length-tabulate n f))
        ∙ sym (get_or-eq_default (tabulate n g) (pos 0) {n = i} (omega (arith, length-tabulate n g))))

-- ---- one level, the levels in turn, and the whole spectrum

module _ (C S : ℕ → ℤ) where
  pub level_lines_≈ : (n : ℕ) (x y : ℕ → ℤ) → ((i : ℕ) → x i ≈ y i) → (i : ℕ) → joined (λ z. z) C S n x i ≈ joined (λ z. z) C S n y i
  level_lines_≈ n x y h i = ≈-plus (h _) (≈-plus (≈-right (h _) _) (≈-right (h _) _))

  pub levels_≈ : (L : ℕ) (xs ys : List ℤ) → length xs ≡ length ys → ((i : ℕ) → cell xs i ≈ cell ys i) →
      (i : ℕ) → cell (levels (λ z. z) C S L xs) i ≈ cell (levels (λ z. z) C S L ys) i
  unfolding levels level
  levels_≈ zero xs ys e h i = h i
  levels_≈ (suc L) xs ys e h i = rw (length-levels kept C S L xs, length-levels kept C S L ys, e)
      (tabulate_≈ (length ys) _ _ (λ j k. level_lines_≈ (2 ^ L) _ _ (levels_≈ L xs ys e h) j) i)

  pub transformed_≈ : (P : ℕ) (xs ys : List ℤ) → ((i : ℕ) → i < 2 ^ P → cell xs i ≈ cell ys i) →
      (i : ℕ) → cell (transformed (λ z. z) C S P xs) i ≈ cell (transformed (λ z. z) C S P ys) i
  unfolding transformed permuted
  transformed_≈ P xs ys h = levels_≈ P (permuted P xs) (permuted P ys) (length-tabulate (2 ^ P) _ ∙ sym (length-tabulate (2 ^ P) _))
      (tabulate_≈ (2 ^ P) _ _ (λ i k. h (reversed P i) (reversed-lt P i)))

-- ---- the combination

pub combined_≈ : (N : ℕ) (hs hs' ks ks' : List ℤ) → 0 < N → ((i : ℕ) → i < N → cell hs i ≈ cell hs' i) → ((i : ℕ) → i < N → cell ks i ≈ cell ks' i) →
    (v : ℕ) → v < N → combined N hs ks v ≈ combined N hs' ks' v
unfolding combined
combined_≈ N hs hs' ks ks' some h k v l = ≈-plus (≈-times (h v l) (≈-right (≈-plus (k v l) (k o m)) _)) (≈-times (h o m) (≈-right (≈-minus (k v l) (k o m)) _))
  where
    o : ℕ
    o = opposite N v

    m : o < N
    m = mod-lt (N - v) some

-- ---- back

pub restored_≈ : (P : ℕ) {y z : ℤ} → y ≈ z → restored P y ≡ restored P z
unfolding restored
restored_≈ P h = ap centred (same-residue (≈-right h _))

-- also beyond the last
pub cell-restored : (P : ℕ) (zs : List ℤ) (i : ℕ) → cell (map (restored P) zs) i ≡ restored P (cell zs i)
cell-restored P zs i = ap (get_or (map (restored P) zs) i) (sym none) ∙ get_or-map (restored P) zs i (pos 0)
  where
    none : restored P (pos 0) ≡ pos 0
    none = unfold restored residue centred in rw (zero-mul (2 ^ (31 - P))) refl

-- ---- the whole path

pub smoothed_by : (q : Pair) (P : ℕ) (xs ws hs ks zs ys : List ℤ) → length zs ≡ 2 ^ P →
    ((i : ℕ) → i < 2 ^ P → cell hs i ≈ cell (transformed (λ z. z) (cosine_at q) (sine_at q) P xs) i) →
    ((i : ℕ) → i < 2 ^ P → cell ks i ≈ cell (transformed (λ z. z) (cosine_at q) (sine_at q) P ws) i) →
    ((i : ℕ) → i < 2 ^ P → cell zs i ≈ cell (transformed (λ z. z) (cosine_at q) (sine_at q) P (tabulate (2 ^ P) (combined (2 ^ P) hs ks))) i) →
    ys ≡ map (restored P) zs → ys ≡ smoothed q P xs ws
unfolding smoothed
smoothed_by q P xs ws hs ks zs ys long first second back out = out ∙ ext_get_or (pos 0) (map (restored P) zs) (map (restored P) (exact_spectrum q P lines)) lengths
    (λ i k. cell-restored P zs i ∙ restored_≈ P (same i (rw (length-map zs (restored P), long) at k)) ∙ sym (cell-restored P (exact_spectrum q P lines) i))
  where
    lines : List ℤ
    lines = tabulate (2 ^ P) (combined (2 ^ P) (exact_spectrum q P xs) (exact_spectrum q P ws))

    lengths : length (map (restored P) zs) ≡ length (map (restored P) (exact_spectrum q P lines))
    lengths = length-map zs (restored P) ∙ long ∙ sym (length-map (exact_spectrum q P lines) (restored P) ∙ length-exact q P lines)

    same_lines : (v : ℕ) → cell (tabulate (2 ^ P) (combined (2 ^ P) hs ks)) v ≈ cell lines v
    same_lines = tabulate_≈ (2 ^ P) _ _ (combined_≈ (2 ^ P) hs (exact_spectrum q P xs) ks (exact_spectrum q P ws) (pow_pos P)
        (λ i k. first i k ⊙ ≈-sym (exact_≈ q P xs i)) (λ i k. second i k ⊙ ≈-sym (exact_≈ q P ws i)))

    same : (i : ℕ) → i < 2 ^ P → cell zs i ≈ cell (exact_spectrum q P lines) i
    same i k = back i k ⊙ transformed_≈ (cosine_at q) (sine_at q) P (tabulate (2 ^ P) (combined (2 ^ P) hs ks)) lines (λ v l. same_lines v) i ⊙ ≈-sym (exact_≈ q P lines i)
