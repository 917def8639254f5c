-- Item 7: the smoothed block is the plain cyclic sum, whichever pair with a full turn is chosen. For the exact spectra are direct sums (ExactLevels),
-- their combination is the direct sum of the cyclic sum (Convolution), the direct sum of a direct sum is N times the samples (Inversion), and the
-- result is small enough to be told from its residue (Limits).
-- Example: `smoothing_exact q full 10 few xs ws quiet light : smoothed q 10 xs ws ≡ tabulate 1024 (cyclic_sum 1024 xs ws)`.
use mathlib.Core.Path.{◌≡◌, sym, ◌∙◌, ap}
use mathlib.Core.List.{List, [], ◌∷◌, map}
use Prim.Native.Nat.{ℕ, ◌+◌, ◌*◌, ◌-◌, ◌%◌, ◌^◌, ◌≤◌, ◌<◌}
use native.Mathlib.Nat.{mod-lt, mod-eq_of_lt}
use native.Mathlib.Omega.{arith}
use lib.IntN.{ℤ, pos, nat_abs, ◌+ℤ◌, ◌*ℤ◌}
use lib.ListN.{length, length-map}
use lib.Pow.{pow_pos, pow-add}
use lib.Seq.{ext_get_or}
use Rattle.ints.specs.Cells.{cell}
use Rattle.ints.specs.Tabulate.{tabulate}
use Rattle.ints.proofs.Ring.{ring, quotes}
use Rattle.ints.proofs.Tables.{get_d_tabulate, length-tabulate}
use Rattle.kind.specs.Loudness.{LOUDEST_SAMPLE}
use Rattle.spectrum.proofs.DirectSplit.{mirror}
use Rattle.residues.specs.Residue.{residue}
use Rattle.residues.proofs.Congruent.{◌≈◌, ◌⊙◌, ≈-is, ≈-sym, ≈-plus, ≈-minus, ≈-times, ≈-left, ≈-right, ≈-sum}
use Rattle.residues.proofs.Residues.{residue_≈, residue-lt, is-centred, power_31, half_of_double}
use Rattle.turns.specs.Turn.{Pair, FullTurn, cosine_at, sine_at}
use Rattle.turns.proofs.Turning.{Turning, turning}
use Rattle.exact.specs.Smoothing.{exact_spectrum, divided, opposite, combined, restored, smoothed, cyclic_sum, running, LARGEST_WEIGHTS}
use Rattle.exact.proofs.DirectSums.{direct, direct_opposite, line_mirror}
use Rattle.exact.proofs.ExactLevels.{transformed_direct, exact_≈, length-exact}
use Rattle.exact.proofs.Path.{cell-restored}
use Rattle.exact.proofs.Inversion.{twice_direct}
use Rattle.exact.proofs.Convolution.{cyclic, even_part_lem, odd_part_lem, convolved}
use Rattle.exact.proofs.Limits.{cyclic_small}

-- ---- a quotient modulo 2^31 − 1

half_≈ : {z a : ℤ} → z ≈ a +ℤ a → divided 1 z ≈ a
half_≈ {z} {a} h = ≈-right h (pos (2 ^ 30)) ⊙ half_of_double a

divided_≈ : (P : ℕ) → P ≤ 10 → (y z : ℤ) → z ≈ y *ℤ pos (2 ^ P) → divided P z ≈ y
divided_≈ P few y z k = ≈-right k (pos (2 ^ (31 - P))) ⊙ ≈-is (ring (y ∷ pos (2 ^ P) ∷ pos (2 ^ (31 - P)) ∷ []) (search quotes depth 40) tt ∙ ap (λ (n : ℕ). y *ℤ pos n) power)
    ⊙ ≈-left y power_31 ⊙ ≈-is (ring (y ∷ []) (search quotes) tt)
  where
    whole : P + (31 - P) ≡ 31
    whole = omega arith

    power : 2 ^ P * 2 ^ (31 - P) ≡ 2 ^ 31
    power = sym (pow-add 2 P (31 - P)) ∙ ap (λ (k : ℕ). 2 ^ k) whole

-- a number that is small enough is restored from N times it
restored-is : (P : ℕ) → P ≤ 10 → (y z : ℤ) → nat_abs y < 2 ^ 30 → z ≈ y *ℤ pos (2 ^ P) → restored P z ≡ y
unfolding restored
restored-is P few y z small k = is-centred (residue (divided P z)) y (residue-lt (divided P z)) small (residue_≈ (divided P z) ⊙ divided_≈ P few y z k)

module _ (q : Pair) (full : FullTurn q) (P : ℕ) (few : P ≤ 10) (xs ws : List ℤ) where
  abbrev N : ℕ
  N = 2 ^ P

  abbrev h : ℕ
  h = 2 ^ (10 - P)

  e : N * h ≡ 1024
  e = sym (pow-add 2 P (10 - P)) ∙ ap (λ (k : ℕ). 2 ^ k) whole
    where
      whole : P + (10 - P) ≡ 10
      whole = omega arith

  turn : Turning (cosine_at q) (sine_at q)
  turn = turning q full

  abbrev line : (ℕ → ℤ) → ℕ → ℤ
  line x v = direct (cosine_at q) (sine_at q) N h x v

  abbrev line_opposite : (ℕ → ℤ) → ℕ → ℤ
  line_opposite x v = direct_opposite (cosine_at q) (sine_at q) N h x v

  -- ---- an exact spectrum at a line and at the opposite one

  at_line : (ys : List ℤ) (v : ℕ) → v < N → cell (exact_spectrum q P ys) v ≈ line (cell ys) v
  at_line ys v l = exact_≈ q P ys v ⊙ transformed_direct turn P h e ys v l

  at_opposite : (ys : List ℤ) (v : ℕ) → v < N → cell (exact_spectrum q P ys) (opposite N v) ≈ line_opposite (cell ys) v
  at_opposite ys v l = ≈-is (ap (λ (w : ℕ). cell (exact_spectrum q P ys) ((N - w) % N)) (sym (mod-eq_of_lt l)))
      ⊙ at_line ys (mirror N v) (mod-lt (N - v % N) (pow_pos P)) ⊙ line_mirror turn N h (pow_pos P) e (cell ys) v

  -- ---- the combination is the direct sum of the cyclic sum

  abbrev sums : ℕ → ℤ
  sums t = cyclic N (cell xs) (cell ws) t

  combined-line : (v : ℕ) → v < N → combined N (exact_spectrum q P xs) (exact_spectrum q P ws) v ≈ line sums v
  unfolding combined
  combined-line v l = ≈-plus (≈-times (at_line xs v l) (half_≈ (≈-plus (at_line ws v l) (at_opposite ws v l) ⊙ ≈-is (even_part_lem (cosine_at q) (sine_at q) N h (cell ws) v))))
      (≈-times (at_opposite xs v l) (half_≈ (≈-minus (at_line ws v l) (at_opposite ws v l) ⊙ ≈-is (odd_part_lem (cosine_at q) (sine_at q) N h (cell ws) v))))
      ⊙ ≈-sym (convolved turn N h (pow_pos P) e (cell xs) (cell ws) v)

  -- ---- and back

  abbrev lines : List ℤ
  lines = tabulate N (combined N (exact_spectrum q P xs) (exact_spectrum q P ws))

  back : (t : ℕ) → t < N → cell (exact_spectrum q P lines) t ≈ sums t *ℤ pos N
  back t l = at_line lines t l ⊙ ≈-sum N _ _ (λ v k. ≈-right (≈-is (get_d_tabulate N _ (pos 0) v k) ⊙ combined-line v k) _) ⊙ twice_direct turn P h e t l sums

  -- whatever the limits, where every result is below 2^30
  module _ (small : (t : ℕ) → t < N → nat_abs (cyclic_sum N xs ws t) < 2 ^ 30) where
    smoothed-cell : (t : ℕ) → t < N → cell (map (restored P) (exact_spectrum q P lines)) t ≡ cyclic_sum N xs ws t
    unfolding cyclic_sum
    smoothed-cell t l = cell-restored P (exact_spectrum q P lines) t ∙ restored-is P few (sums t) (cell (exact_spectrum q P lines) t) (small t l) (back t l)

    pub smoothing_small : smoothed q P xs ws ≡ tabulate N (cyclic_sum N xs ws)
    unfolding smoothed
    smoothing_small = ext_get_or (pos 0) (map (restored P) (exact_spectrum q P lines)) (tabulate N (cyclic_sum N xs ws)) (long ∙ sym (length-tabulate N (cyclic_sum N xs ws)))
        (λ t k. let l : t < N = omega (arith, long) in smoothed-cell t l ∙ sym (get_d_tabulate N (cyclic_sum N xs ws) (pos 0) t l))
      where
        long : length (map (restored P) (exact_spectrum q P lines)) ≡ N
        long = length-map (exact_spectrum q P lines) (restored P) ∙ length-exact q P lines

  -- within the limits of samples and weights
  pub smoothing_exact : ((u : ℕ) → nat_abs (cell xs u) ≤ LOUDEST_SAMPLE) → running ws N ≤ LARGEST_WEIGHTS → smoothed q P xs ws ≡ tabulate N (cyclic_sum N xs ws)
  smoothing_exact quiet light = smoothing_small (cyclic_small N xs ws quiet light)
