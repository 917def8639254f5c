-- The level rule with nothing to round gives the direct sums modulo 2^31 − 1, by the even/odd law of spectrum; and an exact spectrum, whose lines are
-- residues, is congruent to it line by line.
use mathlib.Core.Path.{◌≡◌, sym, ◌∙◌, ap}
use mathlib.Core.List.{List, [], ◌∷◌}
use Prim.Native.Nat.{ℕ, zero, suc, ◌+◌, ◌*◌, ◌-◌, ◌/◌, ◌%◌, ◌^◌, ◌<◌}
use native.Mathlib.Nat.{mod-lt}
use native.Mathlib.Omega.{arith}
use lib.IntN.{ℤ, pos, +ℤ_idl}
use lib.ListN.{length, length-map, get_or-map}
use lib.Pow.{pow_pos}
use Rattle.ints.specs.Cells.{cell}
use Rattle.ints.specs.Sum.{sum}
use Rattle.ints.proofs.Ring.{ring, quotes}
use Rattle.ints.proofs.Powers.{two_pow}
use Rattle.ints.proofs.Tables.{get_d_tabulate}
use Rattle.spectrum.specs.Levels.{reversed, permuted, levels, transformed}
use Rattle.spectrum.proofs.Stages.{length-levels, length-permuted}
use Rattle.spectrum.proofs.Pairs.{whole-steps}
use Rattle.spectrum.proofs.EvenOdd.{lines, even_odd, transformed_lines}
use Rattle.spectrum.proofs.DirectSplit.{mirror}
use Rattle.residues.specs.Residue.{residue}
use Rattle.residues.proofs.Congruent.{◌≈◌, ◌⊙◌, ≈-is, ≈-sym, ≈-plus, ≈-times, ≈-left}
use Rattle.residues.proofs.Residues.{residue_≈}
use Rattle.turns.specs.Turn.{Pair, cosine_at, sine_at}
use Rattle.turns.proofs.Turning.{Turning}
use Rattle.turns.proofs.Angles.{cas_of, at}
use Rattle.exact.specs.Smoothing.{exact_spectrum}
use Rattle.exact.proofs.DirectSums.{direct, line-within, line_mirror, direct_split}

-- what stands in the place of the rounding
abbrev pub kept : ℤ → ℤ
kept z = z

module _ {C S : ℕ → ℤ} (turn : Turning C S) where
  one_sample : (x : ℕ → ℤ) (h v : ℕ) → v < 1 → lines kept C S 0 x v ≈ direct C S 1 h x v
  unfolding levels reversed sum
  one_sample x h v l = ≈-is (get_d_tabulate (2 ^ 0) (λ i. x (reversed 0 i)) (pos 0) v l) ⊙ ≈-is (ring (x 0 ∷ []) (search quotes depth 40) tt)
      ⊙ ≈-sym (≈-left (x 0) (at (cas_of C S) (omega arith) ⊙ ≈-plus turn.cosine_start turn.sine_start)) ⊙ ≈-is (sym (+ℤ_idl _))

  lines_direct : (P h : ℕ) → 2 ^ P * h ≡ 1024 → (x : ℕ → ℤ) (v : ℕ) → v < 2 ^ P → lines kept C S P x v ≈ direct C S (2 ^ P) h x v
  lines_direct zero h e x v l = one_sample x h v l
  lines_direct (suc P) h e x v l = ≈-is (even_odd kept C S P x v l)
      ⊙ ≈-plus (lines_direct P (2 * h) e' xe (v % n) low ⊙ line-within turn n (2 * h) some e' xe v)
      (≈-plus (≈-times (lines_direct P (2 * h) e' xo (v % n) low ⊙ line-within turn n (2 * h) some e' xo v) (at C step))
      (≈-times (lines_direct P (2 * h) e' xo (mirror n v) (mod-lt (n - v % n) some) ⊙ line_mirror turn n (2 * h) some e' xo v) (at S step)))
      ⊙ ≈-sym (direct_split turn n h x v) ⊙ ≈-is (ap (λ (N : ℕ). direct C S N h x v) (sym (two_pow P)))
    where
      n : ℕ
      n = 2 ^ P

      xe : ℕ → ℤ
      xe t = x (2 * t)

      xo : ℕ → ℤ
      xo t = x (2 * t + 1)

      some : 0 < n
      some = pow_pos P

      low : v % n < n
      low = mod-lt v some

      double : 2 * n * h ≡ 1024
      double = ap (λ (N : ℕ). N * h) (sym (two_pow P)) ∙ e

      e' : n * (2 * h) ≡ 1024
      e' = omega (arith, double)

      step : v * 1024 / (2 * n) ≡ v * h
      step = whole-steps (2 * n) h v (omega (arith, some)) double

  pub transformed_direct : (P h : ℕ) → 2 ^ P * h ≡ 1024 → (xs : List ℤ) (v : ℕ) → v < 2 ^ P → cell (transformed kept C S P xs) v ≈ direct C S (2 ^ P) h (cell xs) v
  transformed_direct P h e xs v l = ≈-is (transformed_lines kept C S P xs v) ⊙ lines_direct P h e (cell xs) v l

-- ---- residues of the lines

module _ (q : Pair) (P : ℕ) (xs : List ℤ) where
  abbrev spectrum : List ℤ
  spectrum = transformed kept (cosine_at q) (sine_at q) P xs

  pub exact_≈ : (v : ℕ) → cell (exact_spectrum q P xs) v ≈ cell spectrum v
  unfolding exact_spectrum
  exact_≈ v = ≈-is (unfold residue in get_or-map (λ (z : ℤ). pos (residue z)) spectrum v (pos 0)) ⊙ residue_≈ (cell spectrum v)

  pub length-exact : length (exact_spectrum q P xs) ≡ 2 ^ P
  unfolding exact_spectrum transformed
  length-exact = length-map spectrum (λ z. pos (residue z)) ∙ length-levels kept (cosine_at q) (sine_at q) P (permuted P xs) ∙ length-permuted P xs
