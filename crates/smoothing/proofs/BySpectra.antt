-- The path by way of the spectra, step by step: what each step leaves can be given to the next, and the last cells are the smoothed block.
use mathlib.Core.Path.{◌≡◌, sym, ◌∙◌, ap}
use mathlib.Core.List.{List, map}
use Prim.Native.Nat.{ℕ, ◌+◌, ◌*◌, ◌-◌, ◌/◌, ◌^◌, ◌≤◌, ◌<◌}
use native.Mathlib.Nat.{mul-le-mul_right}
use native.Mathlib.Omega.{arith}
use lib.IntN.{ℤ, pos, nat_abs}
use lib.ListN.{length}
use lib.Pow.{pow-add, pow_mono, pow_pos}
use Rattle.ints.specs.Cells.{cell}
use Rattle.ints.specs.Tabulate.{tabulate}
use Rattle.ints.proofs.Powers.{two_pow_pred}
use Rattle.ints.proofs.Tables.{get_d_tabulate}
use Rattle.residues.proofs.Congruent.{◌≈◌, ◌⊙◌, ≈-is}
use Rattle.residues.proofs.Residues.{of_residues}
use Rattle.turns.specs.Turn.{CHOSEN, cosine_at, sine_at}
use Rattle.exact.specs.Smoothing.{combined, restored, smoothed}
use Rattle.exact.proofs.Path.{smoothed_by, transformed_≈}
use Rattle.exact_pair.specs.Pair.{FIRST, Stands, quarter_of}
use Rattle.exact_levels.specs.Ready.{LevelsReady, exact_transformed}
use Rattle.smoothing.specs.Inner.{Accepted, LineRoom, Spectra}
use Rattle.smoothing.proofs.Weights.{weight_light}

-- 2^P lines as the levels leave them
abbrev Kept : ℕ → (ℕ → ℤ) → List ℤ → Type 0
Kept P f hs = Stands (2 ^ P * FIRST) (2 ^ P) f hs

-- the spectrum of xs
abbrev Spectrum : ℕ → List ℤ → List ℤ → Type 0
Spectrum P xs hs = Kept P (cell (exact_transformed P xs)) hs

power-few : (P : ℕ) → P ≤ 10 → 2 ^ P ≤ 1024
power-few P most = pow_mono {i = P} {j = 10} most

lines_small : (P : ℕ) → P ≤ 10 → {f : ℕ → ℤ} {hs : List ℤ} → Kept P f hs → (i : ℕ) → nat_abs (cell hs i) ≤ 1024 * FIRST
lines_small P most {f} {hs} s i = omega (arith, s.small i, mul-le-mul_right FIRST (power-few P most))

stands_≈ : {b N : ℕ} {f : ℕ → ℤ} {ys : List ℤ} → Stands b N f ys → (i : ℕ) → i < N → cell ys i ≈ f i
stands_≈ s i l = of_residues (s.same i l)

module _ {P : ℕ} {xs ws : List ℤ} (A : Accepted P xs ws) where
  pub cells_few : length xs ≤ 1024
  cells_few = omega (arith, A.long, power-few P A.most)

  module _ (least : 3 ≤ P) where
    quarters : 2 ^ P ≡ 4 * 2 ^ (P - 2)
    quarters = ap (λ (k : ℕ). 2 ^ k) two-and ∙ pow-add 2 2 (P - 2)
      where
        two-and : P ≡ 2 + (P - 2)
        two-and = omega arith

    pub quarter_long : length xs / 4 + 1 ≡ 2 ^ (P - 2) + 1
    quarter_long = omega (arith, A.long, quarters)

    pub cells_ready : {quarter : List ℤ} → quarter ≡ quarter_of (P - 2) → LevelsReady P quarter xs
    cells_ready e = record { least = omega arith; most = A.most; long = A.long; at_quarter = e; small = λ i. omega (arith, A.quiet i) }

    pub weights_ready : {quarter ks : List ℤ} → quarter ≡ quarter_of (P - 2) → ks ≡ ws → LevelsReady P quarter ks
    weights_ready e f = rw f (record { least = omega arith; most = A.most; long = A.as_long; at_quarter = e; small = λ i. omega (arith, weight_light A i) })

    pub combined-ready : {quarter hs cs : List ℤ} {f g : ℕ → ℤ} → quarter ≡ quarter_of (P - 2) → Kept P g hs → Stands FIRST (length hs) f cs →
        LevelsReady P quarter cs
    combined-ready e h s = record { least = omega arith; most = A.most; long = s.long ∙ h.long; at_quarter = e; small = s.small }

    pub spectra_ready : {hs ks : List ℤ} {f g : ℕ → ℤ} → Kept P f hs → Kept P g ks → Spectra hs ks
    spectra_ready h k = record {
      half = 2 ^ (P - 1);
      some = pow_pos (P - 1);
      few = pow_mono {i = P - 1} {j = 9} (omega (arith, A.most));
      long = h.long ∙ halves;
      as_long = k.long ∙ halves;
      first = lines_small P A.most h;
      second = lines_small P A.most k;
    }
      where
        halves : 2 ^ P ≡ 2 * 2 ^ (P - 1)
        halves = two_pow_pred P (omega arith)

  pub restore_ready : {zs : List ℤ} {f : ℕ → ℤ} → Kept P f zs → (i : ℕ) → LineRoom (cell zs i)
  restore_ready z i = omega (arith, lines_small P A.most z i)

  -- us is the copy of the weights, hs and ks are the two spectra, cs their combination, zs its spectrum
  pub path_taken : {us hs ks cs zs ys : List ℤ} → us ≡ ws → Spectrum P us ks → Spectrum P xs hs → Stands FIRST (length hs) (combined (length hs) hs ks) cs →
      Spectrum P cs zs → ys ≡ map (restored P) zs → ys ≡ smoothed CHOSEN P xs ws
  path_taken {us} {hs} {ks} {cs} {zs} {ys} copied k h s z out = smoothed_by CHOSEN P xs ws hs ks zs ys z.long (stands_≈ h) (rw copied at (stands_≈ k))
      (λ i l. stands_≈ z i l ⊙ transformed_≈ (cosine_at CHOSEN) (sine_at CHOSEN) P cs (tabulate (2 ^ P) (combined (2 ^ P) hs ks)) same_lines i) out
    where
      same_lines : (i : ℕ) → i < 2 ^ P → cell cs i ≈ cell (tabulate (2 ^ P) (combined (2 ^ P) hs ks)) i
      same_lines i l = (rw h.long at (stands_≈ s i (omega (arith, h.long)))) ⊙ ≈-is (sym (get_d_tabulate (2 ^ P) (combined (2 ^ P) hs ks) (pos 0) i l))
