-- What users rely on: the parts of a spectrum give it back, and the power is half the sum of the squares of the doubled parts.
-- Example: `line-from_parts xs v` says that real part minus imaginary part is twice H(v), and `mirror_from_parts xs v` that plus is twice H(N − v).
use mathlib.Core.Path.{◌≡◌, sym, ◌∙◌, ap, ap₂}
use mathlib.Core.Bool.{Bool, true, false, not}
use mathlib.Core.List.{List, [], ◌∷◌}
use Prim.Native.Nat.{ℕ, ◌+◌, ◌-◌, ◌*◌, ◌/◌, ◌≤◌, ◌<◌}
use native.Mathlib.Omega.{arith}
use lib.Dec.{T, leb, leb→le, nleb→lt}
use lib.IntN.{ℤ, pos, ◌+ℤ◌, ◌-ℤ◌, ◌*ℤ◌}
use lib.ListN.{length, get_or}
use lib.Seq.{ext_get_or}
use Rattle.ints.proofs.Ring.{ring, quotes}
use Rattle.ints.proofs.Order.{eq_fact, eq_goal, pos_inj}
use Rattle.ints.proofs.Tables.{get_d_tabulate}
use Rattle.ints.specs.Cells.{cell}
use Rattle.fourier.specs.declared.Doubled.{Doubled}
use Rattle.fourier.specs.declared.Doubled.TheVariants.{Real, Imaginary}
use Rattle.fourier.specs.Parts.{H, doubled_line, doubled_lines, power, square}
use Rattle.fourier.proofs.Lines.{line_at}
use Rattle.fourier.proofs.Powers.{squares_are}

-- ---- one line

pub line-from_parts : (xs : List ℤ) (v : ℕ) → doubled_line Real xs v -ℤ doubled_line Imaginary xs v ≡ pos 2 *ℤ H xs v
line-from_parts xs v = go (H xs v) (H xs (length xs - v))
  where
    go : (h m : ℤ) → h +ℤ m -ℤ (m -ℤ h) ≡ pos 2 *ℤ h
    go h m = ring (h ∷ m ∷ []) (search quotes depth 20) tt

pub mirror_from_parts : (xs : List ℤ) (v : ℕ) → doubled_line Real xs v +ℤ doubled_line Imaginary xs v ≡ pos 2 *ℤ H xs (length xs - v)
mirror_from_parts xs v = go (H xs v) (H xs (length xs - v))
  where
    go : (h m : ℤ) → h +ℤ m +ℤ (m -ℤ h) ≡ pos 2 *ℤ m
    go h m = ring (h ∷ m ∷ []) (search quotes depth 20) tt

pub power-from_parts : (xs : List ℤ) (v : ℕ) → square (doubled_line Real xs v) + square (doubled_line Imaginary xs v) ≡ 2 * power xs v
power-from_parts xs v = pos_inj (sym (squares_are (h +ℤ m) (m -ℤ h)) ∙ go h m ∙ ap (λ (z : ℤ). pos 2 *ℤ z) (squares_are h m))
  where
    h : ℤ
    h = H xs v

    m : ℤ
    m = H xs (length xs - v)

    go : (h m : ℤ) → (h +ℤ m) *ℤ (h +ℤ m) +ℤ (m -ℤ h) *ℤ (m -ℤ h) ≡ pos 2 *ℤ (h *ℤ h +ℤ m *ℤ m)
    go h m = ring (h ∷ m ∷ []) (search quotes depth 20) tt

-- ---- the whole spectrum: two of the same length with the same parts are the same

halved : (a b : ℤ) → pos 2 *ℤ a ≡ pos 2 *ℤ b → a ≡ b
halved a b e = let Γ = a ∷ b ∷ [] in eq_goal Γ (search quotes) (omega (arith, eq_fact Γ e (search quotes)))

module _ (xs ys : List ℤ) (long : length xs ≡ length ys) (re : doubled_lines Real xs ≡ doubled_lines Real ys) (im : doubled_lines Imaginary xs ≡ doubled_lines Imaginary ys) where
  same_part : (which : Doubled) → doubled_lines which xs ≡ doubled_lines which ys → (v : ℕ) → v ≤ length xs / 2 → doubled_line which xs v ≡ doubled_line which ys v
  same_part which e v h = sym (get_d_tabulate (length xs / 2 + 1) (doubled_line which xs) (pos 0) v (omega arith))
      ∙ ap (λ zs. get_or zs v (pos 0)) e
      ∙ get_d_tabulate (length ys / 2 + 1) (doubled_line which ys) (pos 0) v (omega arith)

  same_line : (v : ℕ) → v ≤ length xs / 2 → H xs v ≡ H ys v
  same_line v h = halved (H xs v) (H ys v) (sym (line-from_parts xs v) ∙ ap₂ ◌-ℤ◌ (same_part Real re v h) (same_part Imaginary im v h) ∙ line-from_parts ys v)

  same_mirror : (v : ℕ) → v ≤ length xs / 2 → H xs (length xs - v) ≡ H ys (length ys - v)
  same_mirror v h = halved (H xs (length xs - v)) (H ys (length ys - v)) (sym (mirror_from_parts xs v) ∙ ap₂ ◌+ℤ◌ (same_part Real re v h) (same_part Imaginary im v h) ∙ mirror_from_parts ys v)

  -- cell i is line i, or the mirror of line N − i
  same-cell : (i : ℕ) → i < length xs → cell xs i ≡ cell ys i
  same-cell i h = line_at xs i h ∙ go (leb i (length xs / 2)) (leb→le i (length xs / 2)) (nleb→lt i (length xs / 2)) ∙ sym (line_at ys i (omega arith))
    where
      go : (t : Bool) → (T t → i ≤ length xs / 2) → (T (not t) → length xs / 2 < i) → H xs i ≡ H ys i
      go true f g = same_line i (f tt)
      go false f g = ap (H xs) (omega arith) ∙ same_mirror (length xs - i) (omega (arith, g tt)) ∙ ap (H ys) (omega arith)

  pub spectrum_from_parts : xs ≡ ys
  spectrum_from_parts = ext_get_or (pos 0) xs ys long same-cell
