-- `centred` is right because a number that is folded twice lies between −3 and 2^31 + 2, so that one comparison tells for which number it stands.
use borrow.Author.Rules.{sfits_of}
use mathlib.Core.Path.{◌≡◌, sym, ◌∙◌, ap}
use mathlib.Core.Bool.{true, false}
use mathlib.Core.List.{[], ◌∷◌}
use Prim.Native.Nat.{ℕ, ◌+◌, ◌^◌, ◌<◌}
use native.Mathlib.Omega.{arith}
use lib.IntN.{ℤ, pos, nat_abs, ◌-ℤ◌}
use lib.Signed.{lt_z, lt_z_yes, lt_z_no}
use mir.Facts.{to_z-of_z}
use mir.Syntax.{w64}
use mir.Val.{SFits, to_z, of_z}
use Rattle.ints.proofs.Abs.{abs_fact}
use Rattle.ints.proofs.Fit.{fits}
use Rattle.ints.proofs.Order.{◌≼◌, ◌≺◌, le_fact, lt_fact}
use Rattle.ints.proofs.Ring.{quotes}
use Rattle.residues.specs.Residue.{MODULUS, centred, residue}
use Rattle.residues.specs.Folded.{folded}
use Rattle.residues.proofs.Congruent.{◌≈◌, ◌⊙◌, ≈-is, ≈-sym}
use Rattle.residues.proofs.Residues.{residue_≈, residue-lt, is-centred, shifted}
use Rattle.residues.proofs.Folding.{Range, fits_small, folded_≈, twice-folded}
use Rattle.residues.proofs.centred.Goals as goal

-- k less 3 stands for itself below 2^30, and else for itself less the modulus
module _ (k : ℕ) (less : k < 2 ^ 31 + 6) where
  below_half : lt_z (pos k -ℤ pos 3) (pos (2 ^ 30)) ≡ true → nat_abs (pos k -ℤ pos 3) < 2 ^ 30
  below_half t = let Γ = pos k ∷ [] in let h : pos k -ℤ pos 3 ≺ pos (2 ^ 30) = lt_z_yes (rw t tt) in
      omega (arith, lt_fact Γ h (search quotes), abs_fact Γ (pos k -ℤ pos 3) (search quotes))

  above_half : lt_z (pos k -ℤ pos 3) (pos (2 ^ 30)) ≡ false → nat_abs (pos k -ℤ pos 3 -ℤ pos MODULUS) < 2 ^ 30
  above_half t = let Γ = pos k ∷ [] in let h : pos (2 ^ 30) ≼ pos k -ℤ pos 3 = lt_z_no (rw t tt) in
      omega (arith, le_fact Γ h (search quotes), abs_fact Γ (pos k -ℤ pos 3 -ℤ pos MODULUS) (search quotes))

module _ (x : ℤ) (f : SFits w64 x) (near : ℤ) (e : near ≡ folded (folded x)) where
  range : Range 3 (folded x)
  range = twice-folded x (fits_small x f)

  near-≈ : pos (residue x) ≈ near
  near-≈ = residue_≈ x ⊙ ≈-sym (≈-is e ⊙ folded_≈ (folded x) ⊙ folded_≈ x)

  low : lt_z near (pos (2 ^ 30)) ≡ true → near ≡ centred (residue x)
  low t = sym (is-centred (residue x) near (residue-lt x) (rw at (below_half range.k range.less (rw at at t))) near-≈)
    where
      at : near ≡ pos range.k -ℤ pos 3
      at = e ∙ range.is

  high_small : lt_z near (pos (2 ^ 30)) ≡ false → nat_abs (near -ℤ pos MODULUS) < 2 ^ 30
  high_small t = rw at (above_half range.k range.less (rw at at t))
    where
      at : near ≡ pos range.k -ℤ pos 3
      at = e ∙ range.is

  high_fits : lt_z near (pos (2 ^ 30)) ≡ false → SFits w64 (near -ℤ pos MODULUS)
  high_fits t = fits (near -ℤ pos MODULUS) (omega (arith, high_small t))

  high : lt_z near (pos (2 ^ 30)) ≡ false → near -ℤ pos MODULUS ≡ centred (residue x)
  high t = sym (is-centred (residue x) (near -ℤ pos MODULUS) (residue-lt x) (high_small t) (near-≈ ⊙ ≈-sym (shifted near)))

pub overflow_sub-result : goal.overflow_sub-result
overflow_sub-result c =
    let once-back : to_z w64 (of_z w64 c.folded.result) ≡ c.folded.result = to_z-of_z {w = w64} (sfits_of c.folded.type_inv) in
    let back : to_z w64 (of_z w64 c.folded-near.result) ≡ c.folded-near.result = to_z-of_z {w = w64} (sfits_of c.folded-near.type_inv) in
    let told : c.folded-near.result ≡ folded (folded c.args.x) = (simp once-back at c.folded-near.ensures) ∙ ap folded (simp (to_z-of_z c.ranges.x) at c.folded.ensures) in
    rw back (high_fits c.args.x c.ranges.x _ told (rw back at c.if-near-lt-UPPER_HALF.false))

pub returns-then-near-lt-UPPER_HALF : goal.returns-then-near-lt-UPPER_HALF
returns-then-near-lt-UPPER_HALF c =
    let once-back : to_z w64 (of_z w64 c.folded.result) ≡ c.folded.result = to_z-of_z {w = w64} (sfits_of c.folded.type_inv) in
    let back : to_z w64 (of_z w64 c.folded-near.result) ≡ c.folded-near.result = to_z-of_z {w = w64} (sfits_of c.folded-near.type_inv) in
    let told : c.folded-near.result ≡ folded (folded c.args.x) = (simp once-back at c.folded-near.ensures) ∙ ap folded (simp (to_z-of_z c.ranges.x) at c.folded.ensures) in
    rw back (low c.args.x c.ranges.x _ told (rw back at c.if-near-lt-UPPER_HALF.true))

pub returns-else-near-lt-UPPER_HALF : goal.returns-else-near-lt-UPPER_HALF
returns-else-near-lt-UPPER_HALF c =
    let once-back : to_z w64 (of_z w64 c.folded.result) ≡ c.folded.result = to_z-of_z {w = w64} (sfits_of c.folded.type_inv) in
    let back : to_z w64 (of_z w64 c.folded-near.result) ≡ c.folded-near.result = to_z-of_z {w = w64} (sfits_of c.folded-near.type_inv) in
    let told : c.folded-near.result ≡ folded (folded c.args.x) = (simp once-back at c.folded-near.ensures) ∙ ap folded (simp (to_z-of_z c.ranges.x) at c.folded.ensures) in
    let t = rw back at c.if-near-lt-UPPER_HALF.false in
    rw (back, to_z-of_z (high_fits c.args.x c.ranges.x _ told t)) (high c.args.x c.ranges.x _ told t)
