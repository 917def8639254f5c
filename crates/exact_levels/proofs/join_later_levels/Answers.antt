-- `join_later_levels` is right because after each round the cells stand for those after one more level.
use mathlib.Core.Path.{◌≡◌, sym, ◌∙◌, ap, subst}
use mathlib.Core.List.{List}
use Prim.Native.Nat.{ℕ, suc, ◌+◌, ◌*◌, ◌-◌, ◌^◌, ◌≤◌, ◌<◌}
use native.Mathlib.Numerals.{add-one}
use native.Mathlib.Decide.{dec_lt}
use native.Mathlib.Omega.{arith}
use lib.IntN.{ℤ, pos}
use lib.ListN.{length, get_or-eq_default}
use Rattle.ints.specs.Cells.{cell}
use Rattle.ints.proofs.Powers.{two_pow}
use Rattle.spectrum.proofs.Stages.{length-levels, levels-cell}
use Rattle.residues.specs.Residue.{residue}
use Rattle.residues.proofs.Congruent.{◌≈◌, ≈-is}
use Rattle.residues.proofs.Residues.{same-residue, of_residues}
use Rattle.turns.specs.Turn.{CHOSEN, cosine_at, sine_at}
use Rattle.exact.proofs.Path.{level_lines_≈}
use Rattle.exact_pair.specs.Pair.{FIRST, Stands}
use Rattle.exact_levels.specs.Ready.{LaterReady, LevelReady, exact_joined, exact_levels}
use Rattle.exact_levels.proofs.Powers.{power_divides}
use Rattle.exact_levels.proofs.join_later_levels.Invariants.{Behind}
use Rattle.exact_levels.proofs.join_later_levels.Goals as goal

-- ---- one level more

-- cells that stand for as many others are congruent to them at every place: past the end both are 0
everywhere-≈ : {b N : ℕ} {ys : List ℤ} (zs : List ℤ) → length zs ≡ N → Stands b N (cell zs) ys → (i : ℕ) → cell ys i ≈ cell zs i
everywhere-≈ {b} {N} {ys} zs e Z i = go (dec_lt i N)
  where
    go : Dec (i < N) → cell ys i ≈ cell zs i
    go (yes l) = of_residues (Z.same i l)
    go (no k) = ≈-is (get_or-eq_default ys (pos 0) {n = i} (omega (arith, Z.long)) ∙ sym (get_or-eq_default zs (pos 0) {n = i} (omega arith)))

next_level : {a b N : ℕ} (L : ℕ) (xs : List ℤ) {cells ys : List ℤ} → length xs ≡ N → Stands a N (cell (exact_levels L xs)) cells → Stands b (length cells) (exact_joined (2 ^ L) (cell cells)) ys →
    Stands b N (cell (exact_levels (suc L) xs)) ys
next_level L xs {cells} {ys} e Z Y = record {
  long = Y.long ∙ Z.long;
  same = λ i h. Y.same i (omega (arith, Z.long)) ∙ same-residue (level_lines_≈ (cosine_at CHOSEN) (sine_at CHOSEN) (2 ^ L) (cell cells) (cell (exact_levels L xs)) (everywhere-≈ (exact_levels L xs) (levels-long ∙ e) Z) i)
      ∙ ap residue (sym (levels-cell (λ z. z) (cosine_at CHOSEN) (sine_at CHOSEN) L xs i (omega arith)));
  small = Y.small;
}
  where
    levels-long : length (exact_levels L xs) ≡ length xs
    levels-long = length-levels (λ z. z) (cosine_at CHOSEN) (sine_at CHOSEN) L xs

-- ---- levels 1 to L are behind the cells

module _ {P : ℕ} {quarter before : List ℤ} (R : LaterReady P quarter before) {L : ℕ} {cells : List ℤ} (B : Behind P L before cells) where
  level-ready : 2 ≤ L → L < P → length cells ≡ length before → LevelReady L quarter cells
  level-ready least less long = record {
    least = omega arith;
    t = P - 2;
    within = omega arith;
    most = omega (arith, R.most);
    at_quarter = R.at_quarter;
    whole = rw (long ∙ R.long, sym (two_pow L)) (power_divides (suc L) P less);
    small = B.small;
  }

  level-behind : (ys : List ℤ) → Stands (2 * 2 ^ L * FIRST) (length cells) (exact_joined (2 ^ L) (cell cells)) ys → Behind P (L + 1) before ys
  level-behind ys Y = rw (add-one L) (record { small = Z.small; behind = λ xs e h. next_level L xs e (B.behind xs e h) Z })
    where
      Z : Stands (2 ^ suc L * FIRST) (length cells) (exact_joined (2 ^ L) (cell cells)) ys
      Z = rw (two_pow L) Y

  all-behind : L ≡ P → (xs : List ℤ) → length xs ≡ 2 ^ P → Stands (4 * FIRST) (2 ^ P) (cell (exact_levels 2 xs)) before → Stands (2 ^ P * FIRST) (2 ^ P) (cell (exact_levels P xs)) cells
  all-behind last xs e Z = subst (λ (m : ℕ). Stands (2 ^ m * FIRST) (2 ^ P) (cell (exact_levels m xs)) cells) last (B.behind xs e Z)

pub loop-done-init : goal.loop-done-init
loop-done-init c = record { small = c.requires.small; behind = λ xs e Z. Z }

pub join_level-requires : goal.join_level-requires
join_level-requires c = let l = c.loop-done in level-ready c.requires l.invariant l.auto.done c.loop-done-test.true l.auto.cells

pub loop-done-preserved : goal.loop-done-preserved
loop-done-preserved c = level-behind c.requires c.loop-done.invariant _ c.join_level.ensures

pub returns : goal.returns
returns c = let l = c.loop-done in all-behind c.requires l.invariant (omega (arith, l.auto.done-end c.requires.least, c.loop-done-test.false))
