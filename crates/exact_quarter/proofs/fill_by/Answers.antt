-- `fill_by` is right because the angle's are cosine and sine of entry j's angle, and that sine is the cosine of the angle of entry last − j.
use mathlib.Core.Path.{◌≡◌, sym, ◌∙◌, ap, ap₂}
use mathlib.Core.List.{List}
use Prim.Native.Nat.{ℕ, ◌+◌, ◌*◌, ◌-◌, ◌/◌, ◌^◌, ◌≤◌, ◌<◌}
use native.Mathlib.Nat.{add-mul, mul-div_cancel_left}
use native.Mathlib.Omega.{arith}
use lib.IntN.{ℤ, pos, ◌+ℤ◌, ◌-ℤ◌, ◌*ℤ◌}
use lib.ListN.{length, set}
use lib.Pow.{pow_pos, pow-add, pow_mono}
use Rattle.ints.specs.Tabulate.{tabulate}
use Rattle.residues.specs.Residue.{centred, residue}
use Rattle.exact_pair.specs.Pair.{cosine_step, quarter_of}
use Rattle.exact_quarter.specs.Stepping.{Fills}
use Rattle.exact_quarter.proofs.Products.{read, small_back}
use Rattle.exact_quarter.proofs.Ends.{ends_none, ends_next, ends_all}
use Rattle.exact_quarter.proofs.Steps.{at_small, cosine_none, sine_none, sine-is-cosine, step_next}
use Rattle.exact_quarter.proofs.fill_by.Invariants.{Reached}
use Rattle.exact_quarter.proofs.fill_by.Goals as goal

-- ---- entry j is next: neighbouring entries are `apart` steps apart, c and s belong to entry j, and the entries outside are filled

quarter-spans : (t : ℕ) → t ≤ 8 → 2 ^ t * 2 ^ (8 - t) ≡ 256
quarter-spans t h = sym (pow-add 2 t (8 - t)) ∙ ap (λ (n : ℕ). 2 ^ n) eight
  where
    eight : t + (8 - t) ≡ 8
    eight = omega arith

reached-first : {xs : List ℤ} {cosine sine : ℤ} → (F : Fills xs cosine sine) (last : ℕ) → last + 1 ≡ length xs → Reached last cosine sine 0 (pos 1) (pos 0) xs
reached-first {xs} F last e = record {
  apart = 2 ^ (8 - F.t);
  spans = rw all (quarter-spans F.t F.most);
  between = record { cosine = F.cosine; sine = F.sine };
  here = rw none (record { cosine = sym cosine_none; sine = sym sine_none });
  ends = ends_none _ last xs (sym e);
}
  where
    all : last ≡ 2 ^ F.t
    all = omega (arith, e, F.long)

    none : 0 * 2 ^ (8 - F.t) ≡ 0
    none = omega arith

-- what is left to the quarter from entry j is the angle of entry last − j
mirrored : (last j apart : ℕ) → last * apart ≡ 256 → j ≤ last → j * apart + (last - j) * apart ≡ 256
mirrored last j apart e h = sym (add-mul j (last - j) apart) ∙ ap (λ (n : ℕ). n * apart) whole ∙ e
  where
    whole : j + (last - j) ≡ last
    whole = omega arith

one_further : (j apart : ℕ) → (j + 1) * apart ≡ j * apart + apart
one_further j apart = omega arith

module _ {last : ℕ} {cosine sine : ℤ} {j : ℕ} {c s : ℤ} {xs : List ℤ} (R : Reached last cosine sine j c s xs) where
  reached-next : 2 * j ≤ last → {x y : ℤ} → x ≡ centred (residue (c *ℤ cosine -ℤ s *ℤ sine)) → y ≡ centred (residue (c *ℤ sine +ℤ s *ℤ cosine)) →
      Reached last cosine sine (j + 1) x y (set (set xs j (read c)) (last - j) (read s))
  reached-next h e f = rw (small_back c (at_small R.here).0, small_back s (at_small R.here).1) (record {
    apart = R.apart;
    spans = R.spans;
    between = R.between;
    here = step_next R.here R.between e f _ (one_further j R.apart);
    ends = ends_next _ last j xs c s h R.here.cosine (R.here.sine ∙ sine-is-cosine (j * R.apart) ((last - j) * R.apart) (mirrored last j R.apart R.spans (omega arith))) R.ends;
  })

  reached-all : last < 2 * j → (t : ℕ) → t ≤ 8 → last ≡ 2 ^ t → xs ≡ quarter_of t
  reached-all h t few e = ends_all _ last j xs h R.ends ∙ ap₂ (λ (n apart : ℕ). tabulate (n + 1) (λ j. cosine_step (j * apart))) e same-apart
    where
      same-apart : R.apart ≡ 2 ^ (8 - t)
      same-apart = sym (mul-div_cancel_left R.apart (pow_pos t)) ∙ ap (λ (n : ℕ). n / 2 ^ t) (rw e at R.spans ∙ sym (quarter-spans t few)) ∙ mul-div_cancel_left (2 ^ (8 - t)) (pow_pos t)

pub overflow_sub-last : goal.overflow_sub-last
overflow_sub-last c = omega (arith, c.requires.long)

pub loop-j-init : goal.loop-j-init
loop-j-init c = (
  omega (arith, c.requires.long, pow_mono {i = c.requires.t} {j = 8} c.requires.most),
  reached-first c.requires _ (omega (arith, c.requires.long)),
)

pub loop-j-preserved : goal.loop-j-preserved
loop-j-preserved c = let l = c.loop-j in (l.invariant.0, reached-next l.invariant.1 (omega (arith, c.loop-j-test.true)) c.plus-angle.ensures.cosine c.plus-angle.ensures.sine)

pub invariant_of-angle : goal.invariant_of-angle
invariant_of-angle c = record { small = at_small c.loop-j.invariant.1.here }

pub returns : goal.returns
returns c = λ t few e. reached-all c.loop-j.invariant.1 (omega (arith, c.loop-j-test.false)) t few (omega (arith, e))
