-- `permute` is right because each pair of partners is exchanged once, and the partners of four places lie as their numbers' reversed digits say.
use mathlib.Core.Path.{◌≡◌, sym, ◌∙◌, ap, subst}
use Prim.Native.Nat.{ℕ, suc, ◌*◌, ◌-◌, ◌/◌, ◌^◌, ◌≤◌, ◌<◌}
use native.Mathlib.Omega.{arith}
use lib.ListN.{length}
use lib.Pow.{pow_mono}
use Rattle.ints.proofs.Powers.{two_pow_pred}
use Rattle.ints.specs.Cells.{cell}
use Rattle.spectrum.specs.Levels.{permuted, reversed}
use Rattle.spectrum.proofs.Reversal.{reversed_zero, reversed-lt, reversed-twice}
use Rattle.permutation.proofs.Fours.{none_exchanged, fours_next, all_exchanged}
use Rattle.permutation.proofs.permute.Invariants.{Exchanged}
use Rattle.permutation.proofs.permute.Goals as goal

four : (p : ℕ) → 2 ≤ p → 2 ^ p ≡ 4 * 2 ^ (p - 2)
four p h = two_pow_pred p (omega arith) ∙ ap (λ (y : ℕ). 2 * y) (two_pow_pred (p - 1) (omega arith)) ∙ same (2 ^ (p - 1 - 1)) ∙ ap (λ (k : ℕ). 4 * 2 ^ k) back
  where
    same : (y : ℕ) → 2 * (2 * y) ≡ 4 * y
    same y = omega arith

    back : p - 1 - 1 ≡ p - 2
    back = omega arith

digits : (p : ℕ) → 2 ≤ p → suc (suc (p - 2)) ≡ p
digits p h = omega arith

-- ---- how many cells there are

record Sizes (p many : ℕ) : Type 0 where
  whole : many ≡ 4 * 2 ^ (p - 2)
  half : many / 2 ≡ 2 * 2 ^ (p - 2)
  quarter : many / 2 / 2 ≡ 2 ^ (p - 2)
  two_halves : 4 * 2 ^ (p - 2) ≡ 2 * (many / 2)
  few : many / 2 ≤ 512

sizes : (p many : ℕ) → 2 ≤ p → p ≤ 10 → many ≡ 2 ^ p → Sizes p many
sizes p many a b e = let w : many ≡ 4 * 2 ^ (p - 2) = e ∙ four p a in
    record { whole = w; half = omega arith; quarter = omega arith; two_halves = omega arith; few = omega (arith, e, pow_mono {i = p} {j = 10} b) }

pub loop-u-init : goal.loop-u-init
loop-u-init c = let s = sizes c.args.p (length c.args.cells.now) c.requires.0 c.requires.1 c.requires.2 in (sym (reversed_zero (c.args.p - 2)), none_exchanged _ _ _ _ c.args.cells.now s.whole)

pub exchange_four-requires : goal.exchange_four-requires
exchange_four-requires c =
    let at : Sizes c.args.p (length c.args.cells.now) = sizes c.args.p (length c.args.cells.now) c.requires.0 c.requires.1 c.requires.2 in
    let l = c.loop-u in let turned = rw (sym l.invariant.0) at (reversed-lt (c.args.p - 2) l.u) in
    (l.invariant.1.long ∙ at.two_halves, omega (arith, at.half, at.quarter), omega (arith, turned, at.half), at.few)

pub next_reversed-r-requires : goal.next_reversed-r-requires
next_reversed-r-requires c =
    let at : Sizes c.args.p (length c.args.cells.now) = sizes c.args.p (length c.args.cells.now) c.requires.0 c.requires.1 c.requires.2 in
    omega (arith, at.few)

pub loop-u-preserved : goal.loop-u-preserved
loop-u-preserved c =
    let at : Sizes c.args.p (length c.args.cells.now) = sizes c.args.p (length c.args.cells.now) c.requires.0 c.requires.1 c.requires.2 in
    let below : c.loop-u.u < 2 ^ (c.args.p - 2) = omega (arith, at.quarter) in
    let l = c.loop-u in let Q = c.args.p - 2 in (
      c.next_reversed-r.ensures Q l.u (ap (λ (n : ℕ). n / 2) at.quarter) l.invariant.0,
      fours_next (2 ^ Q) (reversed Q) (λ u h. reversed-lt Q u) (reversed-twice Q) (cell c.args.cells.now) l.u l.cells below l.invariant.1 l.r _ _ l.invariant.0 at.half c.exchange_four.ensures,
    )

pub returns : goal.returns
returns c = let l = c.loop-u in let Q = c.args.p - 2 in let z = sizes c.args.p (length c.args.cells.now) c.requires.0 c.requires.1 c.requires.2 in
    all_exchanged Q c.args.cells.now l.cells (subst (λ (k : ℕ). Exchanged Q (cell c.args.cells.now) k l.cells) (omega (arith, z.quarter)) l.invariant.1)
    ∙ ap (λ (P : ℕ). permuted P c.args.cells.now) (digits c.args.p c.requires.0)
