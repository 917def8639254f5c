-- `join_levels` is right because the first three levels and those after them are all.
use mathlib.Core.Path.{◌≡◌, ◌∙◌, ap}
use mathlib.Core.List.{List}
use Prim.Native.Nat.{ℕ, ◌+◌, ◌*◌, ◌-◌, ◌^◌, ◌≤◌}
use native.Mathlib.Nat.{mul-mod_left}
use native.Mathlib.Omega.{arith}
use lib.IntN.{ℤ}
use lib.ListN.{length}
use lib.Pow.{pow-add}
use Rattle.spectrum.specs.Spectrum.{levels_at}
use Rattle.levels.specs.Ready.{LaterReady, Ready}
use Rattle.levels.proofs.Blocks.{levels_keep, serves_fewer}
use Rattle.levels.proofs.join_levels.Goals as goal

-- 2^P cells that are ready for all levels are ready for fewer
ready-fewer : {s P : ℕ} {quarter : List ℕ} {xs : List ℤ} → Ready s P quarter xs → length xs ≡ 2 ^ P → (L : ℕ) → L ≤ P → Ready s L quarter xs
ready-fewer {s} {P} R long L le = record {
  table = serves_fewer R.table L le;
  whole = rw (long ∙ whole) (mul-mod_left (2 ^ (P - L)) (2 ^ L));
  room = λ l less. R.room l (omega arith);
}
  where
    sum : P ≡ P - L + L
    sum = omega arith

    whole : 2 ^ P ≡ 2 ^ (P - L) * 2 ^ L
    whole = ap (λ (k : ℕ). 2 ^ k) sum ∙ pow-add 2 (P - L) L

later-ready : {s P : ℕ} {quarter : List ℕ} {xs ys : List ℤ} → Ready s P quarter xs → length xs ≡ 2 ^ P → 3 ≤ P → ys ≡ levels_at s 3 xs → LaterReady s P quarter ys
later-ready {s} {P} {quarter} {xs} {ys} R long least e = record {
  least = least;
  most = omega (arith, R.table.enough, R.table.most);
  long = ap length e ∙ levels_keep s 3 xs ∙ long;
  xs = xs;
  behind = e;
  ready = R;
}

pub join_first_levels-requires : goal.join_first_levels-requires
join_first_levels-requires c = ready-fewer c.requires.2 c.requires.1 3 c.requires.0

pub join_later_levels-requires : goal.join_later_levels-requires
join_later_levels-requires c = later-ready c.requires.2 c.requires.1 c.requires.0 c.join_first_levels.ensures

pub returns : goal.returns
returns c = c.join_later_levels.ensures c.args.cells.now c.join_first_levels.ensures
