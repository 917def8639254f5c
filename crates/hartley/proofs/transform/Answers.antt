-- `transform` is right because it permutes and runs the levels, for which the magnitude law gives room.
use mathlib.Core.Path.{◌≡◌, ◌∙◌, ap}
use mathlib.Core.List.{List}
use Prim.Native.Nat.{ℕ, ◌^◌}
use native.Mathlib.Omega.{arith}
use lib.IntN.{ℤ}
use Rattle.block.specs.Transformable.{Transformable}
use Rattle.spectrum.specs.Spectrum.{forward}
use Rattle.hartley.proofs.Steps.{steps, levels_can_run}
use Rattle.hartley.proofs.transform.Goals as goal

-- eight cells
eight : {P : ℕ} {xs : List ℤ} → Transformable P xs → P ≡ 3 → Transformable 3 xs
eight t e = record { least = omega arith; most = omega arith; long = t.long ∙ ap (λ (P : ℕ). 2 ^ P) e; quiet = t.quiet }

pub transform_eight-requires : goal.transform_eight-requires
transform_eight-requires c = eight c.requires (omega arith)

pub run_levels-requires : goal.run_levels-requires
run_levels-requires c = levels_can_run c.requires c.permute.ensures (omega arith)

pub returns-then-p-eq3 : goal.returns-then-p-eq3
returns-then-p-eq3 c = let three : 3 ≡ c.args.p = omega arith in c.transform_eight.ensures ∙ ap (λ (P : ℕ). forward P c.args.cells.now) three

pub returns-else-p-eq3 : goal.returns-else-p-eq3
returns-else-p-eq3 c = c.run_levels.ensures ∙ steps c.args.p c.args.cells.now _ c.permute.ensures
