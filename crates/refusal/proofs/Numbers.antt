-- The number of a refusal is not 0 and fits one byte, and it is never 13, which was given for what 17, 18 and 19 now tell apart.
-- Example: `never_13 refusal e : ⊥`, with e : number refusal ≡ 13.
use mathlib.Core.Path.{◌≡◌}
use Prim.Native.Nat.{◌≤◌, ◌<◌}
use native.Mathlib.Omega.{arith}
use Rattle.refusal.specs.declared.Refusal.{Refusal}
use Rattle.refusal.specs.declared.Refusal.TheVariants.{Length, Misfit, Loud, Line, Long, Cut, Kind, Size, Head, Absent, Headless, SecondHead, Tail, Weights}
use Rattle.refusal.specs.RefusalTable.{number}

pub number_fits : (refusal : Refusal) → (1 ≤ number refusal) × (number refusal < 256)
number_fits Length = (omega arith, omega arith)
number_fits Misfit = (omega arith, omega arith)
number_fits (Loud cell) = (omega arith, omega arith)
number_fits (Line line) = (omega arith, omega arith)
number_fits Long = (omega arith, omega arith)
number_fits (Cut byte) = (omega arith, omega arith)
number_fits (Kind byte) = (omega arith, omega arith)
number_fits (Size byte) = (omega arith, omega arith)
number_fits (Head byte) = (omega arith, omega arith)
number_fits (Absent block) = (omega arith, omega arith)
number_fits (Headless byte) = (omega arith, omega arith)
number_fits (SecondHead byte) = (omega arith, omega arith)
number_fits (Tail byte) = (omega arith, omega arith)
number_fits (Weights weight) = (omega arith, omega arith)

pub never_13 : (refusal : Refusal) → number refusal ≡ 13 → ⊥
never_13 Length e = omega arith
never_13 Misfit e = omega arith
never_13 (Loud cell) e = omega arith
never_13 (Line line) e = omega arith
never_13 Long e = omega arith
never_13 (Cut byte) e = omega arith
never_13 (Kind byte) e = omega arith
never_13 (Size byte) e = omega arith
never_13 (Head byte) e = omega arith
never_13 (Absent block) e = omega arith
never_13 (Headless byte) e = omega arith
never_13 (SecondHead byte) e = omega arith
never_13 (Tail byte) e = omega arith
never_13 (Weights weight) e = omega arith
