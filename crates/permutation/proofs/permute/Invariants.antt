use mathlib.Core.Path.{◌≡◌}
use mathlib.Core.List.{List}
use Prim.Native.Nat.{ℕ, ◌-◌, ◌^◌}
use lib.IntN.{ℤ}
use Rattle.ints.specs.Cells.{cell}
use Rattle.spectrum.specs.Levels.{reversed}
use Rattle.spectrum.proofs.Reversal.{reversed-lt, reversed-twice}
use Rattle.permutation.proofs.Fours.{Fours}
use Rattle.permutation.proofs.permute.Given as goal

abbrev pub Exchanged : ℕ → (ℕ → ℤ) → ℕ → List ℤ → Type 0
Exchanged Q x k ys = Fours (2 ^ Q) (reversed Q) (λ u h. reversed-lt Q u) (reversed-twice Q) x k ys

abbrev pub invariant-loop-u : goal.invariant-loop-u
invariant-loop-u l = (l.r ≡ reversed (l.p - 2) l.u) × Exchanged (l.p - 2) (cell l.initial.cells) l.u l.cells
