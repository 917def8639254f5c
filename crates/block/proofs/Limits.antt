-- The limits that a call hands on are those of its definition, by two computed tests.
use mathlib.Core.Path.{◌≡◌, ◌∙◌, ap₂}
use mathlib.Core.List.{List}
use Prim.Native.Nat.{ℕ}
use lib.Dec.{T}
use lib.IntN.{ℤ}
use Rattle.std.specs.Prelude.{Result}
use Rattle.ints.proofs.Order.{equal, equal_is}
use Rattle.block.specs.Tests.{tested}
use Rattle.kind.specs.declared.BlockKind.{BlockKind}
use Rattle.refusal.specs.declared.Refusal.{Refusal}

-- l and h, which are handed on, are low and high
pub by_limits : {k : Result BlockKind Refusal} (low high l h : ℤ) (outputs : List ℕ) (xs : List ℤ) → k ≡ tested l h outputs xs → T (equal l low) → T (equal h high) → k ≡ tested low high outputs xs
by_limits low high l h outputs xs e t u = e ∙ ap₂ (λ (l h : ℤ). tested l h outputs xs) (equal_is l low t) (equal_is h high u)
