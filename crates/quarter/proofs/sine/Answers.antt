-- `sine` is right because whole turns leave the cosine as it is.
use mir.Syntax.{w64}
use borrow.Author.Rules.{sfits_of}
use mathlib.Core.Path.{◌≡◌, sym, ◌∙◌, ap}
use Prim.Native.Nat.{ℕ, ◌+◌, ◌*◌, ◌/◌}
use native.Mathlib.Omega.{arith}
use mir.Facts.{to_z-of_z}
use Rattle.cosine.specs.Cosine.{cosine, sine}
use Rattle.cosine.proofs.Turn.{cosine_periodic}
use Rattle.quarter.proofs.sine.Goals as goal

-- m turns on from i are 768 steps on from the step
back : (F : ℕ → ℕ) (i step m : ℕ) → i + m * 1024 ≡ step + 768 → cosine F i ≡ sine F step
unfolding sine
back F i step m e = sym (cosine_periodic F i m) ∙ ap (cosine F) e

pub returns : goal.returns
returns c = to_z-of_z {w = w64} (sfits_of c.cosine.type_inv) ∙ c.cosine.ensures ∙ back _ _ c.args.step (c.args.step / 1024) (omega arith)
