-- `half_angle` is right because 2^60 and a cosine add up to a number of at most 62 bits that is not negative, and (2^60 + G) × 2^59 is 2 (2^60 + G) × 4^29.
use mathlib.Core.Path.{◌≡◌, sym, ◌∙◌, ap}
use mathlib.Core.List.{[], ◌∷◌}
use Prim.Native.Nat.{ℕ, ◌*◌, ◌^◌, ◌≤◌}
use native.Mathlib.Omega.{arith}
use lib.IntN.{ℤ, pos, nat_abs, ◌+ℤ◌}
use lib.Signed.{yes_non_neg}
use mir.Syntax.{w64}
use mir.Val.{to_z, of_z}
use Rattle.ints.proofs.Abs.{abs_fact, abs_plus}
use Rattle.ints.proofs.Fit.{fits, reads_back}
use Rattle.ints.proofs.Order.{◌≼◌, le_goal}
use Rattle.ints.proofs.Ring.{quotes}
use Rattle.cosine.specs.Root.{root}
use Rattle.table_rule.proofs.Rule.{radicand}
use Rattle.table_rule.proofs.half_angle.Goals as goal

module _ (G : ℤ) (h : nat_abs G ≤ 2 ^ 60) where
  small : nat_abs (pos (2 ^ 60) +ℤ G) ≤ 2 ^ 61
  small = omega (arith, abs_plus (pos (2 ^ 60)) G)

  not_negative : pos 0 ≼ pos (2 ^ 60) +ℤ G
  not_negative = let Γ = G ∷ [] in le_goal Γ (search quotes) (omega (arith, abs_fact Γ G (search quotes)))

  given : to_z w64 (of_z w64 G) ≡ G
  given = reads_back G (2 ^ 60) (omega arith) h

  -- the sum, read back as the machine has it
  summed : to_z w64 (of_z w64 (pos (2 ^ 60) +ℤ to_z w64 (of_z w64 G))) ≡ pos (2 ^ 60) +ℤ G
  summed = rw given (reads_back (pos (2 ^ 60) +ℤ G) (2 ^ 61) (omega arith) small)

paired : (a : ℕ) → 2 * a * 4 ^ 29 ≡ a * 2 ^ 59
paired a = omega arith

pub overflow_add-twice : goal.overflow_add-twice
overflow_add-twice c = rw (given _ c.requires) (fits _ (omega (arith, small c.args.twice c.requires)))

pub overflow_cast-twice : goal.overflow_cast-twice
overflow_cast-twice c = rw (summed _ c.requires) (yes_non_neg (not_negative c.args.twice c.requires), record { fits = omega (arith, small c.args.twice c.requires) })

pub overflow_mul-twice : goal.overflow_mul-twice
overflow_mul-twice c = rw (summed _ c.requires) (record { fits = omega (arith, small c.args.twice c.requires) })

pub returns : goal.returns
returns c = c.long_root.ensures ∙ rw (summed _ c.requires) (ap root (paired (nat_abs (pos (2 ^ 60) +ℤ c.args.twice)) ∙ sym (radicand 60 (omega arith) c.args.twice)))
