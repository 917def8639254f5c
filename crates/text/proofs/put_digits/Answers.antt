-- `put_digits` is right because each turn puts the last of the digits that are left, and the others, put from `at` on, make the whole number.
use mathlib.Core.Path.{◌≡◌, sym, ◌∙◌}
use mathlib.Core.List.{List, [], ◌∷◌, ◌++◌}
use Prim.Native.Nat.{ℕ, ◌+◌, ◌-◌, ◌/◌, ◌%◌, ◌≤◌, ◌<◌}
use native.Mathlib.Omega.{arith}
use lib.ListN.{length, set, length-set, length-append}
use Rattle.std.proofs.lemmas.List.{nil_from_length}
use Rattle.ints.specs.Written.{written}
use Rattle.ints.proofs.Writing.{written_none, written_one, written_before}
use Rattle.text.specs.Decimals.{decimal, digit}
use Rattle.text.proofs.Laws.{front_digits, decimal-is, front_digits-are}
use Rattle.text.proofs.put_digits.Invariants.{Left}
use Rattle.text.proofs.put_digits.Goals as goal

module _ {x : ℕ} {before now : List ℕ} {at from rest : ℕ} (l : Left x before at now from rest) where
  -- the last of them, d, was put at j
  next : (j d : ℕ) → at < from → j ≡ from - 1 → d ≡ digit (rest % 10) → Left x before at (set now j d) j (rest / 10)
  next j d h ej ed = record {
    left = front_digits rest;
    are = λ more. front_digits-are rest (omega (arith, place-now));
    place = place-now;
    inside = simp length-set (omega (arith, l.inside));
    whole = last_then ∙ rw (ed, ← (decimal-is rest), ← (l.are h)) l.whole;
  }
    where
      place-now : j ≡ at + length (front_digits rest)
      place-now = omega (arith, l.place, rw (l.are h, decimal-is rest, length-append) at l.place)

      last_then : written (set now j d) at (front_digits rest) ≡ written now at (front_digits rest ++ (d ∷ []))
      last_then = rw (written_one now j d (omega (arith, l.inside)), place-now) (written_before now at (front_digits rest) (d ∷ []) (omega (arith, l.inside, place-now)))

  all_put : from ≤ at → now ≡ written before at (decimal x)
  all_put h = let none = nil_from_length l.left (omega (arith, l.place)) in sym (written_none now at) ∙ rw none at l.whole

pub loop-i-preserved : goal.loop-i-preserved
loop-i-preserved c = next c.loop-i.invariant _ _ (omega arith) (omega arith) (omega arith)

pub returns : goal.returns
returns c = all_put c.loop-i.invariant (omega arith)
