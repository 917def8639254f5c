-- `cell_at` is right because the word of the eight bytes from byte 8 i on stands for cell i.
use mathlib.Core.Path.{◌≡◌, refl, sym, ◌∙◌, ap, ap₂}
use mathlib.Core.List.{List}
use Prim.Native.Nat.{ℕ, ◌+◌, ◌-◌, ◌*◌, ◌^◌, ◌≤◌}
use native.Mathlib.Omega.{arith}
use borrow.Author.Rules.{sfits_of}
use lib.IntN.{ℤ}
use lib.ListN.{length, take, drop}
use mir.Facts.{to_z-of_z}
use mir.Syntax.{w64}
use mir.Val.{to_z, of_z}
use Rattle.ints.proofs.Slices.{length_between}
use Rattle.little_endian.specs.Reading.{signed_of_word, signed, unsigned}
use Rattle.cell_bytes.specs.CellBytes.{cell_at}
use Rattle.cell_bytes.proofs.cell_at.Goals as goal

-- the bytes of cell i, from `start` to `end`; their word stands for z
module _ (bytes : List ℕ) (i start end : ℕ) (es : start ≡ 8 * i) (ee : end ≡ start + 8) (h : end ≤ length bytes) where
  is-cell : (word : ℕ) (z : ℤ) → word ≡ unsigned (take (end - start) (drop start bytes)) → z ≡ signed_of_word (256 ^ 8) word → z ≡ cell_at bytes i
  unfolding signed
  is-cell word z ew ez = ez ∙ ap (signed_of_word (256 ^ 8)) ew ∙ ap (λ (m : ℕ). signed_of_word (256 ^ m) (unsigned (take (end - start) (drop start bytes)))) (sym (length_between 0 8 start end bytes ee h))
      ∙ ap₂ (λ (m k : ℕ). signed (take m (drop k bytes))) many es
    where
      many : end - start ≡ 8
      many = omega arith

pub returns : goal.returns
returns c = let i = c.args.i in let r = c.signed_of_word.result in
    let back : to_z w64 (of_z w64 r) ≡ r = to_z-of_z {w = w64} (sfits_of c.signed_of_word.type_inv) in
    back ∙ is-cell _ i (8 * i) (8 * i + 8) refl refl (omega arith) c.unsigned_64.result r c.unsigned_64.ensures c.signed_of_word.ensures
