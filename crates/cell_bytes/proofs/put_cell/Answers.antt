-- `put_cell` is right because the word that stands for a cell is spelled by the cell's bytes.
use mathlib.Core.Path.{◌≡◌, ◌∙◌, ap}
use mathlib.Core.List.{List}
use Prim.Native.Nat.{ℕ, ◌^◌}
use native.Mathlib.Omega.{arith}
use lib.IntN.{ℤ}
use mir.Facts.{to_z-of_z}
use Rattle.ints.specs.Written.{Put}
use Rattle.little_endian.specs.Spelling.{spelled, word_of_signed, spelled_signed}
use Rattle.cell_bytes.proofs.put_cell.Goals as goal

put_word : (x : ℤ) (word : ℕ) {before after : List ℕ} {at end : ℕ} → word ≡ word_of_signed (256 ^ 8) x → Put (spelled 8 word) before at after end → Put (spelled_signed 8 x) before at after end
unfolding spelled_signed
put_word x word e p = rw e at p

pub returns : goal.returns
returns c = (put_word _ _ (c.word_of_signed.ensures ∙ ap (word_of_signed (256 ^ 8)) (to_z-of_z c.ranges.x)) c.put.ensures.0, omega arith)
