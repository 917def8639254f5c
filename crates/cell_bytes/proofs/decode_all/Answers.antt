-- `decode_all` is right because cell i takes what the eight bytes from byte 8 i on spell.
use borrow.Author.Rules.{sfits_of}
use mathlib.Core.Path.{◌≡◌, ◌∙◌}
use mathlib.Core.List.{List}
use Prim.Native.Nat.{ℕ}
use native.Mathlib.Omega.{arith}
use lib.IntN.{ℤ, pos}
use lib.ListN.{length, length-set}
use mir.Facts.{to_z-of_z}
use mir.Syntax.{w64}
use mir.Val.{to_z, of_z}
use Rattle.ints.proofs.Filling.{Filled, filled_next, filled_all}
use Rattle.little_endian.specs.Reading.{signeds}
use Rattle.little_endian.proofs.Signed.{signeds_tabulated}
use Rattle.cell_bytes.specs.CellBytes.{cell_at}
use Rattle.cell_bytes.proofs.decode_all.Goals as goal

all : (bytes : List ℕ) (xs : List ℤ) (i n : ℕ) → i ≡ n → length xs ≡ n → Filled (pos 0) (cell_at bytes) i xs → xs ≡ signeds 8 n bytes
all bytes xs i n ei e F = filled_all (pos 0) (cell_at bytes) xs n e (λ k h. F k (omega arith)) ∙ signeds_tabulated 8 n bytes

pub loop-i-preserved : goal.loop-i-preserved
loop-i-preserved c = let l = c.loop-i in let bytes = c.args.bytes.now in let r = c.cell_at.result in
    let back : to_z w64 (of_z w64 r) ≡ r = to_z-of_z {w = w64} (sfits_of c.cell_at.type_inv) in
    (omega arith, length-set l.cells l.i _ ∙ l.invariant.1, rw back (filled_next (pos 0) (cell_at bytes) l.cells l.i r (omega arith) c.cell_at.ensures l.invariant.2))

pub returns : goal.returns
returns c = let l = c.loop-i in all _ l.cells l.i _ (omega arith) l.invariant.1 l.invariant.2
