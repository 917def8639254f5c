-- What a call of the engine on the cells that were read tells of the call on the bytes.
-- Example: `told_so low high outputs xs e : unpacked_block answer ≡ verdict_numbers (tested low high outputs xs)`, with
-- e : answer ≡ packed (block_answer (tested low high outputs xs)).
use mathlib.Core.Path.{◌≡◌, refl, sym, ◌∙◌, ap}
use mathlib.Core.Bool.{false}
use mathlib.Core.List.{List, []}
use Prim.Native.Nat.{ℕ, ◌+◌, ◌*◌, ◌/◌}
use native.Mathlib.Omega.{arith}
use borrow.Author.Tests.{eq-eqb}
use lib.Dec.{eqb}
use lib.IntN.{ℤ, pos, neg_ℤ}
use lib.ListN.{length}
use denote.Ref.{MutBor}
use Rattle.std.specs.Prelude.{Result, Ok, Err}
use Rattle.std.specs.Fn.{Once}
use Rattle.kind.specs.declared.BlockKind.{BlockKind}
use Rattle.kind.specs.BlockKinds.{LARGEST}
use Rattle.kind.specs.Loudness.{LOUDEST_LINE}
use Rattle.little_endian.specs.Reading.{signeds}
use Rattle.little_endian.specs.Spelling.{spelled_signeds}
use Rattle.little_endian.proofs.Signed.{length-signeds}
use Rattle.cell_bytes.specs.CellBytes.{CELL, cell_count, cells_in, fit_count}
use Rattle.cell_bytes.proofs.CellsRead.{encoded_all, fit_room}
use Rattle.refusal.specs.declared.Refusal.{Refusal}
use Rattle.block.specs.Tests.{tested}
use Rattle.block.specs.BlockAnswers.{block_answer, cells_left, verdict_numbers}
use Rattle.block.proofs.Refused.{refused-place}
use Rattle.packing.specs.Packing.{number_in, packed, unpacked_block}
use Rattle.packing.proofs.Packing.{block_unpacked, refused_at_all}
use Rattle.lent_cells.specs.BytesLeft.{bytes_left, written_back}
use Rattle.lent_cells.specs.Rooms.{CalledInPlace}
use Rattle.lent_cells.proofs.Counts.{counts_read, counts_spelt, outputs_tested, read_tested, read_taken}

-- the limits of a spectrum
abbrev pub LEAST_LINE : ℤ
LEAST_LINE = neg_ℤ (pos LOUDEST_LINE)

abbrev pub LARGEST_LINE : ℤ
LARGEST_LINE = pos LOUDEST_LINE

-- document 01's numbers in an answer
pub told_so : (low high : ℤ) (outputs : List ℕ) (xs : List ℤ) {answer : ℕ} → answer ≡ packed (block_answer (tested low high outputs xs)) → unpacked_block answer ≡ verdict_numbers (tested low high outputs xs)
told_so low high outputs xs e = ap unpacked_block e ∙ block_unpacked (tested low high outputs xs) (λ refusal q. omega (arith, refused-place low high outputs xs refusal q))

-- ---- what is left in lent bytes: zs are the cells that the call on the cells that were read leaves, and ws those of the call on all cells

back_done : (answer : ℕ) (zs : List ℤ) (before : List ℕ) → number_in answer ≡ 0 → length before ≡ CELL * length zs → written_back answer zs before ≡ spelled_signeds CELL zs
unfolding written_back
back_done answer zs before h room = rw (eq-eqb (number_in answer) 0 h) (encoded_all before zs room)

back-refused : (answer : ℕ) (zs : List ℤ) (before : List ℕ) → eqb (number_in answer) 0 ≡ false → written_back answer zs before ≡ before
unfolding written_back
back-refused answer zs before h = rw h refl

module _ (tests read : Result BlockKind Refusal) (same : read ≡ tests) {answer : ℕ} (a : answer ≡ packed (block_answer read)) where
  pub says_so : answer ≡ packed (block_answer tests)
  says_so = a ∙ ap (λ (k : Result BlockKind Refusal). packed (block_answer k)) same

  pub left_so : (ws zs : List ℤ) (before : List ℕ) {after : List ℕ} → after ≡ written_back answer zs before → ((kind : BlockKind) → read ≡ Ok kind → (zs ≡ ws) × (length before ≡ CELL * length zs))
      → after ≡ bytes_left tests ws before
  left_so ws zs before l h = l ∙ ap (λ (n : ℕ). written_back n zs before) a ∙ go read refl ∙ ap (λ (k : Result BlockKind Refusal). bytes_left k ws before) same
    where
      go : (k : Result BlockKind Refusal) → read ≡ k → written_back (packed (block_answer k)) zs before ≡ bytes_left k ws before
      go (Ok kind) e = back_done 0 zs before refl (h kind e).1 ∙ ap (spelled_signeds CELL) (h kind e).0
      go (Err refusal) e = back-refused _ zs before (refused_at_all refusal)

-- ---- a call in place, which was made on the cells that were read, ys, and left zs

module _ (low high : ℤ) {F : Type 0} (g : Once F (MutBor (List ℤ) × Unit {0}) (Result (Unit {0}) Refusal × (MutBor (List ℤ) × Unit {0}))) (call : F) {before after : List ℕ} {answer : ℕ} (c : CalledInPlace g call before after answer)
    (t : c.told ≡ block_answer (tested low high [] c.called.shown.now)) where
  abbrev ys : List ℤ
  ys = c.called.shown.now

  same_tests : tested low high [] ys ≡ tested low high [] (cells_in before)
  same_tests = read_tested low high [] before _ refl ys c.called.shows

  a : answer ≡ packed (block_answer (tested low high [] ys))
  a = c.says ∙ ap packed t

  pub said_in_place : answer ≡ packed (block_answer (tested low high [] (cells_in before)))
  said_in_place = says_so _ _ same_tests a

  pub left_in_place : (left : List ℤ → List ℤ) → c.called.left.now ≡ left ys → after ≡ bytes_left (tested low high [] (cells_in before)) (left (cells_in before)) before
  left_in_place left z = left_so _ _ same_tests a (left (cells_in before)) c.left before c.leaves (λ kind k. let r = read_taken low high [] before _ refl ys c.called.shows kind k in
      (sym c.called.leaves ∙ z ∙ ap left r.0, r.1 ∙ ap (λ (n : ℕ). CELL * n) (sym (c.many ∙ length-signeds CELL _ before))))

-- ---- a call with outputs of its own; ys are the cells of the spectrum that were read

module _ (low high : ℤ) (spectrum : List ℕ) (outputs : List (List ℕ)) (n : ℕ) (e : n ≡ cell_count (CELL * LARGEST) (length spectrum)) (ys : List ℤ) (is : ys ≡ signeds CELL n spectrum) where
  -- the tests of what was read, and those of all that the bytes spell
  abbrev read : Result BlockKind Refusal
  read = tested low high (counts_read (length ys / 2 + 1) outputs) ys

  abbrev all : Result BlockKind Refusal
  all = tested low high (counts_spelt outputs) (cells_in spectrum)

  -- one of the outputs, lent as `bytes`, of which `lent` was read; it takes the lines that `lines` gives
  pub left_in_output : {answer : ℕ} → answer ≡ packed (block_answer read) → (lines : List ℤ → List ℤ) (bytes : List ℕ) (lent : List ℤ) → length lent ≡ fit_count (length ys / 2 + 1) (length bytes)
      → ((kind : BlockKind) → read ≡ Ok kind → length lent ≡ length ys / 2 + 1) → (zs : List ℤ) → zs ≡ cells_left (λ _. lines ys) lent read → length zs ≡ length lent → {after : List ℕ}
      → after ≡ written_back answer zs bytes → after ≡ bytes_left all (cells_left (λ _. lines (cells_in spectrum)) (cells_in bytes) all) bytes
  left_in_output a lines bytes lent el fits zs z many l = let same = outputs_tested low high spectrum outputs n e ys is in
      left_so all read same a (cells_left (λ _. lines (cells_in spectrum)) (cells_in bytes) all) zs bytes l (λ kind t. (
        z ∙ ap (cells_left (λ _. lines ys) lent) t ∙ ap lines (read_taken low high (counts_read (length ys / 2 + 1) outputs) spectrum n e ys is kind t).0
            ∙ ap (cells_left (λ _. lines (cells_in spectrum)) (cells_in bytes)) (sym t ∙ same),
        room kind t,
      ))
    where
      room : (kind : BlockKind) → read ≡ Ok kind → length bytes ≡ CELL * length zs
      room kind t = fit_room (length ys / 2 + 1) (omega arith) (length bytes) (sym el ∙ fits kind t) ∙ ap (λ (m : ℕ). CELL * m) (sym (many ∙ fits kind t))
