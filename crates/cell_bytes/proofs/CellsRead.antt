-- The cells that are read from bytes: those that the bytes spell, or none where a byte is left over or they are more than the most.
-- Example: `count_room most bytes n e : CELL * n ≤ length bytes`, with e : n ≡ cell_count (CELL * most) (length bytes).
use mathlib.Core.Path.{◌≡◌, refl, sym, ◌∙◌, ap}
use mathlib.Core.Bool.{Bool, true, false, cond, ◌&&◌}
use mathlib.Core.List.{List, []}
use Prim.Native.Nat.{ℕ, ◌+◌, ◌*◌, ◌/◌, ◌%◌, ◌^◌, ◌≤◌, ◌<◌}
use native.Mathlib.Omega.{arith}
use borrow.Author.Tests.{eq-eqb, ne_eqb, le-leb, lt-leb, eqb-true, eqb-false, leb-false}
use lib.Dec.{eqb, leb}
use lib.IntN.{ℤ, pos}
use lib.ListN.{length, get_or, take, drop}
use lib.Seq.{ext_get_or, length-take-le}
use Rattle.ints.specs.Cells.{cell}
use Rattle.ints.specs.Tabulate.{tabulate}
use Rattle.ints.proofs.Filling.{filled_all}
use Rattle.ints.proofs.Slices.{length_part, part_at, part_part}
use Rattle.ints.proofs.Tables.{get_d_tabulate, length-tabulate}
use Rattle.little_endian.specs.Reading.{Within, signed, signeds}
use Rattle.little_endian.specs.Spelling.{spelled_signeds}
use Rattle.little_endian.proofs.Signed.{length-signeds, length-spelled-signeds, signeds-spelled, signeds_tabulated}
use Rattle.cell_bytes.specs.CellBytes.{CELL, cell_at, cell_count, cells_in, cells_read, decoded, encoded, fit_count}

-- n cells are read: those that the bytes spell, or none where they are more than the most
pub data Reads (most : ℕ) (bytes : List ℕ) (n : ℕ) : Type 0 where
  same : cells_in bytes ≡ signeds CELL n bytes → CELL * n ≤ length bytes → (0 < n → length bytes ≡ CELL * n) → Reads most bytes n
  too_many : n ≡ 0 → most < length (cells_in bytes) → Reads most bytes n

whole_cells : (bytes : List ℕ) → length bytes % CELL ≡ 0 → cells_in bytes ≡ signeds CELL (length bytes / CELL) bytes
unfolding cells_in
whole_cells bytes e = rw (eq-eqb (length bytes % CELL) 0 e) refl

pub no_cells : (bytes : List ℕ) → (length bytes % CELL ≡ 0 → ⊥) → cells_in bytes ≡ []
unfolding cells_in
no_cells bytes h = rw (ne_eqb (length bytes % CELL) 0 h) refl

pub count_whole : (bytes : List ℕ) → length bytes % CELL ≡ 0 → length (cells_in bytes) ≡ length bytes / CELL
count_whole bytes e = ap length (whole_cells bytes e) ∙ length-signeds CELL (length bytes / CELL) bytes

-- there are bytes for all cells
pub all_room : (bytes : List ℕ) → CELL * length (cells_in bytes) ≤ length bytes
all_room bytes = go (eqb (length bytes % CELL) 0) refl
  where
    go : (t : Bool) → eqb (length bytes % CELL) 0 ≡ t → CELL * length (cells_in bytes) ≤ length bytes
    go true e = omega (arith, count_whole bytes (eqb-true (length bytes % CELL) 0 e))
    go false e = omega (arith, ap length (no_cells bytes (eqb-false (length bytes % CELL) 0 e)))

-- ---- one cell, where its bytes stand

module _ (bytes : List ℕ) where
  -- the number of cells that all bytes are read as
  pub count_all : cell_count (length bytes) (length bytes) ≡ length (cells_in bytes)
  unfolding cell_count
  count_all = go (eqb (length bytes % CELL) 0) refl
    where
      go : (t : Bool) → eqb (length bytes % CELL) 0 ≡ t → cond (t && leb (length bytes) (length bytes)) (length bytes / CELL) 0 ≡ length (cells_in bytes)
      go true e = rw (le-leb (length bytes) (length bytes) (omega arith), whole_cells bytes (eqb-true (length bytes % CELL) 0 e), length-signeds CELL (length bytes / CELL) bytes) refl
      go false e = rw (no_cells bytes (eqb-false (length bytes % CELL) 0 e)) refl

  module _ (i : ℕ) (h : i < length (cells_in bytes)) where
    -- since there is a cell, no byte is left over
    whole : length bytes % CELL ≡ 0
    whole = go (eqb (length bytes % CELL) 0) refl
      where
        go : (t : Bool) → eqb (length bytes % CELL) 0 ≡ t → length bytes % CELL ≡ 0
        go true e = eqb-true (length bytes % CELL) 0 e
        go false e = absurd (omega (arith, ap length (no_cells bytes (eqb-false (length bytes % CELL) 0 e))))

    counted : i < length bytes / CELL
    counted = omega (arith, count_whole bytes whole)

    pub cell_room : CELL * i + CELL ≤ length bytes
    cell_room = omega (arith, counted)

    pub cell-spelled : cell_at bytes i ≡ cell (cells_in bytes) i
    cell-spelled = sym (ap (λ (xs : List ℤ). cell xs i) (whole_cells bytes whole ∙ sym (signeds_tabulated CELL (length bytes / CELL) bytes)) ∙ get_d_tabulate (length bytes / CELL) (cell_at bytes) (pos 0) i counted)

-- ---- an output, which is read as all the cells that it should have or as none

module _ (wanted : ℕ) (some : 1 ≤ wanted) where
  -- it fits as the cells that its bytes spell would
  pub fit_count_lem : (bytes : List ℕ) → eqb (fit_count wanted (length bytes)) wanted ≡ eqb (length (cells_in bytes)) wanted
  unfolding fit_count
  fit_count_lem bytes = go (eqb (length bytes) (CELL * wanted)) refl (eqb (length bytes % CELL) 0) refl
    where
      go : (t : Bool) → eqb (length bytes) (CELL * wanted) ≡ t → (u : Bool) → eqb (length bytes % CELL) 0 ≡ u → eqb (cond t wanted 0) wanted ≡ eqb (length (cells_in bytes)) wanted
      go true et u eu = let h = eqb-true (length bytes) (CELL * wanted) et in
          eq-eqb wanted wanted refl ∙ sym (eq-eqb (length (cells_in bytes)) wanted (count_whole bytes (omega arith) ∙ omega arith))
      go false et true eu = let h = eqb-false (length bytes) (CELL * wanted) et in let z = eqb-true (length bytes % CELL) 0 eu in
          ne_eqb 0 wanted (λ e. omega arith) ∙ sym (ne_eqb (length (cells_in bytes)) wanted (λ e. h (omega (arith, count_whole bytes z))))
      go false et false eu = let z = no_cells bytes (eqb-false (length bytes % CELL) 0 eu) in
          ne_eqb 0 wanted (λ e. omega arith) ∙ sym (ne_eqb (length (cells_in bytes)) wanted (λ e. omega (arith, ap length z)))

  -- and where it fits, its bytes are those of the cells
  pub fit_room : (n : ℕ) → fit_count wanted n ≡ wanted → n ≡ CELL * wanted
  unfolding fit_count
  fit_room n = go (eqb n (CELL * wanted)) refl
    where
      go : (t : Bool) → eqb n (CELL * wanted) ≡ t → cond t wanted 0 ≡ wanted → n ≡ CELL * wanted
      go true et e = eqb-true n (CELL * wanted) et
      go false et e = absurd (omega arith)

-- ---- cells are read where there are bytes enough, and written where there are as many as they take

module _ (bytes : List ℕ) (cells : List ℤ) where
  pub decoded_all : CELL * length cells ≤ length bytes → decoded bytes cells ≡ signeds CELL (length cells) bytes
  unfolding decoded
  decoded_all h = rw (le-leb (CELL * length cells) (length bytes) h) refl

  pub decoded_none : length bytes < CELL * length cells → decoded bytes cells ≡ cells
  unfolding decoded
  decoded_none h = rw (lt-leb (CELL * length cells) (length bytes) h) refl

  pub encoded_all : length bytes ≡ CELL * length cells → encoded cells bytes ≡ spelled_signeds CELL cells
  unfolding encoded
  encoded_all h = rw (eq-eqb (length bytes) (CELL * length cells) h) refl

  pub encoded_none : (length bytes ≡ CELL * length cells → ⊥) → encoded cells bytes ≡ bytes
  unfolding encoded
  encoded_none h = rw (ne_eqb (length bytes) (CELL * length cells) h) refl

-- all cells, where there is room for just as many
pub decoded_cells : (bytes : List ℕ) (room : List ℤ) → length room ≡ length (cells_in bytes) → decoded bytes room ≡ cells_in bytes
unfolding signeds
decoded_cells bytes room h = decoded_all bytes room (omega (arith, all_room bytes)) ∙ go (eqb (length bytes % CELL) 0) refl
  where
    go : (t : Bool) → eqb (length bytes % CELL) 0 ≡ t → signeds CELL (length room) bytes ≡ cells_in bytes
    go true e = let z = eqb-true (length bytes % CELL) 0 e in ap (λ (n : ℕ). signeds CELL n bytes) (h ∙ count_whole bytes z) ∙ sym (whole_cells bytes z)
    go false e = let none = no_cells bytes (eqb-false (length bytes % CELL) 0 e) in ap (λ (n : ℕ). signeds CELL n bytes) (h ∙ ap length none) ∙ sym none

-- ---- how many are read

module _ (most : ℕ) (bytes : List ℕ) (n : ℕ) (e : n ≡ cell_count (CELL * most) (length bytes)) where
  pub reads : Reads most bytes n
  unfolding cell_count signeds
  reads = go (eqb (length bytes % CELL) 0) refl (leb (length bytes) (CELL * most)) refl e
    where
      go : (t : Bool) → eqb (length bytes % CELL) 0 ≡ t → (u : Bool) → leb (length bytes) (CELL * most) ≡ u → n ≡ cond (t && u) (length bytes / CELL) 0 → Reads most bytes n
      go true et true eu en = let z = eqb-true (length bytes % CELL) 0 et in same (rw en (whole_cells bytes z)) (omega arith) (λ h. omega arith)
      go true et false eu en = let z = eqb-true (length bytes % CELL) 0 et in
          too_many en (rw (whole_cells bytes z, length-signeds CELL (length bytes / CELL) bytes) (omega (arith, leb-false (length bytes) (CELL * most) eu)))
      go false et u eu en = same (no_cells bytes (eqb-false (length bytes % CELL) 0 et) ∙ rw en refl) (omega arith) (λ h. omega arith)

  pub count_room : CELL * n ≤ length bytes
  count_room = go reads
    where
      go : Reads most bytes n → CELL * n ≤ length bytes
      go (same k room whole) = room
      go (too_many z k) = omega arith

  -- there are bytes for a room of so many, and they are read into it
  pub room_fits : (m : ℕ) → m ≡ n → CELL * m ≤ length bytes
  room_fits m h = omega (arith, count_room)

  pub cells_read_lem : (m : ℕ) → m ≡ n → signeds CELL m bytes ≡ cells_read (CELL * most) bytes
  cells_read_lem m h = ap (λ (m : ℕ). signeds CELL m bytes) (h ∙ e)

  pub cells_decoded : (room : List ℤ) → length room ≡ n → decoded bytes room ≡ cells_read (CELL * most) bytes
  cells_decoded room h = decoded_all bytes room (room_fits (length room) h) ∙ cells_read_lem (length room) h

-- ---- cells are read from the front of the bytes that is as long as they take

module _ (bytes : List ℕ) (cells : List ℤ) (k : ℕ) (e : k ≡ CELL * length cells) (h : k ≤ length bytes) where
  front_word : (i : ℕ) → i < length cells → take CELL (drop (CELL * i) (take k bytes)) ≡ take CELL (drop (CELL * i) bytes)
  front_word i l = part_part 0 0 k (CELL * i) CELL bytes (omega arith) (omega arith) ∙ ap (λ (m : ℕ). take CELL (drop m bytes)) place
    where
      place : 0 + CELL * i ≡ CELL * i
      place = omega arith

  front_signeds : signeds CELL (length cells) (take k bytes) ≡ signeds CELL (length cells) bytes
  front_signeds = sym (signeds_tabulated CELL n (take k bytes))
      ∙ filled_all (pos 0) (spelled bytes) (tabulate n front) n (length-tabulate n front) (λ i l. get_d_tabulate n front (pos 0) i l ∙ ap signed (front_word i l))
      ∙ signeds_tabulated CELL n bytes
    where
      n : ℕ
      n = length cells

      spelled : List ℕ → ℕ → ℤ
      spelled bs i = signed (take CELL (drop (CELL * i) bs))

      front : ℕ → ℤ
      front = spelled (take k bytes)

  pub front_read : decoded (take k bytes) cells ≡ signeds CELL (length cells) bytes
  front_read = decoded_all (take k bytes) cells (omega (arith, length-take-le k bytes h)) ∙ front_signeds

  pub front_decoded : signeds CELL (length cells) (take k bytes) ≡ decoded bytes cells
  front_decoded = front_signeds ∙ sym (decoded_all bytes cells (omega arith))

-- ---- cells are read from a part of the bytes, which has those of n cells from cell `from` on

module _ (bytes : List ℕ) (from n : ℕ) (inside : from + n ≤ length (cells_in bytes)) where
  part_room : CELL * from + CELL * n ≤ length bytes
  part_room = omega (arith, all_room bytes)

  abbrev part_bytes : List ℕ
  part_bytes = take (CELL * n) (drop (CELL * from) bytes)

  part_long : length part_bytes ≡ CELL * n
  part_long = length_part 0 (CELL * from) (CELL * n) bytes part_room

  part_count : length (cells_in part_bytes) ≡ n
  part_count = count_whole part_bytes (omega (arith, part_long)) ∙ omega (arith, part_long)

  word_same : (i : ℕ) → i < n → take CELL (drop (CELL * i) part_bytes) ≡ take CELL (drop (CELL * (from + i)) bytes)
  word_same i l = part_part 0 (CELL * from) (CELL * n) (CELL * i) CELL bytes (omega arith) part_room ∙ ap (λ (m : ℕ). take CELL (drop m bytes)) place
    where
      place : CELL * from + CELL * i ≡ CELL * (from + i)
      place = omega arith

  pub part_spelled : cells_in part_bytes ≡ take n (drop from (cells_in bytes))
  part_spelled = ext_get_or (pos 0) (cells_in part_bytes) (take n (drop from (cells_in bytes))) (part_count ∙ sym (length_part (pos 0) from n (cells_in bytes) inside))
      (λ i g. let near : i < n = omega (arith, part_count) in
      sym (cell-spelled part_bytes i g) ∙ ap signed (word_same i near) ∙ cell-spelled bytes (from + i) (omega arith) ∙ sym (part_at (pos 0) from n (cells_in bytes) i near))

-- ---- bytes that were written spell the cells that they were written for

pub cells_back : (xs : List ℤ) → ((i : ℕ) → i < length xs → Within (256 ^ CELL) (get_or xs i (pos 0))) → cells_in (spelled_signeds CELL xs) ≡ xs
cells_back xs h = let n = length xs in let bytes = spelled_signeds CELL xs in let e : length bytes ≡ CELL * n = length-spelled-signeds CELL xs in
    whole_cells bytes (omega arith) ∙ ap (λ (m : ℕ). signeds CELL m bytes) (count n (length bytes) e) ∙ signeds-spelled CELL xs h
  where
    count : (n m : ℕ) → m ≡ CELL * n → m / CELL ≡ n
    count n m e = omega arith
