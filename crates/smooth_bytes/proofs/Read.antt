-- What smoothing of the cells that were read tells of the cells that the bytes spell: ys are the samples that were read, vs the weights. Where they are taken
-- they are the same cells, and where not they are refused alike.
use mathlib.Core.Path.{◌≡◌, refl, sym, ◌∙◌, ap, ap₂}
use mathlib.Core.Bool.{Bool, true, false, cond}
use mathlib.Core.List.{List}
use Prim.Native.Nat.{ℕ, zero, suc, ◌*◌, ◌/◌, ◌%◌, ◌≤◌}
use native.Mathlib.Omega.{arith}
use borrow.Author.Tests.{eq-eqb, le-leb, eqb-true, eqb-false}
use lib.Dec.{eqb}
use lib.IntN.{ℤ}
use lib.ListN.{length}
use lib.Pow.{pow_pos}
use Rattle.std.specs.Prelude.{Ok}
use Rattle.kind.specs.declared.BlockKind.{BlockKind}
use Rattle.kind.specs.BlockKinds.{LARGEST}
use Rattle.little_endian.specs.Reading.{signeds}
use Rattle.little_endian.proofs.Signed.{length-signeds}
use Rattle.cell_bytes.specs.CellBytes.{CELL, cell_count, cells_in, decoded, fit_count}
use Rattle.cell_bytes.proofs.CellsRead.{Reads, all_room, decoded_all, decoded_cells, fit_count_lem, reads, same, too_many}
use Rattle.block.specs.BlockAnswers.{block_answer, cells_left, verdict_numbers}
use Rattle.packing.specs.Packing.{packed, unpacked_block}
use Rattle.packing.proofs.Packing.{block_unpacked}
use Rattle.lent_cells.specs.BytesLeft.{written_back}
use Rattle.lent_cells.proofs.Counts.{large_block, no_block}
use Rattle.lent_cells.proofs.Calls.{left_so, says_so}
use Rattle.smooth_tests.specs.Tests.{tested_smoothing}
use Rattle.smooth_tests.proofs.SmoothingTaken.{SmoothingTaken, misfit_alike, smoothing_taken}
use Rattle.smooth_tests.proofs.SmoothingRefused.{smoothing_length, smoothing_place}
use Rattle.exact.specs.Smoothing.{cyclic_sums}
use Rattle.smoothing.specs.Promises.{smooth_left, sums_left}
use Rattle.smooth_bytes.specs.Inner.{SmoothAnswered}

-- there are bytes for as many weights as are counted, and they are read into a room for them
fit_bytes : (wanted n : ℕ) → CELL * fit_count wanted n ≤ n
unfolding fit_count
fit_bytes wanted n = go (eqb n (CELL * wanted)) refl
  where
    go : (t : Bool) → eqb n (CELL * wanted) ≡ t → CELL * cond t wanted 0 ≤ n
    go true e = omega (arith, eqb-true n (CELL * wanted) e)
    go false e = omega arith

pub values_read : (weights : List ℕ) (wanted : ℕ) (room : List ℤ) → length room ≡ fit_count wanted (length weights) → decoded weights room ≡ signeds CELL (length room) weights
values_read weights wanted room e = decoded_all weights room (omega (arith, ap (λ (m : ℕ). CELL * m) e, fit_bytes wanted (length weights)))

-- as many weights as were counted, where the room has as many cells as were counted
pub counted_room : (m n room bytes : ℕ) → m ≡ fit_count n bytes → room ≡ n → m ≡ fit_count room bytes
counted_room m n room bytes e r = e ∙ ap (λ (k : ℕ). fit_count k bytes) (sym r)

module _ (bytes weights : List ℕ) (n : ℕ) (e : n ≡ cell_count (CELL * LARGEST) (length bytes)) (ys vs : List ℤ) (is : ys ≡ signeds CELL n bytes)
    (count : ℕ) (f : count ≡ fit_count n (length weights)) (are : vs ≡ signeds CELL count weights) where
  long : length ys ≡ n
  long = ap length is ∙ length-signeds CELL n bytes

  counted : length vs ≡ count
  counted = ap length are ∙ length-signeds CELL count weights

  module _ (some : 1 ≤ n) where
    -- as many weights as samples: all that their bytes spell
    spelled-many : length vs ≡ length ys → length vs ≡ length (cells_in weights)
    spelled-many h = h ∙ long ∙ sym (eqb-true (length (cells_in weights)) n (sym (fit_count_lem n some weights) ∙ eq-eqb (fit_count n (length weights)) n (sym f ∙ sym counted ∙ h ∙ long)))

    all_weights : length vs ≡ length ys → vs ≡ cells_in weights
    all_weights h = are ∙ ap (λ (m : ℕ). signeds CELL m weights) (sym counted) ∙ sym (decoded_all weights vs (omega (arith, spelled-many h, all_room weights))) ∙ decoded_cells weights vs (spelled-many h)

    other_weights : (length vs ≡ length ys → ⊥) → length (cells_in weights) ≡ length ys → ⊥
    other_weights h k = h (counted ∙ f ∙ eqb-true (fit_count n (length weights)) n (fit_count_lem n some weights ∙ eq-eqb (length (cells_in weights)) n (k ∙ long)) ∙ sym long)

  -- other weights are refused alike
  same_weights : (xs : List ℤ) → ys ≡ xs → tested_smoothing ys vs ≡ tested_smoothing xs (cells_in weights)
  same_weights xs k = go n refl
    where
      go : (m : ℕ) → n ≡ m → tested_smoothing ys vs ≡ tested_smoothing xs (cells_in weights)
      go zero z = smoothing_length ys vs (no_block (long ∙ z)) ∙ sym (smoothing_length xs (cells_in weights) (no_block (ap length (sym k) ∙ long ∙ z)))
      go (suc m) z = by (eqb (length vs) (length ys)) refl
        where
          some : 1 ≤ n
          some = omega arith

          by : (t : Bool) → eqb (length vs) (length ys) ≡ t → tested_smoothing ys vs ≡ tested_smoothing xs (cells_in weights)
          by true t = ap₂ tested_smoothing k (all_weights some (eqb-true _ _ t))
          by false t = misfit_alike ys vs (cells_in weights) (eqb-false _ _ t) (other_weights some (eqb-false _ _ t)) ∙ ap (λ (zs : List ℤ). tested_smoothing zs (cells_in weights)) k

  same_tests : tested_smoothing ys vs ≡ tested_smoothing (cells_in bytes) (cells_in weights)
  same_tests = go (reads LARGEST bytes n e)
    where
      go : Reads LARGEST bytes n → tested_smoothing ys vs ≡ tested_smoothing (cells_in bytes) (cells_in weights)
      go (same k room whole) = same_weights (cells_in bytes) (is ∙ sym k)
      go (too_many z k) = smoothing_length ys vs (no_block (long ∙ z)) ∙ sym (smoothing_length (cells_in bytes) (cells_in weights) (large_block k))

  -- where they are taken
  read_taken : (kind : BlockKind) → tested_smoothing ys vs ≡ Ok kind → (ys ≡ cells_in bytes) × (vs ≡ cells_in weights) × (length bytes ≡ CELL * length ys)
  read_taken kind t = go (reads LARGEST bytes n e)
    where
      taken : SmoothingTaken kind.p ys vs
      taken = smoothing_taken ys vs kind t

      some : 1 ≤ n
      some = omega (arith, long, taken.long, pow_pos kind.p)

      go : Reads LARGEST bytes n → (ys ≡ cells_in bytes) × (vs ≡ cells_in weights) × (length bytes ≡ CELL * length ys)
      go (same k room whole) = (is ∙ sym k, all_weights some taken.as_long, whole some ∙ ap (λ (m : ℕ). CELL * m) (sym long))
      go (too_many z k) = absurd (omega (arith, some))

  -- zs are the cells of which the bytes are written, where the call is done
  pub answered : {answer : ℕ} → answer ≡ packed (block_answer (tested_smoothing ys vs)) → (lent zs : List ℤ) → zs ≡ sums_left ys vs lent → length zs ≡ length ys → {after : List ℕ} → after ≡ written_back answer zs bytes
      → SmoothAnswered bytes weights after answer
  answered a lent zs z many l = record {
    says = says_so _ _ same_tests a;
    leaves = left_so _ _ same_tests a (smooth_left (cells_in bytes) (cells_in weights)) zs bytes l (λ kind t. let r = read_taken kind t in let xs = cells_in bytes in let ws = cells_in weights in (
      z ∙ ap (cells_left (λ P. cyclic_sums ys vs) lent) t ∙ ap₂ cyclic_sums r.0 r.1 ∙ ap (cells_left (λ P. cyclic_sums xs ws) xs) (sym t ∙ same_tests),
      r.2 ∙ ap (λ (m : ℕ). CELL * m) (sym many),
    ));
  }

-- ---- bytes of just n cells

-- they are read as n cells, where a block can have so many
whole_count : (n bytes : ℕ) → n ≤ LARGEST → bytes ≡ CELL * n → n ≡ cell_count (CELL * LARGEST) bytes
unfolding cell_count
whole_count n bytes few e = let none_over : bytes % CELL ≡ 0 = omega arith in let all : bytes / CELL ≡ n = omega arith in
    rw (eq-eqb (bytes % CELL) 0 none_over, le-leb bytes (CELL * LARGEST) (omega arith)) (sym all)

whole_fit : (n bytes : ℕ) → bytes ≡ CELL * n → n ≡ fit_count n bytes
unfolding fit_count
whole_fit n bytes e = rw (eq-eqb bytes (CELL * n) e) refl

whole_read : (n : ℕ) (bytes : List ℕ) (room : List ℤ) → length bytes ≡ CELL * n → length room ≡ n → decoded bytes room ≡ signeds CELL n bytes
whole_read n bytes room e r = decoded_all bytes room (omega arith) ∙ ap (λ (m : ℕ). signeds CELL m bytes) r

-- samples and weights of n cells each, read into rooms of as many
module _ (n : ℕ) (few : n ≤ LARGEST) {bytes weights : List ℕ} (long : length bytes ≡ CELL * n) (as_long : length weights ≡ CELL * n) where
  pub whole_answered : (room other : List ℤ) → length room ≡ n → length other ≡ n → {ys vs : List ℤ} → ys ≡ decoded bytes room → vs ≡ decoded weights other
      → {answer : ℕ} → answer ≡ packed (block_answer (tested_smoothing ys vs)) → (lent zs : List ℤ) → zs ≡ sums_left ys vs lent → length zs ≡ n → {after : List ℕ} → after ≡ written_back answer zs bytes
      → SmoothAnswered bytes weights after answer
  whole_answered room other r o {ys} {vs} is are a lent zs z many l =
      answered bytes weights n (whole_count n (length bytes) few long) ys vs read n (whole_fit n (length weights) as_long) (are ∙ whole_read n weights other as_long o) a lent zs z
      (many ∙ sym (ap length read ∙ length-signeds CELL n bytes)) l
    where
      read : ys ≡ signeds CELL n bytes
      read = is ∙ whole_read n bytes room long r

-- ---- the papers' numbers in an answer

pub smooth_told : (xs ws : List ℤ) {answer : ℕ} → answer ≡ packed (block_answer (tested_smoothing xs ws)) → unpacked_block answer ≡ verdict_numbers (tested_smoothing xs ws)
smooth_told xs ws e = ap unpacked_block e ∙ block_unpacked (tested_smoothing xs ws) (λ refusal q. omega (arith, smoothing_place xs ws refusal q))
