-- Levels on whole blocks of cells: what they do to a block among others they do to it alone, and a block is ready where all of them are.
use mathlib.Core.Path.{◌≡◌, sym, ◌∙◌, ap}
use mathlib.Core.List.{List}
use Prim.Native.Nat.{ℕ, suc, ◌+◌, ◌*◌, ◌-◌, ◌/◌, ◌^◌, ◌≤◌, ◌<◌}
use native.Mathlib.Nat.{mul-le-mul_left, mod_self, mul_assoc, zero-mul, zero-add}
use native.Mathlib.Omega.{arith}
use lib.IntN.{ℤ, pos, nat_abs}
use lib.ListN.{length}
use lib.Pow.{pow_pos, pow-add, pow_mono}
use Rattle.ints.specs.Cells.{cell}
use Rattle.ints.specs.Quotient.{rounded}
use Rattle.ints.specs.Tabulate.{tabulate}
use Rattle.ints.proofs.Filling.{filled_all}
use Rattle.ints.proofs.Slices.{everywhere}
use Rattle.ints.proofs.Tables.{get_d_tabulate, length-tabulate}
use Rattle.cosine.specs.Cosine.{quarter_table}
use Rattle.spectrum.specs.Levels.{level, levels}
use Rattle.spectrum.specs.Limits.{Room}
use Rattle.spectrum.specs.Spectrum.{table_cosine, table_sine, joined_at, level_at, levels_at}
use Rattle.spectrum.proofs.Pairs.{in_pair}
use Rattle.spectrum.proofs.Stages.{length-level, length-levels, level-cell, levels-within, joined-within}
use Rattle.pair.specs.Pair.{Joinable, joined_pair, pair_line}
use Rattle.levels.specs.Ready.{LARGEST_FIRST, NoneAbove, Ready, Serves}

-- ---- a level, and some levels, on a block among others

pub level_keeps : (s n : ℕ) (xs : List ℤ) → length (level_at s n xs) ≡ length xs
level_keeps s = length-level (rounded (2 ^ s)) (table_cosine s) (table_sine s)

pub levels_keep : (s L : ℕ) (xs : List ℤ) → length (levels_at s L xs) ≡ length xs
levels_keep s = length-levels (rounded (2 ^ s)) (table_cosine s) (table_sine s)

pub level-within : (s n : ℕ) → 0 < n → (m : ℕ) (xs part : List ℤ) → m * (2 * n) + 2 * n ≤ length xs → length part ≡ 2 * n → ((j : ℕ) → j < 2 * n → cell xs (m * (2 * n) + j) ≡ cell part j) →
    (i : ℕ) → i < 2 * n → cell (level_at s n xs) (m * (2 * n) + i) ≡ cell (level_at s n part) i
level-within s n some m xs part room long same i h = level-cell (rounded (2 ^ s)) (table_cosine s) (table_sine s) n xs (m * (2 * n) + i) (omega arith)
    ∙ joined-within (rounded (2 ^ s)) (table_cosine s) (table_sine s) n m 1 (cell xs) (cell part) some (λ j k. same j (omega arith)) i (omega arith)
    ∙ sym (level-cell (rounded (2 ^ s)) (table_cosine s) (table_sine s) n part i (omega arith))

-- levels 1 to l, on a block of 2^L cells
pub levels_in_block : (s L l : ℕ) → l ≤ L → (m : ℕ) (xs part : List ℤ) → m * 2 ^ L + 2 ^ L ≤ length xs → length part ≡ 2 ^ L → ((j : ℕ) → j < 2 ^ L → cell xs (m * 2 ^ L + j) ≡ cell part j) →
    (i : ℕ) → i < 2 ^ L → cell (levels_at s l xs) (m * 2 ^ L + i) ≡ cell (levels_at s l part) i
levels_in_block s L l le m xs part room long same i h = ap (λ (b : ℕ). cell (levels_at s l xs) (b + i)) at
    ∙ levels-within (rounded (2 ^ s)) (table_cosine s) (table_sine s) l (m * 2 ^ (L - l)) (2 ^ (L - l)) xs part (omega (arith, whole, at)) (omega (arith, whole))
    (λ j k. ap (λ (b : ℕ). cell xs (b + j)) (sym at) ∙ same j (omega (arith, whole, k))) i (omega (arith, whole))
  where
    sum : L ≡ L - l + l
    sum = omega arith

    whole : 2 ^ L ≡ 2 ^ (L - l) * 2 ^ l
    whole = ap (λ (k : ℕ). 2 ^ k) sum ∙ pow-add 2 (L - l) l

    at : m * 2 ^ L ≡ m * 2 ^ (L - l) * 2 ^ l
    at = ap (λ (k : ℕ). m * k) whole ∙ sym (mul_assoc m (2 ^ (L - l)) (2 ^ l))

pub levels-within-block : (s L m : ℕ) (xs part : List ℤ) → m * 2 ^ L + 2 ^ L ≤ length xs → length part ≡ 2 ^ L → ((j : ℕ) → j < 2 ^ L → cell xs (m * 2 ^ L + j) ≡ cell part j) →
    (i : ℕ) → i < 2 ^ L → cell (levels_at s L xs) (m * 2 ^ L + i) ≡ cell (levels_at s L part) i
levels-within-block s L = levels_in_block s L L (omega arith)

-- ---- a pair by itself

pub pair_is-level : (s n : ℕ) (xs : List ℤ) → 0 < n → length xs ≡ 2 * n → joined_pair s xs ≡ level_at s n xs
unfolding level
pair_is-level s n xs some e = filled_all (pos 0) (joined_at s n (cell xs)) (joined_pair s xs) (length xs) (length-tabulate (length xs) _) (λ i h. get_d_tabulate (length xs) _ (pos 0) i h
    ∙ ap (λ (m : ℕ). pair_line s m (cell xs) i) half ∙ sym (line_of i (omega arith)))
  where
    half : length xs / 2 ≡ n
    half = omega arith

    line_of : (i : ℕ) → i < 2 * n → joined_at s n (cell xs) i ≡ pair_line s n (cell xs) i
    line_of i h = simp (zero-mul, zero-add) at (in_pair (rounded (2 ^ s)) (table_cosine s) (table_sine s) n some (cell xs) 0 i h)

pub next_level : (s L : ℕ) (xs ys : List ℤ) → ys ≡ levels_at s L xs → level_at s (2 ^ L) ys ≡ levels_at s (suc L) xs
unfolding levels
next_level s L xs ys e = ap (level_at s (2 ^ L)) e

-- ---- ready

-- the same table for fewer levels
pub serves_fewer : {s L : ℕ} {quarter : List ℕ} → Serves s L quarter → (l : ℕ) → l ≤ L → Serves s l quarter
serves_fewer S l le = record { scale = S.scale; t = S.t; most = S.most; enough = omega (arith, S.enough); at_quarter = S.at_quarter }

-- all entries make a quarter turn
pub quarter_turn : (t : ℕ) → t ≤ 8 → 2 ^ t * 2 ^ (8 - t) ≡ 256
quarter_turn t h = sym (pow-add 2 t (8 - t)) ∙ ap (λ (k : ℕ). 2 ^ k) (sum t h)
  where
    sum : (t : ℕ) → t ≤ 8 → t + (8 - t) ≡ 8
    sum t h = omega arith

module _ {s l : ℕ} {quarter : List ℕ} (S : Serves s (suc (suc l)) quarter) where
  strides_all : 2 ^ l * 2 ^ (S.t - l) ≡ 2 ^ S.t
  strides_all = sym (pow-add 2 l (S.t - l)) ∙ ap (λ (k : ℕ). 2 ^ k) (sum S.t S.enough)
    where
      sum : (t : ℕ) → suc (suc l) ≤ t + 2 → l + (t - l) ≡ t
      sum t h = omega arith

  -- a pair whose halves have 2 · 2^l cells can be joined
  pub pair_ready : (xs : List ℤ) (stride : ℕ) → length xs ≡ 4 * 2 ^ l → stride ≡ 2 ^ (S.t - l) → ((i : ℕ) → Room s (cell xs i)) → Joinable s stride quarter xs
  pair_ready xs stride long e room = record {
    scale = S.scale;
    k = 2 ^ l;
    some = pow_pos l;
    long = long;
    apart = 2 ^ (8 - S.t);
    spans = rw (e, strides_all) (quarter_turn S.t S.most);
    at_quarter = S.at_quarter ∙ ap (λ (m : ℕ). tabulate (m + 1) (λ j. quarter_table s (j * 2 ^ (8 - S.t)))) (sym (ap (λ (k : ℕ). 2 ^ l * k) e ∙ strides_all));
    room = room;
  }

  -- the last entry of the quarter is 2^l strides on
  pub entries-many : length quarter ≡ 2 ^ l * 2 ^ (S.t - l) + 1
  entries-many = ap length S.at_quarter ∙ length-tabulate (2 ^ S.t + 1) _ ∙ ap (λ (m : ℕ). m + 1) (sym strides_all)

-- before level 1 every cell has room at a scale of 2^4 at least
pub cells_small : {s L : ℕ} {quarter : List ℕ} {xs : List ℤ} → Ready s (suc L) quarter xs → NoneAbove LARGEST_FIRST xs
unfolding levels
cells_small {s} {L} {quarter} {xs} R i = omega (arith, mul-le-mul_left (nat_abs (cell xs i)) (pow_mono {i = 4} {j = s} R.table.scale.least), R.room 0 (omega arith) i)

-- a block of 2^l cells is ready for levels 1 to l where all cells are for more; past its end its cells are 0
pub block-ready : {s L : ℕ} {quarter : List ℕ} {xs : List ℤ} → Ready s L quarter xs → (l m : ℕ) (part : List ℤ) → l ≤ L → m * 2 ^ l + 2 ^ l ≤ length xs → length part ≡ 2 ^ l →
    ((j : ℕ) → j < 2 ^ l → cell xs (m * 2 ^ l + j) ≡ cell part j) → Ready s l quarter part
block-ready {s} {L} {quarter} {xs} R l m part le room long same = record {
  table = serves_fewer R.table l le;
  whole = rw long (mod_self (2 ^ l));
  room = λ l' less. everywhere (pos 0) (λ z. Room s z) (omega arith) (levels_at s l' part)
      (λ i k. rw (sym (levels_in_block s l l' (omega arith) m xs part room long same i (omega (arith, levels_keep s l' part)))) (R.room l' (omega arith) (m * 2 ^ l + i)));
}
