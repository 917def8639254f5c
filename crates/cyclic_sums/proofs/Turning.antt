-- A cyclic sum is the dot product of the samples and of as many of the weights backwards, twice: from place N − 1 − t on stand weight t down to the first,
-- and then the last down.
-- Example: of the samples a, b, c and the weights u, v, w the cyclic sum at moment 1 is a v + b u + c w, and v, u, w stand in w, v, u, w, v, u from place 1 on.
use mathlib.Core.Path.{◌≡◌, ◌∙◌, ap}
use mathlib.Core.List.{List}
use Prim.Native.Nat.{ℕ, ◌+◌, ◌*◌, ◌-◌, ◌%◌, ◌^◌, ◌≤◌, ◌<◌}
use native.Mathlib.Nat.{add-mod_right, mod-eq_of_lt}
use native.Mathlib.Decide.{dec_lt}
use native.Mathlib.Omega.{arith}
use lib.IntN.{ℤ, pos, nat_abs, ◌*ℤ◌}
use lib.ListN.{length, take, drop}
use Rattle.ints.specs.Cells.{cell}
use Rattle.ints.specs.Tabulate.{tabulate}
use Rattle.ints.proofs.Filling.{filled_all}
use Rattle.ints.proofs.Slices.{everywhere, length_part, part_all, part_at}
use Rattle.ints.proofs.Sums.{sum_cong}
use Rattle.ints.proofs.Tables.{get_d_tabulate, length-tabulate}
use Rattle.exact.specs.Smoothing.{cyclic_sum, cyclic_sums}
use Rattle.cyclic_sums.specs.Short.{Short, Sliding, dot_product, slid_sum, slid_sums, turned_back}

-- ---- places

-- place j + n of two times n is place j again
again_at : (n i j : ℕ) → i ≡ j + n → j < n → i % n ≡ j
again_at n i j e h = ap (λ (k : ℕ). k % n) e ∙ add-mod_right j n ∙ mod-eq_of_lt h

-- the weight that sample i meets at moment t of N
met : (N t i : ℕ) → t < N → i < N → N - 1 - (N - 1 - t + i) % N ≡ (t + N - i) % N
met N t i inside h = go (dec_lt t i)
  where
    go : Dec (t < i) → N - 1 - (N - 1 - t + i) % N ≡ (t + N - i) % N
    go (yes l) = let near : t + N - i < N = omega arith in rw (again_at N (N - 1 - t + i) (i - t - 1) (omega arith) (omega arith), mod-eq_of_lt near) (omega arith)
    go (no l) = let near : N - 1 - t + i < N = omega arith in rw (mod-eq_of_lt near, again_at N (t + N - i) (t - i) (omega arith) (omega arith)) (omega arith)

-- ---- the weights turned back

module _ (ws : List ℤ) where
  -- the weight at place i
  abbrev placed : ℕ → ℤ
  placed i = cell ws (length ws - 1 - i % length ws)

  length-turned : length (turned_back ws) ≡ 2 * length ws
  unfolding turned_back
  length-turned = length-tabulate (2 * length ws) placed

  turned_at : (i : ℕ) → i < 2 * length ws → cell (turned_back ws) i ≡ placed i
  unfolding turned_back
  turned_at i h = get_d_tabulate (2 * length ws) placed (pos 0) i h

  -- a list of which both halves are the weights backwards
  pub turned_all : (ts : List ℤ) → length ts ≡ 2 * length ws → ((i : ℕ) → i < length ws → cell ts i ≡ cell ws (length ws - 1 - i))
      → ((i : ℕ) → i < length ws → cell ts (length ws + i) ≡ cell ws (length ws - 1 - i)) → ts ≡ turned_back ws
  unfolding turned_back
  turned_all ts long first again = filled_all (pos 0) placed ts (2 * length ws) long each
    where
      each : (i : ℕ) → i < 2 * length ws → cell ts i ≡ placed i
      each i h = go (dec_lt i (length ws))
        where
          back : ¬ (i < length ws) → i ≡ length ws + (i - length ws)
          back k = omega arith

          go : Dec (i < length ws) → cell ts i ≡ placed i
          go (yes l) = rw (mod-eq_of_lt l) (first i l)
          go (no k) = rw (again_at (length ws) i (i - length ws) (omega arith) (omega arith)) (ap (cell ts) (back k) ∙ again (i - length ws) (omega arith))

-- ---- the sums

module _ (xs ws : List ℤ) (as_long : length ws ≡ length xs) where
  -- at moment t
  module _ (t : ℕ) (inside : t < length xs) where
    abbrev start : ℕ
    start = length xs - 1 - t

    product : (i : ℕ) → i < length xs → cell xs i *ℤ cell (take (length xs) (drop start (turned_back ws))) i ≡ cell xs i *ℤ cell ws ((t + length xs - i) % length xs)
    product i h = ap (λ (z : ℤ). cell xs i *ℤ z) (part_at (pos 0) start (length xs) (turned_back ws) i h ∙ turned_at ws (start + i) (omega arith)
        ∙ ap (cell ws) (ap (λ (n : ℕ). n - 1 - (start + i) % n) as_long ∙ met (length xs) t i inside h))

    slid_at : slid_sum xs (turned_back ws) t ≡ cyclic_sum (length xs) xs ws t
    unfolding dot_product cyclic_sum
    slid_at = sum_cong (length xs) _ _ product

  pub slid_cyclic : slid_sums xs (turned_back ws) ≡ cyclic_sums xs ws
  unfolding slid_sums cyclic_sums
  slid_cyclic = let slid = slid_sum xs (turned_back ws) in
      filled_all (pos 0) (cyclic_sum (length xs) xs ws) (tabulate (length xs) slid) (length xs) (length-tabulate (length xs) slid) (λ t h. get_d_tabulate (length xs) slid (pos 0) t h ∙ slid_at t h)

-- ---- how large the factors are

-- no turned weight is larger than the weights
pub turned_sliding : {xs ws : List ℤ} → Short xs ws → Sliding xs (turned_back ws)
turned_sliding {xs} {ws} s = record {
  twice = length-turned ws ∙ ap (λ (n : ℕ). 2 * n) s.as_long;
  quiet = s.quiet;
  light = everywhere (pos 0) (λ (z : ℤ). nat_abs z ≤ 2 ^ 15) (omega arith) (turned_back ws) (λ i h. rw (turned_at ws i (omega (arith, length-turned ws))) (s.light _));
}

-- as many of the turned weights as there are samples
pub part_short : {xs ts : List ℤ} → Sliding xs ts → (start : ℕ) → start ≤ length xs → Short xs (take (length xs) (drop start ts))
part_short {xs} {ts} s start h = record {
  as_long = length_part (pos 0) start (length xs) ts (omega (arith, s.twice));
  quiet = s.quiet;
  light = part_all (pos 0) (λ (z : ℤ). nat_abs z ≤ 2 ^ 15) (omega arith) start (length xs) ts s.light;
}
