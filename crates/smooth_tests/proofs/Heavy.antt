-- Document 02, Item 7, 20: the place is the first weight where the sum of the magnitudes passes its limit, and there is none where the sum of all is within it.
-- Example: `(heavy_first ws h).0 : LARGEST_WEIGHTS < running ws (suc (first_heavy ws))`, with h : first_heavy ws < length ws.
use mathlib.Core.Path.{◌≡◌, refl}
use mathlib.Core.Bool.{Bool, true, false}
use mathlib.Core.List.{List, [], ◌∷◌}
use Prim.Native.Nat.{ℕ, zero, suc, ◌+◌, ◌-◌, ◌≤◌, ◌<◌}
use native.Mathlib.Nat.{add-zero, add-suc}
use native.Mathlib.Omega.{arith}
use borrow.Author.Tests.{lt-ltb, le-ltb, ltb-true, ltb-false}
use lib.Dec.{ltb}
use lib.IntN.{ℤ, nat_abs}
use lib.ListN.{length}
use Rattle.exact.specs.Smoothing.{LARGEST_WEIGHTS, running}
use Rattle.smooth_tests.specs.Tests.{first_heavy_from, first_heavy}

-- the place in ws, where the magnitudes before ws add to `sum`
record FirstHeavy (sum : ℕ) (ws : List ℤ) (place : ℕ) : Type 0 where
  within : place ≤ length ws
  before : sum + running ws place ≤ LARGEST_WEIGHTS
  heavy : place < length ws → LARGEST_WEIGHTS < sum + running ws (suc place)

no_weights : (sum : ℕ) → sum ≤ LARGEST_WEIGHTS → FirstHeavy sum [] 0
unfolding running
no_weights sum light = record { within = omega arith; before = omega arith; heavy = λ h. absurd (omega arith) }

module _ (sum : ℕ) (w : ℤ) (ws : List ℤ) where
  -- ---- the definition, one weight at a time

  pub heavy_here : LARGEST_WEIGHTS < sum + nat_abs w → first_heavy_from sum (w ∷ ws) ≡ 0
  unfolding first_heavy_from
  heavy_here h = rw (lt-ltb LARGEST_WEIGHTS (sum + nat_abs w) h)

  pub heavy_later : sum + nat_abs w ≤ LARGEST_WEIGHTS → first_heavy_from sum (w ∷ ws) ≡ suc (first_heavy_from (sum + nat_abs w) ws)
  unfolding first_heavy_from
  heavy_later h = rw (le-ltb LARGEST_WEIGHTS (sum + nat_abs w) h)

  -- ---- and what it finds

  first-apart : (n : ℕ) → running (w ∷ ws) (suc n) ≡ nat_abs w + running ws n
  unfolding running
  first-apart zero = omega arith
  first-apart (suc n) = omega (arith, first-apart n)

  front : (place : ℕ) → sum ≤ LARGEST_WEIGHTS → LARGEST_WEIGHTS < sum + nat_abs w → place ≡ 0 → FirstHeavy sum (w ∷ ws) place
  unfolding running
  front place light h e = rw e (record { within = omega arith; before = omega arith; heavy = λ n. omega (arith, first-apart 0) })

  behind : (place rest : ℕ) → FirstHeavy (sum + nat_abs w) ws rest → place ≡ suc rest → FirstHeavy sum (w ∷ ws) place
  behind place rest f e = rw e (record {
    within = omega (arith, f.within);
    before = omega (arith, first-apart rest, f.before);
    heavy = λ n. omega (arith, first-apart (suc rest), f.heavy (omega arith));
  })

finds : (sum : ℕ) (ws : List ℤ) → sum ≤ LARGEST_WEIGHTS → FirstHeavy sum ws (first_heavy_from sum ws)
unfolding first_heavy_from
finds sum [] light = no_weights sum light
finds sum (w ∷ ws) light = go (ltb LARGEST_WEIGHTS (sum + nat_abs w)) refl (finds (sum + nat_abs w) ws)
  where
    go : (t : Bool) → ltb LARGEST_WEIGHTS (sum + nat_abs w) ≡ t → (sum + nat_abs w ≤ LARGEST_WEIGHTS → FirstHeavy (sum + nat_abs w) ws (first_heavy_from (sum + nat_abs w) ws))
        → FirstHeavy sum (w ∷ ws) (first_heavy_from sum (w ∷ ws))
    go true e f = let h = ltb-true _ _ e in front sum w ws _ light h (heavy_here sum w ws h)
    go false e f = let l = ltb-false _ _ e in behind sum w ws _ _ (f l) (heavy_later sum w ws l)

-- ---- from nothing on

module _ (ws : List ℤ) where
  found : FirstHeavy 0 ws (first_heavy ws)
  unfolding first_heavy
  found = finds 0 ws (omega arith)

  pub heavy_none : length ws ≤ first_heavy ws → running ws (length ws) ≤ LARGEST_WEIGHTS
  heavy_none h = let all : first_heavy ws ≡ length ws = omega (arith, found.within) in let light = found.before in omega (arith, rw all at light)

  pub heavy_first : first_heavy ws < length ws → (LARGEST_WEIGHTS < running ws (suc (first_heavy ws))) × (running ws (first_heavy ws) ≤ LARGEST_WEIGHTS)
  heavy_first h = (omega (arith, found.heavy h), omega (arith, found.before))

  -- the magnitudes of more weights add to more
  running_grows : (n k : ℕ) → running ws n ≤ running ws (n + k)
  running_grows n zero = rw (add-zero n) (omega arith)
  running_grows n (suc k) = rw (add-suc n k) (one_more (n + k) (running_grows n k))
    where
      one_more : (m : ℕ) → running ws n ≤ running ws m → running ws n ≤ running ws (suc m)
      one_more m h = unfold running in omega (arith, h)

  -- so some weight passes the limit just where all of them together do
  pub heavy_together : ltb LARGEST_WEIGHTS (running ws (length ws)) ≡ ltb (first_heavy ws) (length ws)
  heavy_together = go (ltb (first_heavy ws) (length ws)) refl
    where
      all : first_heavy ws < length ws → suc (first_heavy ws) + (length ws - suc (first_heavy ws)) ≡ length ws
      all h = omega arith

      go : (t : Bool) → ltb (first_heavy ws) (length ws) ≡ t → ltb LARGEST_WEIGHTS (running ws (length ws)) ≡ t
      go true e = let h = ltb-true (first_heavy ws) (length ws) e in
          lt-ltb LARGEST_WEIGHTS (running ws (length ws)) (omega (arith, (heavy_first h).0, rw (all h) at (running_grows (suc (first_heavy ws)) (length ws - suc (first_heavy ws)))))
      go false e = le-ltb LARGEST_WEIGHTS (running ws (length ws)) (heavy_none (ltb-false (first_heavy ws) (length ws) e))
