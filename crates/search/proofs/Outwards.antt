-- The nearest line, looked for outwards: as long as no line at a smaller distance reaches the level, a line that does at this distance is the nearest, the
-- one below before the one above; and what has the relation `Nearest` is what the definition gives.
-- Example: `below-found ps v level far none c h r : Nearest ps v level (v - far)`, with r : reaches (cell ps (v - far)) level ≡ true.
use mathlib.Core.Path.{◌≡◌, refl, sym, ◌∙◌, ap, subst}
use mathlib.Core.Bool.{Bool, true, false}
use mathlib.Core.List.{List}
use mathlib.Core.Logic.{◌⊎◌, inl, inr}
use Prim.Native.Nat.{ℕ, ◌+◌, ◌-◌, ◌≤◌, ◌<◌}
use native.Mathlib.Nat.{eq-or-lt_of_le}
use native.Mathlib.Omega.{arith}
use borrow.Author.Tests.{leb-true, leb-false, lt-ltb, le-ltb, ltb-true, ltb-false}
use lib.Dec.{leb, ltb}
use lib.IntN.{ℤ}
use lib.ListN.{length}
use lib.Signed.{◌≤ℤ◌}
use Rattle.std.specs.Prelude.{Some, None}
use Rattle.ints.specs.Cells.{cell}
use Rattle.search.specs.Search.{Nearest, distance, is_nearer, nearest, reaches}
use Rattle.search.specs.Inner.{NoneWithin, ReachesAt}
use Rattle.search.proofs.Lowest.{best-is, best_none, one_outcome}
use Rattle.search.proofs.Powers.{reached, reaches_so}

-- the line u that was compared is w
pub at_line : {ps : List ℤ} {u : ℕ} (w : ℕ) {level : ℤ} {r : Bool} (t : Bool) → ReachesAt ps u level r → u ≡ w → r ≡ t → reaches (cell ps w) level ≡ t
at_line {ps} w {level} t c e f = ap (λ (v : ℕ). reaches (cell ps v) level) (sym e) ∙ sym c.is ∙ f

module _ (ps : List ℤ) (v : ℕ) (level : ℤ) where
  -- ---- what the definition gives

  pub nearest-is : (near : ℕ) → Nearest ps v level near → nearest ps v level ≡ Some (record { 0 = near })
  unfolding nearest
  nearest-is near n = best-is (λ w. reaches (cell ps w) level) (is_nearer v) (length ps) near n.listed (reaches_so n.reached)
      (λ w a b. le-ltb _ _ (n.none_nearer w a (reached b))) (λ w a b. lt-ltb _ _ (n.none_lower w a (reached b)))

  pub nearest_none : ((w : ℕ) → w < length ps → reaches (cell ps w) level ≡ false) → nearest ps v level ≡ None
  unfolding nearest
  nearest_none h = best_none (λ w. reaches (cell ps w) level) (is_nearer v) (length ps) h

  -- ---- one distance after another

  pub none_first : NoneWithin ps v level 0
  none_first = record { unreached = λ w h d. absurd (omega arith) }

  module _ (far : ℕ) (none : NoneWithin ps v level far) where
    -- a line that reaches the level is at least so far away
    far_away : (w : ℕ) → w < length ps → level ≤ℤ cell ps w → far ≤ distance v w
    far_away w h r = go (ltb (distance v w) far) refl
      where
        go : (t : Bool) → ltb (distance v w) far ≡ t → far ≤ distance v w
        go true e = one_outcome (reaches_so r) (none.unreached w h (ltb-true _ _ e))
        go false e = ltb-false _ _ e

    pub below-found : far ≤ v → v < length ps → reaches (cell ps (v - far)) level ≡ true → Nearest ps v level (v - far)
    below-found c h r = record {
      listed = omega arith;
      reached = reached r;
      none_nearer = λ w a r. omega (arith, far_away w a r);
      none_lower = λ w a r. omega (arith, far_away w (omega arith) r);
    }

    -- the line so far below does not reach the level, where there is one
    module _ (below : far ≤ v → reaches (cell ps (v - far)) level ≡ false) where
      pub above-found : v + far < length ps → reaches (cell ps (v + far)) level ≡ true → Nearest ps v level (v + far)
      above-found h r = record {
        listed = h;
        reached = reached r;
        none_nearer = λ w a r. omega (arith, far_away w a r);
        none_lower = λ w a r. farther w a r (eq-or-lt_of_le (far_away w (omega arith) r));
      }
        where
          farther : (w : ℕ) → w < v + far → level ≤ℤ cell ps w → (far ≡ distance v w) ⊎ (far < distance v w) → distance v (v + far) < distance v w
          farther w a r (inr more) = omega arith
          farther w a r (inl same) = let e : w ≡ v - far = omega arith in one_outcome (reaches_so (subst (λ (w : ℕ). level ≤ℤ cell ps w) e r)) (below (omega arith))

      -- and neither does the one above
      pub none-next : (v + far < length ps → reaches (cell ps (v + far)) level ≡ false) → NoneWithin ps v level (far + 1)
      none-next above = record { unreached = λ w h d. go w h d (ltb (distance v w) far) (leb w v) refl refl }
        where
          go : (w : ℕ) → w < length ps → distance v w < far + 1 → (t u : Bool) → ltb (distance v w) far ≡ t → leb w v ≡ u → reaches (cell ps w) level ≡ false
          go w h d true u e f = none.unreached w h (ltb-true _ _ e)
          go w h d false true e f = let at_least_lem = ltb-false (distance v w) far e in let at_most = leb-true w v f in let same : w ≡ v - far = omega arith in rw same (below (omega arith))
          go w h d false false e f = let at_least_lem = ltb-false (distance v w) far e in let beyond = leb-false w v f in let same : w ≡ v + far = omega arith in rw same (above (omega arith))

    -- the line at this distance on either side, by its number
    pub below_line : (w : ℕ) → far + w ≡ v → v < length ps → reaches (cell ps w) level ≡ true → Nearest ps v level w
    below_line w e h r = let same : v - far ≡ w = omega arith in subst (Nearest ps v level) same (below-found (omega arith) h (rw same r))

    pub above_line : (w : ℕ) → v + far ≡ w → v < far → w < length ps → reaches (cell ps w) level ≡ true → Nearest ps v level w
    above_line w e c h r = subst (Nearest ps v level) e (above-found (λ k. absurd (omega arith)) (omega arith) (rw e r))

    -- every line is nearer
    pub none_left : v < far → length ps ≤ v + far → nearest ps v level ≡ None
    none_left c h = nearest_none (λ w a. none.unreached w a (omega arith))

  -- ---- the line itself

  pub here_found : v < length ps → reaches (cell ps v) level ≡ true → Nearest ps v level v
  here_found h r = let same : v - 0 ≡ v = omega arith in subst (Nearest ps v level) same (below-found 0 none_first (omega arith) h (rw same r))

  pub none_here : reaches (cell ps v) level ≡ false → NoneWithin ps v level 1
  none_here r = let before : v - 0 ≡ v = omega arith in let after : v + 0 ≡ v = omega arith in none-next 0 none_first (λ _. rw before r) (λ _. rw after r)
