-- The chosen pair has a full turn, and a quarter of it is (0, 1): its 1,024 steps are computed.
use mathlib.Core.Path.{◌≡◌, refl, sym, ◌∙◌, ap, subst}
use mathlib.Core.Bool.{Bool, true, false, ◌&&◌}
use Prim.Native.Nat.{ℕ, zero, suc, ◌+◌, ◌≤◌, ◌<◌}
use native.Mathlib.Decide.{dec_lt}
use native.Mathlib.Omega.{arith}
use lib.Dec.{T, eqb, eqb→eq}
use lib.Ieee.Fits.{and_l, and_r}
use lib.IntN.{pos, ◌+ℤ◌, ◌*ℤ◌}
use Rattle.residues.specs.Residue.{residue}
use Rattle.residues.proofs.Congruent.{◌≈◌, ≈-is}
use Rattle.turns.specs.Turn.{Pair, START, turned, steps, FullTurn, CHOSEN, cosine_at, sine_at}
use Rattle.turns.proofs.Turning.{Turning, turning}

-- whether two pairs are the same
abbrev same : Pair → Pair → Bool
same x y = eqb x.cosine y.cosine && eqb x.sine y.sine

same_pair : (x y : Pair) → T (same x y) → x ≡ y
same_pair x y t = λ i. record {
  cosine = eqb→eq x.cosine y.cosine (and_l (eqb x.cosine y.cosine) (eqb x.sine y.sine) t) i;
  sine = eqb→eq x.sine y.sine (and_r (eqb x.cosine y.cosine) (eqb x.sine y.sine) t) i;
}

-- whether none of the k pairs from x on is where the turn began
unfoldable apart : Pair → ℕ → Pair → Bool
apart q zero x = true
apart q (suc k) x = elim (same x START) [ true ↦ false | false ↦ apart q k (turned x q) ]

apart_at : (q : Pair) (k i : ℕ) → T (apart q k (steps q i)) → (j : ℕ) → i ≤ j → j < i + k → ¬ (steps q j ≡ START)
unfolding apart steps
apart_at q zero i t j h l e = omega arith
apart_at q (suc k) i t j h l e = go (same (steps q i) START) refl (apart_at q k (suc i)) t (dec_lt i j)
  where
    go : (b : Bool) → same (steps q i) START ≡ b → (T (apart q k (steps q (suc i))) → (j : ℕ) → suc i ≤ j → j < suc i + k → ¬ (steps q j ≡ START)) →
        T (elim b [ true ↦ false | false ↦ apart q k (steps q (suc i)) ]) → Dec (i < j) → ⊥
    go true f rec t d = absurd t
    go false f rec t (yes m) = rec t j m (omega arith) e
    go false f rec t (no m) = subst T (sym (ap (λ (x : Pair). same x START) (ap (steps q) here ∙ e)) ∙ f) tt
      where
        here : i ≡ j
        here = omega arith

-- ---- what is computed

square : T (eqb (residue (pos CHOSEN.cosine *ℤ pos CHOSEN.cosine +ℤ pos CHOSEN.sine *ℤ pos CHOSEN.sine)) 1)
unfolding residue
square = tt

-- one step is the pair itself, and none from it to step 1,023 is where the turn began
first : T (same (steps CHOSEN 1) CHOSEN)
unfolding steps
first = tt

others : T (apart CHOSEN 1023 CHOSEN)
unfolding apart turned
others = tt

last : T (same (steps CHOSEN 1024) START)
unfolding steps
last = tt

quarter : T (same (steps CHOSEN 256) (record { cosine = 0; sine = 1 }))
unfolding steps
quarter = tt

-- ---- and what follows

pub chosen_full : FullTurn CHOSEN
chosen_full = record {
  unit = eqb→eq _ 1 square;
  whole = same_pair (steps CHOSEN 1024) START last;
  least = λ j h l. apart_at CHOSEN 1023 1 (subst (λ (x : Pair). T (apart CHOSEN 1023 x)) (sym (same_pair (steps CHOSEN 1) CHOSEN first)) others) j h l;
}

pub chosen_quarter : steps CHOSEN 256 ≡ record { cosine = 0; sine = 1 }
chosen_quarter = same_pair (steps CHOSEN 256) (record { cosine = 0; sine = 1 }) quarter

-- ---- what the functions use of it

pub chosen_turn : Turning (cosine_at CHOSEN) (sine_at CHOSEN)
chosen_turn = turning CHOSEN chosen_full

pub cosine_quarter : cosine_at CHOSEN 256 ≈ pos 0
cosine_quarter = ≈-is (ap (λ (x : Pair). pos x.cosine) chosen_quarter)

pub sine_quarter : sine_at CHOSEN 256 ≈ pos 1
sine_quarter = ≈-is (ap (λ (x : Pair). pos x.sine) chosen_quarter)
