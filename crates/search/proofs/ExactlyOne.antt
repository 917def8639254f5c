-- Exactly one line is the strongest of a band, and exactly one is the nearest that reaches a level, unless none reaches it: the definitions give these lines.
-- Example: `(strongest_exactly ps low high h k).line : ℕ`, the line, with h : low ≤ high and k : high < length ps.
use mathlib.Core.Path.{◌≡◌, refl}
use mathlib.Core.Bool.{Bool, true, false, ◌&&◌}
use mathlib.Core.List.{List}
use mathlib.Core.Logic.{◌⊎◌, inl, inr}
use Prim.Native.Nat.{ℕ, zero, suc, ◌+◌, ◌-◌, ◌≤◌, ◌<◌}
use native.Mathlib.Omega.{arith}
use borrow.Author.Tests.{le-leb, leb-true, lt-ltb, ltb-true}
use lib.Dec.{leb, ltb}
use lib.IntN.{ℤ}
use lib.ListN.{length}
use lib.Signed.{◌≤ℤ◌, clash_ℤ}
use Rattle.std.specs.Prelude.{Option, Some, None}
use Rattle.ints.specs.Cells.{cell}
use Rattle.kind.specs.declared.Line.{Line}
use Rattle.search.specs.declared.Peak.{Peak}
use Rattle.search.specs.Search.{Nearest, Strongest, nearest, reaches, strongest}
use Rattle.search.specs.Inner.{NoneWithin}
use Rattle.search.proofs.Lowest.{one_outcome}
use Rattle.search.proofs.Powers.{reaches_so}
use Rattle.search.proofs.Band.{Peaked, peak_first, peak_next, strongest-is}
use Rattle.search.proofs.Outwards.{above-found, below-found, nearest-is, none_first, none-next}

-- a line has a property, no other has it, and it is what is answered
pub record ExactlyOne (Has : ℕ → Type 0) (answer : Option Line) : Type 0 where
  pub line : ℕ
  pub has : Has line
  pub no_other : (w : ℕ) → Has w → w ≡ line
  pub answered : answer ≡ Some (record { 0 = line })

-- where two tests are passed both are, and where they are not and the first is, the second is not
both : {t u : Bool} → (t && u) ≡ true → (t ≡ true) × (u ≡ true)
both {t = true} {u = true} e = (refl, refl)
both {t = true} {u = false} e = one_outcome e refl
both {t = false} {u = u} e = one_outcome e refl

second : {t u : Bool} → (t && u) ≡ false → t ≡ true → u ≡ false
second {t = true} e f = e
second {t = false} e f = one_outcome f refl

-- two lines of which neither is lower are the same
neither_lower : (v w : ℕ) → (v < w → ⊥) → (w < v → ⊥) → w ≡ v
neither_lower v w f g = omega (arith, f, g)

module _ (ps : List ℤ) where
  -- ---- the strongest line of a band

  pub strongest_unique : (low high v w : ℕ) → Strongest ps low high v → Strongest ps low high w → w ≡ v
  strongest_unique low high v w s t = neither_lower v w (clash v w s t) (clash w v t s)
    where
      clash : (v w : ℕ) → Strongest ps low high v → Strongest ps low high w → v < w → ⊥
      clash v w s t h = clash_ℤ (t.none_lower v s.from h) (s.none_stronger w t.from t.to)

  -- one line after another
  peak : (low n next : ℕ) → next ≡ low + 1 + n → (p : Peak) × Peaked ps low next p
  peak low zero next e = let same : next ≡ low + 1 = omega arith in rw same (_, peak_first ps low refl)
  peak low (suc n) next e = go (peak low n (low + 1 + n) refl)
    where
      go : (p : Peak) × Peaked ps low (low + 1 + n) p → (p : Peak) × Peaked ps low next p
      go p = (_, peak_next ps low (low + 1 + n) next p.0 (omega arith) refl p.1)

  pub strongest_exactly : (low high : ℕ) → low ≤ high → high < length ps → ExactlyOne (Strongest ps low high) (strongest ps low high)
  strongest_exactly low high h k = go (peak low (high - low) (high + 1) (omega arith))
    where
      go : (p : Peak) × Peaked ps low (high + 1) p → ExactlyOne (Strongest ps low high) (strongest ps low high)
      go p = let same : high + 1 - 1 ≡ high = omega arith in let s = rw same at p.1.strongest in
          record { line = p.0.line; has = s; no_other = λ w t. strongest_unique low high _ w s t; answered = strongest-is ps low high _ k s }

  -- ---- the nearest line that reaches a level

  module _ (v : ℕ) (level : ℤ) where
    pub nearest_unique : (near w : ℕ) → Nearest ps v level near → Nearest ps v level w → w ≡ near
    nearest_unique near w s t = neither_lower near w (clash near w s t) (clash w near t s)
      where
        clash : (u w : ℕ) → Nearest ps v level u → Nearest ps v level w → u < w → ⊥
        clash u w s t h = omega (arith, t.none_lower u h s.reached, s.none_nearer w t.listed t.reached)

    -- one distance after another: a line is found, or no line so near reaches the level
    outwards : v < length ps → (n far : ℕ) → NoneWithin ps v level far → ((near : ℕ) × Nearest ps v level near) ⊎ NoneWithin ps v level (far + n)
    outwards h zero far none = inr (record { unreached = λ w a d. none.unreached w a (omega arith) })
    outwards h (suc n) far none = go (leb far v && reaches (cell ps (v - far)) level) (ltb (v + far) (length ps) && reaches (cell ps (v + far)) level) refl refl (outwards h n (far + 1))
      where
        go : (t u : Bool) → (leb far v && reaches (cell ps (v - far)) level) ≡ t → (ltb (v + far) (length ps) && reaches (cell ps (v + far)) level) ≡ u
            → (NoneWithin ps v level (far + 1) → ((near : ℕ) × Nearest ps v level near) ⊎ NoneWithin ps v level (far + 1 + n))
            → ((near : ℕ) × Nearest ps v level near) ⊎ NoneWithin ps v level (far + suc n)
        go true u e f next = let b = both e in inl (_, below-found ps v level far none (leb-true far v b.0) h b.1)
        go false true e f next = let b = both f in inl (_, above-found ps v level far none (λ c. second e (le-leb far v c)) (ltb-true _ _ b.0) b.1)
        go false false e f next = let same : far + suc n ≡ far + 1 + n = omega arith in
            rw same (next (none-next ps v level far none (λ c. second e (le-leb far v c)) (λ c. second f (lt-ltb _ _ c))))

    -- some line reaches it
    pub nearest_exactly : v < length ps → (some : ℕ) → some < length ps → level ≤ℤ cell ps some → ExactlyOne (Nearest ps v level) (nearest ps v level)
    nearest_exactly h some k r = go (outwards h (length ps) 0 (none_first ps v level))
      where
        go : ((near : ℕ) × Nearest ps v level near) ⊎ NoneWithin ps v level (0 + length ps) → ExactlyOne (Nearest ps v level) (nearest ps v level)
        go (inl n) = record { line = n.0; has = n.1; no_other = λ w t. nearest_unique n.0 w n.1 t; answered = nearest-is ps v level _ n.1 }
        go (inr none) = one_outcome (reaches_so r) (none.unreached some k (omega arith))

    -- none only where no line reaches it; that it is none there is `nearest_none`
    pub none_exactly : v < length ps → nearest ps v level ≡ None → (w : ℕ) → w < length ps → level ≤ℤ cell ps w → ⊥
    none_exactly h e w k r = let f = (nearest_exactly h w k r).answered in let z : ◌≡◌ {A = ℕ} 0 1 = cc in omega arith
