-- The strongest line of a band: a line is the strongest of itself; of a band with one line more it is the strongest before or that line; and what has the
-- relation `Strongest` is what the definition gives.
-- Example: `strongest-is ps low high v h s : strongest ps low high ≡ Some (record { 0 = v })`, with h : high < length ps and s : Strongest ps low high v.
use mathlib.Core.Path.{◌≡◌, refl, subst}
use mathlib.Core.Bool.{Bool, true, false, cond, ◌&&◌}
use mathlib.Core.List.{List}
use mathlib.Core.Logic.{◌⊎◌, inl, inr}
use Prim.Native.Nat.{ℕ, ◌+◌, ◌-◌, ◌≤◌, ◌<◌}
use native.Mathlib.Nat.{eq-or-lt_of_le}
use native.Mathlib.Omega.{arith}
use borrow.Author.Tests.{le-leb, leb-true}
use lib.Dec.{leb}
use lib.IntN.{ℤ}
use lib.ListN.{length}
use lib.Signed.{◌≤ℤ◌, ◌<ℤ◌, ≤ℤ_refl}
use Rattle.std.specs.Prelude.{Some}
use Rattle.ints.specs.Cells.{cell}
use Rattle.search.specs.declared.Peak.{Peak}
use Rattle.search.specs.Search.{Strongest, in_band, is_stronger, reaches, strongest}
use Rattle.search.specs.Inner.{stronger}
use Rattle.search.proofs.Lowest.{best-is, one_outcome}
use Rattle.search.proofs.Powers.{at_most_less, at_most_on, less_at_most, reached, reaches_not, reaches_so, unreached}

module _ (ps : List ℤ) where
  -- ---- line by line

  pub strongest-first : (v : ℕ) → Strongest ps v v v
  strongest-first v = record {
    from = omega arith;
    to = omega arith;
    none_stronger = λ w a b. let e : w ≡ v = omega arith in rw e (≤ℤ_refl (cell ps v));
    none_lower = λ w a b. absurd (omega arith);
  }

  -- the strongest so far is v, and the next line comes to the band
  module _ (low high next v : ℕ) (e : next ≡ high + 1) (s : Strongest ps low high v) where
    strongest_kept : reaches (cell ps v) (cell ps next) ≡ true → Strongest ps low next v
    strongest_kept t = record { from = s.from; to = omega (arith, s.to); none_stronger = λ w a b. go w a (eq-or-lt_of_le b); none_lower = s.none_lower }
      where
        go : (w : ℕ) → low ≤ w → (w ≡ next) ⊎ (w < next) → cell ps w ≤ℤ cell ps v
        go w a (inl same) = rw same (reached t)
        go w a (inr below) = s.none_stronger w a (omega arith)

    strongest_new : reaches (cell ps v) (cell ps next) ≡ false → Strongest ps low next next
    strongest_new t = record { from = omega (arith, s.from, s.to); to = omega arith; none_stronger = λ w a b. go w a (eq-or-lt_of_le b); none_lower = below }
      where
        below : (w : ℕ) → low ≤ w → w < next → cell ps w <ℤ cell ps next
        below w a b = at_most_less (s.none_stronger w a (omega arith)) (unreached t)

        go : (w : ℕ) → low ≤ w → (w ≡ next) ⊎ (w < next) → cell ps w ≤ℤ cell ps next
        go w a (inl same) = rw same (≤ℤ_refl (cell ps next))
        go w a (inr h) = less_at_most (below w a h)

  -- the strongest of the lines from low on and before `next`, with its power
  pub record Peaked (low next : ℕ) (peak : Peak) : Type 0 where
    pub some : low < next
    pub strongest : Strongest ps low (next - 1) peak.line
    pub its_power : peak.power ≡ cell ps peak.line

  pub peak_first : (v : ℕ) {power : ℤ} → power ≡ cell ps v → Peaked v (v + 1) (record { line = v; power = power })
  peak_first v e = let same : v + 1 - 1 ≡ v = omega arith in record { some = omega arith; strongest = rw same (strongest-first v); its_power = e }

  pub peak_next : (low next after : ℕ) {power : ℤ} (peak : Peak) → after ≡ next + 1 → power ≡ cell ps next → Peaked low next peak → Peaked low after (stronger peak next power)
  peak_next low next after {power} peak e p s = go (reaches peak.power power) refl
    where
      some : low < after
      some = omega (arith, s.some)

      behind : next ≡ next - 1 + 1
      behind = omega (arith, s.some)

      up_to : after - 1 ≡ next
      up_to = omega arith

      same : {t : Bool} → reaches peak.power power ≡ t → reaches (cell ps peak.line) (cell ps next) ≡ t
      same f = rw (← s.its_power, ← p) f

      go : (t : Bool) → reaches peak.power power ≡ t → Peaked low after (cond t peak (record { line = next; power = power }))
      go true f = record { some = some; strongest = rw up_to (strongest_kept low (next - 1) next peak.line behind s.strongest (same f)); its_power = s.its_power }
      go false f = record { some = some; strongest = rw up_to (strongest_new low (next - 1) next peak.line behind s.strongest (same f)); its_power = p }

  pub peak_four : (low v after : ℕ) {a b c d : ℤ} (peak : Peak) → after ≡ v + 4 → a ≡ cell ps v → b ≡ cell ps (v + 1) → c ≡ cell ps (v + 2) → d ≡ cell ps (v + 3)
      → Peaked low v peak → Peaked low after (stronger (stronger (stronger (stronger peak v a) (v + 1) b) (v + 2) c) (v + 3) d)
  peak_four low v after peak e ea eb ec ed s = peak_next low (v + 3) after _ (omega arith) ed (peak_next low (v + 2) (v + 3) _ (omega arith) ec
      (peak_next low (v + 1) (v + 2) _ (omega arith) eb (peak_next low v (v + 1) peak refl ea s)))

  -- the strongest of the lines up to `high`
  pub strongest_of : (low high next : ℕ) {peak : Peak} → next ≡ high + 1 → Peaked low next peak → Strongest ps low high peak.line
  strongest_of low high next {peak} e s = let same : next - 1 ≡ high = omega arith in subst (λ (high : ℕ). Strongest ps low high peak.line) same s.strongest

  -- ---- what the definition gives

  module _ (low high v : ℕ) (in_List : high < length ps) (s : Strongest ps low high v) where
    in_band_lem : {w : ℕ} → low ≤ w → w ≤ high → in_band low high w ≡ true
    in_band_lem {w} a b = rw (le-leb low w a, le-leb w high b) refl

    band_ends : (w : ℕ) → in_band low high w ≡ true → (low ≤ w) × (w ≤ high)
    band_ends w e = go (leb low w) (leb w high) refl refl e
      where
        go : (t u : Bool) → leb low w ≡ t → leb w high ≡ u → (t && u) ≡ true → (low ≤ w) × (w ≤ high)
        go true true a b e = (leb-true low w a, leb-true w high b)
        go true false a b e = one_outcome e refl
        go false u a b e = one_outcome e refl

    pub strongest-is : strongest ps low high ≡ Some (record { 0 = v })
    unfolding strongest
    strongest-is = best-is (in_band low high) (is_stronger ps) (length ps) v (omega (arith, s.to)) (in_band_lem s.from s.to)
        (λ w a b. let e = band_ends w b in rw (reaches_so (s.none_stronger w e.0 e.1)) refl)
        (λ w a b. let e = band_ends w b in rw (reaches_not (s.none_lower w e.0 a)) refl)

-- the strongest line so far is as strong as the strongest of four: m is the larger of the first two powers, n of the others, and top of these
pub four_kept : (peak : Peak) (v : ℕ) {a b c d m n top : ℤ} → a ≤ℤ m → b ≤ℤ m → c ≤ℤ n → d ≤ℤ n → m ≤ℤ top → n ≤ℤ top → top ≤ℤ peak.power
    → peak ≡ stronger (stronger (stronger (stronger peak v a) (v + 1) b) (v + 2) c) (v + 3) d
four_kept peak v am bm cn dn mt nt tp = let mp = at_most_on mt tp in let np = at_most_on nt tp in
    rw (reaches_so (at_most_on am mp), reaches_so (at_most_on bm mp), reaches_so (at_most_on cn np), reaches_so (at_most_on dn np)) refl
