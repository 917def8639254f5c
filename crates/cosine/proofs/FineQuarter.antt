-- What is found of the fine cosines by computing, once over the quarter: their sum law, their sizes and their squares.
-- `quarter_sum j k hj hk`, `quarter_size j h` and `quarter_squares j h` carry the one test to each step.
use mathlib.Core.Path.{◌≡◌, sym, ◌∙◌, ap, fun_ext}
use mathlib.Core.Bool.{Bool, true, false, not, ◌&&◌}
use mathlib.Core.List.{List, [], ◌∷◌}
use Prim.Native.Nat.{ℕ, ◌+◌, ◌*◌, ◌-◌, ◌^◌, ◌≤◌, ◌<◌}
use native.Mathlib.Omega.{arith}
use lib.Dec.{T, leb, ltb, leb→le, ltb→lt, nltb→le}
use lib.Ieee.Fits.{and_l, and_r}
use lib.IntN.{ℤ, pos, neg_ℤ, nat_abs, ◌+ℤ◌, ◌-ℤ◌, ◌*ℤ◌, +ℤ_idl, +ℤ_idr}
use Rattle.ints.specs.Tabulate.{tabulate}
use Rattle.ints.proofs.Ring.{ring, quotes}
use Rattle.ints.proofs.Abs.{abs_fact}
use Rattle.ints.proofs.Tables.{alongside, alongside_at, triangle, triangle_at}
use Rattle.cosine.specs.Cosine.{entries, cosine, sine, fine}
use Rattle.cosine.proofs.Turn.{cosine-first, sine-first, cosine_quarter, sine_quarter, listed, cosine-listed, sine-listed}
use Rattle.cosine.proofs.HalfAngle.{fine_end}

-- ---- the test, over a list q of a quarter's cosines

-- cosine and sine at j steps, 0 to 255
pair : List ℕ → ℕ → ℕ × ℕ
pair q j = (entries q j, entries q (256 - j))

-- at i steps, 0 to 511: two numbers whose difference is the cosine, and the sine
triple : List ℕ → ℕ → ℕ × ℕ × ℕ
triple q i = elim (ltb i 256) [ true ↦ (entries q i, 0, entries q (256 - i)) | false ↦ (0, entries q (512 - i), entries q (i - 256)) ]

apart : ℕ → ℕ → ℕ
apart a b = (a - b) + (b - a)

-- cos j cos k − sin j sin k is near cos (j + k), and sin j cos k + cos j sin k near sin (j + k)
cosine_close : ℕ × ℕ → ℕ × ℕ → ℕ × ℕ × ℕ → Bool
cosine_close a b z = leb (apart (a.0 * b.0 + z.1 * 2 ^ 60) (a.1 * b.1 + z.0 * 2 ^ 60)) (2 ^ 66)

sine_close : ℕ × ℕ → ℕ × ℕ → ℕ × ℕ × ℕ → Bool
sine_close a b z = leb (apart (a.1 * b.0 + a.0 * b.1) (z.2 * 2 ^ 60)) (2 ^ 66)

close : ℕ × ℕ → ℕ × ℕ → ℕ × ℕ × ℕ → Bool
close a b z = cosine_close a b z && sine_close a b z

-- cosine at most the scale, cosine and sine together at most √2 of it
sized : ℕ → ℕ → Bool
sized c s = leb c (2 ^ 60) && leb (c + s) (92682 * 2 ^ 44)

-- the squares of cosine and sine together are at most that of the scale, 2^120, and less than 3 × 2^60 from it
squared : ℕ → ℕ → Bool
squared c s = leb (c * c + s * s) (2 ^ 120) && ltb (2 ^ 120) (c * c + s * s + 3 * 2 ^ 60)

sums : List ℕ → Bool
sums q = triangle close (tabulate 256 (pair q)) (tabulate 256 (pair q)) (tabulate 512 (triple q))

sizes : List ℕ → Bool
sizes q = alongside sized (tabulate 257 (entries q)) (tabulate 257 (λ j. entries q (256 - j)))

squares : List ℕ → Bool
squares q = alongside squared (tabulate 257 (entries q)) (tabulate 257 (λ j. entries q (256 - j)))

-- the fine cosines, listed, so that none is computed twice
cosines : List ℕ
cosines = tabulate 257 fine

all : List ℕ → Bool
all q = sums q && (sizes q && squares q)

passed : T (all cosines)
unfolding all sums sizes squares close cosine_close sine_close sized squared apart pair triple triangle tabulate cosines fine
passed = tt

-- ---- what it says at each step

cosines_are : (j : ℕ) → j ≤ 256 → entries cosines j ≡ fine j
unfolding cosines
cosines_are = listed fine

close_at : (j k : ℕ) → j < 256 → k < 256 → T (close (pair cosines j) (pair cosines k) (triple cosines (j + k)))
unfolding all sums
close_at j k hj hk = triangle_at close (pair cosines) (triple cosines) 256 512 (and_l (sums cosines) (sizes cosines && squares cosines) passed) j k hj hk

sizes_and_squares : T (sizes cosines && squares cosines)
unfolding all
sizes_and_squares = and_r (sums cosines) (sizes cosines && squares cosines) passed

sized_at : (j : ℕ) → j ≤ 256 → T (sized (entries cosines j) (entries cosines (256 - j)))
unfolding sizes
sized_at j h = alongside_at sized (entries cosines) (λ j. entries cosines (256 - j)) 257 257 (and_l (sizes cosines) (squares cosines) sizes_and_squares) j (omega arith)

squared_at : (j : ℕ) → j ≤ 256 → T (squared (entries cosines j) (entries cosines (256 - j)))
unfolding squares
squared_at j h = alongside_at squared (entries cosines) (λ j. entries cosines (256 - j)) 257 257 (and_r (sizes cosines) (squares cosines) sizes_and_squares) j (omega arith)

pub record Sized (c s : ℕ) : Type 0 where
  pub alone : c ≤ 2 ^ 60
  pub together : c + s ≤ 92682 * 2 ^ 44

of_sized : (c s : ℕ) → T (sized c s) → Sized c s
unfolding sized
of_sized c s t = record {
  alone = leb→le _ _ (and_l (leb c (2 ^ 60)) (leb (c + s) (92682 * 2 ^ 44)) t);
  together = leb→le _ _ (and_r (leb c (2 ^ 60)) (leb (c + s) (92682 * 2 ^ 44)) t);
}

pub quarter_size : (j : ℕ) → j ≤ 256 → Sized (fine j) (fine (256 - j))
quarter_size j h = rw (cosines_are j h, cosines_are (256 - j) (omega arith)) at (of_sized _ _ (sized_at j h))

-- ---- F(j)² + F(256 − j)² is at most 2^120 and nearly that, whatever law F was made by

pub record Squared (c s : ℕ) : Type 0 where
  pub most : c * c + s * s ≤ 2 ^ 120
  pub near : 2 ^ 120 < c * c + s * s + 3 * 2 ^ 60

of_squared : (c s : ℕ) → T (squared c s) → Squared c s
unfolding squared
of_squared c s t = let most = leb (c * c + s * s) (2 ^ 120) in let near = ltb (2 ^ 120) (c * c + s * s + 3 * 2 ^ 60) in
    record { most = leb→le _ _ (and_l most near t); near = ltb→lt _ _ (and_r most near t) }

pub quarter_squares : (j : ℕ) → j ≤ 256 → Squared (fine j) (fine (256 - j))
quarter_squares j h = rw (cosines_are j h, cosines_are (256 - j) (omega arith)) at (of_squared _ _ (squared_at j h))

-- ---- the sum law in whole numbers: x and y of the sum, a and b of the one angle, p and r of the other

pub record SumLaw (x y a b p r : ℤ) : Type 0 where
  pub of_cosine : nat_abs (x *ℤ pos (2 ^ 60) -ℤ (a *ℤ p -ℤ b *ℤ r)) ≤ 2 ^ 66
  pub of_sine : nat_abs (y *ℤ pos (2 ^ 60) -ℤ (b *ℤ p +ℤ a *ℤ r)) ≤ 2 ^ 66

of_apart : (m n L : ℕ) (z : ℤ) → pos n -ℤ pos m ≡ z → T (leb (apart m n) L) → nat_abs z ≤ L
unfolding apart
of_apart m n L z e t = rw (sym e) (let Γ = pos m ∷ pos n ∷ [] in omega (arith, abs_fact Γ (pos n -ℤ pos m) (search quotes), leb→le (m - n + (n - m)) L t))

module _ (a b x y p q s U : ℕ) where
  cosine_form : pos (b * y + p * U) -ℤ pos (a * x + q * U) ≡ (pos p -ℤ pos q) *ℤ pos U -ℤ (pos a *ℤ pos x -ℤ pos b *ℤ pos y)
  cosine_form = ring (pos U ∷ pos a ∷ pos b ∷ pos x ∷ pos y ∷ pos p ∷ pos q ∷ []) (search quotes depth 40) tt

  sine_form : pos (s * U) -ℤ pos (b * x + a * y) ≡ pos s *ℤ pos U -ℤ (pos b *ℤ pos x +ℤ pos a *ℤ pos y)
  sine_form = ring (pos U ∷ pos a ∷ pos b ∷ pos x ∷ pos y ∷ pos s ∷ []) (search quotes depth 40) tt

of_close : (a b : ℕ × ℕ) (z : ℕ × ℕ × ℕ) → T (close a b z) → SumLaw (pos z.0 -ℤ pos z.1) (pos z.2) (pos a.0) (pos a.1) (pos b.0) (pos b.1)
unfolding close cosine_close sine_close
of_close a b z t = record {
  of_cosine = of_apart _ _ _ _ (cosine_form a.0 a.1 b.0 b.1 z.0 z.1 z.2 (2 ^ 60)) (and_l (cosine_close a b z) (sine_close a b z) t);
  of_sine = of_apart _ _ _ _ (sine_form a.0 a.1 b.0 b.1 z.0 z.1 z.2 (2 ^ 60)) (and_r (cosine_close a b z) (sine_close a b z) t);
}

-- cosine and sine over the half turn are those of the test
module _ (F : ℕ → ℕ) (end : F 256 ≡ 0) (i : ℕ) (h : i < 512) where
  abbrev parts : Bool → ℕ × ℕ × ℕ
  parts t = elim t [ true ↦ (F i, 0, F (256 - i)) | false ↦ (0, F (512 - i), F (i - 256)) ]

  half_parts : (t : Bool) → (T t → i < 256) → (T (not t) → 256 ≤ i) →
      (cosine F i ≡ pos (parts t).0 -ℤ pos (parts t).1) × (sine F i ≡ pos (parts t).2)
  half_parts true f g = (cosine-first F i (omega (arith, f tt)) ∙ sym (+ℤ_idr (pos (F i))), sine-first F i (omega (arith, f tt)))
  half_parts false f g = (
    ap (cosine F) (up (g tt)) ∙ cosine_quarter F end (i - 256)
        ∙ ap neg_ℤ (sine-first F (i - 256) (omega arith) ∙ ap (λ (x : ℕ). pos (F x)) (down (g tt))) ∙ sym (+ℤ_idl (neg_ℤ (pos (F (512 - i))))),
    ap (sine F) (up (g tt)) ∙ sine_quarter F end (i - 256) ∙ cosine-first F (i - 256) (omega arith),
  )
    where
      up : 256 ≤ i → i ≡ i - 256 + 256
      up k = omega arith

      down : 256 ≤ i → 256 - (i - 256) ≡ 512 - i
      down k = omega arith

half_turn_parts : (i : ℕ) → i < 512 →
    (cosine (entries cosines) i ≡ pos (triple cosines i).0 -ℤ pos (triple cosines i).1) × (sine (entries cosines) i ≡ pos (triple cosines i).2)
unfolding triple
half_turn_parts i h = half_parts (entries cosines) (cosines_are 256 (omega arith) ∙ fine_end) i h (ltb i 256) (ltb→lt i 256) (nltb→le i 256)

listed-sum : (j k : ℕ) → j < 256 → k < 256 → let c = cosine (entries cosines) in let s = sine (entries cosines) in SumLaw (c (j + k)) (s (j + k)) (c j) (s j) (c k) (s k)
unfolding pair
listed-sum j k hj hk = let F = entries cosines in let sum = half_turn_parts (j + k) (omega arith) in
    rw (sum.0, sum.1, cosine-first F j (omega arith), sine-first F j (omega arith), cosine-first F k (omega arith), sine-first F k (omega arith))
    (of_close (pair cosines j) (pair cosines k) (triple cosines (j + k)) (close_at j k hj hk))

pub quarter_sum : (j k : ℕ) → j < 256 → k < 256 → SumLaw (cosine fine (j + k)) (sine fine (j + k)) (cosine fine j) (sine fine j) (cosine fine k) (sine fine k)
unfolding cosines
quarter_sum j k hj hk = rw (fun_ext (cosine-listed fine), fun_ext (sine-listed fine)) at (listed-sum j k hj hk)
