-- No weight is larger than the magnitudes of all of them added.
use mathlib.Core.Path.{◌≡◌, sym, ◌∙◌}
use mathlib.Core.List.{List}
use Prim.Native.Nat.{ℕ, zero, suc, ◌^◌, ◌≤◌, ◌<◌}
use native.Mathlib.Decide.{dec_lt}
use native.Mathlib.Omega.{arith}
use lib.IntN.{ℤ, pos, nat_abs}
use Rattle.ints.specs.Cells.{cell}
use Rattle.ints.proofs.Slices.{everywhere}
use Rattle.exact.specs.Smoothing.{LARGEST_WEIGHTS, running}
use Rattle.cyclic_sums.specs.Short.{Short}
use Rattle.smoothing.specs.Inner.{Accepted}

in_running : (ws : List ℤ) (n i : ℕ) → i < n → nat_abs (cell ws i) ≤ running ws n
unfolding running
in_running ws zero i h = absurd (omega arith)
in_running ws (suc n) i h = go (dec_lt i n) (in_running ws n i)
  where
    last : ¬ (i < n) → i ≡ n
    last k = omega arith

    go : Dec (i < n) → (i < n → nat_abs (cell ws i) ≤ running ws n) → nat_abs (cell ws i) ≤ running ws (suc n)
    go (yes l) f = omega (arith, f l)
    go (no k) f = rw (last k) (omega arith)

-- beyond the last there is none
pub weight_light : {P : ℕ} {xs ws : List ℤ} → Accepted P xs ws → (i : ℕ) → nat_abs (cell ws i) ≤ LARGEST_WEIGHTS
weight_light {P} {xs} {ws} A = everywhere (pos 0) (λ z. nat_abs z ≤ LARGEST_WEIGHTS) (omega arith) ws
    (λ i l. omega (arith, in_running ws (2 ^ P) i (omega (arith, A.as_long)), A.light))

-- so samples and weights that are taken have room for their plain sums
pub short : {P : ℕ} {xs ws : List ℤ} → Accepted P xs ws → Short xs ws
short A = record { as_long = A.as_long ∙ sym A.long; quiet = λ i. omega (arith, A.quiet i); light = λ i. omega (arith, weight_light A i) }
