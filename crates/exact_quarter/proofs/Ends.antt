-- A list that a loop fills from both its ends with a function's values.
-- Example: `ends_next f last j xs y z h e g D : Ends f last (j + 1) (set (set xs j y) (last - j) z)`, with h : 2 * j ≤ last, e : y ≡ f j, g : z ≡ f (last - j)
-- and D : Ends f last j xs. Where the two ends meet, both writes hit the same entry, with the same value.
use mathlib.Core.Path.{◌≡◌, ◌∙◌}
use mathlib.Core.List.{List}
use Prim.Native.Nat.{ℕ, ◌+◌, ◌*◌, ◌-◌, ◌≤◌, ◌<◌}
use native.Mathlib.Decide.{ℕ_discrete}
use native.Mathlib.Omega.{arith}
use lib.IntN.{ℤ, pos}
use lib.ListN.{length, set, length-set}
use lib.Seq.{get_or-set_same, get_or-set_other}
use Rattle.ints.specs.Cells.{cell}
use Rattle.ints.specs.Tabulate.{tabulate}
use Rattle.ints.proofs.Filling.{filled_all}

-- of the entries from 0 to last, all that are not between j and last − j are f's values
pub record Ends (f : ℕ → ℤ) (last j : ℕ) (xs : List ℤ) : Type 0 where
  pub long : length xs ≡ last + 1
  pub done : (i : ℕ) → i ≤ last → (j ≤ i → i + j ≤ last → ⊥) → cell xs i ≡ f i

module _ (f : ℕ → ℤ) where
  -- entry i after entry k is set to f's value
  set_entry : (xs : List ℤ) (k : ℕ) (y : ℤ) → k < length xs → y ≡ f k → (i : ℕ) → (¬ (i ≡ k) → cell xs i ≡ f i) → cell (set xs k y) i ≡ f i
  set_entry xs k y h e i other = go (ℕ_discrete i k)
    where
      go : Dec (i ≡ k) → cell (set xs k y) i ≡ f i
      go (yes p) = rw p (get_or-set_same xs k y (pos 0) h ∙ e)
      go (no p) = get_or-set_other xs k i y (pos 0) p ∙ other p

  module _ (last : ℕ) where
    pub ends_none : (xs : List ℤ) → length xs ≡ last + 1 → Ends f last 0 xs
    ends_none xs h = record { long = h; done = λ i l between. absurd (between (omega arith) (omega arith)) }

    pub ends_next : (j : ℕ) (xs : List ℤ) (y z : ℤ) → 2 * j ≤ last → y ≡ f j → z ≡ f (last - j) → Ends f last j xs → Ends f last (j + 1) (set (set xs j y) (last - j) z)
    ends_next j xs y z h e g D = record {
      long = simp length-set D.long;
      done = λ i l between. set_entry (set xs j y) (last - j) z (simp length-set (omega arith)) g i
          (λ p. set_entry xs j y (omega arith) e i (λ q. D.done i l (λ a b. between (omega arith) (omega arith))));
    }

    pub ends_all : (j : ℕ) (xs : List ℤ) → last < 2 * j → Ends f last j xs → xs ≡ tabulate (last + 1) f
    ends_all j xs h D = filled_all (pos 0) f xs (last + 1) D.long (λ i l. D.done i (omega arith) (λ a b. omega arith))
