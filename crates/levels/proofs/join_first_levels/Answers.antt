-- `join_first_levels` is right because the quarter's ends and its middle are a table of three entries, and levels 1 to 3 need no other.
use mathlib.Core.Path.{◌≡◌, refl, ◌∙◌, ap}
use mathlib.Core.List.{List, [], ◌∷◌}
use Prim.Native.Nat.{ℕ, ◌+◌, ◌*◌, ◌-◌, ◌/◌, ◌^◌, ◌≤◌}
use native.Mathlib.Nat.{zero-mul}
use native.Mathlib.Omega.{arith}
use lib.ListN.{length, get_or}
use Rattle.ints.specs.Tabulate.{tabulate}
use Rattle.ints.proofs.Powers.{two_pow_pred}
use Rattle.ints.proofs.Tables.{get_d_tabulate}
use Rattle.cosine.specs.Cosine.{quarter_table}
use Rattle.levels.specs.Ready.{Serves}
use Rattle.levels.proofs.Blocks.{entries-many, quarter_turn}
use Rattle.levels.proofs.join_first_levels.Goals as goal

module _ {s : ℕ} {quarter : List ℕ} (S : Serves s 3 quarter) where
  some : 1 ≤ S.t
  some = omega (arith, S.enough)

  abbrev apart : ℕ
  apart = 2 ^ (8 - S.t)

  entry : (j : ℕ) → j ≤ 2 ^ S.t → get_or quarter j 0 ≡ quarter_table s (j * apart)
  entry j h = ap (λ (l : List ℕ). get_or l j 0) S.at_quarter ∙ get_d_tabulate (2 ^ S.t + 1) (λ j. quarter_table s (j * apart)) 0 j (omega arith)

  last-is : length quarter - 1 ≡ 2 ^ S.t
  last-is = omega (arith, entries-many S, two_pow_pred S.t some)

  whole : 2 ^ S.t * apart ≡ 256
  whole = quarter_turn S.t S.most

  -- the first entry, that at the middle and the last
  eighths : get_or quarter 0 0 ∷ get_or quarter ((length quarter - 1) / 2) 0 ∷ get_or quarter (length quarter - 1) 0 ∷ [] ≡ tabulate 3 (λ j. quarter_table s (j * 128))
  unfolding tabulate
  eighths = listed (entry 0 (omega arith) ∙ ap (quarter_table s) (zero-mul apart)) (ap (λ (j : ℕ). get_or quarter j 0) middle_is ∙ entry (2 ^ (S.t - 1)) (omega (arith, two_pow_pred S.t some)) ∙ ap (quarter_table s) middle-at)
      (ap (λ (j : ℕ). get_or quarter j 0) last-is ∙ entry (2 ^ S.t) (omega arith) ∙ ap (quarter_table s) whole)
    where
      listed : {a b c a' b' c' : ℕ} → a ≡ a' → b ≡ b' → c ≡ c' → a ∷ b ∷ c ∷ [] ≡ a' ∷ b' ∷ c' ∷ []
      listed e f g = rw (e, f, g) refl

      middle_is : (length quarter - 1) / 2 ≡ 2 ^ (S.t - 1)
      middle_is = omega (arith, last-is, two_pow_pred S.t some)

      middle-at : 2 ^ (S.t - 1) * apart ≡ 128
      middle-at = omega (arith, whole, ap (λ (n : ℕ). n * apart) (two_pow_pred S.t some))

  pub serves-eighths : (three : List ℕ) → three ≡ get_or quarter 0 0 ∷ get_or quarter ((length quarter - 1) / 2) 0 ∷ get_or quarter (length quarter - 1) 0 ∷ [] → Serves s 3 three
  serves-eighths three e = record { scale = S.scale; t = 1; most = omega arith; enough = omega arith; at_quarter = e ∙ eighths }

pub overflow_sub-last : goal.overflow_sub-last
overflow_sub-last c = omega (arith, entries-many c.requires.table)

pub bounds-quarter-0 : goal.bounds-quarter-0
bounds-quarter-0 c = omega (arith, entries-many c.requires.table)

pub bounds-quarter-last : goal.bounds-quarter-last
bounds-quarter-last c = omega (arith, entries-many c.requires.table)

pub bounds-quarter-last-2 : goal.bounds-quarter-last-2
bounds-quarter-last-2 c = omega (arith, entries-many c.requires.table)

pub join_eights-requires : goal.join_eights-requires
join_eights-requires c = record { table = serves-eighths c.requires.table _ refl; whole = c.requires.whole; room = c.requires.room }
