-- Both tables serve the levels at the scale in force: the whole one those of every block, each sixteenth entry of it those of up to 64 cells.
use mathlib.Core.Path.{◌≡◌, sym, ◌∙◌, ap}
use mathlib.Core.List.{List}
use Prim.Native.Nat.{ℕ, ◌+◌, ◌*◌, ◌-◌, ◌^◌, ◌≤◌}
use native.Mathlib.Nat.{mod_self, mul-one}
use native.Mathlib.Omega.{arith}
use lib.IntN.{ℤ}
use lib.ListN.{length, get_or}
use Rattle.ints.specs.Tabulate.{tabulate}
use Rattle.ints.proofs.Filling.{filled_all}
use Rattle.ints.proofs.Tables.{get_d_tabulate, length-tabulate}
use Rattle.kind.specs.BlockKinds.{SCALE_DIGITS}
use Rattle.cosine.specs.Cosine.{quarter_table}
use Rattle.levels.specs.Ready.{Ready, Serves}
use Rattle.hartley.specs.Inner.{CanRunLevels}

-- 2^t + 1 entries of the quarter
abbrev pub entries : ℕ → List ℕ
entries t = tabulate (2 ^ t + 1) (λ j. quarter_table SCALE_DIGITS (j * 2 ^ (8 - t)))

pub table-serves : (P t : ℕ) (quarter : List ℕ) → t ≤ 8 → P ≤ t + 2 → quarter ≡ entries t → Serves SCALE_DIGITS P quarter
table-serves P t quarter most enough at_quarter = record { scale = record { least = omega arith; most = omega arith }; t = t; most = most; enough = enough; at_quarter = at_quarter }

pub levels-ready : {P : ℕ} {xs : List ℤ} {quarter : List ℕ} (s : ℕ) → s ≡ SCALE_DIGITS → CanRunLevels P xs → Serves SCALE_DIGITS P quarter → (3 ≤ P) × (length xs ≡ 2 ^ P) × Ready s P quarter xs
levels-ready {P} {xs} s digits R table = rw digits (R.least, R.long, record { table = table; whole = rw R.long (mod_self (2 ^ P)); room = R.room })

pub whole-table : (quarter : List ℕ) → quarter ≡ tabulate 257 (quarter_table SCALE_DIGITS) → quarter ≡ entries 8
whole-table quarter e = filled_all 0 (λ j. quarter_table SCALE_DIGITS (j * 1)) quarter 257 (ap length e ∙ length-tabulate 257 (quarter_table SCALE_DIGITS))
    (λ j h. ap (λ (l : List ℕ). get_or l j 0) e ∙ get_d_tabulate 257 (quarter_table SCALE_DIGITS) 0 j h ∙ ap (quarter_table SCALE_DIGITS) (sym (mul-one j)))

pub coarse_table : (quarter : List ℕ) → quarter ≡ tabulate 17 (λ j. quarter_table SCALE_DIGITS (j * 16)) → quarter ≡ entries 4
coarse_table quarter e = e
