-- `count_digits` is right because a number has one digit more than the power of ten that is not above it.
use mathlib.Core.Path.{◌≡◌, ap}
use Prim.Native.Nat.{ℕ, ◌+◌, ◌*◌, ◌^◌, ◌≤◌, ◌<◌}
use native.Mathlib.Nat.{pow-suc}
use native.Mathlib.Numerals.{add-one}
use native.Mathlib.Omega.{arith}
use lib.ListN.{length}
use Rattle.std.specs.Prelude.{Option, Some, None, IfNone, IfSome, unwrap_or}
use Rattle.text.specs.Decimals.{decimal}
use Rattle.text.proofs.Laws.{decimal-length, decimal_longer, length_one}
use Rattle.text.proofs.count_digits.Goals as goal

-- by the power of ten, of which 0 has none
counted : (x : ℕ) (power : Option ℕ) → IfNone power (x ≡ 0) → IfSome power (λ k. 10 ^ k ≤ x) → IfSome power (λ k. x < 10 * 10 ^ k) → unwrap_or power 0 + 1 ≡ length (decimal x)
counted x None zero least most = omega (arith, length_one x (omega arith))
counted x (Some k) zero least most = omega (arith, decimal_longer k x least, decimal-length (k + 1) x (omega arith) (omega (arith, pow-suc 10 k, ap (λ n. 10 ^ n) (add-one k))))

pub returns : goal.returns
returns c = let e = c.checked_ilog10.ensures in omega (arith, counted c.args.x _ e.none e.power_le e.next_power_gt, c.unwrap_or.ensures)
