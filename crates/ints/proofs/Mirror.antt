-- The mirror of line v among n lines, at (n − v) mod n: line 0 is its own mirror, and that of line v is line n − v. For a loop that counts v up.
use mathlib.Core.Path.{◌≡◌, sym, ◌∙◌}
use Prim.Native.Nat.{ℕ, ◌-◌, ◌%◌, ◌≤◌, ◌<◌}
use native.Mathlib.Nat.{mod-lt, mod_self, mod-eq_of_lt, sub-zero}
use native.Mathlib.Omega.{arith}

module _ (n v mirror : ℕ) where
  pub mirror_first : v ≡ 0 → mirror ≡ 0 → mirror ≡ (n - v) % n
  mirror_first e f = rw (e, f, sub-zero) (sym (mod_self n))

  pub mirror_later : 0 < v → v ≤ n → mirror ≡ n - v → mirror ≡ (n - v) % n
  mirror_later h k e = e ∙ sym (mod-eq_of_lt (omega arith))

  pub mirror_in : 0 < n → mirror ≡ (n - v) % n → mirror < n
  mirror_in h e = rw e (mod-lt (n - v) h)
