-- `root` is right because the digits are those of x itself.
use mathlib.Core.Path.{◌≡◌, refl, ◌∙◌, ap}
use Prim.Native.Nat.{ℕ, ◌+◌, ◌*◌, ◌^◌, ◌≤◌, ◌<◌}
use native.Mathlib.Omega.{arith}
use Rattle.cosine.specs.Root.{root}
use Rattle.cosine.proofs.Root.{root-holds}
use Rattle.roots.proofs.root.Goals as goal

of-all : (x more r : ℕ) → more ≡ 0 → r ≡ root (x * 4 ^ more) → (r ≡ root x) × ((r * r ≤ x) × (x < (r + 1) * (r + 1)))
of-all x more r none e = let is = e ∙ ap root same in rw is (refl, ((root-holds x).low, omega (arith, (root-holds x).high)))
  where
    same : x * 4 ^ more ≡ x
    same = rw none (omega arith)

pub returns : goal.returns
returns c = let r = of-all _ 0 _ refl c.digits_of.ensures in record { root = r.0; low = r.1.0; high = r.1.1 }
