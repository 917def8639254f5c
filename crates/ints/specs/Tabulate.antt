-- The list of a function's first values. Example: `tabulate 3 f` is f 0 ∷ f 1 ∷ f 2 ∷ [].
use Rattle.std.specs.Prelude.{List, [], ◌∷◌, ℕ, zero, suc}

-- f i, f (i + 1), .., n of them
unfoldable pub tabulate_from : {A : Type 0} → ℕ → ℕ → (ℕ → A) → List A
tabulate_from i zero f = []
tabulate_from i (suc n) f = f i ∷ tabulate_from (suc i) n f

unfoldable pub tabulate : {A : Type 0} → ℕ → (ℕ → A) → List A
unfolding tabulate_from
tabulate n f = tabulate_from 0 n f
