-- `misfit` is right because both it and the definition ask whether some output has another number of cells.
use mathlib.Core.Path.{◌≡◌, refl, ◌∙◌, ap}
use mathlib.Core.Bool.{not, ◌||◌}
use mathlib.Core.List.{List, [], ◌∷◌}
use Prim.Native.Nat.{ℕ}
use lib.Dec.{eqb}
use Rattle.std.proofs.Common.{rules, tests}
use Rattle.std.specs.List.{list_any}
use Rattle.std.proofs.lemmas.Iterator.{YieldsList-from_slice}
use Rattle.std.proofs.lemmas.Iterator.Search.{any_from_yields_List}
use Rattle.block.specs.Tests.{misfit}
use Rattle.block.proofs.misfit.Goals as goal

misfit-any : (wanted : ℕ) (ns : List ℕ) → list_any (λ n. not (eqb n wanted)) ns ≡ misfit wanted ns
unfolding misfit
misfit-any wanted [] = refl
misfit-any wanted (n ∷ ns) = ap (λ t. not (eqb n wanted) || t) (misfit-any wanted ns)

pub returns : goal.returns
returns c = any_from_yields_List (λ n. not (eqb n c.args.wanted)) _ _ _ c.any.ensures.ran (YieldsList-from_slice c.args.outputs.now cc) (λ x b q k. search (rules, tests))
    ∙ misfit-any c.args.wanted c.args.outputs.now
