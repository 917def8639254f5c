-- `join` is right because each round reads four cells that no round before has written, and leaves in their places what stands for their lines.
use borrow.Author.Rules.{rules}
use mathlib.Core.Path.{◌≡◌, refl, ◌∙◌, ap, subst}
use mathlib.Core.List.{List}
use Prim.Native.Nat.{ℕ, ◌*◌, ◌/◌, ◌≤◌, ◌<◌}
use native.Mathlib.Omega.{arith}
use lib.IntN.{ℤ}
use lib.ListN.{length}
use Rattle.pair.proofs.Splitting.{split-long}
use Rattle.exact_pair.specs.Pair.{PairReady}
use Rattle.exact_pair.proofs.Joining.{none_joined}
use Rattle.exact_pair.proofs.Steps.{two_halves, middle, whole, entries-many, entry_in, cosine-back, sine-back, quad-ready, quad-step, start_small, middle-small, pair-stands}
use Rattle.exact_pair.proofs.join.Invariants.{Made}
use Rattle.exact_pair.proofs.join.Goals as goal

-- line v's entry, and its place from the end
entry-inside : {stride : ℕ} {quarter xs : List ℤ} (J : PairReady stride quarter xs) (v : ℕ) → 1 ≤ v → v < length xs / 2 / 2 → v * stride < length quarter
entry-inside J v some h = omega (arith, entry_in J v some (omega (arith, middle J)), entries-many J)

-- where the loop ends
at-end : {stride : ℕ} {quarter xs : List ℤ} (J : PairReady stride quarter xs) (v : ℕ) → (1 ≤ length xs / 2 / 2 → v ≤ length xs / 2 / 2) → length xs / 2 / 2 ≤ v → v ≡ length xs / 2 / 2
at-end J v h k = omega (arith, h (omega (arith, middle J, J.some)))

-- past the loop: only line 0 and the middle one are left
past : {stride : ℕ} {quarter xs ys : List ℤ} (J : PairReady stride quarter xs) (v : ℕ) → v ≡ length xs / 2 / 2 → Made xs (length xs / 2) v ys → Made xs (length xs / 2) J.k ys
past {stride} {quarter} {xs} {ys} J v e D = subst (λ (v : ℕ). Made xs (length xs / 2) v ys) (e ∙ middle J) D

pub loop-v-init : goal.loop-v-init
loop-v-init c = none_joined _ (length c.args.cells.now / 2) c.args.cells.now (whole c.requires)

pub overflow_sub-last : goal.overflow_sub-last
overflow_sub-last c = omega (arith, entries-many c.requires)

pub overflow_mul-entry : goal.overflow_mul-entry
overflow_mul-entry c =
    let inside : c.loop-v.v * c.args.stride < length c.args.quarter.now = entry-inside c.requires c.loop-v.v c.loop-v.auto.v c.loop-v-test.true in
    search rules

pub offset_bounds-quarter-entry : goal.offset_bounds-quarter-entry
offset_bounds-quarter-entry c =
    let inside : c.loop-v.v * c.args.stride < length c.args.quarter.now = entry-inside c.requires c.loop-v.v c.loop-v.auto.v c.loop-v-test.true in
    search rules

pub bounds-quarter-entry : goal.bounds-quarter-entry
bounds-quarter-entry c =
    let inside : c.loop-v.v * c.args.stride < length c.args.quarter.now = entry-inside c.requires c.loop-v.v c.loop-v.auto.v c.loop-v-test.true in
    inside

pub overflow_sub-sine : goal.overflow_sub-sine
overflow_sub-sine c =
    let inside : c.loop-v.v * c.args.stride < length c.args.quarter.now = entry-inside c.requires c.loop-v.v c.loop-v.auto.v c.loop-v-test.true in
    omega (arith, inside)

pub offset_bounds-quarter-last : goal.offset_bounds-quarter-last
offset_bounds-quarter-last c =
    let inside : c.loop-v.v * c.args.stride < length c.args.quarter.now = entry-inside c.requires c.loop-v.v c.loop-v.auto.v c.loop-v-test.true in
    search rules

pub bounds-quarter-last : goal.bounds-quarter-last
bounds-quarter-last c =
    let inside : c.loop-v.v * c.args.stride < length c.args.quarter.now = entry-inside c.requires c.loop-v.v c.loop-v.auto.v c.loop-v-test.true in
    omega (arith, inside)

pub join_quad-requires : goal.join_quad-requires
join_quad-requires c =
    let l = c.loop-v in let below : l.v < c.requires.k = omega (arith, c.loop-v-test.true, middle c.requires) in
    let cosine-read = cosine-back c.requires l.v l.auto.v below _ refl in let sine-read = sine-back c.requires l.v l.auto.v below _ refl in
    quad-ready c.requires l.v l.auto.v below _ _ cosine-read sine-read l.cells l.invariant

pub loop-v-preserved : goal.loop-v-preserved
loop-v-preserved c =
    let l = c.loop-v in let below : l.v < c.requires.k = omega (arith, c.loop-v-test.true, middle c.requires) in
    let cosine-read = cosine-back c.requires l.v l.auto.v below _ refl in let sine-read = sine-back c.requires l.v l.auto.v below _ refl in
    quad-step c.requires l.v l.auto.v below _ _ cosine-read sine-read l.cells l.invariant _ c.join_quad.ensures

pub join_plain-requires : goal.join_plain-requires
join_plain-requires c = let D = past c.requires c.loop-v.v (at-end c.requires c.loop-v.v c.loop-v.auto.v-end c.loop-v-test.false) c.loop-v.invariant in
    let w = start_small c.requires c.loop-v.cells D in (D.long, omega (arith, two_halves c.requires, c.requires.some), w.0, w.1)

pub join_plain-requires-2 : goal.join_plain-requires-2
join_plain-requires-2 c = let l = c.loop-v in let D = past c.requires l.v (at-end c.requires c.loop-v.v c.loop-v.auto.v-end c.loop-v-test.false) l.invariant in
    let e = c.join_plain.ensures in let w = middle-small c.requires l.cells D _ e _ (middle c.requires) in
    (ap length e ∙ split-long l.cells (length c.args.cells.now / 2) 0 _ ∙ D.long, omega (arith, two_halves c.requires, c.requires.some), w.0, w.1)

pub returns : goal.returns
returns c = let l = c.loop-v in pair-stands c.requires l.cells (past c.requires l.v (at-end c.requires c.loop-v.v c.loop-v.auto.v-end c.loop-v-test.false) l.invariant) _ c.join_plain.ensures _ _ (middle c.requires) c.join_plain-2.ensures
