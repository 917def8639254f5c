-- `join` is right because each round reads four cells that no round before has written, and leaves their lines in their places.
use borrow.Author.Rules.{rules}
use mathlib.Core.Path.{◌≡◌, ◌∙◌, ap, subst}
use mathlib.Core.List.{List}
use Prim.Native.Nat.{ℕ, ◌+◌, ◌*◌, ◌/◌, ◌≤◌, ◌<◌}
use native.Mathlib.Omega.{arith}
use lib.IntN.{ℤ}
use lib.ListN.{length}
use Rattle.ints.specs.Cells.{cell}
use Rattle.pair.specs.Pair.{Joinable, pair_line}
use Rattle.pair.proofs.Splitting.{split-long}
use Rattle.pair.proofs.Joining.{Joined, none_joined}
use Rattle.pair.proofs.Steps.{two_halves, middle, whole, entries-many, entry_in, cosine-back, sine-back, quad-ready, quad-step, start_small, middle-small, plain-steps}
use Rattle.pair.proofs.join.Goals as goal

-- line v's entry, and its place from the end
entry-inside : {s stride : ℕ} {quarter : List ℕ} {xs : List ℤ} (J : Joinable s stride quarter xs) (v entry : ℕ) → entry ≡ v * stride → 1 ≤ v → v < length xs / 2 / 2 → entry + stride < length quarter
entry-inside J v entry e some h = omega (arith, e, entry_in J v some (omega (arith, middle J)), entries-many J)

next-entry : (v stride entry : ℕ) → entry ≡ v * stride → entry + stride ≡ (v + 1) * stride
next-entry v stride entry e = ap (λ (x : ℕ). x + stride) e ∙ one_more
  where
    one_more : v * stride + stride ≡ (v + 1) * stride
    one_more = omega arith

-- where the loop ends
at-end : {s stride : ℕ} {quarter : List ℕ} {xs : List ℤ} (J : Joinable s stride quarter xs) (v : ℕ) → (1 ≤ length xs / 2 / 2 → v ≤ length xs / 2 / 2) → length xs / 2 / 2 ≤ v → v ≡ length xs / 2 / 2
at-end J v h k = omega (arith, h (omega (arith, middle J, J.some)))

-- past the loop: only line 0 and the middle one are left
past : {s stride : ℕ} {quarter : List ℕ} {xs ys : List ℤ} (J : Joinable s stride quarter xs) (v : ℕ) → v ≡ length xs / 2 / 2 →
    Joined (pair_line s (length xs / 2) (cell xs)) (cell xs) (length xs / 2) v ys → Joined (pair_line s (length xs / 2) (cell xs)) (cell xs) (length xs / 2) J.k ys
past {s} {stride} {quarter} {xs} {ys} J v e D = subst (λ (v : ℕ). Joined (pair_line s (length xs / 2) (cell xs)) (cell xs) (length xs / 2) v ys) (e ∙ middle J) D

one-times : (stride : ℕ) → stride ≡ 1 * stride
one-times stride = omega arith

pub loop-v-init : goal.loop-v-init
loop-v-init c = (one-times c.args.stride, none_joined _ (length c.args.cells.now / 2) c.args.cells.now (whole c.requires))

pub overflow_sub-last : goal.overflow_sub-last
overflow_sub-last c = omega (arith, entries-many c.requires)

pub offset_bounds-quarter-entry : goal.offset_bounds-quarter-entry
offset_bounds-quarter-entry c =
    let l = c.loop-v in let inside : l.entry + c.args.stride < length c.args.quarter.now = entry-inside c.requires l.v l.entry l.invariant.0 l.auto.v c.loop-v-test.true in
    search rules

pub bounds-quarter-entry : goal.bounds-quarter-entry
bounds-quarter-entry c =
    let l = c.loop-v in let inside : l.entry + c.args.stride < length c.args.quarter.now = entry-inside c.requires l.v l.entry l.invariant.0 l.auto.v c.loop-v-test.true in
    omega (arith, inside)

pub overflow_sub-last-in-loop-v : goal.overflow_sub-last-in-loop-v
overflow_sub-last-in-loop-v c =
    let l = c.loop-v in let inside : l.entry + c.args.stride < length c.args.quarter.now = entry-inside c.requires l.v l.entry l.invariant.0 l.auto.v c.loop-v-test.true in
    omega (arith, inside)

pub bounds-quarter-last : goal.bounds-quarter-last
bounds-quarter-last c =
    let l = c.loop-v in let inside : l.entry + c.args.stride < length c.args.quarter.now = entry-inside c.requires l.v l.entry l.invariant.0 l.auto.v c.loop-v-test.true in
    omega (arith, inside)

pub overflow_add-entry : goal.overflow_add-entry
overflow_add-entry c =
    let l = c.loop-v in let inside : l.entry + c.args.stride < length c.args.quarter.now = entry-inside c.requires l.v l.entry l.invariant.0 l.auto.v c.loop-v-test.true in
    search rules

pub join_quad-requires : goal.join_quad-requires
join_quad-requires c =
    let l = c.loop-v in let below : l.v < c.requires.k = omega (arith, c.loop-v-test.true, middle c.requires) in
    let cosine-read = cosine-back c.requires l.v l.auto.v below _ _ c.from-cosine.ensures l.invariant.0 in let sine-read = sine-back c.requires l.v l.auto.v below _ _ c.from-sine.ensures l.invariant.0 in
    quad-ready c.requires l.v l.auto.v below l.cells l.invariant.1 _ _ cosine-read sine-read

pub loop-v-preserved : goal.loop-v-preserved
loop-v-preserved c =
    let l = c.loop-v in let below : l.v < c.requires.k = omega (arith, c.loop-v-test.true, middle c.requires) in
    let cosine-read = cosine-back c.requires l.v l.auto.v below _ _ c.from-cosine.ensures l.invariant.0 in let sine-read = sine-back c.requires l.v l.auto.v below _ _ c.from-sine.ensures l.invariant.0 in
    (next-entry l.v c.args.stride l.entry l.invariant.0, quad-step c.requires l.v l.auto.v below l.cells l.invariant.1 _ _ _ cosine-read sine-read c.join_quad.ensures)

pub join_plain-requires : goal.join_plain-requires
join_plain-requires c = let D = past c.requires c.loop-v.v (at-end c.requires c.loop-v.v c.loop-v.auto.v-end c.loop-v-test.false) c.loop-v.invariant.1 in
    let w = start_small c.requires c.loop-v.cells D in (D.long, omega (arith, two_halves c.requires, c.requires.some), w.0, w.1)

pub join_plain-requires-2 : goal.join_plain-requires-2
join_plain-requires-2 c = let l = c.loop-v in let D = past c.requires l.v (at-end c.requires c.loop-v.v c.loop-v.auto.v-end c.loop-v-test.false) l.invariant.1 in
    let e = c.join_plain.ensures in let w = middle-small c.requires l.cells D _ e _ (middle c.requires) in
    (ap length e ∙ split-long l.cells (length c.args.cells.now / 2) 0 _ ∙ D.long, omega (arith, two_halves c.requires, c.requires.some), w.0, w.1)

pub returns : goal.returns
returns c = let l = c.loop-v in let D = past c.requires l.v (at-end c.requires c.loop-v.v c.loop-v.auto.v-end c.loop-v-test.false) l.invariant.1 in
    plain-steps c.requires l.cells D _ c.join_plain.ensures _ _ (middle c.requires) c.join_plain-2.ensures
