-- `join_later_levels` is right because after each round the cells are those after one more level, and halves and stride fit the next one.
use mathlib.Core.Path.{◌≡◌, refl, sym, ◌∙◌, ap}
use mathlib.Core.Bool.{Bool, true, false, not}
use mathlib.Core.List.{List}
use Prim.Native.Nat.{ℕ, suc, ◌+◌, ◌*◌, ◌-◌, ◌/◌, ◌%◌, ◌^◌, ◌≤◌, ◌<◌}
use native.Mathlib.Nat.{div-div-eq-div-mul, mul_comm, mul-div_right, mul-mod_left}
use native.Mathlib.Omega.{arith}
use lib.Dec.{T, ltb, ltb→lt, nltb→le}
use lib.IntN.{ℤ}
use lib.ListN.{length}
use lib.Pow.{pow_pos, pow-add, pow_mono}
use Rattle.ints.proofs.Powers.{two_pow}
use Rattle.spectrum.specs.Spectrum.{level_at, levels_at}
use Rattle.levels.specs.Ready.{LaterReady, LevelReady}
use Rattle.levels.proofs.Blocks.{entries-many, level_keeps, next_level, serves_fewer}
use Rattle.levels.proofs.join_later_levels.Invariants.{Behind}
use Rattle.levels.proofs.join_later_levels.Goals as goal

-- of two powers the smaller has the smaller exponent
fewer : (l P : ℕ) → 2 ^ l < 2 ^ P → l < P
fewer l P h = go (ltb l P) (ltb→lt l P) (nltb→le l P)
  where
    never : P ≤ l → ⊥
    never k = omega (arith, pow_mono {i = P} {j = l} k)

    go : (t : Bool) → (T t → l < P) → (T (not t) → P ≤ l) → l < P
    go true near far = near tt
    go false near far = absurd (never (far tt))

whole-pairs : (l P : ℕ) → suc l < P → 2 ^ P % (2 * (2 * 2 ^ l)) ≡ 0
whole-pairs l P h = ap (λ (N : ℕ). N % (2 * (2 * 2 ^ l))) all ∙ mul-mod_left (2 ^ (P - suc (suc l))) (2 * (2 * 2 ^ l))
  where
    sum : P ≡ P - suc (suc l) + suc (suc l)
    sum = omega arith

    all : 2 ^ P ≡ 2 ^ (P - suc (suc l)) * (2 * (2 * 2 ^ l))
    all = ap (λ (k : ℕ). 2 ^ k) sum ∙ pow-add 2 (P - suc (suc l)) (suc (suc l)) ∙ ap (λ (y : ℕ). 2 ^ (P - suc (suc l)) * y) (two_pow (suc l) ∙ ap (λ (y : ℕ). 2 * y) (two_pow l))

-- the stride of line v's entry, once the quarter's entries are known to be 2^l strides
stride-is : (many l rest : ℕ) → many ≡ 2 ^ l * rest + 1 → (many - 1) / 2 ^ l ≡ rest
stride-is many l rest e = ap (λ (m : ℕ). m / 2 ^ l) (omega arith) ∙ mul-div_right rest (pow_pos l)

module _ {s : ℕ} {P : ℕ} {quarter : List ℕ} {before cells : List ℤ} {n stride : ℕ} (R : LaterReady s P quarter before) (B : Behind s P quarter before cells n stride) where
  -- the next level is there where n is less than all
  some_left : n < length before → suc B.l < P
  some_left h = fewer (suc B.l) P (omega (arith, B.halves, R.long, two_pow B.l))

  level-ready : n < length before → LevelReady s n stride quarter cells
  level-ready less = let S = serves_fewer R.ready.table (suc (suc B.l)) (some_left less) in record {
    l = B.l;
    table = S;
    halves = B.halves;
    strides = B.strides ∙ stride-is (length quarter) B.l (2 ^ (S.t - B.l)) (entries-many S);
    whole = rw (B.long ∙ R.long, B.halves) (whole-pairs B.l P (some_left less));
    room = λ i. rw (B.behind R.xs R.behind) (R.ready.room (suc B.l) (some_left less) i);
  }

  level-behind : n < length before → (ys : List ℤ) → ys ≡ level_at s n cells → Behind s P quarter before ys (2 * n) (stride / 2)
  level-behind less ys e = record {
    l = suc B.l;
    least = omega (arith, B.least);
    most = some_left less;
    halves = omega (arith, B.halves, two_pow B.l);
    strides = ap (λ (m : ℕ). m / 2) B.strides ∙ div-div-eq-div-mul (length quarter - 1) (2 ^ B.l) 2 ∙ ap (λ (m : ℕ). (length quarter - 1) / m) (mul_comm (2 ^ B.l) 2 ∙ sym (two_pow B.l));
    long = ap length e ∙ level_keeps s n cells ∙ B.long;
    behind = λ xs f. e ∙ ap (λ (m : ℕ). level_at s m cells) (B.halves ∙ sym (two_pow B.l)) ∙ next_level s (suc B.l) xs cells (B.behind xs f);
  }

  all-behind : length before ≤ n → (xs : List ℤ) → before ≡ levels_at s 3 xs → cells ≡ levels_at s P xs
  all-behind h xs e = B.behind xs e ∙ ap (λ (L : ℕ). levels_at s L xs) last
    where
      more : P < suc (suc B.l)
      more = fewer P (suc (suc B.l)) (omega (arith, B.halves, R.long, two_pow B.l, two_pow (suc B.l), pow_pos B.l))

      last : suc B.l ≡ P
      last = omega (arith, B.most, more)

-- the table serves level 3, and more
third : {s : ℕ} {P : ℕ} {quarter : List ℕ} {ys : List ℤ} → LaterReady s P quarter ys → 1 ≤ length quarter
third R = omega (arith, entries-many (serves_fewer R.ready.table 2 (omega (arith, R.least))))

first-behind : {s : ℕ} {P : ℕ} {quarter : List ℕ} {ys : List ℤ} → LaterReady s P quarter ys → Behind s P quarter ys ys 8 ((length quarter - 1) / 4)
first-behind R = record { l = 2; least = omega arith; most = R.least; halves = omega arith; strides = refl; long = refl; behind = λ xs e. e }

pub overflow_sub-stride : goal.overflow_sub-stride
overflow_sub-stride c = third c.requires

pub loop-n-init : goal.loop-n-init
loop-n-init c = first-behind c.requires

pub join_level-requires : goal.join_level-requires
join_level-requires c =
    let less : c.loop-n.n < length c.args.cells.now = omega (arith, c.loop-n-test.true, c.loop-n.invariant.long) in
    level-ready c.requires c.loop-n.invariant less

pub overflow_mul-n : goal.overflow_mul-n
overflow_mul-n c =
    let less : c.loop-n.n < length c.args.cells.now = omega (arith, c.loop-n-test.true, c.loop-n.invariant.long) in
    let i = c in omega (arith, less, i.requires.long, pow_mono {i = i.args.p} {j = 10} i.requires.most)

pub loop-n-smaller : goal.loop-n-smaller
loop-n-smaller c =
    let less : c.loop-n.n < length c.args.cells.now = omega (arith, c.loop-n-test.true, c.loop-n.invariant.long) in
    omega (arith, less, c.loop-n.invariant.halves, pow_pos c.loop-n.invariant.l)

pub loop-n-preserved : goal.loop-n-preserved
loop-n-preserved c =
    let less : c.loop-n.n < length c.args.cells.now = omega (arith, c.loop-n-test.true, c.loop-n.invariant.long) in
    level-behind c.requires c.loop-n.invariant less _ c.join_level.ensures

pub returns : goal.returns
returns c = let l = c.loop-n in all-behind c.requires l.invariant (omega (arith, l.invariant.long, c.loop-n-test.false))
