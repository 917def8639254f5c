-- Document 02, Item 3: what was said of a trace and what is said now, side by side.
use Rattle.std.specs.Prelude.{◌≡◌, List, [], ◌++◌, ℕ, ◌+◌, ◌≤◌, ◌<◌, ℤ, length, take, drop}
use Rattle.refusal.specs.declared.Refusal.{Refusal}
use Rattle.refusal.specs.declared.Refusal.TheVariants.{Headless, SecondHead, Tail}
use Rattle.refusal.specs.RefusalTable.{number, place}
use Rattle.record.specs.declared.Head.{Head}
use Rattle.record.specs.Fields.{HEAD, PREFIX, kind}
use Rattle.trace.specs.Contents.{Contents, holds, faulty}
use Rattle.grammar.specs.Grammar.{record_of, Trace}
use Rattle.disorder.specs.Formerly.{Former, held, refused}

-- what stands in a trace that is refused by 17, 18 or 19
pub data Disorder (trace : List ℕ) : Refusal → Type 0 where
  -- 17: the first record is not a head
  headless : PREFIX ≤ length trace → HEAD < kind trace → Disorder trace (Headless 0)
  -- 18: what stands before the place lacks an end alone, and there begins a head
  second_head : (at : ℕ) (head : Head) (blocks : List (List ℤ)) → Trace (take at trace ++ record_of 4 []) head blocks → at + PREFIX ≤ length trace
      → kind (drop at trace) ≡ HEAD → Disorder trace (SecondHead at)
  -- 19: what stands before the place is a whole trace, and there stands a byte
  tail : (at : ℕ) (head : Head) (blocks : List (List ℤ)) → Trace (take at trace) head blocks → at < length trace → Disorder trace (Tail at)

-- both answers to a trace; D says of a refusal that stands for 13 now why it does
pub data SideBySide (D : Refusal → Type 0) : Former → Contents → Type 0 where
  -- accepted, and with the same contents
  accepted : (head : Head) (blocks : List (List ℤ)) → SideBySide D (held head blocks) (holds head blocks)
  -- refused by a number other than 13 (`never_13`): by the same, at the same place
  unchanged : (refusal : Refusal) → number refusal ≤ 15 → SideBySide D (refused (number refusal) (place refusal)) (faulty refusal)
  -- refused by 13: by another number, at the same place
  parted : (refusal : Refusal) → D refusal → SideBySide D (refused 13 (place refusal)) (faulty refusal)
