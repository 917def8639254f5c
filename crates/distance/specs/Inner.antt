-- What the functions ask of each other and tell each other. It stands in no public promise.
use Rattle.std.specs.Prelude.{cond, List, ℕ, ◌^◌, ◌≤◌, ◌<◌, ltb, ℤ, length, Result, Ok, Err}
use Rattle.kind.specs.BlockKinds.{SCALE}
use Rattle.kind.specs.Loudness.{LEAST_SAMPLE, LARGEST_SAMPLE}
use Rattle.refusal.specs.declared.Refusal.{Refusal}
use Rattle.refusal.specs.declared.Refusal.TheVariants.{Loud}
use Rattle.block.specs.Tests.{first_loud}
use Rattle.spectrum.specs.Distance.{bound, largest_magnitude}

-- what is heard of the cells xs: the largest magnitude of all, or the refusal of the first loud one
unfoldable pub heard : List ℤ → Result ℕ Refusal
unfolding first_loud largest_magnitude
heard xs = let place = first_loud LEAST_SAMPLE LARGEST_SAMPLE xs in cond (ltb place (length xs)) (Err (Loud place)) (Ok (largest_magnitude xs))

-- the answer for 2^P cells, by what was heard of them
unfoldable pub answer_by : ℕ → Result ℕ Refusal → Result ℕ Refusal
unfolding bound
answer_by P (Ok M) = Ok (bound SCALE M P)
answer_by P (Err refusal) = Err refusal

-- limits of scale, M and P within which no number of the bound's rule passes 64 bits
pub record CanBound (q M P : ℕ) : Type 0 where
  pub some : 0 < q
  pub scale : q ≤ 2 ^ 22
  pub quiet : M ≤ 2 ^ 36
  pub most : P ≤ 10

-- the same for one step of the rule, from half the length times M and the bound before
pub record CanStep (q product before : ℕ) : Type 0 where
  pub some : 0 < q
  pub scale : q ≤ 2 ^ 22
  pub products : product ≤ 2 ^ 56
  pub bounds : before ≤ 2 ^ 60
