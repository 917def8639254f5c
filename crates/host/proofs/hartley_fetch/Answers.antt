-- `hartley_fetch` is right because `fetch` is, and every number of its answer fits its bytes or is k.
use Rattle.fetch_bytes.proofs.Fetching.{fetch_told}
use Rattle.host.proofs.hartley_fetch.Goals as goal

pub returns : goal.returns
returns c = let a = c.fetch.ensures in record {
  answer = a.says;
  numbers = fetch_told _ _ _ (λ i. (c.shared_slice_known-1.given i).fits) a.says;
  bytes = a.leaves;
}
