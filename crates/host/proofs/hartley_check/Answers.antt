-- `hartley_check` is right because it packs what `check` answers, and every number of that fits its bytes.
use mathlib.Core.Path.{◌≡◌, sym, ◌∙◌, ap}
use mathlib.Core.List.{List}
use Prim.Native.Nat.{ℕ}
use native.Mathlib.Omega.{arith}
use Rattle.little_endian.specs.Reading.{Bytes}
use Rattle.trace.specs.Contents.{contents}
use Rattle.trace.specs.TraceAnswers.{trace_answer, contents_numbers}
use Rattle.trace.proofs.Fetching.{numbers_told}
use Rattle.trace.proofs.Ranges.{accepted_range, refused_range}
use Rattle.packing.specs.Packing.{packed_trace, unpacked_trace}
use Rattle.packing.proofs.Packing.{trace_unpacked}
use Rattle.host.proofs.hartley_check.Goals as goal

-- r is the packed answer to the trace
unpacks : (trace : List ℕ) (r : ℕ) → Bytes trace → r ≡ packed_trace (trace_answer (contents trace)) → unpacked_trace r ≡ contents_numbers (contents trace)
unpacks trace r b e = ap unpacked_trace e
    ∙ trace_unpacked (trace_answer (contents trace)) (λ refusal q. omega (arith, (refused_range trace refusal (sym q)).2)) (λ summary q. let r = accepted_range trace summary.head summary.blocks (sym q) b in (r.0, r.1, omega (arith, r.2)))
    ∙ numbers_told (contents trace)

pub returns : goal.returns
returns c = let e = c.packed_trace.ensures ∙ ap packed_trace c.check.ensures.answer in record {
  answer = e;
  numbers = unpacks _ _ (λ i. (c.shared_slice_known-1.given i).fits) e;
}
