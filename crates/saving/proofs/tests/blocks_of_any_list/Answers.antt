-- Both calls may be made: four samples are two blocks of two, or one of four, and from byte 1 on there is room for the 20 or 14 bytes of their records.
use Rattle.std.proofs.Common.{zero, suc, [], ◌∷◌, pos, negsuc, refl, arith}
use Rattle.little_endian.specs.Spelling.{spelled, spelled_signeds}
use Rattle.grammar.specs.Grammar.{record_of}
use Rattle.saved_trace.specs.Saved.{block_records, cut, blocks_of}
use Rattle.saving.specs.Inner.{OfBytes}
use Rattle.saving.proofs.tests.blocks_of_any_list.Goals as goal

samples : OfBytes 2 (pos 1 ∷ negsuc 1 ∷ pos 3 ∷ negsuc 32767 ∷ [])
samples zero = omega arith
samples (suc zero) = omega arith
samples (suc (suc zero)) = omega arith
samples (suc (suc (suc zero))) = omega arith
samples (suc (suc (suc (suc t)))) = omega arith

pub put_blocks_of-requires : goal.put_blocks_of-requires
unfolding block_records blocks_of cut record_of spelled spelled_signeds
put_blocks_of-requires g c = record { whole = record { some = omega arith; even = refl; narrow = samples }; room = omega arith }

pub put_blocks_of-requires-2 : goal.put_blocks_of-requires-2
unfolding block_records blocks_of cut record_of spelled spelled_signeds
put_blocks_of-requires-2 g c = record { whole = record { some = omega arith; even = refl; narrow = samples }; room = omega arith }
