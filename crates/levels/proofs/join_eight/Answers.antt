-- `join_eight` is right because levels 1 and 2 of both fours are those of the eight, and their join is level 3.
use mathlib.Core.Path.{◌≡◌}
use native.Mathlib.Omega.{arith}
use lib.ListN.{take, drop}
use borrow.Rule.Slice.PartMut.{put_mid}
use Rattle.spectrum.specs.Spectrum.{levels_at}
use Rattle.levels.specs.Ready.{LARGEST_FIRST}
use Rattle.levels.proofs.Blocks.{cells_small, entries-many, pair_ready}
use Rattle.levels.proofs.TwoBlocks.{first-long, first_small, second-long, second-small, both_long, two-done, two_joined}
use Rattle.levels.proofs.join_eight.Goals as goal

pub join_four-requires : goal.join_four-requires
join_four-requires c = let xs = c.args.cells.now in (first-long 4 2 xs c.requires.0, first_small LARGEST_FIRST 4 2 xs c.requires.0 (cells_small c.requires.1))

pub join_four-requires-2 : goal.join_four-requires-2
join_four-requires-2 c =
    let one : c.join_four.new.cells ≡ levels_at c.args.scale.digits 2 (take 4 c.args.cells.now) = c.join_four.ensures c.args.scale.digits c.requires.1.table.scale.least c.requires.1.table.scale.most in
    let s = c.args.scale.digits in let xs = c.args.cells.now in
    (second-long s 2 xs c.requires.0 _ one, second-small LARGEST_FIRST s 2 xs c.requires.0 (cells_small c.requires.1) _ one)

pub overflow_sub-quarter : goal.overflow_sub-quarter
overflow_sub-quarter c = omega (arith, entries-many c.requires.1.table)

pub join-requires : goal.join-requires
join-requires c =
    let one : c.join_four.new.cells ≡ levels_at c.args.scale.digits 2 (take 4 c.args.cells.now) = c.join_four.ensures c.args.scale.digits c.requires.1.table.scale.least c.requires.1.table.scale.most in
    let two : c.join_four-2.new.cells ≡ levels_at c.args.scale.digits 2 (take 4 (drop 4 (put_mid 0 4 c.args.cells.now c.join_four.new.cells))) = c.join_four-2.ensures c.args.scale.digits c.requires.1.table.scale.least c.requires.1.table.scale.most in
    let s = c.args.scale.digits in let xs = c.args.cells.now in
    pair_ready c.requires.1.table _ _ (both_long s 2 xs c.requires.0 _ one _ two) (omega (arith, entries-many c.requires.1.table))
    (λ i. rw (two-done s 2 xs c.requires.0 _ one _ two) (c.requires.1.room 2 (omega arith) i))

pub returns : goal.returns
returns c =
    let one : c.join_four.new.cells ≡ levels_at c.args.scale.digits 2 (take 4 c.args.cells.now) = c.join_four.ensures c.args.scale.digits c.requires.1.table.scale.least c.requires.1.table.scale.most in
    let two : c.join_four-2.new.cells ≡ levels_at c.args.scale.digits 2 (take 4 (drop 4 (put_mid 0 4 c.args.cells.now c.join_four.new.cells))) = c.join_four-2.ensures c.args.scale.digits c.requires.1.table.scale.least c.requires.1.table.scale.most in
    two_joined c.args.scale.digits 2 c.args.cells.now c.requires.0 _ one _ two _ c.join.ensures
