-- Each field is asked, where it stands.
use Rattle.std.proofs.Common.{◌<◌, length, drop, sym, ap, ◌∙◌, arith}
use Rattle.rules.specs.Capacities.{partition_bytes}
use Rattle.rules.specs.Offers.{partitions_of, is_tidy_partition}
use Rattle.offers.proofs.Pieces.{pieces_length, part_length, part_piece, all_done, all_not, all_further}
use Rattle.offers.proofs.spec_fields.are_tidy.Goals as goal

pub is_tidy_partition-requires : goal.is_tidy_partition-requires
is_tidy_partition-requires c =
    let o = c.args.o in
    part_length partition_bytes c.args.bytes.now o.at o.count c.loop-i.i c.requires (omega arith)

pub returns-then-not-is_tidy_partition : goal.returns-then-not-is_tidy_partition
returns-then-not-is_tidy_partition c =
    let o = c.args.o in
    let bs = c.args.bytes.now in
    let i = c.loop-i.i in
    let fields = partitions_of o.count (drop o.at bs) in
    let b : i < o.count = omega arith in
    let h : i < length fields = omega (arith, pieces_length partition_bytes o.count (drop o.at bs)) in
    sym (c.loop-i.invariant ∙ all_not is_tidy_partition fields i h (ap is_tidy_partition (sym (part_piece partition_bytes bs o.at o.count i c.requires b)) ∙ sym c.if-not-is_tidy_partition.ensures))

pub loop-i-preserved : goal.loop-i-preserved
loop-i-preserved c =
    let o = c.args.o in
    let bs = c.args.bytes.now in
    let i = c.loop-i.i in
    let fields = partitions_of o.count (drop o.at bs) in
    let b : i < o.count = omega arith in
    let h : i < length fields = omega (arith, pieces_length partition_bytes o.count (drop o.at bs)) in
    c.loop-i.invariant ∙ all_further is_tidy_partition fields i h (ap is_tidy_partition (sym (part_piece partition_bytes bs o.at o.count i c.requires b)) ∙ sym c.if-not-is_tidy_partition.ensures)

pub returns : goal.returns
returns c =
    let o = c.args.o in
    let fields = partitions_of o.count (drop o.at c.args.bytes.now) in
    sym (c.loop-i.invariant ∙ all_done is_tidy_partition fields c.loop-i.i (omega (arith, pieces_length partition_bytes o.count (drop o.at c.args.bytes.now))))
