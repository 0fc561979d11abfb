-- The slots are filled one after the other, each from where its field stands.
use Rattle.std.proofs.Common.{◌≡◌, ◌+◌, ◌-◌, ◌*◌, ◌<◌, [], length, take, drop, ap, ◌∙◌, arith, rules, length-take}
use Rattle.std.proofs.Math.Seq.{get_or-take}
use Rattle.records.specs.declared.partition.OfferedId.{OfferedId}
use Rattle.rules.specs.Capacities.{partition_bytes}
use Rattle.rules.specs.Offers.{partitions_of, is_tidy_partition, offered_partition}
use Rattle.rules.specs.Layout.{laid_partition_field, read_offered_id}
use Rattle.formed.proofs.Scans.{slots}
use Rattle.rules.proofs.Tables.{all_at}
use Rattle.offers.proofs.Pieces.{part_piece}
use Rattle.offers.proofs.Partitions.{pieces_counted, partitions_start, partitions_on, partitions_end}
use Rattle.offers.proofs.spec_fields.spec_of.Goals as goal

pub loop-i-init : goal.loop-i-init
loop-i-init c = partitions_start c.args.bytes.now c.args.o c.blank-spec.ensures

pub partition_of-requires-clause-bytes_value : goal.partition_of-requires-clause-bytes_value
partition_of-requires-clause-bytes_value c =
    let o = c.args.o in
    let bs = c.args.bytes.now in
    let i = c.loop-i.i in
    let r = c.requires in
    let b : i < o.count = omega (arith, length-take {A = OfferedId}) in
    ap is_tidy_partition (part_piece partition_bytes bs o.at o.count i r.partition_bytes_in_bounds b)
    ∙ all_at is_tidy_partition [] (partitions_of o.count (drop o.at bs)) r.bytes_value i (omega (arith, b, pieces_counted bs o))

pub loop-i-preserved : goal.loop-i-preserved
loop-i-preserved c =
    let o = c.args.o in
    let bs = c.args.bytes.now in
    let i = c.loop-i.i in
    let r = c.requires in
    let b : i < o.count = omega (arith, length-take {A = OfferedId}) in
    let from = o.at + i * 42 in
    let room : length o.ids ≡ 8 = search (rules, slots) in
    partitions_on bs o c.loop-i.invariant _ b r.count_le_partition_field_room room
    (part_piece partition_bytes bs o.at o.count i r.partition_bytes_in_bounds b)
    (c.partition_of.ensures ∙ ap (λ (x : OfferedId). laid_partition_field (offered_partition (take (from + 42 - from) (drop from bs)) (read_offered_id x))) (get_or-take o.count o.ids i _ b))

pub returns : goal.returns
returns c = partitions_end c.args.bytes.now c.args.o c.loop-i.invariant (omega arith)
