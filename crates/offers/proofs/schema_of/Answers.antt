-- The slots are filled one after the other, each from where its field stands.
use Rattle.std.proofs.Common.{◌<◌, ℕ, List, [], drop, ap, ◌∙◌, arith}
use Rattle.rules.specs.Capacities.{field_bytes}
use Rattle.rules.specs.Offers.{fields_of, is_tidy_field, offered_field}
use Rattle.rules.specs.Layout.{laid_schema_field}
use Rattle.rules.proofs.Tables.{all_at}
use Rattle.offers.proofs.Pieces.{pieces_length, part_length, part_piece}
use Rattle.offers.proofs.Fields.{fields_start, fields_on, fields_end}
use Rattle.offers.proofs.schema_of.Goals as goal

pub loop-i-init : goal.loop-i-init
loop-i-init c = let o = c.args.o in fields_start (fields_of o.count (drop o.at c.args.bytes.now)) c.blank-schema.ensures

pub field_of-requires : goal.field_of-requires
field_of-requires c =
    let o = c.args.o in
    let bs = c.args.bytes.now in
    let i = c.loop-i.i in
    let r = c.requires in
    let b : i < o.count = omega arith in
    let n = pieces_length field_bytes o.count (drop o.at bs) in
    record {
      bytes_len = part_length field_bytes bs o.at o.count i r.field_bytes_in_bounds b;
      bytes_value =
          ap is_tidy_field (part_piece field_bytes bs o.at o.count i r.field_bytes_in_bounds b)
          ∙ all_at is_tidy_field [] (fields_of o.count (drop o.at bs)) r.o_value i (omega (arith, b, n));
    }

pub loop-i-preserved : goal.loop-i-preserved
loop-i-preserved c =
    let o = c.args.o in
    let bs = c.args.bytes.now in
    let i = c.loop-i.i in
    let r = c.requires in
    let b : i < o.count = omega arith in
    let n = pieces_length field_bytes o.count (drop o.at bs) in
    fields_on (fields_of o.count (drop o.at bs)) c.loop-i.invariant (omega (arith, b, n)) (omega (arith, r.count_le_schema_field_room, n))
    (c.field_of.ensures ∙ ap (λ (f : List ℕ). laid_schema_field (offered_field f)) (part_piece field_bytes bs o.at o.count i r.field_bytes_in_bounds b))

pub returns : goal.returns
returns c = fields_end c.args.bytes.now c.args.o c.loop-i.invariant (omega arith)
