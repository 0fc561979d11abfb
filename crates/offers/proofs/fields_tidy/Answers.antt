-- Each field is asked, where it stands.
use Rattle.std.proofs.Common.{◌<◌, length, drop, sym, ap, ◌∙◌, arith}
use Rattle.rules.specs.Capacities.{field_bytes}
use Rattle.rules.specs.Offers.{fields_of, is_tidy_field}
use Rattle.offers.proofs.Pieces.{pieces_length, part_length, part_piece, all_done, all_not, all_further}
use Rattle.offers.proofs.fields_tidy.Goals as goal

pub is_tidy_field-requires : goal.is_tidy_field-requires
is_tidy_field-requires c =
    let o = c.args.o in
    part_length field_bytes c.args.bytes.now o.at o.count c.loop-i.i c.requires (omega arith)

pub returns-then-not-is_tidy_field : goal.returns-then-not-is_tidy_field
returns-then-not-is_tidy_field c =
    let o = c.args.o in
    let bs = c.args.bytes.now in
    let i = c.loop-i.i in
    let fields = fields_of o.count (drop o.at bs) in
    let b : i < o.count = omega arith in
    let h : i < length fields = omega (arith, pieces_length field_bytes o.count (drop o.at bs)) in
    sym (c.loop-i.invariant ∙ all_not is_tidy_field fields i h (ap is_tidy_field (sym (part_piece field_bytes bs o.at o.count i c.requires b)) ∙ sym c.if-not-is_tidy_field.ensures))

pub loop-i-preserved : goal.loop-i-preserved
loop-i-preserved c =
    let o = c.args.o in
    let bs = c.args.bytes.now in
    let i = c.loop-i.i in
    let fields = fields_of o.count (drop o.at bs) in
    let b : i < o.count = omega arith in
    let h : i < length fields = omega (arith, pieces_length field_bytes o.count (drop o.at bs)) in
    c.loop-i.invariant ∙ all_further is_tidy_field fields i h (ap is_tidy_field (sym (part_piece field_bytes bs o.at o.count i c.requires b)) ∙ sym c.if-not-is_tidy_field.ensures)

pub returns : goal.returns
returns c =
    let o = c.args.o in
    let fields = fields_of o.count (drop o.at c.args.bytes.now) in
    sym (c.loop-i.invariant ∙ all_done is_tidy_field fields c.loop-i.i (omega (arith, pieces_length field_bytes o.count (drop o.at c.args.bytes.now))))
