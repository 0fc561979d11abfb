-- Each field has an id, and each two are apart. That there is room for the fields is asked before.
use Rattle.std.proofs.Common.{◌≡◌, ◌≤◌, ◌∙◌, sym, ◌&&◌, true, [], ◌∷◌, length, take, leb, arith}
use Rattle.std.specs.Int.Signed.{non_neg}
use mathlib.Core.Path.{ap₂}
use borrow.Author.Tests.{leb-true}
use Rattle.records.specs.Blanks.{no_partition_field}
use Rattle.records.specs.declared.partition.PartitionSpec.{PartitionSpec}
use Rattle.rules.specs.Words.{all}
use Rattle.rules.specs.Capacities.{partition_field_room}
use Rattle.rules.specs.WellFormed.{partition_field_formed, offered_spec_formed}
use Rattle.rules.specs.Blanks.{rest_blank, is_blank_partition_field, is_tidy_partition_spec}
use Rattle.rules.specs.Layout.{read_partition_field, read_partition_spec}
use Rattle.rules.proofs.Checks.{and_right, parts}
use Rattle.rules.proofs.Slots.Relaid.{counted_take}
use Rattle.formed.proofs.Counted.{read_length}
use Rattle.formed.proofs.Fields.{spec_fields_lem}
use Rattle.formed.proofs.record.spec_formed.Goals as goal

room_for : (s : PartitionSpec) → offered_spec_formed (read_partition_spec s) ≡ true → s.count ≤ 8
room_for s e =
    let k = parts (non_neg s.spec_id.0) (leb (length (read_partition_spec s).fields) partition_field_room ∷ all partition_field_formed (read_partition_spec s).fields ∷ []) e in
    omega (arith, leb-true (length (read_partition_spec s).fields) partition_field_room k.1.0, read_length read_partition_field no_partition_field s.items s.count)

pub returns : goal.returns
unfolding is_tidy_partition_spec
returns c =
    let s = c.args.s in
    let offered : offered_spec_formed (read_partition_spec s) ≡ true = sym c.offered_spec_formed.ensures ∙ c.if-not-offered_spec_formed.false in
    ap₂ ◌&&◌ c.all_have_ids.ensures c.each_apart.ensures
    ∙ spec_fields_lem (take s.count s.items) (and_right (rest_blank 8 is_blank_partition_field s.items s.count) _ c.requires)
    ∙ sym (rw (offered, counted_take no_partition_field s.items s.count (omega (arith, room_for s offered))))
