-- A field that has an id keeps it; another gets the next free one, unless that is too large.
use Rattle.std.proofs.Common.{◌≡◌, false, sym, ap, ◌∙◌, pos}
use Rattle.std.specs.Int.{w32}
use Rattle.std.specs.Int.Signed.{lt_z}
use Rattle.std.proofs.Math.Option.{none, some}
use Rattle.rules.specs.Capacities.{largest_field_id}
use Rattle.rules.specs.SpecUpdates.{next_free}
use Rattle.rules.specs.Layout.{read_partition_field, laid_partition_field}
use Rattle.partitions.proofs.Free.{larger_fits, fresh_fits}
use Rattle.partitions.proofs.Numbered.{kept_none, kept_number, kept_field, new_one, new_number, new_field, laid_new}
use Rattle.partitions.proofs.fresh.number_field.Goals as goal

pub returns-then-f : goal.returns-then-f
returns-then-f c =
    let f = read_partition_field c.args.f in
    let e : f.id ≡ some c.args.f.field_id.0 = rw c.if-f.true in
    let k = c.field_key.ensures in
    record {
      fresh_small = kept_none c.args.taken.now c.args.number.0 f e;
      number_value = c.larger.ensures ∙ rw k.result_value (sym (kept_number c.args.taken.now c.args.number.0 f e));
      number_fits = rw c.larger.ensures (larger_fits w32 _ _ c.requires.sfits k.sfits);
      field_value = sym (ap laid_partition_field (kept_field c.args.taken.now c.args.number.0 f e) ∙ c.requires.laid_field);
    }

pub returns-then-is_below : goal.returns-then-is_below
returns-then-is_below c =
    let f = read_partition_field c.args.f in
    let e : f.id ≡ none = rw c.if-f.false in
    new_one c.args.taken.now c.args.number.0 f e ∙ rw c.next_free-key.ensures at (sym c.is_below.ensures ∙ c.if-is_below.true)

pub field_id-requires : goal.field_id-requires
field_id-requires c = rw c.next_free-key.ensures (fresh_fits c.args.taken.now c.args.number.0 c.requires.sfits (rw c.next_free-key.ensures at (sym c.is_below.ensures ∙ c.if-is_below.false)))

pub returns : goal.returns
returns c =
    let f = read_partition_field c.args.f in
    let e : f.id ≡ none = rw c.if-f.false in
    let u : lt_z (pos largest_field_id) (next_free c.args.taken.now c.args.number.0) ≡ false = rw c.next_free-key.ensures at (sym c.is_below.ensures ∙ c.if-is_below.false) in
    record {
      fresh_small = new_one c.args.taken.now c.args.number.0 f e ∙ u;
      number_value = c.next_free-key.ensures ∙ sym (new_number c.args.taken.now c.args.number.0 f e);
      number_fits = rw c.next_free-key.ensures (fresh_fits c.args.taken.now c.args.number.0 c.requires.sfits u);
      field_value = laid_new c.args.f c.field_id.result c.requires.laid_field (c.field_id.ensures ∙ c.next_free-key.ensures) ∙ sym (ap laid_partition_field (new_field c.args.taken.now c.args.number.0 f e));
    }
