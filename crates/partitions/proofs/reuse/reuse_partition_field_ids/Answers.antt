use Rattle.std.proofs.Common.{refl, ◌∙◌, ap, List, map, arith}
use Rattle.std.proofs.lemmas.List.{length-map}
use Rattle.records.specs.Blanks.{no_partition_field}
use Rattle.rules.specs.Capacities.{partition_field_room}
use Rattle.rules.specs.Register as plain
use Rattle.rules.specs.Layout.{pad, read_partition_field, laid_partition_field, read_partition_specs}
use Rattle.tables.proofs.Each.{tidy_partition_spec}
use Rattle.partitions.proofs.Overwritten.{overwrite_by, overwritten_all}
use Rattle.partitions.proofs.Reused.{reused_as, reused_spec_lem}
use Rattle.partitions.proofs.reuse.reuse_partition_field_ids.Goals as goal

pub loop-i-init : goal.loop-i-init
loop-i-init c = rw c.fields_of-fields.ensures.listed (tidy_partition_spec c.requires.laid_spec).slots

pub loop-i-preserved : goal.loop-i-preserved
loop-i-preserved c = overwrite_by laid_partition_field partition_field_room no_partition_field read_partition_field (reused_as (read_partition_specs c.args.t)) c.fields_of-fields.result.now c.loop-i.i _ c.loop-i-test.true c.loop-i.invariant c.reuse_field_id.ensures

pub returns : goal.returns
returns c =
    let fields = c.fields_of-fields.result.now in
    let g = reused_as (read_partition_specs c.args.t) in
    let old = map read_partition_field fields in
    reused_spec_lem (read_partition_specs c.args.t) c.requires.laid_spec refl refl
    (c.loop-i.invariant
    ∙ overwritten_all laid_partition_field partition_field_room no_partition_field (map g old) old c.loop-i.i
    (simp length-map (omega (arith, c.loop-i-test.false)))
    (simp length-map (omega (arith, c.loop-i-test.false)))
    ∙ ap (λ (l : List plain.PartitionField). pad partition_field_room no_partition_field (map laid_partition_field (map g l))) c.fields_of-fields.ensures.listed)
