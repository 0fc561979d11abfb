-- Of fields that have no id none is the same.
use Rattle.std.proofs.Common.{rules, ap, ◌∙◌}
use Rattle.rules.specs.Register as plain
use Rattle.rules.specs.Words.{eq_z, unequal_by}
use Rattle.rules.specs.Layout.{read_partition_spec}
use Rattle.partitions.specs.Ids.{same_id}
use Rattle.partitions.proofs.Twice.{unequal_collect}
use Rattle.partitions.proofs.repeats.ids_differ.Goals as goal

pub returns : goal.returns
returns c =
    c.none_alike.ensures same_id (λ x y r p q e. search rules)
    ∙ ap (unequal_by same_id) c.fields_of.ensures.listed
    ∙ unequal_collect eq_z (λ (f : plain.PartitionField). f.id) (read_partition_spec c.args.p).fields
