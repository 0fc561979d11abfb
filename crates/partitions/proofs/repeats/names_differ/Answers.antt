-- Names that are laid out are the same where what is read of them is.
use Rattle.std.proofs.Common.{◌≡◌, Bool, rules, ap, ◌∙◌}
use Rattle.rules.specs.Register as plain
use Rattle.rules.specs.Words.{same_bytes, unequal_by}
use Rattle.rules.specs.Layout.{read_partition_spec}
use Rattle.equality.specs.Same.{same_name}
use Rattle.equality.proofs.Told.{names_alike}
use Rattle.partitions.proofs.Named.{field_name}
use Rattle.partitions.proofs.Twice.{unequal_map}
use Rattle.partitions.proofs.repeats.names_differ.Goals as goal

abbrev share_name : plain.PartitionField → plain.PartitionField → Bool
share_name a b = same_bytes a.name b.name

pub returns : goal.returns
returns c =
    c.none_alike.ensures share_name (λ x y r p q e. let h : r ≡ same_name x.name y.name = search rules in h ∙ names_alike x.name y.name (field_name p) (field_name q))
    ∙ ap (unequal_by share_name) c.fields_of.ensures.listed
    ∙ unequal_map same_bytes (λ (f : plain.PartitionField). f.name) (read_partition_spec c.args.p).fields
