use Rattle.std.proofs.Common.{refl}
use Rattle.rules.specs.Layout.{read_partition_spec}
use Rattle.file_rule.specs.Export.{spec_texts}
use Rattle.file_shown.proofs.Looked.{looked}
use Rattle.file_shown.proofs.table.specs_named.Goals as goal

pub returns : goal.returns
returns c = looked spec_texts read_partition_spec c.args.t.items c.args.t.count c.all_items.ensures c.blank.ensures (λ x. refl)
