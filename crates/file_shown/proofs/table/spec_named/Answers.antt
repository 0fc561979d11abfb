use Rattle.std.proofs.Common.{refl}
use Rattle.rules.specs.Layout.{read_partition_field}
use Rattle.file_shown.specs.Tests.{partition_named}
use Rattle.file_shown.proofs.Looked.{looked}
use Rattle.file_shown.proofs.table.spec_named.Goals as goal

pub returns : goal.returns
returns c = looked partition_named read_partition_field c.args.t.items c.args.t.count c.all_items.ensures c.blank.ensures (λ x. refl)
