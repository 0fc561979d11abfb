use Rattle.std.proofs.Common.{refl}
use Rattle.rules.specs.Layout.{read_schema_field}
use Rattle.file_shown.specs.Tests.{field_named}
use Rattle.file_shown.proofs.Looked.{looked}
use Rattle.file_shown.proofs.table.schema_named.Goals as goal

pub returns : goal.returns
returns c = looked field_named read_schema_field c.args.t.items c.args.t.count c.all_items.ensures c.blank.ensures (λ x. refl)
