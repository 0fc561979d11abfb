use Rattle.std.proofs.Common.{refl}
use Rattle.rules.specs.Layout.{read_metadata_log_entry}
use Rattle.file_shown.specs.Tests.{entry_named}
use Rattle.file_shown.proofs.Looked.{looked}
use Rattle.file_shown.proofs.table.log_named.Goals as goal

pub returns : goal.returns
returns c = looked entry_named read_metadata_log_entry c.args.t.items c.args.t.count c.all_items.ensures c.blank.ensures (λ x. refl)
