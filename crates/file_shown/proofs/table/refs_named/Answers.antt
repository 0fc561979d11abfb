use Rattle.std.proofs.Common.{refl}
use Rattle.rules.specs.Layout.{read_ref}
use Rattle.file_shown.specs.Tests.{ref_named}
use Rattle.file_shown.proofs.Looked.{looked}
use Rattle.file_shown.proofs.table.refs_named.Goals as goal

pub returns : goal.returns
returns c = looked ref_named read_ref c.args.t.items c.args.t.count c.all_items.ensures c.blank.ensures (λ x. refl)
