use Rattle.std.proofs.Common.{refl}
use Rattle.rules.specs.Layout.{read_ref}
use Rattle.file_shown.specs.Tests.{owner_shown}
use Rattle.file_shown.proofs.Looked.{looked}
use Rattle.file_shown.proofs.table.owners_shown.Goals as goal

pub returns : goal.returns
returns c = looked owner_shown read_ref c.args.t.items c.args.t.count c.all_items.ensures c.blank.ensures (λ x. refl)
