use Rattle.std.proofs.Common.{refl}
use Rattle.rules.specs.Layout.{read_snapshot}
use Rattle.file_shown.specs.Tests.{rows_none}
use Rattle.file_shown.proofs.Looked.{looked}
use Rattle.file_shown.proofs.table.rows_none.Goals as goal

pub returns : goal.returns
returns c = looked rows_none read_snapshot c.args.t.items c.args.t.count c.all_items.ensures c.blank.ensures (λ x. refl)
