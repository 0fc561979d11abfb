use Rattle.std.proofs.Common.{refl}
use Rattle.rules.specs.Layout.{read_snapshot}
use Rattle.file_shown.specs.Tests.{sequence_zero}
use Rattle.file_shown.proofs.Looked.{looked}
use Rattle.file_shown.proofs.table.sequences_zero.Goals as goal

pub returns : goal.returns
returns c = looked sequence_zero read_snapshot c.args.t.items c.args.t.count c.all_items.ensures c.blank.ensures (λ x. refl)
