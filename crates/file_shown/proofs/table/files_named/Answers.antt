use Rattle.std.proofs.Common.{refl}
use Rattle.rules.specs.Layout.{read_statistics_file}
use Rattle.file_rule.specs.Export.{file_path}
use Rattle.file_shown.proofs.Looked.{looked}
use Rattle.file_shown.proofs.table.files_named.Goals as goal

pub returns : goal.returns
returns c = looked file_path read_statistics_file c.args.t.items c.args.t.count c.all_items.ensures c.blank.ensures (λ x. refl)
