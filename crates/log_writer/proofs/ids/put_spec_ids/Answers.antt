use Rattle.std.proofs.Common.{refl}
use Rattle.records.specs.declared.counters.SpecId.{SpecId}
use Rattle.file_rule.specs.Written.{number_text}
use Rattle.file_text.proofs.Lists.{table}
use Rattle.log_writer.proofs.ids.put_spec_ids.Goals as goal

pub returns : goal.returns
returns c = table number_text (λ (i : SpecId). i.0) c.args.t.items c.args.t.count c.put_items.ensures refl
