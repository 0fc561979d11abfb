-- One does exactly if one of those that are left does.
use Rattle.std.proofs.Common.{◌≡◌, drop}
use Rattle.records.specs.declared.update.TableUpdate.{TableUpdate}
use Rattle.rules.specs.Words.{any}
use Rattle.rules.specs.ChangeLog.{is_addition, removed_ids, logs_addition}
use Rattle.rules.specs.Kinds.{read_update, read_updates}
use Rattle.histories.proofs.any_removes.Given as goal

abbrev pub invariant-loop-u : goal.invariant-loop-u
invariant-loop-u l = any (λ (u : TableUpdate). any (logs_addition (read_updates l.changes)) (removed_ids (read_update u))) l.updates ≡ any (λ (u : TableUpdate). any (logs_addition (read_updates l.changes)) (removed_ids (read_update u))) (drop l.u-index l.updates)
