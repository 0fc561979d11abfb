-- One does exactly if one of those that are left does.
use Rattle.std.proofs.Common.{◌≡◌, drop}
use Rattle.records.specs.declared.update.TableUpdate.{TableUpdate}
use Rattle.rules.specs.Words.{any}
use Rattle.rules.specs.ChangeLog.{is_addition, removed_ids, logs_addition}
use Rattle.rules.specs.Kinds.{read_update, read_updates}
use Rattle.histories.proofs.any_adds.Given as goal

abbrev pub invariant-loop-u : goal.invariant-loop-u
invariant-loop-u l = any (λ (u : TableUpdate). is_addition l.id.0 (read_update u)) l.updates ≡ any (λ (u : TableUpdate). is_addition l.id.0 (read_update u)) (drop l.u-index l.updates)
