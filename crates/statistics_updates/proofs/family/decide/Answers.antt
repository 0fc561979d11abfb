-- Each kind is decided by its own function, of the table whose kinds have the update's among them.
use native.Mathlib.Omega.{arith}
use mathlib.Core.Path.{◌≡◌, sym, ◌∙◌}
use mathlib.Core.Bool.{true, false, true≢false}
use borrow.Author.Tests.{eqb-true, eqb-false}
use lib.Dec.{eqb}
use Rattle.records.specs.declared.update.TableUpdate.{TableUpdate}
use Rattle.rules.specs.Register.{StatisticsTable}
use Rattle.rules.specs.Register.StatisticsTable.{Statistics, PartitionStatistics}
use Rattle.rules.specs.Kinds.{read_update, set_statistics_kind, set_partition_statistics_kind, setting_kind_lem, removing_kind}
use Rattle.rules.proofs.Checks.{by_either, neither}
use Rattle.statistics_updates.specs.Family.{is_setting, Within, files_after}
use Rattle.statistics_updates.proofs.Reading.{remove_read}
use Rattle.statistics_updates.proofs.Tables.{statistics_grown, statistics_left}
use Rattle.statistics_updates.proofs.family.decide.Goals as goal

sets : (u : TableUpdate) (which : StatisticsTable) → Within which u → is_setting u ≡ true → u.kind ≡ setting_kind_lem which
sets u Statistics w t = by_either (eqb u.kind set_statistics_kind) (eqb u.kind set_partition_statistics_kind) (eqb-true u.kind set_statistics_kind) (λ q. absurd (omega (arith, eqb-true u.kind set_partition_statistics_kind q))) t
sets u PartitionStatistics w t = by_either (eqb u.kind set_statistics_kind) (eqb u.kind set_partition_statistics_kind) (λ q. absurd (omega (arith, eqb-true u.kind set_statistics_kind q))) (eqb-true u.kind set_partition_statistics_kind) t

removes : (u : TableUpdate) (which : StatisticsTable) → Within which u → is_setting u ≡ false → u.kind ≡ removing_kind which
removes u Statistics w f = let n = neither (eqb u.kind set_statistics_kind) (eqb u.kind set_partition_statistics_kind) f in omega (arith, eqb-false u.kind set_statistics_kind n.0)
removes u PartitionStatistics w f = let n = neither (eqb u.kind set_statistics_kind) (eqb u.kind set_partition_statistics_kind) f in omega (arith, eqb-false u.kind set_partition_statistics_kind n.1)

pub returns-then-u : goal.returns-then-u
unfolding files_after
returns-then-u c =
    let u = c.args.u in
    let D = c.set_statistics.ensures in
    let t = c.if-u.true in
    record {
      answers = λ which terms st w p q. D.answers which terms st (sets u which w t) p q;
      table = λ which terms st w q z. statistics_grown which st q c.set_statistics.result (rw t) (D.table which terms st (sets u which w t) z);
      new = λ _. D.new;
    }

pub returns : goal.returns
unfolding files_after
returns c =
    let u = c.args.u in
    let f = c.if-u.false in
    record {
      answers = λ which terms st w p q. c.remove_statistics.ensures which terms st (removes u which w f) p q;
      table = λ which terms st w q z. statistics_left which st q terms (read_update u) u.statistics.removed.0 (remove_read u c.requires.u_value which (removes u which w f)) (rw f);
      new = λ t. absurd (true≢false (sym t ∙ f));
    }
