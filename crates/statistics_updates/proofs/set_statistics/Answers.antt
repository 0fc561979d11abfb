-- The number is that of the rule's check on the state's table, and the entry is the update as given.
use Rattle.std.proofs.Common.{◌≡◌, List, length, sym, ap, ◌∙◌}
use borrow.Author.Tests.{eqb-true, eq-eqb}
use Rattle.rules.specs.Words.{first_of}
use Rattle.rules.specs.Register as plain
use Rattle.rules.specs.StatisticsUpdates.{has_file_of}
use Rattle.rules.specs.Updates.{offers_formed, checks, effect}
use Rattle.rules.specs.Layout.{read_statistics_file}
use Rattle.tables.specs.Laid.{LaidStatisticsFile}
use Rattle.tables.proofs.Table.{read_length}
use Rattle.tables.proofs.Each.{tidy_statistics}
use Rattle.statistics_updates.proofs.Rules.{one, number_is, has_room, set_steps, set_table}
use Rattle.statistics_updates.proofs.Reading.{set_read, set_laid, file_laid}
use Rattle.statistics_updates.proofs.Tables.{read_statistics_lem}
use Rattle.statistics_updates.proofs.set_statistics.Goals as goal

pub returns : goal.returns
unfolding checks offers_formed effect
returns c =
    let p = c.requires in
    let u = c.args.u in
    let f = read_statistics_file u.statistics.file in
    let offered : LaidStatisticsFile u.statistics.file = file_laid u p.u_value p.u_value_2 p.set_partition_statistics_kind_value in
    let n : c.choose-number.result ≡ first_of (one c.has_file_of-held.result c.args.t.count) = c.choose-number.ensures ∙ rw c.is_full-full.ensures in
    record {
      answers = λ which terms st k b q.
          let l = read_statistics_lem which st q in
          rw (set_read u p.u_value which k) (
            n ∙ number_is which f st (c.has_file_of-held.ensures ∙ ap (λ (x : List plain.StatisticsFile). has_file_of x f.snapshot) l) (sym (read_length (tidy_statistics p.laid_statistics)) ∙ ap length l),
            λ z. set_steps which f st b (set_laid u p.u_value offered which k),
          );
      table = λ which terms st k z. rw (set_read u p.u_value which k, eq-eqb c.choose-number.result 0 z) (set_table which f st);
      new = λ g. record { laid = offered; room = λ e. has_room c.has_file_of-held.result c.args.t.count (sym n ∙ eqb-true c.choose-number.result 0 g) (c.has_file_of-held.ensures ∙ e) };
    }
