-- It is logged exactly if the state's table has a file of the snapshot.
use Rattle.std.proofs.Common.{List, refl, sym, ap, ◌∙◌}
use Rattle.rules.specs.Register as plain
use Rattle.rules.specs.StatisticsUpdates.{has_file_of}
use Rattle.rules.specs.Updates.{offers_formed, checks, effect}
use Rattle.statistics_updates.proofs.Rules.{remove_steps}
use Rattle.statistics_updates.proofs.Reading.{remove_read, remove_laid}
use Rattle.statistics_updates.proofs.Tables.{read_statistics_lem}
use Rattle.statistics_updates.proofs.remove_statistics.Goals as goal

pub returns : goal.returns
unfolding checks offers_formed effect
returns c which terms st k p q =
    let u = c.args.u in
    let id = u.statistics.removed.0 in
    rw (c.decided.ensures, remove_read u c.requires.u_value which k) (
      refl,
      λ z. remove_steps which id st c.has_file_of-held.result (sym (c.has_file_of-held.ensures ∙ ap (λ (l : List plain.StatisticsFile). has_file_of l id) (read_statistics_lem which st q))) p (remove_laid u c.requires.u_value which k),
    )
