use Rattle.rules.specs.Kinds.{read_update, read_updates}
use Rattle.log_rule.specs.LogText.{update_text}
use Rattle.file_text.proofs.Lists.{table}
use Rattle.file_text.proofs.Pieces.{then, is}
use Rattle.log_writer.proofs.Texts.{log_is}
use Rattle.log_writer.proofs.log.put_log.Goals as goal

pub returns : goal.returns
unfolding read_updates
returns c =
    is (then (then c.put-at.ensures (table (update_text c.args.offers.now) read_update c.args.t.items c.args.t.count c.put_items-at.ensures c.blank.ensures)) c.put.ensures) (log_is c.args.offers.now (read_updates c.args.t))
