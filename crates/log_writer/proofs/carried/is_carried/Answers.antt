-- No more than a list may have, and each is carried.
use Rattle.std.proofs.Common.{refl, ◌∙◌}
use Rattle.rules.specs.Kinds.{read_update, read_updates}
use Rattle.log_rule.specs.LogText.{is_carried_update}
use Rattle.file_shown.proofs.Looked.{looked}
use Rattle.log_writer.proofs.Answers.{too_many, few}
use Rattle.log_writer.proofs.carried.is_carried.Goals as goal

pub returns-then-t-gt-UPDATES : goal.returns-then-t-gt-UPDATES
returns-then-t-gt-UPDATES c = too_many c.args.t c.args.offers.now c.if-t-gt-UPDATES.true

pub returns : goal.returns
unfolding read_updates
returns c =
    looked (is_carried_update c.args.offers.now) read_update c.args.t.items c.args.t.count c.all_items.ensures c.blank.ensures (λ x. refl)
    ∙ few c.args.t c.args.offers.now c.if-t-gt-UPDATES.false
