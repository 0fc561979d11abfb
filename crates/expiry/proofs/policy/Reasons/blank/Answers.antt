use Rattle.expiry.specs.Answer.{no_reasons}
use Rattle.expiry.proofs.policy.Reasons.blank.Goals as goal

pub returns : goal.returns
unfolding no_reasons
returns c = rw c.blank.ensures
