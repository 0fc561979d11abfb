-- The blank list is the empty one, laid out.
use borrow.Author.Rules.{rules}
use Rattle.records.specs.Blanks.{no_updates}
use Rattle.rules.specs.Kinds.{laid_updates}
use Rattle.expiry.specs.Answer.{laid_expiry}
use Rattle.expiry.proofs.refused.Statement.{statement}
use Rattle.expiry.proofs.refused.Tie as tie

returns : tie.Need-returns
unfolding laid_expiry laid_updates no_updates
returns c = rw c.blank-updates.ensures

pub refused_spec : {M : Type 1} → statement M
refused_spec = tie.close (tie.spec (λ c κs. search rules) returns)
