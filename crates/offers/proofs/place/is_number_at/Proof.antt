-- The number that is asked is the rule's.
use borrow.Author.Rules.{rules}
use Rattle.offers.proofs.place.is_number_at.Statement.{statement}
use Rattle.offers.proofs.place.is_number_at.Tie as tie

pub is_number_at_spec : {M : Type 1} → statement M
is_number_at_spec = tie.close (tie.spec (λ c κs. search rules) (λ c. rw c.number_at.ensures))
