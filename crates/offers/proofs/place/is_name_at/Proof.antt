-- A name that is too long fails the rule's first test; else the bytes from its end on are those that the rule drops to.
use borrow.Author.Rules.{rules}
use Rattle.offers.proofs.Named.{too_long, rest_asked}
use Rattle.offers.proofs.place.is_name_at.Statement.{statement}
use Rattle.offers.proofs.place.is_name_at.Tie as tie

pub is_name_at_spec : {M : Type 1} → statement M
is_name_at_spec =
    tie.close
    (tie.spec
    (λ c. search rules)
    (λ c κs. search rules)
    (λ c. let a = c.args in
    too_long a.at a.bytes.now c.count-n.ensures.0 c.if-n-gt-NAME.true)
    (λ c. search rules)
    (λ c. search rules)
    (λ c κs. search rules)
    (λ c. let a = c.args in
    rest_asked a.at a.bytes.now c.count-n.ensures.0 c.if-n-gt-NAME.false c.zeros_from.ensures))
