-- None are held where the number is not 0.
use borrow.Author.Rules.{rules}
use Rattle.schema_updates.proofs.keys.keys_at_start.Statement.{statement}
use Rattle.schema_updates.proofs.keys.keys_at_start.Tie as tie

pub keys_at_start_spec : {M : Type 1} → statement M
keys_at_start_spec =
    tie.close
    (tie.spec
    (λ c κs. c.requires c.if-number-eq-ACCEPTED.true)
    (λ c. (c.keys_of.ensures.0, λ z. c.keys_of.ensures.1))
    (λ c κs. search rules)
    (λ c. (c.no_keys.ensures.0, λ z. absurd (c.if-number-eq-ACCEPTED.false z))))
