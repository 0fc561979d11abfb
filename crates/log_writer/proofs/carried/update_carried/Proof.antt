-- An update that is well formed says what stands at its kind.
use borrow.Author.Rules.{rules}
use Rattle.log_writer.proofs.Tidy.{carried_is}
use Rattle.log_writer.proofs.carried.update_carried.Statement.{statement}
use Rattle.log_writer.proofs.carried.update_carried.Tie as tie

pub update_carried_spec : {M : Type 1} → statement M
update_carried_spec =
    tie.close
    (tie.spec
    (λ c κs. search rules)
    (λ c κs. search rules)
    (λ c. let a = c.args in carried_is a.offers.now a.u c.is_formed.ensures c.kind_carried.ensures))
