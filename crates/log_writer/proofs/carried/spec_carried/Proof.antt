-- Well formed, and named in UTF-8.
use borrow.Author.Rules.{rules}
use Rattle.rules.specs.Layout.{read_spec_offer}
use Rattle.log_writer.proofs.Named.{spec_named_lem}
use Rattle.log_writer.proofs.carried.spec_carried.Statement.{statement}
use Rattle.log_writer.proofs.carried.spec_carried.Tie as tie

pub spec_carried_spec : {M : Type 1} → statement M
spec_carried_spec =
    tie.close
    (tie.spec
    (λ c κs. search rules)
    (λ c κs. search rules)
    (λ c. let a = c.args in spec_named_lem a.offers.now (read_spec_offer a.o) c.spec-offered.result c.spec-offered.ensures c.spec_named.ensures))
