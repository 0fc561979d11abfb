-- Well formed, and named in UTF-8.
use borrow.Author.Rules.{rules}
use Rattle.rules.specs.Layout.{read_schema_offer}
use Rattle.log_writer.proofs.Named.{schema_named}
use Rattle.log_writer.proofs.carried.schema_carried.Statement.{statement}
use Rattle.log_writer.proofs.carried.schema_carried.Tie as tie

pub schema_carried_spec : {M : Type 1} → statement M
schema_carried_spec =
    tie.close
    (tie.spec
    (λ c κs. search rules)
    (λ c κs. search rules)
    (λ c. let a = c.args in schema_named a.offers.now (read_schema_offer a.o) c.schema-offered.result c.schema-offered.ensures c.schema_named.ensures))
