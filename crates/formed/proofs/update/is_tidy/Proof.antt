-- Each part is asked what the rule asks of it.
use borrow.Author.Rules.{rules}
use Rattle.formed.proofs.update.is_tidy.Statement.{statement}
use Rattle.formed.proofs.update.is_tidy.Tie as tie

pub is_tidy_spec : {M : Type 1} → statement M
is_tidy_spec =
    tie.close
    (tie.spec
    (λ c κs. search rules)
    (λ c κs. search rules)
    (λ c κs. search rules)
    (λ c κs. search rules)
    (λ c κs. search rules)
    (λ c κs. search rules)
    (λ c κs. search rules)
    (λ c. rw (c.fields_fit.ensures, c.snapshots_fit.ensures, c.refs_fit.ensures, c.schemas_fit.ensures, c.sort_orders_fit.ensures, c.statistics_fit.ensures, c.partition_specs_fit.ensures)))
