-- The answer is that of the choice, and the entry is the update with the id that the choice logs.
use mathlib.Core.Path.{ap}
use borrow.Author.Rules.{rules}
use Rattle.records.specs.declared.update.TableUpdate.{TableUpdate}
use Rattle.rules.specs.Updates.{offers_formed, checks, effect}
use Rattle.rules.specs.Kinds.{with_schemas_part, with_schema_id}
use Rattle.builder.proofs.Steps.{entry_as}
use Rattle.builder.proofs.Entries.{of_kind_lem, read_kind_lem}
use Rattle.schema_updates.proofs.set_current_schema.Statement.{statement}
use Rattle.schema_updates.proofs.set_current_schema.Tie as tie

returns : tie.Need-returns
unfolding checks offers_formed effect
returns c terms st p q =
    let x = c.before.before.before in
    let u = x.args.u in
    rw (c.decided.ensures, read_kind_lem u x.requires.1.0 10 x.requires.1.1) (entry_as (x.schema_choice-x.ensures st p q) (ap (λ (y : TableUpdate). with_schemas_part (with_schema_id x.schema_choice-x.result.schema_id y.schemas) y) (of_kind_lem u x.requires.1.0 10 x.requires.1.1)))

pub set_current_schema_spec : {M : Type 1} → statement M
set_current_schema_spec = tie.close (tie.spec (λ c κs. search rules) (λ c κs. search rules) returns)
