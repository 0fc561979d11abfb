-- The answer is that of the choice, and the entry is the update with the id that the choice logs.
use mathlib.Core.Path.{ap}
use borrow.Author.Rules.{rules}
use Rattle.records.specs.declared.update.TableUpdate.{TableUpdate}
use Rattle.rules.specs.Updates.{offers_formed, checks, effect}
use Rattle.rules.specs.Kinds.{with_partition_specs_part, with_spec_id}
use Rattle.builder.proofs.Steps.{entry_as}
use Rattle.builder.proofs.Entries.{of_kind_lem, read_kind_lem}
use Rattle.spec_updates.proofs.choice.set_default_partition_spec.Statement.{statement}
use Rattle.spec_updates.proofs.choice.set_default_partition_spec.Tie as tie

returns : tie.Need-returns
unfolding checks offers_formed effect
returns c terms st p r q =
    let x = c.before.before.before in
    let u = x.args.u in
    let tidy = x.requires.1.1.0 in
    let kind = x.requires.1.1.1 in
    rw (c.decided.ensures, read_kind_lem u tidy 19 kind) (entry_as (x.spec_choice-x.ensures st p r q) (ap (λ (y : TableUpdate). with_partition_specs_part (with_spec_id x.spec_choice-x.result.spec_id y.partition_specs) y) (of_kind_lem u tidy 19 kind)))

pub set_default_partition_spec_spec : {M : Type 1} → statement M
set_default_partition_spec_spec = tie.close (tie.spec (λ c κs. search rules) (λ c κs. search rules) returns)
