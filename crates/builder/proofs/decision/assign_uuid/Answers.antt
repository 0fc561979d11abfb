-- The answer is that of the builder's method, and the entry is the update as given.
use Rattle.rules.specs.Updates.{offers_formed, checks, effect}
use Rattle.builder.proofs.Steps.{entry_as}
use Rattle.builder.proofs.Entries.{of_kind_lem, read_kind_lem}
use Rattle.builder.proofs.decision.assign_uuid.Goals as goal

pub returns : goal.returns
unfolding offers_formed checks effect
returns c terms st p =
    let u = c.args.u in
    let k = c.requires in
    rw (c.decided.ensures, read_kind_lem u k.u_value 1 k.kind_value) (entry_as (c.assign_uuid-assigned.ensures st p) (of_kind_lem u k.u_value 1 k.kind_value))
