-- The answer is that of the builder's method, and the entry is the update with the trimmed location.
use Rattle.std.proofs.Common.{ap}
use Rattle.records.specs.declared.update.TableUpdate.{TableUpdate}
use Rattle.rules.specs.WellFormed.{update_formed}
use Rattle.rules.specs.Updates.{offers_formed, checks, effect}
use Rattle.rules.specs.Kinds.{with_fields_part, with_location}
use Rattle.builder.proofs.Steps.{entry_as}
use Rattle.builder.proofs.Entries.{of_kind_lem, read_kind_lem, formed_kind}
use Rattle.builder.proofs.Given.{given_location}
use Rattle.builder.proofs.decision.set_location.Goals as goal

pub set_location-set-requires-clause-len_le_location_room_2 : goal.set_location-set-requires-clause-len_le_location_room_2
unfolding update_formed
set_location-set-requires-clause-len_le_location_room_2 c = given_location c.args.u (formed_kind c.args.u c.requires.u_value 3 c.requires.kind_value c.requires.u_value_2)

pub returns : goal.returns
unfolding offers_formed checks effect
returns c terms st p =
    let u = c.args.u in
    let k = c.requires in
    rw (c.decided.ensures, read_kind_lem u k.u_value 3 k.kind_value) (entry_as (c.set_location-set.ensures st p) (ap (λ (y : TableUpdate). with_fields_part (with_location c.set_location-set.result.location y.fields) y) (of_kind_lem u k.u_value 3 k.kind_value)))
