-- A blank update adds nothing, so those without a slot do not count.
use Rattle.std.proofs.Common.{◌≡◌, length, refl, sym, ◌∙◌, rules}
use Rattle.rules.specs.Capacities.{list_room}
use Rattle.rules.specs.ChangeLog.{is_addition, logs_addition}
use Rattle.formed.proofs.Scans.{slots}
use Rattle.histories.proofs.Slots.{any_update}
use Rattle.histories.proofs.OfKind.{of_no_kind}
use Rattle.histories.proofs.logs_addition.Goals as goal

pub returns : goal.returns
unfolding logs_addition
returns c =
    let f = is_addition c.args.id.0 in
    let room : length c.args.changes.items ≡ list_room = search (rules, slots) in
    c.any_adds.ensures ∙ sym (any_update f c.args.changes (of_no_kind f (λ n. refl)) room c.with_slot.ensures)
