-- The ids without a slot read as 0.
use Rattle.std.proofs.Common.{◌≡◌, Bool, ◌&&◌, ◌||◌, length, ltb, sym, ap, ◌∙◌, rules}
use mathlib.Core.Path.{ap₂}
use Rattle.records.specs.Blanks.{no_snapshot_id}
use Rattle.records.specs.declared.counters.SnapshotId.{SnapshotId}
use Rattle.rules.specs.Capacities.{removal_room}
use Rattle.rules.specs.ChangeLog.{logs_addition}
use Rattle.rules.specs.Layout.{counted}
use Rattle.rules.specs.Kinds.{read_updates}
use Rattle.tables.proofs.Search.{any_map}
use Rattle.formed.proofs.Scans.{slots}
use Rattle.histories.proofs.Slots.{any_counted}
use Rattle.histories.proofs.any_is_added.Goals as goal

pub returns : goal.returns
returns c =
    let a = c.args in
    let q : SnapshotId → Bool = λ id. logs_addition (read_updates a.changes) id.0 in
    let room : length a.ids.items ≡ removal_room = search (rules, slots) in
    ap₂ ◌||◌ c.any_logged-held.ensures (ap (λ (b : Bool). ltb removal_room a.ids.count && b) c.logs_addition.ensures)
    ∙ sym (any_map (logs_addition (read_updates a.changes)) (λ (i : SnapshotId). i.0) (counted no_snapshot_id a.ids.items a.ids.count) ∙ any_counted q no_snapshot_id a.ids.items a.ids.count removal_room room c.with_slot.ensures)
