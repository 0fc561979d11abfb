-- A blank update removes nothing, so those without a slot do not count.
use Rattle.std.proofs.Common.{◌≡◌, Bool, ◌||◌, List, [], ◌∷◌, ℤ, length, refl, sym, ap, ◌∙◌, rules}
use Rattle.records.specs.declared.update.UpdateList.{UpdateList}
use Rattle.rules.specs.Words.{any}
use Rattle.rules.specs.Capacities.{list_room}
use Rattle.rules.specs.Register.{Update}
use Rattle.rules.specs.ChangeLog.{removed_ids, logs_addition}
use Rattle.rules.specs.Moment.{logs_removed, removes_and_adds}
use Rattle.rules.specs.Kinds.{read_updates}
use Rattle.rules.proofs.Replay.Lists.{any_append}
use Rattle.formed.proofs.Scans.{slots}
use Rattle.histories.proofs.Slots.{any_update}
use Rattle.histories.proofs.OfKind.{of_no_kind}
use Rattle.histories.proofs.removes_and_adds.Goals as goal

-- the removed snapshots, update by update
removed_each : (q : ℤ → Bool) (l : List Update) → any q (logs_removed l) ≡ any (λ (u : Update). any q (removed_ids u)) l
removed_each q [] = refl
removed_each q (u ∷ l) = any_append q (removed_ids u) (logs_removed l) ∙ ap (λ (b : Bool). any q (removed_ids u) || b) (removed_each q l)

-- the update removes a snapshot that the log adds
abbrev removes_added : UpdateList → Update → Bool
removes_added changes u = any (logs_addition (read_updates changes)) (removed_ids u)

pub returns : goal.returns
unfolding removes_and_adds
returns c =
    let changes = c.args.changes in
    let f = removes_added changes in
    let room : length changes.items ≡ list_room = search (rules, slots) in
    c.any_removes.ensures
    ∙ sym (any_update f changes (of_no_kind f (λ n. refl)) room c.with_slot.ensures)
    ∙ sym (removed_each (logs_addition (read_updates changes)) (read_updates changes))
