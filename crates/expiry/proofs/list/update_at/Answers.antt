use Rattle.std.proofs.Common.{sym, ap, ◌∙◌, List, take, drop, ◌-◌, ◌*◌, length}
use Rattle.rules.specs.Capacities.{removal_room}
use Rattle.rules.specs.Register.{NamedRef}
use Rattle.rules.specs.Walk.{snapshot_ids}
use Rattle.rules.specs.Layout.{read_refs, read_snapshots}
use Rattle.rules.specs.Kinds.{laid_update}
use Rattle.tables.proofs.Table.{rest}
use Rattle.tables.proofs.Each.{tidy_refs, ref_at_lem, name_of}
use Rattle.expiry.specs.List.{removal}
use Rattle.expiry.proofs.list.update_at.Goals as goal

pub ref_removal-requires : goal.ref_removal-requires
ref_removal-requires c = name_of (ref_at_lem c.requires.laid_refs c.args.place _ c.if-place-refs.true)

pub returns-then-place-refs : goal.returns-then-place-refs
returns-then-place-refs c =
    let a = c.args in
    let part = take removal_room (drop ((a.place - length (read_refs a.refs)) * removal_room) (snapshot_ids (read_snapshots a.snapshots))) in
    c.ref_removal.ensures ∙ ap (λ (l : List NamedRef). laid_update (removal l part)) (sym (rest (tidy_refs c.requires.laid_refs) a.place _ c.if-place-refs.true))
