use Rattle.std.proofs.Common.{◌≡◌, ◌<◌, ◌+◌, ◌-◌, ap, subst, sym, ◌∙◌, drop, ℕ, arith}
use lib.ListN.{length-take, length-drop}
use lib.Seq.{get_or-take, get_or-drop}
use Rattle.records.specs.Blanks.{no_snapshot}
use Rattle.records.specs.declared.snapshot.Snapshot.{Snapshot}
use Rattle.rules.specs.Walk.{snapshot_ids}
use Rattle.rules.specs.Layout.{read_snapshots}
use Rattle.tables.proofs.Table.{within, long}
use Rattle.tables.proofs.Each.{tidy_snapshots, none_snapshot_ids, room_snapshot_ids}
use Rattle.expiry.proofs.Slots.{ids_long, id_at}
use Rattle.expiry.proofs.Taking.{Taking, taking_none, takes_on, ends}
use Rattle.expiry.proofs.list.part.Goals as goal

pub loop-snapshot-init : goal.loop-snapshot-init
loop-snapshot-init c = taking_none (snapshot_ids (read_snapshots c.args.t)) c.args.from (c.blank-ids.ensures ∙ none_snapshot_ids)

pub push_snapshot-ids-requires-clause-laid_snapshot_ids :
    goal.push_snapshot-ids-requires-clause-laid_snapshot_ids
push_snapshot-ids-requires-clause-laid_snapshot_ids c =
    let i = c.loop-snapshot.invariant in
    let n : c.loop-snapshot.snapshot-index < 16 = omega (arith, c.loop-snapshot-test.true, c.min-start.ensures, c.min-end.ensures, length-take {A = Snapshot}, length-drop {A = Snapshot}) in
    (room_snapshot_ids _ i.ids_so (omega (arith, i.long, n))).0

pub push_snapshot-ids-requires-clause-count_bound :
    goal.push_snapshot-ids-requires-clause-count_bound
push_snapshot-ids-requires-clause-count_bound c =
    let i = c.loop-snapshot.invariant in
    let n : c.loop-snapshot.snapshot-index < 16 = omega (arith, c.loop-snapshot-test.true, c.min-start.ensures, c.min-end.ensures, length-take {A = Snapshot}, length-drop {A = Snapshot}) in
    (room_snapshot_ids _ i.ids_so (omega (arith, i.long, n))).1

pub loop-snapshot-preserved : goal.loop-snapshot-preserved
loop-snapshot-preserved c =
    let t = c.args.t in
    let from = c.args.from in
    let k = c.loop-snapshot.snapshot-index in
    let ids = snapshot_ids (read_snapshots t) in
    let p = c.requires in
    let start = c.min-start.result in
    let m : ℕ = c.min-end.result - start in
    let n : k < 16 = omega (arith, c.loop-snapshot-test.true, c.min-start.ensures, c.min-end.ensures, length-take {A = Snapshot}, length-drop {A = Snapshot}) in
    let w : k < m = omega (arith, c.loop-snapshot-test.true, c.min-start.ensures, c.min-end.ensures, length-take {A = Snapshot}, length-drop {A = Snapshot}) in
    let s : start ≡ from = omega (arith, w, c.min-start.ensures, c.min-end.ensures) in
    let b : from + k < t.count = omega (arith, w, s, c.min-start.ensures, c.min-end.ensures) in
    let e = get_or-take m (drop start t.items) k no_snapshot w ∙ get_or-drop start t.items k no_snapshot in
    let z = id_at p (from + k) b ∙ ap (λ (j : ℕ). (lib.ListN.get_or t.items (j + k) no_snapshot).snapshot_id.0) (sym s) ∙ sym (ap (λ (x : Snapshot). x.snapshot_id.0) e) in
    let q : (from + k) + 1 ≡ from + (k + 1) = omega arith in
    subst (Taking ids from c.push_snapshot-ids.result (k + 1)) q (takes_on ids from c.loop-snapshot.invariant (omega (arith, b, ids_long p)) n z c.push_snapshot-ids.ensures)

pub returns : goal.returns
returns c =
    ends (snapshot_ids (read_snapshots c.args.t)) c.args.from c.loop-snapshot.invariant
    (λ b. omega (arith, b, ids_long c.requires, c.loop-snapshot-test.false, c.min-start.ensures, c.min-end.ensures, within (tidy_snapshots c.requires), long (tidy_snapshots c.requires), length-take {A = Snapshot}, length-drop {A = Snapshot}))
