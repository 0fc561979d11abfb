use Rattle.std.proofs.Common.{◌≡◌, ◌<◌, ◌∙◌, ap, List, [], ◌∷◌, ◌++◌, ◌+◌, take, arith}
use borrow.Author.Tests.{eq-eqb, ne_eqb}
use borrow.Author.Rules.{sfits_of}
use mir.Facts.{to_z-of_z}
use lib.ListN.{length-take, get_or}
use lib.Seq.{get_or-take}
use Rattle.records.specs.Blanks.{no_log_entry}
use Rattle.records.specs.declared.snapshot.SnapshotLogEntry.{SnapshotLogEntry}
use Rattle.rules.specs.Register.{LogEntry}
use Rattle.rules.specs.Layout.{read_log_entry, read_snapshot_log}
use Rattle.tables.proofs.Table.{next, read_length, within, long}
use Rattle.tables.proofs.Each.{tidy_snapshot_log}
use Rattle.expiry.specs.Answer.{no_reason, no_reasons}
use Rattle.expiry.specs.declared.policy.Reasons.{Reasons}
use Rattle.expiry.specs.Found.{place_in}
use Rattle.expiry.proofs.Slots.{slotted_none}
use Rattle.expiry.proofs.Logged.{held, absent, all_named, none_named}
use Rattle.expiry.proofs.kept.logged.Goals as goal
use Rattle.expiry.proofs.kept.logged.Goals.{then-place-ids, else-place-ids}

pub returns-then-office-ne-SECOND_OFFICE : goal.returns-then-office-ne-SECOND_OFFICE
unfolding no_reasons
returns-then-office-ne-SECOND_OFFICE c = none_named c.args.office (read_snapshot_log c.args.log) c.args.ids.now (ne_eqb _ _ c.if-office-ne-SECOND_OFFICE.true) (ap (λ (r : Reasons). r.stays) c.blank.ensures ∙ slotted_none no_reason c.args.ids.now c.requires.ids_len_bound)

pub loop-entry-init : goal.loop-entry-init
unfolding no_reasons
loop-entry-init c = ap (λ (r : Reasons). r.stays) c.blank.ensures ∙ slotted_none no_reason c.args.ids.now c.requires.ids_len_bound

pub loop-entry-preserved : goal.loop-entry-preserved
loop-entry-preserved c =
    let log = c.args.log in
    let ids = c.args.ids.now in
    let i = c.loop-entry.entry-index in
    let entries : List LogEntry = read_snapshot_log log in
    let b : i < log.count = omega (arith, c.loop-entry-test.true, length-take log.count log.items) in
    let entry : LogEntry = read_log_entry (get_or log.items i no_log_entry) in
    let key : c.snapshot_key.result.0 ≡ entry.snapshot = c.snapshot_key.ensures ∙ ap (λ (e : SnapshotLogEntry). e.snapshot_id.0) (get_or-take log.count log.items i no_log_entry b) in
    let place : c.position_ascending-place.result ≡ place_in ids entry.snapshot = rw (to_z-of_z (sfits_of c.struct_told-1.given.0.1), key) at c.position_ascending-place.ensures in
    let read : take (i + 1) entries ≡ take i entries ++ (entry ∷ []) = next (tidy_snapshot_log c.requires.laid_snapshot_log) i no_log_entry b in
    elim c.if-place-ids.branch [
      | then-place-ids w ↦ w.stays-is ∙ rw read (held (take i entries) entry ids place c.loop-entry.invariant c.requires.ids_value w.if-place-ids.true)
      | else-place-ids w ↦ w.stays-is ∙ rw read (absent (take i entries) entry ids place c.loop-entry.invariant w.if-place-ids.false)
    ]

pub returns : goal.returns
returns c =
    let log = c.args.log in
    all_named c.args.office (read_snapshot_log log) c.args.ids.now (eq-eqb _ _ c.if-office-ne-SECOND_OFFICE.false)
    (omega (arith, c.loop-entry-test.false, read_length (tidy_snapshot_log c.requires.laid_snapshot_log), length-take log.count log.items, within (tidy_snapshot_log c.requires.laid_snapshot_log), long (tidy_snapshot_log c.requires.laid_snapshot_log)))
    c.loop-entry.invariant
