-- Each test is the rule's, on the state's pieces, and the first that fails gives the number.
use Rattle.std.proofs.Common.{◌≡◌, ltb, length, pos, ap, ◌∙◌, rules}
use mathlib.Core.Path.{ap₂}
use mathlib.Core.Option.{Option}
use lib.IntN.{ℤ}
use lib.ListN.{length-map}
use Rattle.rules.specs.Words.{eq_z, larger, or_else, some_with, first_of}
use Rattle.rules.specs.Window.{is_before}
use Rattle.rules.specs.Register.{Snapshot, SingleFields}
use Rattle.rules.specs.WellFormed.{holds_snapshot}
use Rattle.rules.specs.SnapshotUpdates.{too_low, latest}
use Rattle.rules.specs.Layout.{read_snapshot}
use Rattle.search.specs.Places.{index_of}
use Rattle.snapshot_updates.specs.Snapshots.{row_checks}
use Rattle.builder.proofs.State.{its_fields, its_own}
use Rattle.builder.proofs.Positions.{snapshot_found}
use Rattle.snapshot_updates.proofs.Additions.{number, of_last}
use Rattle.snapshot_updates.proofs.add_snapshot_number.Goals as goal

pub returns : goal.returns
returns c st e ids entry =
    let a = c.args in
    let s = read_snapshot a.s in
    let at : c.position_ascending-at.result ≡ index_of (λ x. eq_z x s.id) a.ids.now = search rules in
    let held : ltb c.position_ascending-at.result (length a.ids.now) ≡ holds_snapshot st.metadata.snapshots s.id =
    rw (at, ids, length-map) (snapshot_found s.id st.metadata.snapshots) in
    let late : c.is_before-late.result ≡ is_before a.tolerance.0 s.time (latest st) =
    c.is_before-late.ensures
    ∙ ap (is_before a.tolerance.0 s.time)
    (c.latest.ensures
    ∙ ap₂ (λ (f : SingleFields) (o : Option ℤ). larger f.last_updated (or_else o (pos 0))) (its_fields st e) (its_own st e)) in
    rw (c.choose.ensures, c.choose-n6.ensures, c.choose-n7.ensures, c.choose-n8.ensures, c.choose-n10.ensures, c.choose-n19.ensures)
    (number a.tolerance.0 s st
    held
    (c.too_low-low.ensures ∙ ap (too_low s) (its_fields st e))
    (c.before_entry-early.ensures ∙ ap (some_with (is_before a.tolerance.0 s.time)) entry ∙ of_last (is_before a.tolerance.0 s.time) st.metadata.snapshot_log)
    late
    (c.rows_number-rows.ensures ∙ ap (λ (f : SingleFields). first_of (row_checks s f)) (its_fields st e))
    (ap length ids ∙ length-map st.metadata.snapshots (λ (s : Snapshot). s.id)))
