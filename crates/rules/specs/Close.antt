-- The close of a run: document 01, "The close"; document 02, request (ix), on the default spec.
use Rattle.std.specs.Prelude.{ℕ, ◌-◌, Bool, cond, not, ◌&&◌, ◌||◌, List, [], ◌∷◌, ◌++◌, ltb, ℤ, length, take, drop}
use Rattle.std.proofs.Math.Option.{Option, none, some}
use Rattle.rules.specs.Words.{eq_z, or_else, if_some, some_with, keep, first, last_of, is_empty, is_in, after_last, Check}
use Rattle.rules.specs.Replies.{default_order_unfit, log_ends_elsewhere, main_disagrees, too_many_files, name_clash, source_misfit}
use Rattle.rules.specs.Capacities.{metadata_log_room}
use Rattle.rules.specs.Limit.{limit_given}
use Rattle.rules.specs.Register.{LogEntry, FileEntry, SortOrder, Metadata, Update, Terms, State, with_fields, with_snapshot_log, with_metadata_log, with_last_updated}
use Rattle.rules.specs.WellFormed.{holds_snapshot, has_order, main_agrees}
use Rattle.rules.specs.ChangeLog.{logs_addition, logs_main, logs_removal}
use Rattle.rules.specs.OrderUpdates.{is_unfit}
use Rattle.rules.specs.SpecUpdates.{current_fields, is_clashing, of_held_spec, is_held_misfit}

-- ---- the default spec and the default order

-- 31: a name of the default spec clashes with the current schema, as the published `build` finds when it binds the spec again
unfoldable pub is_default_clashing : Metadata → Bool
is_default_clashing m = of_held_spec (is_clashing (current_fields m)) m.fields.default_spec m

-- 32: a source of the default spec is missing in it, or of the wrong type
unfoldable pub is_default_misfit : Metadata → Bool
is_default_misfit m = is_held_misfit m.fields.default_spec m

-- 20: "default order names a field not in the current schema"
unfoldable pub is_default_unfit : Metadata → Bool
is_default_unfit m = some_with (λ (o : SortOrder). is_unfit o m) (first (has_order m.fields.default_order) m.orders)

-- ---- intermediate snapshots

-- "Intermediate snapshots are those whose addition is logged, to which a logged `main` ref went, and which are not the current one."
unfoldable pub intermediates : List Update → Option ℤ → List ℤ
intermediates log current = keep (λ id. logs_addition log id && not (some_with (eq_z id) current)) (logs_main log)

-- ---- the snapshot log

-- "No intermediate and no logged snapshot removal: the log stays, unchecked. Otherwise .."
abbrev pub is_rebuilt : List Update → Metadata → Bool
is_rebuilt log m = logs_removal log || not (is_empty (intermediates log m.fields.current))

abbrev pub is_missing : Metadata → LogEntry → Bool
is_missing m e = not (holds_snapshot m.snapshots e.snapshot)

abbrev pub is_intermediate : List Update → Metadata → LogEntry → Bool
is_intermediate log m e = is_in (intermediates log m.fields.current) e.snapshot

-- "with a removal: the non-intermediate entries, in order, after the last entry whose snapshot is missing.
-- Without one: the entries held and not intermediate."
unfoldable pub rebuilt : List Update → Metadata → List LogEntry
rebuilt log m =
    cond (logs_removal log)
    (keep (λ e. not (is_intermediate log m e)) (after_last (is_missing m) m.snapshot_log))
    (keep (λ e. not (is_missing m e) && not (is_intermediate log m e)) m.snapshot_log)

abbrev pub history : List Update → Metadata → List LogEntry
history log m = cond (is_rebuilt log m) (rebuilt log m) m.snapshot_log

-- "21 unless no current snapshot is set"
abbrev pub ends_at : ℤ → List LogEntry → Bool
ends_at id l = some_with (λ (e : LogEntry). eq_z e.snapshot id) (last_of l)

unfoldable pub ends_elsewhere : List Update → Metadata → Bool
ends_elsewhere log m = is_rebuilt log m && not (if_some (λ id. ends_at id (rebuilt log m)) m.fields.current)

-- ---- the metadata log

-- "The current file's name, if given, joins the metadata log with the old last update."
abbrev pub joined : Terms → Metadata → List FileEntry
joined terms m = elim terms.file [ none ↦ m.metadata_log | some name ↦ m.metadata_log ++ (record { file = name; time = m.fields.last_updated } ∷ []) ]

-- "Oldest entries expire first."
abbrev pub surplus : Terms → Metadata → ℕ
surplus terms m = length (joined terms m) - limit_given terms.limit

unfoldable pub expired : Terms → Metadata → List FileEntry
expired terms m = take (surplus terms m) (joined terms m)

unfoldable pub staying : Terms → Metadata → List FileEntry
staying terms m = drop (surplus terms m) (joined terms m)

-- ---- the close

-- "at the close 32 stands before 20", and 31 before it; then 21, 22, 23
unfoldable pub close_checks : Terms → List Update → Metadata → List Check
close_checks terms log m =
    (is_default_clashing m, name_clash)
    ∷ (is_default_misfit m, source_misfit)
    ∷ (is_default_unfit m, default_order_unfit)
    ∷ (ends_elsewhere log m, log_ends_elsewhere)
    ∷ (not (main_agrees m), main_disagrees)
    ∷ (ltb metadata_log_room (length (staying terms m)), too_many_files)
    ∷ []

-- "Last update becomes the run's own, else the clock, even if that goes back."
unfoldable pub closed : Terms → List Update → State → Metadata
closed terms log st =
    with_fields (with_last_updated (or_else st.own terms.clock) st.metadata.fields)
    (with_snapshot_log (history log st.metadata)
    (with_metadata_log (staying terms st.metadata) st.metadata))
