-- What a run answers to the list of an expiry, with nothing after it: the theorem `expiry_run` says that it is this. Document 02, request (viii), says of it
-- that it "may still give 21".
use Rattle.std.specs.Prelude.{ℕ, Bool, cond, not, ◌&&◌, List, [], ◌∷◌, eqb, ltb, length}
use Rattle.rules.specs.Words.{if_some, is_empty, after_last, first_of, Check}
use Rattle.rules.specs.Replies.{accepted, start_not_formed, tolerance_outside, name_clash, source_misfit, default_order_unfit, log_ends_elsewhere, too_many_files}
use Rattle.rules.specs.Capacities.{metadata_log_room}
use Rattle.rules.specs.Window.{is_outside}
use Rattle.rules.specs.Register.{LogEntry, Metadata, Terms, Outcome, with_fields, with_snapshots, with_refs, with_snapshot_log, with_metadata_log, with_last_updated}
use Rattle.rules.specs.Register.Outcome.{Refused, Accepted}
use Rattle.rules.specs.WellFormed.{file_name_formed}
use Rattle.rules.specs.Others.{is_second}
use Rattle.rules.specs.Close.{is_default_clashing, is_default_misfit, is_default_unfit, is_missing, ends_at, expired, staying}
use Rattle.retention.specs.Retention.{Policy, remaining_refs, remaining_snapshots, going_ids}
use Rattle.retention.specs.Expiry.{expiring_updates}

-- the metadata without the refs and the snapshots that go
unfoldable pub remaining : Policy → Metadata → Metadata
remaining p m = with_refs (remaining_refs p m) (with_snapshots (remaining_snapshots p m) m)

-- the list of the first office removes a snapshot, so that the close builds the snapshot log anew
abbrev pub is_cut : Policy → Metadata → Bool
is_cut p m = not (is_second p.office) && not (is_empty (going_ids p m))

-- the entries after the last one whose snapshot is then missing
abbrev pub remaining_log : Policy → Metadata → List LogEntry
remaining_log p m = cond (is_cut p m) (after_last (is_missing (remaining p m)) m.snapshot_log) m.snapshot_log

-- a current snapshot is set, and the snapshot log is empty or ends elsewhere
abbrev pub ends_apart : Metadata → Bool
ends_apart m = not (if_some (λ id. ends_at id m.snapshot_log) m.fields.current)

-- 1 and 26, at place 0
abbrev pub list_start_checks : Terms → List Check
list_start_checks terms = (not (if_some file_name_formed terms.file), start_not_formed) ∷ (is_outside terms.tolerance, tolerance_outside) ∷ []

-- at the list's length: 31, 32 and 20 as the start's own default spec, default order and current schema have it; 21; 23
abbrev pub list_close_checks : Terms → Policy → Metadata → List Check
list_close_checks terms p m =
    (is_default_clashing m, name_clash)
    ∷ (is_default_misfit m, source_misfit)
    ∷ (is_default_unfit m, default_order_unfit)
    ∷ (is_cut p m && ends_apart m, log_ends_elsewhere)
    ∷ (ltb metadata_log_room (length (staying terms m)), too_many_files)
    ∷ []

-- the last update is the run's clock, the metadata log as ever, and the change log the list itself
unfoldable pub list_outcome : Terms → Policy → Metadata → Outcome
list_outcome terms p m =
    cond (eqb (first_of (list_start_checks terms)) accepted)
    (cond (eqb (first_of (list_close_checks terms p m)) accepted)
    (Accepted
    (with_fields (with_last_updated terms.clock m.fields)
    (with_snapshot_log (remaining_log p m)
    (with_metadata_log (staying terms m) (remaining p m))))
    (expiring_updates p m)
    (expired terms m))
    (Refused (first_of (list_close_checks terms p m)) (length (expiring_updates p m))))
    (Refused (first_of (list_start_checks terms)) 0)
