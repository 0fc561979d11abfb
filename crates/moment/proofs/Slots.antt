-- A log whose count fits its slots: as many entries are read as it counts, and each stands in its slot.
use Prim.Native.Nat.{ℕ, ◌≤◌, ◌<◌}
use mathlib.Core.Path.{◌≡◌, sym, ap, ◌∙◌}
use mathlib.Core.List.{List, map}
use lib.ListN.{length, get_or, length-map, get_or-map}
use lib.Seq.{get_or-take}
use Rattle.records.specs.Blanks.{no_log_entry}
use Rattle.records.specs.declared.snapshot.SnapshotLogEntry.{SnapshotLogEntry}
use Rattle.records.specs.declared.snapshot.SnapshotLog.{SnapshotLog}
use Rattle.rules.specs.Layout.{counted, read_log_entry, read_snapshot_log}
use Rattle.rules.proofs.Slots.Relaid.{length_counted, counted_take}
use Rattle.moment.specs.Reading.{entry_at}

-- how many slots an array has is known of what its elements are read from
pub slots : (A B : Type 0) (f : A → B) (l : List A) (n : ℕ) → length (map f l) ≡ n → length l ≡ n
slots A B f l n h = sym (length-map l f) ∙ h

pub read_length : (log : SnapshotLog) → length (read_snapshot_log log) ≡ log.count
read_length log = length-map (counted no_log_entry log.items log.count) read_log_entry ∙ length_counted no_log_entry log.items log.count

pub read_at : (log : SnapshotLog) (i : ℕ) → i < log.count → log.count ≤ length log.items → entry_at (read_snapshot_log log) i ≡ read_log_entry (get_or log.items i no_log_entry)
read_at log i k h =
    get_or-map read_log_entry (counted no_log_entry log.items log.count) i no_log_entry
    ∙ ap (λ (l : List SnapshotLogEntry). read_log_entry (get_or l i no_log_entry)) (counted_take no_log_entry log.items log.count h)
    ∙ ap read_log_entry (get_or-take log.count log.items i no_log_entry k)
