-- Log entries and statistics files from their cells are those that their members say.
use Prim.Native.Nat.{ℕ, ◌+◌}
use native.Mathlib.Nat.{add-zero}
use mathlib.Core.Path.{◌≡◌, refl}
use mathlib.Core.Bool.{true}
use mathlib.Core.List.{List}
use Rattle.rules.specs.Capacities.{text_room}
use Rattle.json_rule.specs.Letters.{bytes}
use Rattle.json_rule.specs.Tree.{Members}
use Rattle.json_rule.specs.Members.{number_by, text_by}
use Rattle.file_rule.specs.Tables.{HeldLogEntry, HeldFileEntry, HeldStatistics, HeldPartitionStatistics}
use Rattle.file_rule.specs.Import.{log_entry_of, file_entry_of, statistics_of}
use Rattle.file_cells.specs.Cells.{size_of, offset_at}
use Rattle.file_records.specs.Decoded.{maybe_at, text_at, log_entry_at, file_entry_at, statistics_at}
use Rattle.file_decoded.proofs.Reading.{is_known, HeldRecord}
use Rattle.file_decoded.proofs.Inner.{inner, number64, text}

module _ (version : ℕ) (bs cells : List ℕ) (v : is_known version ≡ true) (base : ℕ) (ms : Members) (h : HeldRecord version bs cells HeldLogEntry base ms) where
  entry_id_same : maybe_at bs cells base ≡ number_by "snapshot-id" ms
  unfolding offset_at size_of
  entry_id_same = number64 version bs cells v h (bytes "snapshot-id") 57 base refl (inner version bs cells v h refl 0 _ refl refl base (add-zero base))

  entry_time_same : maybe_at bs cells (base + 2) ≡ number_by "timestamp-ms" ms
  unfolding offset_at size_of
  entry_time_same = number64 version bs cells v h (bytes "timestamp-ms") 58 (base + 2) refl (inner version bs cells v h refl 1 _ refl refl (base + 2) refl)

  pub log_entry_same : log_entry_at bs cells base ≡ log_entry_of ms
  unfolding log_entry_at
  log_entry_same = rw (entry_id_same, entry_time_same)

module _ (version : ℕ) (bs cells : List ℕ) (v : is_known version ≡ true) (base : ℕ) (ms : Members) (h : HeldRecord version bs cells HeldFileEntry base ms) where
  file_same : text_at bs cells text_room base ≡ text_by "metadata-file" ms
  unfolding offset_at size_of
  file_same = text version bs cells v h (bytes "metadata-file") 59 base refl text_room (inner version bs cells v h refl 0 _ refl refl base (add-zero base))

  file_time_same : maybe_at bs cells (base + 2) ≡ number_by "timestamp-ms" ms
  unfolding offset_at size_of
  file_time_same = number64 version bs cells v h (bytes "timestamp-ms") 60 (base + 2) refl (inner version bs cells v h refl 1 _ refl refl (base + 2) refl)

  pub file_entry_same : file_entry_at bs cells base ≡ file_entry_of ms
  unfolding file_entry_at
  file_entry_same = rw (file_same, file_time_same)

module _ (version : ℕ) (bs cells : List ℕ) (v : is_known version ≡ true) (base : ℕ) (ms : Members) (h : HeldRecord version bs cells HeldStatistics base ms) where
  of_same : maybe_at bs cells base ≡ number_by "snapshot-id" ms
  unfolding offset_at size_of
  of_same = number64 version bs cells v h (bytes "snapshot-id") 61 base refl (inner version bs cells v h refl 0 _ refl refl base (add-zero base))

  path_same : text_at bs cells text_room (base + 2) ≡ text_by "statistics-path" ms
  unfolding offset_at size_of
  path_same = text version bs cells v h (bytes "statistics-path") 62 (base + 2) refl text_room (inner version bs cells v h refl 1 _ refl refl (base + 2) refl)

  size_same : maybe_at bs cells (base + 4) ≡ number_by "file-size-in-bytes" ms
  unfolding offset_at size_of
  size_same = number64 version bs cells v h (bytes "file-size-in-bytes") 63 (base + 4) refl (inner version bs cells v h refl 2 _ refl refl (base + 4) refl)

  pub statistics_same : statistics_at bs cells base ≡ statistics_of ms
  unfolding statistics_at
  statistics_same = rw (of_same, path_same, size_same)

module _ (version : ℕ) (bs cells : List ℕ) (v : is_known version ≡ true) (base : ℕ) (ms : Members) (h : HeldRecord version bs cells HeldPartitionStatistics base ms) where
  partition_of_same : maybe_at bs cells base ≡ number_by "snapshot-id" ms
  unfolding offset_at size_of
  partition_of_same = number64 version bs cells v h (bytes "snapshot-id") 66 base refl (inner version bs cells v h refl 0 _ refl refl base (add-zero base))

  partition_path_same : text_at bs cells text_room (base + 2) ≡ text_by "statistics-path" ms
  unfolding offset_at size_of
  partition_path_same = text version bs cells v h (bytes "statistics-path") 67 (base + 2) refl text_room (inner version bs cells v h refl 1 _ refl refl (base + 2) refl)

  partition_size_same : maybe_at bs cells (base + 4) ≡ number_by "file-size-in-bytes" ms
  unfolding offset_at size_of
  partition_size_same = number64 version bs cells v h (bytes "file-size-in-bytes") 68 (base + 4) refl (inner version bs cells v h refl 2 _ refl refl (base + 4) refl)

  pub partition_statistics_same : statistics_at bs cells base ≡ statistics_of ms
  unfolding statistics_at
  partition_statistics_same = rw (partition_of_same, partition_path_same, partition_size_same)
