-- Entries of the logs and statistics files as they are written in a file, and read back.
use Prim.Native.Nat.{ℕ}
use mathlib.Core.Path.{◌≡◌, refl}
use mathlib.Core.Bool.{Bool, true, false, ◌&&◌}
use mathlib.Core.List.{List, [], ◌∷◌}
use lib.Dec.{leb}
use lib.ListN.{length}
use Rattle.rules.specs.Capacities.{text_room}
use Rattle.rules.specs.Register.{LogEntry, FileEntry, StatisticsFile}
use Rattle.rules.specs.WellFormed.{file_name_formed}
use Rattle.rules.proofs.Checks.{parts, and_left, and_right}
use Rattle.file_rule.specs.Tables.{FileKind, OfKind, HeldLogEntry, HeldFileEntry, HeldStatistics, HeldPartitionStatistics, rows_in, row_in}
use Rattle.file_rule.specs.Import.{log_entry_of, file_entry_of, statistics_of}
use Rattle.file_rule.specs.Written.{quoted, escaped_byte, number_text, also}
use Rattle.file_rule.specs.Files.{log_entry_text, file_entry_text, statistics_text}
use Rattle.file_rule.specs.Export.{is_utf8, file_path}
use Rattle.file_rule.specs.Fits.{fits64, log_entry_fits, file_entry_fits, statistics_fits}
use Rattle.file_round.proofs.Documents.{Document, bytes_of, Good, past, tree_at, members_at}
use Rattle.file_round.proofs.Texts.{text_token_lem}
use Rattle.file_round.proofs.Fields.{entries_of, Field, field, number, quotation, object, names_fine, ValuesFine, fields_good, object_fine, object_pieces, number_or0_lem, text_by_lem}
use Rattle.file_round.proofs.Scalars.{Version, one, two, three, good64, fitting64, fine64, text_fine}
use Rattle.file_round.proofs.Lists.{Shown}

-- ---- the snapshot log

abbrev pub log_fields : LogEntry → List Field
log_fields e = field "snapshot-id" (number e.snapshot) ∷ field "timestamp-ms" (number e.time) ∷ []

abbrev pub log_show : LogEntry → Document
log_show e = object (log_fields e)

module _ (e : LogEntry) (s : fits64 e.snapshot ≡ true) (t : fits64 e.time ≡ true) where
  log_written_lem : log_entry_text e ≡ bytes_of (log_show e)
  unfolding log_entry_text quoted escaped_byte bytes_of
  log_written_lem = object_pieces "snapshot-id" (number e.snapshot) (also "timestamp-ms" (number_text e.time) ∷ []) ((field "timestamp-ms" (number e.time) ∷ []) ∷ []) (refl, tt)

  log_names_lem : {version : ℕ} → Version version → names_fine version HeldLogEntry (log_fields e) ≡ true
  unfolding rows_in row_in
  log_names_lem one = refl
  log_names_lem two = refl
  log_names_lem three = refl

  log_values : {version : ℕ} → Version version → ValuesFine version (rows_in version HeldLogEntry) (log_fields e)
  unfolding rows_in row_in
  log_values one = (fine64 1 false e.snapshot s, (fine64 1 false e.time t, tt))
  log_values two = (fine64 2 false e.snapshot s, (fine64 2 false e.time t, tt))
  log_values three = (fine64 3 false e.snapshot s, (fine64 3 false e.time t, tt))

  log_good : Good 2 (log_show e)
  unfolding is_utf8
  log_good = (refl, fields_good 3 (log_fields e) refl (good64 e.snapshot s, (good64 e.time t, tt)))

  log_made : (place : ℕ) → log_entry_of (members_at place (entries_of (log_fields e))) ≡ e
  log_made place =
      λ i.
      record {
        snapshot = number_or0_lem "snapshot-id" (log_fields e) place e.snapshot (refl, refl) (fitting64 e.snapshot s) i;
        time = number_or0_lem "timestamp-ms" (log_fields e) place e.time (refl, refl) (fitting64 e.time t) i;
      }

pub log_shown : {version : ℕ} → Version version → (e : LogEntry) → log_entry_fits e ≡ true → Shown version 2 (OfKind HeldLogEntry) log_entry_of log_entry_text log_show e
unfolding tree_at
log_shown {version} v e h =
    let s : fits64 e.snapshot ≡ true = and_left (fits64 e.snapshot) (fits64 e.time) h in
    let t : fits64 e.time ≡ true = and_right (fits64 e.snapshot) (fits64 e.time) h in
    record { written = log_written_lem e s t; good = log_good e s t; fine = object_fine version HeldLogEntry (log_fields e) (log_names_lem e s t v) (log_values e s t v); made = λ place. log_made e s t (past place (123 ∷ [])) }

-- ---- the metadata log

abbrev pub file_fields : FileEntry → List Field
file_fields e = field "metadata-file" (quotation e.file) ∷ field "timestamp-ms" (number e.time) ∷ []

abbrev pub file_show : FileEntry → Document
file_show e = object (file_fields e)

module _ (e : FileEntry) (n : leb (length e.file) text_room ≡ true) (u : is_utf8 e.file ≡ true) (t : fits64 e.time ≡ true) where
  file_written : file_entry_text e ≡ bytes_of (file_show e)
  unfolding file_entry_text quoted escaped_byte bytes_of
  file_written = object_pieces "metadata-file" (quotation e.file) (also "timestamp-ms" (number_text e.time) ∷ []) ((field "timestamp-ms" (number e.time) ∷ []) ∷ []) (refl, tt)

  file_names : {version : ℕ} → Version version → names_fine version HeldFileEntry (file_fields e) ≡ true
  unfolding rows_in row_in
  file_names one = refl
  file_names two = refl
  file_names three = refl

  file_values : {version : ℕ} → Version version → ValuesFine version (rows_in version HeldFileEntry) (file_fields e)
  unfolding rows_in row_in
  file_values one = (text_fine 1 false text_room e.file n, (fine64 1 false e.time t, tt))
  file_values two = (text_fine 2 false text_room e.file n, (fine64 2 false e.time t, tt))
  file_values three = (text_fine 3 false text_room e.file n, (fine64 3 false e.time t, tt))

  file_good : Good 2 (file_show e)
  unfolding is_utf8
  file_good = (refl, fields_good 3 (file_fields e) refl (text_token_lem e.file u, (good64 e.time t, tt)))

  file_made : (place : ℕ) → file_entry_of (members_at place (entries_of (file_fields e))) ≡ e
  file_made place =
      λ i.
      record {
        file = text_by_lem "metadata-file" (file_fields e) place e.file (refl, refl) i;
        time = number_or0_lem "timestamp-ms" (file_fields e) place e.time (refl, refl) (fitting64 e.time t) i;
      }

abbrev pub file_entry_ok : FileEntry → Bool
file_entry_ok e = file_name_formed e.file && file_entry_fits e && is_utf8 e.file

pub file_shown : {version : ℕ} → Version version → (e : FileEntry) → file_entry_ok e ≡ true → Shown version 2 (OfKind HeldFileEntry) file_entry_of file_entry_text file_show e
unfolding tree_at
file_shown {version} v e h =
    let k = parts (file_name_formed e.file) (file_entry_fits e ∷ is_utf8 e.file ∷ []) h in
    let n : leb (length e.file) text_room ≡ true = k.0 in
    let t : fits64 e.time ≡ true = k.1.0 in
    let u : is_utf8 e.file ≡ true = k.1.1.0 in
    record { written = file_written e n u t; good = file_good e n u t; fine = object_fine version HeldFileEntry (file_fields e) (file_names e n u t v) (file_values e n u t v); made = λ place. file_made e n u t (past place (123 ∷ [])) }

-- ---- statistics files

abbrev pub statistics_fields : StatisticsFile → List Field
statistics_fields f = field "snapshot-id" (number f.snapshot) ∷ field "statistics-path" (quotation f.path) ∷ field "file-size-in-bytes" (number f.size) ∷ []

abbrev pub statistics_show : StatisticsFile → Document
statistics_show f = object (statistics_fields f)

-- the two tables
pub data StatisticsKind : FileKind → Type 0 where
  of_table : StatisticsKind HeldStatistics
  of_partitions : StatisticsKind HeldPartitionStatistics

module _ (f : StatisticsFile) (s : fits64 f.snapshot ≡ true) (n : leb (length f.path) text_room ≡ true) (u : is_utf8 f.path ≡ true) (z : fits64 f.size ≡ true) where
  statistics_written : statistics_text f ≡ bytes_of (statistics_show f)
  unfolding statistics_text quoted escaped_byte bytes_of
  statistics_written =
      object_pieces "snapshot-id" (number f.snapshot) (also "statistics-path" (quoted f.path) ∷ also "file-size-in-bytes" (number_text f.size) ∷ [])
      ((field "statistics-path" (quotation f.path) ∷ []) ∷ (field "file-size-in-bytes" (number f.size) ∷ []) ∷ []) (refl, (refl, tt))

  statistics_names : {kind : FileKind} {version : ℕ} → StatisticsKind kind → Version version → names_fine version kind (statistics_fields f) ≡ true
  unfolding rows_in row_in
  statistics_names of_table one = refl
  statistics_names of_table two = refl
  statistics_names of_table three = refl
  statistics_names of_partitions one = refl
  statistics_names of_partitions two = refl
  statistics_names of_partitions three = refl

  values : (version : ℕ) → ValuesFine version (rows_in 1 HeldStatistics) (statistics_fields f)
  unfolding rows_in row_in
  values version = (fine64 version false f.snapshot s, (text_fine version false text_room f.path n, (fine64 version false f.size z, tt)))

  statistics_values : {kind : FileKind} {version : ℕ} → StatisticsKind kind → Version version → ValuesFine version (rows_in version kind) (statistics_fields f)
  unfolding rows_in row_in
  statistics_values of_table one = values 1
  statistics_values of_table two = values 2
  statistics_values of_table three = values 3
  statistics_values of_partitions one = values 1
  statistics_values of_partitions two = values 2
  statistics_values of_partitions three = values 3

  statistics_good : Good 2 (statistics_show f)
  unfolding is_utf8
  statistics_good = (refl, fields_good 3 (statistics_fields f) refl (good64 f.snapshot s, (text_token_lem f.path u, (good64 f.size z, tt))))

  statistics_made : (place : ℕ) → statistics_of (members_at place (entries_of (statistics_fields f))) ≡ f
  statistics_made place =
      λ i.
      record {
        snapshot = number_or0_lem "snapshot-id" (statistics_fields f) place f.snapshot (refl, refl) (fitting64 f.snapshot s) i;
        path = text_by_lem "statistics-path" (statistics_fields f) place f.path (refl, refl) i;
        size = number_or0_lem "file-size-in-bytes" (statistics_fields f) place f.size (refl, refl) (fitting64 f.size z) i;
      }

abbrev pub statistics_ok : StatisticsFile → Bool
statistics_ok f = file_name_formed f.path && statistics_fits f && file_path f

pub statistics_shown : {kind : FileKind} {version : ℕ} → StatisticsKind kind → Version version → (f : StatisticsFile) → statistics_ok f ≡ true → Shown version 2 (OfKind kind) statistics_of statistics_text statistics_show f
unfolding tree_at
statistics_shown {kind} {version} w v f h =
    let k = parts (file_name_formed f.path) (statistics_fits f ∷ file_path f ∷ []) h in
    let s : fits64 f.snapshot ≡ true = and_left (fits64 f.snapshot) (fits64 f.size) k.1.0 in
    let z : fits64 f.size ≡ true = and_right (fits64 f.snapshot) (fits64 f.size) k.1.0 in
    let n : leb (length f.path) text_room ≡ true = k.0 in
    let u : is_utf8 f.path ≡ true = k.1.1.0 in
    record { written = statistics_written f s n u z; good = statistics_good f s n u z; fine = object_fine version kind (statistics_fields f) (statistics_names f s n u z w v) (statistics_values f s n u z w v); made = λ place. statistics_made f s n u z (past place (123 ∷ [])) }
