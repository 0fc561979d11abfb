-- What is answered to metadata that is to be written as a file: document 02, request (vii): "on export: 1, 38 where the file cannot show it (version 1 with a
-- sequence number not 0, below 3 with row ids, a text not UTF-8), then 25 for a short buffer"; request (xi): "exporting others is 38".
use Rattle.std.specs.Prelude.{ℕ, zero, suc, Bool, true, false, cond, not, ◌&&◌, ◌||◌, List, [], ◌∷◌, eqb, leb, ℤ, pos, length}
use Rattle.std.proofs.Math.Option.{Option, none, some}
use Rattle.rules.specs.Words.{is_some, all, eq_z}
use Rattle.rules.specs.Replies.{accepted, start_not_formed}
use Rattle.rules.specs.WellFormed.{metadata_formed}
use Rattle.rules.specs.Register.{Snapshot, NamedRef, FileEntry, SchemaField, Schema, PartitionField, PartitionSpec, StatisticsFile, Metadata}
use Rattle.json_rule.specs.Lexemes.{within, Lead, lead_of, is_lead}
use Rattle.file_rule.specs.Files.{file_text}

-- ---- texts

-- so many bytes of a character are left, of which the next lies between bounds
unfoldable mutual
  -- a text is UTF-8: RFC 3629, section 4
  pub is_utf8 : List ℕ → Bool
  is_utf8 [] = true
  is_utf8 (b ∷ bs) = cond (within 0 127 b) (is_utf8 bs) (is_lead b && goes_on (lead_of b).more (lead_of b).least (lead_of b).most bs)

  pub goes_on : ℕ → ℕ → ℕ → List ℕ → Bool
  goes_on more least most [] = false
  goes_on zero least most (b ∷ bs) = within least most b && is_utf8 bs
  goes_on (suc more) least most (b ∷ bs) = within least most b && goes_on more 128 191 bs

abbrev pub schema_texts : Schema → Bool
schema_texts s = all (λ (f : SchemaField). is_utf8 f.name) s.fields

abbrev pub spec_texts : PartitionSpec → Bool
spec_texts s = all (λ (f : PartitionField). is_utf8 f.name) s.fields

abbrev pub file_path : StatisticsFile → Bool
file_path f = is_utf8 f.path

-- location, names of refs, of fields and of partition fields, files of the metadata log, paths of statistics
unfoldable pub texts_shown : Metadata → Bool
texts_shown m =
    is_utf8 m.fields.location
    && all (λ (r : NamedRef). is_utf8 r.name) m.refs
    && all (λ (e : FileEntry). is_utf8 e.file) m.metadata_log
    && all schema_texts m.schemas
    && all spec_texts m.specs
    && all file_path m.statistics
    && all file_path m.partition_statistics

-- ---- numbers

-- a file of version 1 has no sequence numbers
unfoldable pub sequences_shown : Metadata → Bool
sequences_shown m =
    leb 2 m.fields.version
    || (eq_z m.fields.last_sequence.0 (pos 0) && all (λ (s : Snapshot). eq_z s.sequence.0 (pos 0)) m.snapshots)

-- one below 3 has neither a next row id nor row ranges
unfoldable pub rows_shown : Metadata → Bool
rows_shown m = leb 3 m.fields.version || (eqb m.fields.next_row.0 0 && all (λ (s : Snapshot). not (is_some s.rows)) m.snapshots)

-- a file has no owners: what is read from it is office 1's
unfoldable pub owners_shown : Metadata → Bool
owners_shown m = all (λ (r : NamedRef). eqb r.owner 1) m.refs

-- the file can show it
abbrev pub is_shown : Metadata → Bool
is_shown m = sequences_shown m && rows_shown m && owners_shown m && texts_shown m

-- ---- the answer

abbrev pub not_shown : ℕ
not_shown = 38

abbrev pub short_buffer : ℕ
short_buffer = 25

-- of well-formed metadata, and a buffer of so many bytes
unfoldable pub export_number : Metadata → ℕ → ℕ
export_number m room = cond (is_shown m) (cond (leb (length (file_text m)) room) 0 short_buffer) not_shown

-- number, and the bytes that are written: none on a refusal
pub record Exported : Type 0 where
  pub number : ℕ
  pub file : List ℕ

abbrev pub written_by : Metadata → ℕ → Exported
written_by m number = record { number = number; file = cond (eqb number accepted) (file_text m) [] }

-- "1, 38 .., then 25"
unfoldable pub exported : Metadata → ℕ → Exported
exported m room = written_by m (cond (metadata_formed m) (export_number m room) start_not_formed)
