-- The metadata that the cells of a file and its bytes hold: every value by its cells, every record by those of its members. Where nothing is wrong with the
-- file, that is the metadata of the rule.
use Rattle.std.specs.Prelude.{ℕ, suc, ◌+◌, ◌-◌, ◌*◌, ◌%◌, Bool, cond, not, ◌&&◌, List, [], ◌∷◌, eqb, leb, ltb, ℤ, pos, negsuc, get_or, length, replicate}
use Prim.Native.String.{String}
use Rattle.std.proofs.Math.Option.{Option, none, some}
use Rattle.rules.specs.Words.{or_else, eq_z, same_bytes}
use Rattle.rules.specs.Capacities.{name_room, text_room, snapshot_room, ref_room, snapshot_log_room, metadata_log_room, schema_room, schema_field_room, sort_order_room, sort_field_room, spec_room, partition_field_room, statistics_room}
use Rattle.rules.specs.WellFormed.{branch, tag, long, timestamp, snapshot_below, ref_below, schema_below, order_below, spec_below, statistics_below}
use Rattle.rules.specs.Register.{RowRange, Snapshot, Reference, NamedRef, LogEntry, FileEntry, SchemaField, Schema, SortField, SortOrder, PartitionField, PartitionSpec, StatisticsFile, SingleFields, Metadata}
use Rattle.json_rule.specs.Letters.{bytes}
use Rattle.json_rule.specs.Lexemes.{Lexeme, minus}
use Rattle.json_rule.specs.Values.{text_of}
use Rattle.json_rule.specs.Records.{uuid_of}
use Rattle.json_rule.specs.Defects.{is_uuid}
use Rattle.json_members.specs.Transforms.{transform_in}
use Rattle.json_store.specs.Numbers.{signed_of, narrowed}
use Rattle.json_store.specs.Made.{each}
use Rattle.json_tokens.specs.Tokens.{lexemes_at}
use Rattle.file_rule.specs.Import.{sorted, with_position, largest_id, main_at}

-- ---- values, by the first of their cells

module _ (cells : List ℕ) where
  unfoldable pub is_there : ℕ → Bool
  is_there at = ltb 0 (get_or cells at 0)

  -- where it stands in the file
  unfoldable pub place_of : ℕ → ℕ
  place_of at = get_or cells at 0 - 1

  -- a number that is not below 0; 0 where it is absent
  unfoldable pub natural_at : ℕ → ℕ
  natural_at at = cond (is_there at) (get_or cells (suc at) 0) 0

  -- how many a list has, at most as many as there is room for
  unfoldable pub count_at : ℕ → ℕ → ℕ
  count_at room list = cond (leb (get_or cells list 0 - 1) room) (get_or cells list 0 - 1) room

-- the cells of an element of a list: behind the count, one after the other
abbrev pub item_at : ℕ → ℕ → ℕ → ℕ
item_at size list i = suc list + i * size

-- the text that stands there; none where no whole lexeme does
abbrev pub said_by : List Lexeme → List ℕ
said_by [] = []
said_by (t ∷ ts) = cond t.whole (or_else (text_of t) []) []

-- nothing of one that is longer than its room
abbrev pub up_to : ℕ → List ℕ → List ℕ
up_to room l = cond (leb (length l) room) l []

module _ (file cells : List ℕ) where
  -- the first byte
  unfoldable pub head_of : ℕ → ℕ
  head_of at = get_or file (place_of cells at) 0

  -- of 64 bits
  unfoldable pub number_at : ℕ → ℤ
  number_at at = signed_of (eqb (head_of at) minus) (get_or cells (suc at) 0)

  unfoldable pub maybe_at : ℕ → Option ℤ
  maybe_at at = cond (is_there cells at) (some (number_at at)) none

  -- of 32 bits
  unfoldable pub maybe_narrow_at : ℕ → Option ℤ
  maybe_narrow_at at = cond (is_there cells at) (some (narrowed (number_at at))) none

  -- 0 where it is absent
  abbrev pub or_zero_at : ℕ → ℤ
  or_zero_at at = or_else (maybe_at at) (pos 0)

  abbrev pub or_zero_narrow_at : ℕ → ℤ
  or_zero_narrow_at at = or_else (maybe_narrow_at at) (pos 0)

  -- of at most so many bytes
  unfoldable pub text_at : ℕ → ℕ → List ℕ
  text_at room at = up_to room (cond (is_there cells at) (said_by (lexemes_at file (place_of cells at))) [])

  -- the text is this word
  unfoldable pub is_word_at : String → ℕ → Bool
  is_word_at word at = same_bytes (text_at text_room at) (bytes word)

  unfoldable pub uuid_at : ℕ → List ℕ
  uuid_at at = cond (is_uuid (text_at text_room at)) (uuid_of (text_at text_room at)) (replicate 16 0)

  -- ---- records, by the first of their cells

  -- both halves of a row range, or none
  unfoldable pub rows_at : ℕ → ℕ → Option RowRange
  rows_at first added = cond (is_there cells first && is_there cells added) (some (record { first = record { 0 = natural_at cells first }; added = natural_at cells added })) none

  unfoldable pub snapshot_at : ℕ → Snapshot
  snapshot_at at =
      record {
        id = or_zero_at at;
        parent = maybe_at (at + 2);
        sequence = record { 0 = or_zero_at (at + 4) };
        time = or_zero_at (at + 6);
        rows = rows_at (at + 8) (at + 10);
      }

  unfoldable pub reference_at : ℕ → Reference
  reference_at at =
      record {
        snapshot = or_zero_at at;
        kind = cond (is_word_at "branch" (at + 2)) branch tag;
        min_snapshots = maybe_narrow_at (at + 4);
        max_snapshot_age = maybe_at (at + 6);
        max_ref_age = maybe_at (at + 8);
      }

  -- its name stands in front of it, and office 1 owns it
  unfoldable pub ref_at : ℕ → NamedRef
  ref_at at = record { name = text_at name_room at; owner = 1; reference = reference_at (at + 2) }

  unfoldable pub log_entry_at : ℕ → LogEntry
  log_entry_at at = record { snapshot = or_zero_at at; time = or_zero_at (at + 2) }

  unfoldable pub file_entry_at : ℕ → FileEntry
  file_entry_at at = record { file = text_at text_room at; time = or_zero_at (at + 2) }

  unfoldable pub statistics_at : ℕ → StatisticsFile
  statistics_at at = record { snapshot = or_zero_at at; path = text_at text_room (at + 2); size = or_zero_at (at + 4) }

  unfoldable pub field_at : ℕ → SchemaField
  field_at at = record { id = or_zero_narrow_at at; field_type = cond (is_word_at "long" (at + 6)) long timestamp; name = text_at name_room (at + 2) }

  unfoldable pub schema_at : ℕ → Schema
  schema_at at = record { id = or_zero_narrow_at (at + 259); fields = each (λ i. field_at (item_at 8 (at + 2) i)) (count_at cells schema_field_room (at + 2)) }

  unfoldable pub sort_field_at : ℕ → SortField
  sort_field_at at = record { source = or_zero_narrow_at (at + 2); direction = cond (is_word_at "asc" (at + 4)) 0 1; nulls = cond (is_word_at "nulls-first" (at + 6)) 0 1 }

  unfoldable pub order_at : ℕ → SortOrder
  order_at at = record { id = or_zero_at at; fields = each (λ i. sort_field_at (item_at 8 (at + 2) i)) (count_at cells sort_field_room (at + 2)) }

  unfoldable pub partition_field_at : ℕ → PartitionField
  partition_field_at at =
      record {
        source = or_zero_narrow_at at;
        id = maybe_narrow_at (at + 2);
        transform = (transform_in (text_at text_room (at + 6))).kind;
        buckets = pos (transform_in (text_at text_room (at + 6))).buckets;
        name = text_at name_room (at + 4);
      }

  -- the fields of a list; one that has no id has 1000 and its position
  unfoldable pub spec_fields_at : ℕ → List PartitionField
  spec_fields_at list = with_position 0 (each (λ i. partition_field_at (item_at 8 list i)) (count_at cells partition_field_room list))

  unfoldable pub spec_at : ℕ → PartitionSpec
  spec_at at = record { id = or_zero_narrow_at at; fields = spec_fields_at (at + 2) }

  -- ---- the file, by the places of its members

  -- in version 1 the table and the id of the current one decide where both are there, and else the single one
  abbrev pub schema_decides : ℕ → Bool
  schema_decides version = eqb version 1 && not (is_there cells 273 && is_there cells 4450)

  abbrev pub spec_decides : ℕ → Bool
  spec_decides version = eqb version 1 && not (is_there cells 4517 && is_there cells 5590)

  unfoldable pub schemas_in : ℕ → List Schema
  schemas_in version = cond (schema_decides version) (schema_at 12 ∷ []) (each (λ i. schema_at (item_at 261 273 i)) (count_at cells schema_room 273))

  unfoldable pub current_schema_in : ℕ → ℤ
  current_schema_in version = cond (schema_decides version) (schema_at 12).id (or_zero_narrow_at 4450)

  unfoldable pub specs_in : ℕ → List PartitionSpec
  specs_in version = cond (spec_decides version) (record { id = pos 0; fields = spec_fields_at 4452 } ∷ []) (each (λ i. spec_at (item_at 67 4517 i)) (count_at cells spec_room 4517))

  unfoldable pub default_spec_in : ℕ → ℤ
  default_spec_in version = cond (spec_decides version) (pos 0) (or_zero_narrow_at 5590)

  unfoldable pub orders_in : List SortOrder
  orders_in = cond (is_there cells 7391) (each (λ i. order_at (item_at 67 7391 i)) (count_at cells sort_order_room 7391)) (record { id = pos 0; fields = [] } ∷ [])

  -- `null` and -1 are none
  unfoldable pub current_in : Option ℤ
  current_in = elim (cond (eqb (head_of 5594) 110) none (maybe_at 5594)) [ none ↦ none | some id ↦ cond (eq_z id (negsuc 0)) none (some id) ]

  unfoldable pub refs_in : List NamedRef
  refs_in = cond (is_there cells 8466) (each (λ i. ref_at (item_at 12 8466 i)) (count_at cells ref_room 8466)) (main_at current_in)

  unfoldable pub snapshots_in : List Snapshot
  snapshots_in = each (λ i. snapshot_at (item_at 12 5596 i)) (count_at cells snapshot_room 5596)

  unfoldable pub snapshot_log_in : List LogEntry
  snapshot_log_in = each (λ i. log_entry_at (item_at 4 6365 i)) (count_at cells snapshot_log_room 6365)

  unfoldable pub metadata_log_in : List FileEntry
  metadata_log_in = each (λ i. file_entry_at (item_at 4 6878 i)) (count_at cells metadata_log_room 6878)

  -- of either table, by the place of its list
  unfoldable pub statistics_in : ℕ → List StatisticsFile
  statistics_in list = each (λ i. statistics_at (item_at 6 list i)) (count_at cells statistics_room list)

  -- a version is a byte
  unfoldable pub fields_in : ℕ → SingleFields
  fields_in version =
      record {
        version = version % 256;
        uuid = uuid_at 2;
        location = text_at text_room 4;
        last_updated = or_zero_at 8;
        last_sequence = record { 0 = cond (ltb 1 version) (or_zero_at 6) (pos 0) };
        next_row = record { 0 = cond (ltb 2 version) (natural_at cells 9045) 0 };
        last_column = or_zero_narrow_at 10;
        current = current_in;
        current_schema = current_schema_in version;
        default_order = or_zero_at 8464;
        default_spec = default_spec_in version;
        last_partition = or_else (maybe_narrow_at 5592) (largest_id (specs_in version));
      }

  unfoldable pub metadata_in : ℕ → Metadata
  metadata_in version =
      record {
        fields = fields_in version;
        snapshots = sorted snapshot_below snapshots_in;
        refs = sorted ref_below refs_in;
        snapshot_log = snapshot_log_in;
        metadata_log = metadata_log_in;
        schemas = sorted schema_below (schemas_in version);
        orders = sorted order_below orders_in;
        statistics = sorted statistics_below (statistics_in 8659);
        partition_statistics = sorted statistics_below (statistics_in 8852);
        specs = sorted spec_below (specs_in version);
      }
