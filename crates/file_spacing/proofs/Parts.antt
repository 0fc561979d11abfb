-- What the members of a file have to say alike for their metadata to be equal.
use Prim.Native.Nat.{ℕ}
use mathlib.Core.Path.{◌≡◌, refl, sym, ◌∙◌}
use mathlib.Core.Bool.{Bool, true, false, cond}
use mathlib.Core.List.{List}
use mathlib.Core.Option.{Option, none, some}
use lib.Dec.{ltb}
use lib.IntN.{ℤ, pos, negsuc}
use lib.ListN.{replicate}
use Rattle.rules.specs.Words.{or_else, eq_z}
use Rattle.rules.specs.WellFormed.{snapshot_below, ref_below, schema_below, order_below, spec_below, statistics_below}
use Rattle.json_rule.specs.Tree.{Members}
use Rattle.json_rule.specs.Members.{text_by, number_by, number_or0, items_by, members_by}
use Rattle.json_rule.specs.Records.{records_of, natural_of, uuid_of, snapshot_of}
use Rattle.file_rule.specs.Import.{sorted, log_entry_of, file_entry_of, statistics_of, refs_of, has, schemas_of, current_schema_of, specs_of, default_spec_of, largest_id, orders_of, current_of, main_at, fields_of, metadata_of}

pub record Same (version : ℕ) (ms ns : Members) : Type 0 where
  pub has_uuid : has "table-uuid" ms ≡ has "table-uuid" ns
  pub uuid : text_by "table-uuid" ms ≡ text_by "table-uuid" ns
  pub location : text_by "location" ms ≡ text_by "location" ns
  pub last_updated : number_or0 "last-updated-ms" ms ≡ number_or0 "last-updated-ms" ns
  pub last_sequence : cond (ltb 1 version) (number_or0 "last-sequence-number" ms) (pos 0) ≡ cond (ltb 1 version) (number_or0 "last-sequence-number" ns) (pos 0)
  pub next_row : cond (ltb 2 version) (natural_of (number_or0 "next-row-id" ms)) 0 ≡ cond (ltb 2 version) (natural_of (number_or0 "next-row-id" ns)) 0
  pub last_column : number_or0 "last-column-id" ms ≡ number_or0 "last-column-id" ns
  pub current : number_by "current-snapshot-id" ms ≡ number_by "current-snapshot-id" ns
  pub current_schema : current_schema_of version ms ≡ current_schema_of version ns
  pub default_order : number_or0 "default-sort-order-id" ms ≡ number_or0 "default-sort-order-id" ns
  pub default_spec : default_spec_of version ms ≡ default_spec_of version ns
  pub last_partition : number_by "last-partition-id" ms ≡ number_by "last-partition-id" ns
  pub largest : largest_id (specs_of version ms) ≡ largest_id (specs_of version ns)
  pub snapshots : sorted snapshot_below (records_of snapshot_of (items_by "snapshots" ms)) ≡ sorted snapshot_below (records_of snapshot_of (items_by "snapshots" ns))
  pub has_refs : has "refs" ms ≡ has "refs" ns
  pub refs : sorted ref_below (refs_of (members_by "refs" ms)) ≡ sorted ref_below (refs_of (members_by "refs" ns))
  pub snapshot_log : records_of log_entry_of (items_by "snapshot-log" ms) ≡ records_of log_entry_of (items_by "snapshot-log" ns)
  pub metadata_log : records_of file_entry_of (items_by "metadata-log" ms) ≡ records_of file_entry_of (items_by "metadata-log" ns)
  pub schemas : sorted schema_below (schemas_of version ms) ≡ sorted schema_below (schemas_of version ns)
  pub orders : sorted order_below (orders_of ms) ≡ sorted order_below (orders_of ns)
  pub statistics : sorted statistics_below (records_of statistics_of (items_by "statistics" ms)) ≡ sorted statistics_below (records_of statistics_of (items_by "statistics" ns))
  pub partitions : sorted statistics_below (records_of statistics_of (items_by "partition-statistics" ms)) ≡ sorted statistics_below (records_of statistics_of (items_by "partition-statistics" ns))
  pub specs : sorted spec_below (specs_of version ms) ≡ sorted spec_below (specs_of version ns)

-- what is sorted of the table that is there, or of the one in its place
sorted_either : {A : Type 0} (below : A → A → Bool) (b : Bool) (l m : List A) → sorted below (cond b l m) ≡ cond b (sorted below l) (sorted below m)
sorted_either below true l m = refl
sorted_either below false l m = refl

-- `null` and -1 are none
abbrev some_current : Option ℤ → Option ℤ
some_current o = elim o [ none ↦ none | some id ↦ cond (eq_z id (negsuc 0)) none (some id) ]

refs_same : (version : ℕ) (ms ns : Members) → Same version ms ns
    → sorted ref_below (cond (has "refs" ms) (refs_of (members_by "refs" ms)) (main_at (current_of ms))) ≡ sorted ref_below (cond (has "refs" ns) (refs_of (members_by "refs" ns)) (main_at (current_of ns)))
refs_same version ms ns s =
    sorted_either ref_below (has "refs" ms) (refs_of (members_by "refs" ms)) (main_at (current_of ms))
    ∙ (λ i. cond (s.has_refs i) (s.refs i) (sorted ref_below (main_at (some_current (s.current i)))))
    ∙ sym (sorted_either ref_below (has "refs" ns) (refs_of (members_by "refs" ns)) (main_at (current_of ns)))

fields_same : (version : ℕ) (ms ns : Members) → Same version ms ns → fields_of version ms ≡ fields_of version ns
unfolding fields_of
fields_same version ms ns s = λ i. record {
  version = version;
  uuid = cond (s.has_uuid i) (uuid_of (s.uuid i)) (replicate 16 0);
  location = s.location i;
  last_updated = s.last_updated i;
  last_sequence = record { 0 = s.last_sequence i };
  next_row = record { 0 = s.next_row i };
  last_column = s.last_column i;
  current = some_current (s.current i);
  current_schema = s.current_schema i;
  default_order = s.default_order i;
  default_spec = s.default_spec i;
  last_partition = or_else (s.last_partition i) (s.largest i);
}

pub metadata_same : (version : ℕ) (ms ns : Members) → Same version ms ns → metadata_of version ms ≡ metadata_of version ns
unfolding metadata_of
metadata_same version ms ns s = λ i. record {
  fields = fields_same version ms ns s i;
  snapshots = s.snapshots i;
  refs = refs_same version ms ns s i;
  snapshot_log = s.snapshot_log i;
  metadata_log = s.metadata_log i;
  schemas = s.schemas i;
  orders = s.orders i;
  statistics = s.statistics i;
  partition_statistics = s.partitions i;
  specs = s.specs i;
}
