-- A change log as a published list of updates, as document 02, request (vi), reads it: that request only reads, and the writer of a log is ours. It writes what
-- the REST catalogue's update list has of each update. Members stand in the order of that table, those that are absent are left out, and there are no spaces.
use Rattle.std.specs.Prelude.{ℕ, Bool, true, cond, ◌&&◌, List, [], ◌++◌, eqb, leb, length}
use Prim.Native.String.{String}
use Rattle.std.proofs.Math.Option.{Option, none, some}
use Rattle.rules.specs.Words.{some_with, all}
use Rattle.rules.specs.Capacities.{list_room}
use Rattle.rules.specs.Replies.{accepted}
use Rattle.rules.specs.WellFormed.{branch, update_formed}
use Rattle.rules.specs.Offers.{offered_schema, offer_formed, offered_spec, spec_offer_formed}
use Rattle.rules.specs.Register.{Reference, PartitionField, PartitionSpec, Update}
use Rattle.rules.specs.Register.Update.{AssignUuid, UpgradeFormatVersion, SetLocation, AddSnapshot, SetBranchSnapshot, RemoveSnapshots, SetRef, RemoveRef, AddSchema, SetCurrentSchema, RemoveSchemas, AddSortOrder, SetDefaultSortOrder, SetStatistics, RemoveStatistics, AddPartitionSpec, SetDefaultPartitionSpec, RemovePartitionSpecs, NotFormed}
use Rattle.json_rule.specs.Letters.{bytes}
use Rattle.json_rule.specs.Records.{Sent, Plain, SendsSchema, SendsSpec}
use Rattle.file_rule.specs.Written.{natural_text, number_text, quoted, word_text, list_text, named, also, also_if, object_text}
use Rattle.file_rule.specs.Files.{uuid_text, transform_text, snapshot_text, schema_text, order_text}
use Rattle.file_rule.specs.Export.{is_utf8, schema_texts, spec_texts, not_shown, short_buffer}

-- ---- what is sent of an update

-- What an update sends, with the bytes that are offered beside the log. Statistics and a branch commit have no action in a published list; nor has an offer
-- that is not well formed among those bytes.
unfoldable pub sent_in : List ℕ → Update → Option Sent
sent_in offers (AssignUuid uuid) = some (Plain (AssignUuid uuid))
sent_in offers (UpgradeFormatVersion v) = some (Plain (UpgradeFormatVersion v))
sent_in offers (SetLocation location) = some (Plain (SetLocation location))
sent_in offers (AddSnapshot s) = some (Plain (AddSnapshot s))
sent_in offers (SetBranchSnapshot name s) = none
sent_in offers (RemoveSnapshots ids) = some (Plain (RemoveSnapshots ids))
sent_in offers (SetRef name r) = some (Plain (SetRef name r))
sent_in offers (RemoveRef name) = some (Plain (RemoveRef name))
sent_in offers (AddSchema o) = cond (offer_formed offers o) (some (SendsSchema (offered_schema offers o))) none
sent_in offers (SetCurrentSchema id) = some (Plain (SetCurrentSchema id))
sent_in offers (RemoveSchemas ids) = some (Plain (RemoveSchemas ids))
sent_in offers (AddSortOrder o) = some (Plain (AddSortOrder o))
sent_in offers (SetDefaultSortOrder id) = some (Plain (SetDefaultSortOrder id))
sent_in offers (SetStatistics which f) = none
sent_in offers (RemoveStatistics which id) = none
sent_in offers (AddPartitionSpec o) = cond (spec_offer_formed offers o) (some (SendsSpec (offered_spec offers o))) none
sent_in offers (SetDefaultPartitionSpec id) = some (Plain (SetDefaultPartitionSpec id))
sent_in offers (RemovePartitionSpecs ids) = some (Plain (RemovePartitionSpecs ids))
sent_in offers (NotFormed counts) = none

-- ---- what is written of it

-- an update of an action, with the members beside it
abbrev pub action_text : String → List ℕ → List ℕ
action_text word members = object_text (named "action" (word_text word) ++ members)

-- a name, where it points and what it keeps
abbrev pub ref_members : List ℕ → Reference → List ℕ
ref_members name r =
    also "ref-name" (quoted name)
    ++ also "type" (cond (eqb r.kind branch) (word_text "branch") (word_text "tag"))
    ++ also "snapshot-id" (number_text r.snapshot)
    ++ also_if "min-snapshots-to-keep" number_text r.min_snapshots
    ++ also_if "max-snapshot-age-ms" number_text r.max_snapshot_age
    ++ also_if "max-ref-age-ms" number_text r.max_ref_age

-- a field that is offered may leave its id out
unfoldable pub partition_text : PartitionField → List ℕ
partition_text f =
    object_text
    (named "source-id" (number_text f.source)
    ++ also_if "field-id" number_text f.id
    ++ also "name" (quoted f.name)
    ++ also "transform" (transform_text f.transform f.buckets))

unfoldable pub offered_spec_text : PartitionSpec → List ℕ
offered_spec_text s = object_text (named "spec-id" (number_text s.id) ++ also "fields" (list_text partition_text s.fields))

-- a snapshot has all that it has in a file of version 3
unfoldable pub plain_text : Update → List ℕ
plain_text (AssignUuid uuid) = action_text "assign-uuid" (also "uuid" (uuid_text uuid))
plain_text (UpgradeFormatVersion v) = action_text "upgrade-format-version" (also "format-version" (natural_text v))
plain_text (SetLocation location) = action_text "set-location" (also "location" (quoted location))
plain_text (AddSnapshot s) = action_text "add-snapshot" (also "snapshot" (snapshot_text 3 s))
plain_text (SetBranchSnapshot name s) = []
plain_text (RemoveSnapshots ids) = action_text "remove-snapshots" (also "snapshot-ids" (list_text number_text ids))
plain_text (SetRef name r) = action_text "set-snapshot-ref" (ref_members name r)
plain_text (RemoveRef name) = action_text "remove-snapshot-ref" (also "ref-name" (quoted name))
plain_text (AddSchema o) = []
plain_text (SetCurrentSchema id) = action_text "set-current-schema" (also "schema-id" (number_text id))
plain_text (RemoveSchemas ids) = action_text "remove-schemas" (also "schema-ids" (list_text number_text ids))
plain_text (AddSortOrder o) = action_text "add-sort-order" (also "sort-order" (order_text o))
plain_text (SetDefaultSortOrder id) = action_text "set-default-sort-order" (also "sort-order-id" (number_text id))
plain_text (SetStatistics which f) = []
plain_text (RemoveStatistics which id) = []
plain_text (AddPartitionSpec o) = []
plain_text (SetDefaultPartitionSpec id) = action_text "set-default-spec" (also "spec-id" (number_text id))
plain_text (RemovePartitionSpecs ids) = action_text "remove-partition-specs" (also "spec-ids" (list_text number_text ids))
plain_text (NotFormed counts) = []

abbrev pub sent_text : Sent → List ℕ
sent_text (Plain u) = plain_text u
sent_text (SendsSchema s) = action_text "add-schema" (also "schema" (schema_text s))
sent_text (SendsSpec s) = action_text "add-spec" (also "spec" (offered_spec_text s))

-- what has no action is not written
abbrev pub text_if : Option Sent → List ℕ
text_if none = []
text_if (some x) = sent_text x

abbrev pub update_text : List ℕ → Update → List ℕ
update_text offers u = text_if (sent_in offers u)

unfoldable pub log_text : List Update → List ℕ → List ℕ
log_text log offers = list_text (update_text offers) log

-- ---- what can be written

-- every text of it is UTF-8
unfoldable pub plain_texts : Update → Bool
plain_texts (AssignUuid uuid) = true
plain_texts (UpgradeFormatVersion v) = true
plain_texts (SetLocation location) = is_utf8 location
plain_texts (AddSnapshot s) = true
plain_texts (SetBranchSnapshot name s) = is_utf8 name
plain_texts (RemoveSnapshots ids) = true
plain_texts (SetRef name r) = is_utf8 name
plain_texts (RemoveRef name) = is_utf8 name
plain_texts (AddSchema o) = true
plain_texts (SetCurrentSchema id) = true
plain_texts (RemoveSchemas ids) = true
plain_texts (AddSortOrder o) = true
plain_texts (SetDefaultSortOrder id) = true
plain_texts (SetStatistics which f) = is_utf8 f.path
plain_texts (RemoveStatistics which id) = true
plain_texts (AddPartitionSpec o) = true
plain_texts (SetDefaultPartitionSpec id) = true
plain_texts (RemovePartitionSpecs ids) = true
plain_texts (NotFormed counts) = true

abbrev pub sent_texts : Sent → Bool
sent_texts (Plain u) = plain_texts u
sent_texts (SendsSchema s) = schema_texts s
sent_texts (SendsSpec s) = spec_texts s

-- an entry of a log is well formed; it has an action, and its texts are UTF-8
unfoldable pub is_carried_update : List ℕ → Update → Bool
is_carried_update offers u = update_formed u && some_with sent_texts (sent_in offers u)

-- each of them, and no more than a list may have
unfoldable pub is_carried : List Update → List ℕ → Bool
is_carried log offers = leb (length log) list_room && all (is_carried_update offers) log

-- ---- the answer

-- number, and the bytes that are written: none on a refusal
pub record WrittenLog : Type 0 where
  pub number : ℕ
  pub text : List ℕ

abbrev pub written_by : List ℕ → ℕ → WrittenLog
written_by text number = record { number = number; text = cond (eqb number accepted) text [] }

-- Of a log, the bytes that it offers, and a buffer of so many bytes. As in an export, request (vii): "38 where the file cannot show it .., then 25 for a short
-- buffer".
unfoldable pub log_number : List Update → List ℕ → ℕ → ℕ
log_number log offers room = cond (is_carried log offers) (cond (leb (length (log_text log offers)) room) accepted short_buffer) not_shown

unfoldable pub log_written : List Update → List ℕ → ℕ → WrittenLog
log_written log offers room = written_by (log_text log offers) (log_number log offers room)
