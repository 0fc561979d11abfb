-- Logs, what is offered beside them, and what must be written of them: each action, both sides of the bounds of what can be written, and the order of the
-- refusals. That the rule gives these answers is one statement over the list (`log_examples_hold`, in proofs/Examples).
use Rattle.std.specs.Prelude.{ℕ, zero, suc, List, [], ◌∷◌, ◌++◌, ℤ, pos, negsuc}
use Prim.Native.String.{String}
use Rattle.std.proofs.Math.Option.{Option, none, some}
use Rattle.rules.specs.WellFormed.{branch, tag, long, timestamp}
use Rattle.rules.specs.Partitions.{day, bucket}
use Rattle.rules.specs.Register.{Snapshot, Reference, Update}
use Rattle.rules.specs.Register.StatisticsTable.{Statistics, PartitionStatistics}
use Rattle.rules.specs.Register.Update.{AssignUuid, UpgradeFormatVersion, SetLocation, AddSnapshot, SetBranchSnapshot, RemoveSnapshots, SetRef, RemoveRef, AddSchema, SetCurrentSchema, RemoveSchemas, AddSortOrder, SetDefaultSortOrder, SetStatistics, RemoveStatistics, AddPartitionSpec, SetDefaultPartitionSpec, RemovePartitionSpecs, NotFormed}
use Rattle.json_rule.specs.Letters.{bytes}
use Rattle.json_rule.specs.Examples.{json, range_from}
use Rattle.json_rule.specs.Records.{field_offer, partition_offer}
use Rattle.log_rule.specs.LogText.{WrittenLog, log_written}

-- ---- what is asked, and what is answered. In texts `'` stands for a quotation mark.

pub record Asked : Type 0 where
  pub log : List Update
  pub offers : List ℕ
  pub room : ℕ

-- with nothing offered, into a buffer that is long enough
abbrev pub written : List Update → Asked
written log = record { log = log; offers = []; room = 5000 }

-- one update
abbrev pub one : Update → Asked
one u = written (u ∷ [])

abbrev pub offering : List ℕ → Update → Asked
offering offers u = record { log = u ∷ []; offers = offers; room = 5000 }

abbrev pub into : ℕ → List Update → Asked
into room log = record { log = log; offers = []; room = room }

abbrev pub answer_to : Asked → WrittenLog
answer_to a = log_written a.log a.offers a.room

abbrev pub shows : String → WrittenLog
shows text = record { number = 0; text = json text }

abbrev pub number : ℕ → WrittenLog
number n = record { number = n; text = [] }

pub record Example : Type 0 where
  pub asked : Asked
  pub reply : WrittenLog

abbrev pub ◌gives◌ : Asked → WrittenLog → Example
a gives r = record { asked = a; reply = r }

infix 20 ◌gives◌
-- ---- records

abbrev pub plain_snapshot : Snapshot
plain_snapshot = record { id = pos 5; parent = none; sequence = record { 0 = pos 0 }; time = negsuc 1; rows = none }

abbrev pub full_snapshot : Snapshot
full_snapshot = record { id = pos 6; parent = some (pos 5); sequence = record { 0 = pos 2 }; time = pos 3; rows = range_from 0 7 }

abbrev pub pointing : ℕ → Option ℤ → Option ℤ → Reference
pointing kind least age = record { snapshot = pos 5; kind = kind; min_snapshots = least; max_snapshot_age = age; max_ref_age = some (pos 9) }

-- the bytes of fields
abbrev pub column_of : ℕ → ℕ → List ℕ → List ℕ
column_of id field_type name = field_offer (record { id = pos id; field_type = field_type; name = name })

abbrev pub part_of : ℕ → ℕ → List ℕ → List ℕ
part_of transform buckets name = partition_offer (record { source = pos 1; id = none; transform = transform; buckets = pos buckets; name = name })

abbrev pub schema_at : ℕ → ℕ → Update
schema_at place count = AddSchema (record { id = pos 3; at = place; count = count })

abbrev pub spec_at : ℕ → List (Option ℤ) → Update
spec_at place ids = AddPartitionSpec (record { id = pos 2; at = place; ids = ids })

-- as many
abbrev pub times : ℕ → List Update
times zero = []
times (suc n) = SetCurrentSchema (pos 0) ∷ times n

-- ---- the examples

abbrev pub examples : List Example
examples =
    -- no update: an empty list
    (written [] gives shows "[]")
    -- each action, its members in the order of the table
    ∷ (one (AssignUuid (0 ∷ 1 ∷ 2 ∷ 3 ∷ 4 ∷ 5 ∷ 6 ∷ 7 ∷ 8 ∷ 9 ∷ 10 ∷ 11 ∷ 12 ∷ 171 ∷ 222 ∷ 255 ∷ [])) gives shows "[{'action':'assign-uuid','uuid':'00010203-0405-0607-0809-0a0b0cabdeff'}]")
    ∷ (one (UpgradeFormatVersion 3) gives shows "[{'action':'upgrade-format-version','format-version':3}]")
    ∷ (one (SetLocation (bytes "a/\"b")) gives shows "[{'action':'set-location','location':'a/\\'b'}]")
    ∷ (one (AddSnapshot plain_snapshot) gives shows "[{'action':'add-snapshot','snapshot':{'snapshot-id':5,'sequence-number':0,'timestamp-ms':-2}}]")
    ∷ (one (AddSnapshot full_snapshot)
    gives shows "[{'action':'add-snapshot','snapshot':{'snapshot-id':6,'parent-snapshot-id':5,'sequence-number':2,'timestamp-ms':3,'first-row-id':0,'added-rows':7}}]")
    ∷ (one (RemoveSnapshots (pos 5 ∷ pos 6 ∷ [])) gives shows "[{'action':'remove-snapshots','snapshot-ids':[5,6]}]")
    ∷ (one (RemoveSnapshots []) gives shows "[{'action':'remove-snapshots','snapshot-ids':[]}]")
    ∷ (one (SetRef (bytes "main") (pointing branch (some (pos 1)) (some (pos 2))))
    gives shows "[{'action':'set-snapshot-ref','ref-name':'main','type':'branch','snapshot-id':5,'min-snapshots-to-keep':1,'max-snapshot-age-ms':2,'max-ref-age-ms':9}]")
    ∷ (one (SetRef (bytes "t") (pointing tag none none)) gives shows "[{'action':'set-snapshot-ref','ref-name':'t','type':'tag','snapshot-id':5,'max-ref-age-ms':9}]")
    ∷ (one (RemoveRef (bytes "t")) gives shows "[{'action':'remove-snapshot-ref','ref-name':'t'}]")
    ∷ (one (SetCurrentSchema (negsuc 0)) gives shows "[{'action':'set-current-schema','schema-id':-1}]")
    ∷ (one (RemoveSchemas (pos 1 ∷ [])) gives shows "[{'action':'remove-schemas','schema-ids':[1]}]")
    ∷ (one (AddSortOrder (record { id = pos 1; fields = record { source = pos 1; direction = 1; nulls = 0 } ∷ [] }))
    gives shows "[{'action':'add-sort-order','sort-order':{'order-id':1,'fields':[{'transform':'identity','source-id':1,'direction':'desc','null-order':'nulls-first'}]}}]")
    ∷ (one (SetDefaultSortOrder (pos 1)) gives shows "[{'action':'set-default-sort-order','sort-order-id':1}]")
    ∷ (one (SetDefaultPartitionSpec (negsuc 0)) gives shows "[{'action':'set-default-spec','spec-id':-1}]")
    ∷ (one (RemovePartitionSpecs (pos 1 ∷ pos 2 ∷ [])) gives shows "[{'action':'remove-partition-specs','spec-ids':[1,2]}]")
    -- what is offered is written where it stands, wherever its bytes are
    ∷ (offering (0 ∷ column_of 1 long (bytes "a") ++ column_of 2 timestamp (bytes "b")) (schema_at 1 2)
    gives shows "[{'action':'add-schema','schema':{'type':'struct','fields':[{'id':1,'name':'a','required':false,'type':'long'},{'id':2,'name':'b','required':false,'type':'timestamp'}],'schema-id':3}}]")
    ∷ (offering [] (schema_at 0 0) gives shows "[{'action':'add-schema','schema':{'type':'struct','fields':[],'schema-id':3}}]")
    ∷ (offering (part_of day 0 (bytes "d") ++ part_of bucket 8 (bytes "e")) (spec_at 0 (none ∷ some (pos 1001) ∷ []))
    gives shows "[{'action':'add-spec','spec':{'spec-id':2,'fields':[{'source-id':1,'name':'d','transform':'day'},{'source-id':1,'field-id':1001,'name':'e','transform':'bucket[8]'}]}}]")
    -- several updates, in order
    ∷ (written (SetCurrentSchema (pos 0) ∷ RemoveRef (bytes "a") ∷ SetCurrentSchema (pos 1) ∷ [])
    gives shows "[{'action':'set-current-schema','schema-id':0},{'action':'remove-snapshot-ref','ref-name':'a'},{'action':'set-current-schema','schema-id':1}]")
    -- 38, no action: statistics and a branch commit
    ∷ (one (SetStatistics Statistics (record { snapshot = pos 5; path = bytes "p"; size = pos 1 })) gives number 38)
    ∷ (one (SetStatistics PartitionStatistics (record { snapshot = pos 5; path = bytes "p"; size = pos 1 })) gives number 38)
    ∷ (one (RemoveStatistics Statistics (pos 5)) gives number 38)
    ∷ (one (RemoveStatistics PartitionStatistics (pos 5)) gives number 38)
    ∷ (one (SetBranchSnapshot (bytes "main") plain_snapshot) gives number 38)
    -- also where it stands behind others
    ∷ (written (SetCurrentSchema (pos 0) ∷ RemoveStatistics Statistics (pos 5) ∷ []) gives number 38)
    -- texts that are not UTF-8: a location, names of refs, of fields and of partition fields
    ∷ (one (SetLocation (255 ∷ [])) gives number 38)
    ∷ (one (SetRef (255 ∷ []) (pointing tag none none)) gives number 38)
    ∷ (one (RemoveRef (195 ∷ [])) gives number 38)
    ∷ (offering (column_of 1 long (255 ∷ [])) (schema_at 0 1) gives number 38)
    ∷ (offering (part_of day 0 (255 ∷ [])) (spec_at 0 (none ∷ [])) gives number 38)
    -- an offer that is not there, or not well formed
    ∷ (offering (column_of 1 long (bytes "a")) (schema_at 1 1) gives number 38)
    ∷ (offering (column_of 1 long (bytes "a")) (schema_at 0 2) gives number 38)
    ∷ (offering (column_of 1 3 (bytes "a")) (schema_at 0 1) gives number 38)
    ∷ (offering (part_of day 0 (bytes "d")) (spec_at 1 (none ∷ [])) gives number 38)
    ∷ (offering (part_of day 1 (bytes "d")) (spec_at 0 (none ∷ [])) gives number 38)
    -- an update that is not well formed
    ∷ (one (UpgradeFormatVersion 4) gives number 38)
    ∷ (one (RemoveSnapshots (negsuc 0 ∷ [])) gives number 38)
    ∷ (one (NotFormed 1) gives number 38)
    -- more than a list may have
    ∷ (into 60 (times 65) gives number 38)
    -- 25, a short buffer: after 38
    ∷ (into 60 (times 64) gives number 25)
    ∷ (into 47 (times 1) gives shows "[{'action':'set-current-schema','schema-id':0}]")
    ∷ (into 46 (times 1) gives number 25)
    ∷ (into 1 [] gives number 25)
    ∷ (into 0 (SetLocation (255 ∷ []) ∷ []) gives number 38)
    ∷ []
