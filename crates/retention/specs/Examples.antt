-- Examples of expiry by retention, each a question and the answer that it must get: both sides of every limit of document 02, request (viii); docs/RULES.md
-- cites them by the names in their comments. That the definitions give these answers is one statement over the list (`expiry_examples_hold`, in
-- proofs/Examples). `tools/clauses` changes the definitions one clause at a time and says which example then fails.
use Rattle.std.specs.Prelude.{ℕ, ◌+◌, List, [], ◌∷◌, ◌++◌, map, ℤ, pos, negsuc, replicate}
use Rattle.std.proofs.Math.Option.{Option, none, some}
use Rattle.rules.specs.Names.{main_name}
use Rattle.rules.specs.Register.{Snapshot, Reference, NamedRef, LogEntry, Metadata, Update, Terms, Outcome, with_fields, with_snapshots, with_refs, with_snapshot_log, with_metadata_log, with_schemas, with_orders, with_specs, with_default_order}
use Rattle.rules.specs.Register.Outcome.{Refused, Accepted}
use Rattle.rules.specs.Register.Update.{SetBranchSnapshot, RemoveSnapshots, RemoveRef}
use Rattle.rules.specs.Partitions.{identity}
use Rattle.rules.specs.Walk.{Walk, Listed, snapshot_ids}
use Rattle.rules.specs.Run.{run}
use Rattle.rules.specs.Examples.{Look, AtHistory, AtLog, AtFiles, AtAll, AtMoment, Reply, Refusal, History, Log, Files, Current, Answered, look, snap, adding, entry, branch_to, tag_to, keeping, draft, extra, file, many, offers, terms, tolerating, as_office, file_terms, file_named, owned, ref_of, main_at, named, register, first, three, drafted, related, two_held, gapped, astray, backwards, line, crowded, stocked, unordered, order_of, unpartitioned, partition, spec_of, by_q, of_a, default_at}
use Rattle.retention.specs.Retention.{Policy, retained}
use Rattle.retention.specs.Expiry.{Expiry, expiring_updates, expiry}
use Rattle.retention.specs.Reasons.{Reason, reason_of}
use Rattle.retention.specs.Outcome.{list_outcome}

-- ---- questions and answers

pub data Question : Type 0 where
  -- the list of an expiry, or its refusal
  OfExpiry : Policy → Metadata → Question
  -- what a ref keeps
  OfKept : Policy → List Snapshot → Reference → Question
  -- why each held snapshot stays or goes
  OfReasons : Policy → Metadata → Question
  -- what a run answers to the list: by `list_outcome`, and by `run` itself
  OfListRun : Look → Terms → Policy → Metadata → Question
  -- what a run answers to the list with more updates after it
  OfListAnd : Look → Terms → Policy → Metadata → List Update → Question
  -- the list that the same policy makes of what the run of the first list answers
  OfSecondList : Terms → Policy → Metadata → Question

pub data Answer : Type 0 where
  -- a number and the list
  Made : ℕ → List Update → Answer
  Kept : Walk → Answer
  Told : List Reason → Answer
  -- by `list_outcome`, and by `run`
  Both : Reply → Reply → Answer
  Ran : Reply → Answer

abbrev pub made : Expiry → Answer
made e = Made e.number e.updates

abbrev pub made_again : Policy → Outcome → Answer
made_again p (Refused number place) = Made number []
made_again p (Accepted m log expired) = made (expiry p m)

abbrev pub answer_to : Question → Answer
answer_to (OfExpiry p m) = made (expiry p m)
answer_to (OfKept p snapshots r) = Kept (retained p snapshots r)
answer_to (OfReasons p m) = Told (map (reason_of p m) (snapshot_ids m.snapshots))
answer_to (OfListRun at terms p m) = Both (look at (list_outcome terms p m)) (look at (run terms m (expiring_updates p m)))
answer_to (OfListAnd at terms p m us) = Ran (look at (run terms m (expiring_updates p m ++ us)))
answer_to (OfSecondList terms p m) = made_again p (run terms m (expiring_updates p m))

-- the list, made
abbrev pub makes : List Update → Answer
makes us = Made 0 us

-- a refusal, and so no list
abbrev pub refuses : ℕ → Answer
refuses number = Made number []

-- one update that removes these
abbrev pub removes : List ℕ → List Update
removes ids = RemoveSnapshots (map (λ (id : ℕ). pos id) ids) ∷ []

-- one that drops `d`, and then these
abbrev pub drops_draft : List Update → List Update
drops_draft us = RemoveRef draft ∷ us

-- so many ids, from one on
abbrev pub ids_from : ℕ → ℕ → List ℤ
ids_from least count = many count (λ (i : ℕ). pos (least + i))

-- both answer the same
abbrev pub says : Reply → Answer
says r = Both r r

abbrev pub because : ℕ → ℕ → Reason
because why by = record { why = why; by = by }

-- ---- what the examples are made of

-- a clock reading; the count, the snapshot age and the ref age; the office
abbrev pub policy_of : ℤ → ℤ → ℤ → ℤ → ℕ → Policy
policy_of clock count age ref_age office = record { clock = clock; min_snapshots = count; max_snapshot_age = age; max_ref_age = ref_age; office = office }

-- at 400000, of office 1 and of office 2. In `three` 3 is then 100000 old, 2 200000 and 1 300000
abbrev pub policy : ℕ → ℕ → ℕ → Policy
policy count age ref_age = policy_of (pos 400000) (pos count) (pos age) (pos ref_age) 1

abbrev pub second_policy : ℕ → ℕ → ℕ → Policy
second_policy count age ref_age = policy_of (pos 400000) (pos count) (pos age) (pos ref_age) 2

-- snapshots, the current one, refs and the history
abbrev pub holding : List Snapshot → Option ℤ → List NamedRef → List LogEntry → Metadata
holding snapshots current refs log = register 2 9 0 (pos 0) snapshots current refs log []

-- `main` alone, as a ref of some kind
abbrev pub main_by : Reference → Metadata
main_by r = with_refs (ref_of main_name r ∷ []) three

-- the snapshots of `three`, and `d` alone
abbrev pub draft_alone : Reference → Metadata
draft_alone r = holding three.snapshots none (ref_of draft r ∷ []) []

-- 10, its parent 6, and 1 behind that, which is a millisecond younger; `main` at 10
abbrev pub young_behind : Metadata
young_behind = holding (snap 1 none 1 (pos 1) ∷ snap 6 (some (pos 1)) 6 (pos 0) ∷ snap 10 (some (pos 6)) 10 (pos 0) ∷ []) (some (pos 10)) (main_at 10) (entry 10 0 ∷ [])

-- a count, and the age that 1 has
abbrev pub age_of_one : ℕ → Policy
age_of_one count = policy_of (pos 28) (pos count) (pos 27) (pos 1) 1

-- `main` at 10, which is its own parent
abbrev pub own_parent : Metadata
own_parent = holding (snap 10 (some (pos 10)) 10 (pos 0) ∷ []) (some (pos 10)) (main_at 10) []

-- snapshot 1 at a time, and `d` as a tag to it
abbrev pub tagged_at : ℤ → Metadata
tagged_at time = holding (snap 1 none 1 time ∷ []) none (ref_of draft (tag_to 1) ∷ []) []

-- the snapshots of `three`, `main` among the refs, and beside them 4 and 5 without parents
abbrev pub beside : List NamedRef → List LogEntry → Metadata
beside refs log = holding (three.snapshots ++ (snap 4 none 4 (pos 0) ∷ snap 5 none 5 (pos 0) ∷ [])) (some (pos 3)) refs log

-- `d` of office 2 as a tag to 4, and `main`
abbrev pub others_draft : List NamedRef
others_draft = owned 2 draft (tag_to 4) ∷ main_at 3

-- so many snapshots and no refs
abbrev pub unreached : ℕ → Metadata
unreached n = crowded n 0 0 0 1 1 1 1 0 0

-- 64 of them, and a history that names all but the last
abbrev pub full_table : Metadata
full_table = with_snapshot_log (many 63 (λ (i : ℕ). entry i 0)) (unreached 64)

-- not well formed: a current snapshot, and no `main`
abbrev pub main_lost : Metadata
main_lost = with_refs [] three

-- 1 and 2, `main` at 1, no history
abbrev pub smallest : Metadata
smallest = two_held (some (pos 1)) (main_at 1)

-- with 5, which nothing reaches
abbrev pub with_five : Metadata → Metadata
with_five m = with_snapshots (m.snapshots ++ (snap 5 none 5 (pos 0) ∷ [])) m

-- with `d` as a tag to 1 beside `main`
abbrev pub with_draft : Metadata → Metadata
with_draft m = with_refs (ref_of draft (tag_to 1) ∷ m.refs) m

-- the default spec has a source that is not there, and its name is that of a column, so that it clashes too
abbrev pub clashing : Metadata → Metadata
clashing m = default_at 1 (with_schemas (of_a 0 ∷ []) (with_specs (unpartitioned ∷ spec_of 1 (partition 9 1000 identity 0 (97 ∷ []) ∷ []) ∷ []) m))

-- the default spec has a source that is not there
abbrev pub misfitting : Metadata → Metadata
misfitting m = default_at 1 (with_schemas (of_a 0 ∷ []) (with_specs (unpartitioned ∷ by_q 1000 1 ∷ []) m))

-- the default order names a field that is not there
abbrev pub unfit : Metadata → Metadata
unfit m = with_fields (with_default_order (pos 1) m.fields) (with_orders (unordered 0 ∷ order_of 9 1 ∷ []) m)

-- so many files
abbrev pub filed : ℕ → Metadata → Metadata
filed n m = with_metadata_log (replicate n (file 97 0)) m

-- a file name that is too long
abbrev pub long_named : Terms
long_named = file_named (replicate 97 97)

-- and a tolerance that is too long
abbrev pub long_both : Terms
long_both = record { clock = pos 500000; tolerance = pos 3600001; file = some (replicate 97 97); limit = some []; office = 1; offers = offers }

-- what is left of `stocked` where `d` and 2 go, with the current file `d`
abbrev pub thinned : Metadata
thinned =
    record {
      fields = record {
        version = 1;
        uuid = replicate 16 1;
        location = 116 ∷ [];
        last_updated = pos 500000;
        last_sequence = record { 0 = pos 5 };
        next_row = record { 0 = 7 };
        last_column = pos 9;
        current = some (pos 1);
        current_schema = pos 1;
        default_order = pos 1;
        default_spec = pos 1;
        last_partition = pos 1000;
      };
      snapshots = snap 1 none 1 (pos 100000) ∷ [];
      refs = named main_name ∷ [];
      snapshot_log = entry 1 100000 ∷ [];
      metadata_log = file 97 1 ∷ file 100 450000 ∷ [];
      schemas = stocked.schemas;
      orders = stocked.orders;
      statistics = stocked.statistics;
      partition_statistics = stocked.partition_statistics;
      specs = stocked.specs;
    }

-- ---- the examples

pub record Example : Type 0 where
  pub asked : Question
  pub reply : Answer

abbrev pub ◌gives◌ : Question → Answer → Example
q gives r = record { asked = q; reply = r }

infix 20 ◌gives◌
abbrev pub examples : List Example
examples =
    -- ref age: a ref whose snapshot has just that age stays, and one that is older goes; a branch as a tag
    (OfExpiry (policy 3 1 200000) (drafted 1 (tag_to 2)) gives makes [])
    ∷ (OfExpiry (policy 3 1 199999) (drafted 1 (tag_to 2)) gives makes (drops_draft []))
    ∷ (OfExpiry (policy 3 1 200001) (drafted 1 (tag_to 2)) gives makes [])
    ∷ (OfExpiry (policy 3 1 200000) (drafted 1 (branch_to 2)) gives makes [])
    ∷ (OfExpiry (policy 3 1 199999) (drafted 1 (branch_to 2)) gives makes (drops_draft []))
    -- own ref age: it stands before the default, be it longer or shorter
    ∷ (OfExpiry (policy 3 1 1) (drafted 1 (keeping (pos 2) 2 none none (some (pos 200000)))) gives makes [])
    ∷ (OfExpiry (policy 3 1 900000) (drafted 1 (keeping (pos 2) 2 none none (some (pos 199999)))) gives makes (drops_draft []))
    -- main stays: whatever its ref age
    ∷ (OfExpiry (policy_of (pos 900000000) (pos 3) (pos 1) (pos 1) 1) three gives makes [])
    ∷ (OfExpiry (policy 3 1 1) (main_by (keeping (pos 3) 1 none none (some (pos 1)))) gives makes [])
    -- main as a tag: it stays too, and keeps no ancestor
    ∷ (OfExpiry (policy 3 900000 1) (main_by (tag_to 3)) gives makes (removes (1 ∷ 2 ∷ [])))
    -- dropped in order: refs that go come first, as the table has them; names around `main` are no `main`
    ∷ (OfExpiry (policy 2 1 1) (with_refs (ref_of draft (tag_to 1) ∷ ref_of (109 ∷ 97 ∷ 105 ∷ []) (tag_to 3) ∷ main_at 3 ++ (ref_of (main_name ++ (115 ∷ [])) (tag_to 3) ∷ [])) three)
    gives makes (RemoveRef draft ∷ RemoveRef (109 ∷ 97 ∷ 105 ∷ []) ∷ RemoveRef (main_name ++ (115 ∷ [])) ∷ removes (1 ∷ [])))
    -- one of two refs: the other stays, and keeps its snapshot
    ∷ (OfExpiry (policy 1 1 200000) (with_refs (ref_of draft (tag_to 1) ∷ ref_of extra (tag_to 2) ∷ main_at 3) three) gives makes (drops_draft (removes (1 ∷ []))))
    -- count: it begins with the branch's own snapshot, and one more is kept by one more
    ∷ (OfExpiry (policy 1 1 1) three gives makes (removes (1 ∷ 2 ∷ [])))
    ∷ (OfExpiry (policy 2 1 1) three gives makes (removes (1 ∷ [])))
    ∷ (OfExpiry (policy 3 1 1) three gives makes [])
    ∷ (OfExpiry (policy 4 1 1) three gives makes [])
    -- own count: it stands before the default, be it larger or smaller
    ∷ (OfExpiry (policy 1 1 1) (main_by (keeping (pos 3) 1 (some (pos 2)) none none)) gives makes (removes (1 ∷ [])))
    ∷ (OfExpiry (policy 3 1 1) (main_by (keeping (pos 3) 1 (some (pos 2)) none none)) gives makes (removes (1 ∷ [])))
    -- snapshot age: one of just that age stays, and an older one goes
    ∷ (OfExpiry (policy 1 199999 1) three gives makes (removes (1 ∷ 2 ∷ [])))
    ∷ (OfExpiry (policy 1 200000 1) three gives makes (removes (1 ∷ [])))
    ∷ (OfExpiry (policy 1 299999 1) three gives makes (removes (1 ∷ [])))
    ∷ (OfExpiry (policy 1 300000 1) three gives makes [])
    -- own snapshot age: it stands before the default, be it longer or shorter
    ∷ (OfExpiry (policy 1 1 1) (main_by (keeping (pos 3) 1 none (some (pos 200000)) none)) gives makes (removes (1 ∷ [])))
    ∷ (OfExpiry (policy 1 900000 1) (main_by (keeping (pos 3) 1 none (some (pos 200000)) none)) gives makes (removes (1 ∷ [])))
    -- young behind old: 6 is past both limits, so 1 goes too, though it is within the age; the second list is empty
    ∷ (OfExpiry (age_of_one 1) young_behind gives makes (removes (1 ∷ 6 ∷ [])))
    ∷ (OfSecondList terms (age_of_one 1) young_behind gives makes [])
    -- count over an old one: with 6 within the count, 1 stays by its age
    ∷ (OfExpiry (age_of_one 2) young_behind gives makes [])
    -- tag: it keeps the snapshot that it names; a branch at the same one keeps ancestors
    ∷ (OfExpiry (policy 3 900000 900000) (draft_alone (tag_to 3)) gives makes (removes (1 ∷ 2 ∷ [])))
    ∷ (OfExpiry (policy 3 900000 900000) (draft_alone (branch_to 3)) gives makes [])
    -- two branches: each keeps by its own numbers
    ∷ (OfExpiry (policy 1 1 900000) (drafted 1 (branch_to 2)) gives makes (removes (1 ∷ [])))
    ∷ (OfExpiry (policy 1 1 900000) (drafted 1 (keeping (pos 2) 1 (some (pos 2)) none none)) gives makes [])
    -- unreached: what no ref reaches goes at any age; without refs all goes
    ∷ (OfExpiry (policy_of (pos 0) (pos 9) (pos 900000) (pos 900000) 1) smallest gives makes (removes (2 ∷ [])))
    ∷ (OfExpiry (policy 9 900000 900000) (holding three.snapshots none [] []) gives makes (removes (1 ∷ 2 ∷ 3 ∷ [])))
    -- unheld parent: the walk ends in front of it
    ∷ (OfExpiry (policy 9 1 900000) (related (ref_of draft (branch_to 6) ∷ [])) gives makes (removes (1 ∷ 2 ∷ 3 ∷ 4 ∷ 5 ∷ [])))
    -- cycle: 24 where one that is within comes again, by the count or by the age, on any branch that is kept
    ∷ (OfExpiry (policy 1 1 1) own_parent gives makes [])
    ∷ (OfExpiry (policy 2 1 1) own_parent gives refuses 24)
    ∷ (OfExpiry (policy 1 399999 1) own_parent gives makes [])
    ∷ (OfExpiry (policy 1 400000 1) own_parent gives refuses 24)
    ∷ (OfExpiry (policy 2 1 900000) (related (ref_of draft (branch_to 3) ∷ ref_of extra (branch_to 5) ∷ [])) gives makes (removes (1 ∷ 6 ∷ [])))
    ∷ (OfExpiry (policy 3 1 900000) (related (ref_of draft (branch_to 3) ∷ ref_of extra (branch_to 5) ∷ [])) gives refuses 24)
    -- cycle elsewhere: no 24 where a tag, a branch that goes, or a ref of the other office is on it
    ∷ (OfExpiry (policy 9 1 900000) (related (ref_of draft (tag_to 5) ∷ [])) gives makes (removes (1 ∷ 2 ∷ 3 ∷ 4 ∷ 6 ∷ [])))
    ∷ (OfExpiry (policy 9 1 1) (related (ref_of draft (branch_to 5) ∷ [])) gives makes (drops_draft (removes (1 ∷ 2 ∷ 3 ∷ 4 ∷ 5 ∷ 6 ∷ []))))
    ∷ (OfExpiry (policy 9 1 1) (related (owned 2 draft (branch_to 5) ∷ [])) gives makes (removes (1 ∷ 2 ∷ 3 ∷ 6 ∷ [])))
    ∷ (OfExpiry (second_policy 9 1 1) own_parent gives makes [])
    -- far apart: an age past 64 bits is above every limit, and one below 0 is below every limit
    ∷ (OfExpiry (policy_of (pos 9223372036854775807) (pos 1) (pos 1) (pos 9223372036854775807) 1) (tagged_at (negsuc 9223372036854775807)) gives makes (drops_draft (removes (1 ∷ []))))
    ∷ (OfExpiry (policy_of (pos 0) (pos 1) (pos 1) (pos 1) 1) (tagged_at (pos 9223372036854775807)) gives makes [])
    ∷ (OfExpiry (policy_of (pos 0) (pos 1) (pos 1) (pos 1) 1) (tagged_at (pos 5)) gives makes [])
    -- office 2's list: what the log names stays, and what `main` reaches; office 1's list has both
    ∷ (OfExpiry (second_policy 1 1 1) (beside (main_at 3) (entry 4 0 ∷ entry 9 0 ∷ entry 3 300000 ∷ [])) gives makes (removes (5 ∷ [])))
    ∷ (OfExpiry (policy 1 1 1) (beside (main_at 3) (entry 4 0 ∷ entry 9 0 ∷ entry 3 300000 ∷ [])) gives makes (removes (1 ∷ 2 ∷ 4 ∷ 5 ∷ [])))
    -- other's ref: it is not dropped, however old; its own office drops it
    ∷ (OfExpiry (policy 3 1 1) (beside others_draft []) gives makes (removes (5 ∷ [])))
    ∷ (OfExpiry (second_policy 3 1 1) (beside others_draft []) gives makes (drops_draft (removes (4 ∷ 5 ∷ []))))
    -- other's reach: `p` of office 2 at the tip of `main` keeps all of it, as a tag and with any numbers
    ∷ (OfExpiry (policy 1 1 1) (with_refs (main_at 3 ++ (owned 2 (112 ∷ []) (tag_to 3) ∷ [])) three) gives makes [])
    ∷ (OfExpiry (policy 1 1 1) (with_refs (main_at 3 ++ (owned 2 (112 ∷ []) (keeping (pos 3) 1 (some (pos 1)) (some (pos 1)) (some (pos 1))) ∷ [])) three) gives makes [])
    -- longest walk: 64 are kept by the count 64
    ∷ (OfKept (policy 64 1 1) (line 64) (branch_to 63) gives Kept (Listed (backwards (ids_from 0 64))))
    ∷ (OfKept (policy 63 1 1) (line 64) (branch_to 63) gives Kept (Listed (backwards (ids_from 1 63))))
    -- parts: 16 ids to an update, the last has the rest
    ∷ (OfExpiry (policy 1 1 1) (unreached 0) gives makes [])
    ∷ (OfExpiry (policy 1 1 1) (unreached 16) gives makes (RemoveSnapshots (ids_from 0 16) ∷ []))
    ∷ (OfExpiry (policy 1 1 1) (unreached 17) gives makes (RemoveSnapshots (ids_from 0 16) ∷ RemoveSnapshots (ids_from 16 1) ∷ []))
    ∷ (OfExpiry (policy 1 1 1) (unreached 33) gives makes (RemoveSnapshots (ids_from 0 16) ∷ RemoveSnapshots (ids_from 16 16) ∷ RemoveSnapshots (ids_from 32 1) ∷ []))
    -- refusals: 1, 39, 3, 24, in this order
    ∷ (OfExpiry (policy_of (pos 400000) (pos 2) (pos 0) (pos 1) 3) main_lost gives refuses 1)
    ∷ (OfExpiry (policy_of (pos 400000) (pos 2) (pos 0) (pos 1) 3) own_parent gives refuses 39)
    ∷ (OfExpiry (policy_of (pos 400000) (pos 2) (pos 0) (pos 1) 1) own_parent gives refuses 3)
    ∷ (OfExpiry (policy_of (pos 400000) (pos 2) (pos 1) (pos 1) 1) own_parent gives refuses 24)
    -- unknown office: 0 and 3
    ∷ (OfExpiry (policy_of (pos 400000) (pos 1) (pos 1) (pos 1) 0) three gives refuses 39)
    ∷ (OfExpiry (policy_of (pos 400000) (pos 1) (pos 1) (pos 1) 3) three gives refuses 39)
    -- default below 1: each of the three
    ∷ (OfExpiry (policy_of (pos 400000) (pos 0) (pos 1) (pos 1) 1) three gives refuses 3)
    ∷ (OfExpiry (policy_of (pos 400000) (negsuc 0) (pos 1) (pos 1) 1) three gives refuses 3)
    ∷ (OfExpiry (policy_of (pos 400000) (pos 1) (pos 0) (pos 1) 1) three gives refuses 3)
    ∷ (OfExpiry (policy_of (pos 400000) (pos 1) (pos 1) (pos 0) 1) three gives refuses 3)
    -- reasons: of 1 to 5 within the age, within the count, named, needed by the other's `d`, none; for office 2 needed by `main` three times, named, named by the log
    ∷ (OfReasons (policy 2 300000 900000) (beside others_draft (entry 5 0 ∷ [])) gives Told (because 3 1 ∷ because 2 1 ∷ because 1 1 ∷ because 4 0 ∷ because 0 0 ∷ []))
    ∷ (OfReasons (second_policy 2 300000 900000) (beside others_draft (entry 5 0 ∷ [])) gives Told (because 4 1 ∷ because 4 1 ∷ because 4 1 ∷ because 1 0 ∷ because 5 0 ∷ []))
    -- no reason: what no ref and no log names goes, for office 2 too
    ∷ (OfReasons (second_policy 2 300000 900000) (beside others_draft []) gives Told (because 4 1 ∷ because 4 1 ∷ because 4 1 ∷ because 1 0 ∷ because 0 0 ∷ []))
    -- reason by the own count: 2 is within it, and 1 within the default age
    ∷ (OfReasons (policy 1 300000 1) (main_by (keeping (pos 3) 1 (some (pos 2)) none none)) gives Told (because 3 0 ∷ because 2 0 ∷ because 1 0 ∷ []))
    -- first reason: of two refs that keep 2 the first is told; one that goes keeps nothing
    ∷ (OfReasons (policy 3 1 900000) (drafted 1 (tag_to 2)) gives Told (because 2 1 ∷ because 1 0 ∷ because 1 1 ∷ []))
    ∷ (OfReasons (policy 3 1 1) (drafted 1 (tag_to 2)) gives Told (because 2 1 ∷ because 2 1 ∷ because 1 1 ∷ []))
    -- whole answer: what the list does not name stays, the files are as ever, and the last update is the run's clock
    ∷ (OfListRun AtAll file_terms (policy 1 1 1) stocked gives says (Answered (Accepted thinned (drops_draft (removes (2 ∷ []))) [])))
    ∷ (OfListRun AtFiles file_terms (policy 1 1 1) (filed 3 three) gives says (Files (file 97 0 ∷ file 97 0 ∷ []) (file 97 0 ∷ file 100 300000 ∷ [])))
    -- log cut: after its last entry whose snapshot is gone
    ∷ (OfListRun AtHistory terms (policy 1 1 1) three gives says (History (entry 3 300000 ∷ [])))
    ∷ (OfListRun AtHistory terms (policy 2 1 1) three gives says (History (entry 2 200000 ∷ entry 3 300000 ∷ [])))
    ∷ (OfListRun AtHistory terms (policy 1 1 1) (with_five gapped) gives says (History (entry 1 100000 ∷ [])))
    ∷ (OfListRun AtHistory terms (policy 2 1 1) (with_snapshot_log (entry 2 100000 ∷ entry 1 200000 ∷ entry 3 300000 ∷ []) three) gives says (History (entry 3 300000 ∷ [])))
    -- log uncut: where no snapshot goes, and by office 2
    ∷ (OfListRun AtHistory terms (policy 1 1 1) gapped gives says (History (entry 2 50000 ∷ entry 1 100000 ∷ [])))
    ∷ (OfListRun AtHistory terms (policy 1 1 1) (with_draft gapped) gives says (History (entry 2 50000 ∷ entry 1 100000 ∷ [])))
    ∷ (OfListRun AtHistory (as_office 2 terms) (second_policy 1 1 1) (with_five gapped) gives says (History (entry 2 50000 ∷ entry 1 100000 ∷ [])))
    -- 21: the smallest; at the list's length; where the log ends at one that is gone, and at another one that stays
    ∷ (OfListRun AtLog terms (policy 1 1 1) smallest gives says (Refusal 21 1))
    ∷ (OfListRun AtLog terms (policy 1 1 1) (with_draft smallest) gives says (Refusal 21 2))
    ∷ (OfListRun AtLog terms (policy 1 1 1) (with_five astray) gives says (Refusal 21 1))
    ∷ (OfListRun AtLog terms (policy 2 1 1) (with_snapshot_log (entry 3 300000 ∷ entry 2 300000 ∷ []) three) gives says (Refusal 21 1))
    -- no 21: where no snapshot goes, without a current snapshot, and for office 2
    ∷ (OfListRun AtLog terms (policy 1 1 1) (with_draft (with_snapshot_log [] first)) gives says (Log (drops_draft [])))
    ∷ (OfListRun AtLog terms (policy 1 1 1) (two_held none []) gives says (Log (removes (1 ∷ 2 ∷ []))))
    ∷ (OfListRun AtLog (as_office 2 terms) (second_policy 1 1 1) smallest gives says (Log (removes (2 ∷ []))))
    -- before the list: 1 by the file's name, then 26, both at 0 and before the close
    ∷ (OfListRun AtLog long_named (policy 1 1 1) (clashing three) gives says (Refusal 1 0))
    ∷ (OfListRun AtLog long_both (policy 1 1 1) three gives says (Refusal 1 0))
    ∷ (OfListRun AtLog (tolerating (pos 3600001)) (policy 1 1 1) (clashing three) gives says (Refusal 26 0))
    ∷ (OfListRun AtLog (tolerating (negsuc 0)) (policy 1 1 1) three gives says (Refusal 26 0))
    -- after the list: 31, 32, 20, 21, 23, in this order
    ∷ (OfListRun AtLog terms (policy 1 1 1) (clashing three) gives says (Refusal 31 1))
    ∷ (OfListRun AtLog terms (policy 1 1 1) (misfitting (unfit three)) gives says (Refusal 32 1))
    ∷ (OfListRun AtLog terms (policy 1 1 1) (unfit smallest) gives says (Refusal 20 1))
    ∷ (OfListRun AtLog (file_named draft) (policy 1 1 1) (filed 128 smallest) gives says (Refusal 21 1))
    ∷ (OfListRun AtLog (file_named draft) (policy 1 1 1) (filed 128 three) gives says (Refusal 23 1))
    ∷ (OfListRun AtLog (file_named draft) (policy 1 1 1) (filed 127 three) gives says (Log (removes (1 ∷ 2 ∷ []))))
    -- commit after it: the smallest 21 with a commit on `main` behind the list is accepted
    ∷ (OfListAnd AtHistory terms (policy 1 1 1) smallest (SetBranchSnapshot main_name (snap 7 (some (pos 1)) 7 (pos 400000)) ∷ []) gives Ran (History (entry 7 400000 ∷ [])))
    -- freed room: 64 are held, and one goes by the list of office 2, since the log names the others; so one more fits and a second is 19
    ∷ (OfListAnd AtLog (as_office 2 terms) (second_policy 1 1 1) full_table (adding 64 400000 ∷ []) gives Ran (Log (removes (63 ∷ []) ++ (adding 64 400000 ∷ []))))
    ∷ (OfListAnd AtLog (as_office 2 terms) (second_policy 1 1 1) full_table (adding 64 400000 ∷ adding 65 400000 ∷ []) gives Ran (Refusal 19 2))
    -- past days: after the run of the list the answer for a moment is the old one or none
    ∷ (OfListRun (AtMoment (pos 250000)) terms (policy 2 1 1) three gives says (Current (some (entry 2 200000)) 2))
    ∷ (OfListRun (AtMoment (pos 150000)) terms (policy 2 1 1) three gives says (Current none 2))
    -- kept without its days: a tag keeps 1, and 2 goes, so the entry of 1 goes too
    ∷ (OfExpiry (policy 1 1 900000) (drafted 1 (tag_to 1)) gives makes (removes (2 ∷ [])))
    ∷ (OfListRun (AtMoment (pos 150000)) terms (policy 1 1 900000) (drafted 1 (tag_to 1)) gives says (Current none 1))
    ∷ []
