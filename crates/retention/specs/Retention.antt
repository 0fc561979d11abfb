-- Which refs and snapshots a retention policy keeps: document 02, request (viii), after the public table format's "Snapshot Retention Policy".
-- Of two offices that share a register, request (xi), each expires its own.
use Rattle.std.specs.Prelude.{ℕ, suc, Bool, true, false, cond, not, ◌&&◌, ◌||◌, List, [], ◌∷◌, eqb, ℤ, pos, length}
use Rattle.std.specs.Int.Signed.{le_z}
use Rattle.rules.specs.Words.{or_else, some_with, any, keep, is_in}
use Rattle.rules.specs.Capacities.{snapshot_room}
use Rattle.rules.specs.Names.{is_main}
use Rattle.rules.specs.Window.{is_before}
use Rattle.rules.specs.Register.{Snapshot, Reference, NamedRef, Metadata}
use Rattle.rules.specs.WellFormed.{branch}
use Rattle.rules.specs.Walk.{Walk, Listed, Twice, Bad, parent_of, follow, snapshot_ids, snapshot_parents, listed_ids}
use Rattle.rules.specs.RefUpdates.{time_of}
use Rattle.rules.specs.Others.{is_others_ref, is_needed}

-- "a clock reading and three default numbers"; and the office whose list is made
pub record Policy : Type 0 where
  pub clock : ℤ
  pub min_snapshots : ℤ
  pub max_snapshot_age : ℤ
  pub max_ref_age : ℤ
  pub office : ℕ

-- ---- ages

-- the snapshot's "age exceeds" the limit: its time is more than the limit before the clock. An age is a whole number of any size, also below 0.
abbrev pub is_older : Policy → List Snapshot → ℤ → ℤ → Bool
is_older p snapshots limit id = some_with (λ time. is_before limit time p.clock) (time_of id snapshots)

-- a ref's own number stands before the default
abbrev pub count_of : Policy → Reference → ℤ
count_of p r = or_else r.min_snapshots p.min_snapshots

abbrev pub age_of : Policy → Reference → ℤ
age_of p r = or_else r.max_snapshot_age p.max_snapshot_age

abbrev pub ref_age_of : Policy → Reference → ℤ
ref_age_of p r = or_else r.max_ref_age p.max_ref_age

-- ---- refs

-- "Refs other than `main` go when their snapshot's age exceeds their limit"; an office drops its own alone
unfoldable pub goes : Policy → List Snapshot → NamedRef → Bool
goes p snapshots r =
    not (is_main r.name)
    && not (is_others_ref p.office r)
    && is_older p snapshots (ref_age_of p r.reference) r.reference.snapshot

abbrev pub dropped_refs : Policy → Metadata → List NamedRef
dropped_refs p m = keep (goes p m.snapshots) m.refs

abbrev pub remaining_refs : Policy → Metadata → List NamedRef
remaining_refs p m = keep (λ r. not (goes p m.snapshots r)) m.refs

-- the office's own of them: what they keep is asked of the policy
abbrev pub own_refs : Policy → Metadata → List NamedRef
own_refs p m = keep (λ r. not (is_others_ref p.office r)) (remaining_refs p m)

-- ---- snapshots

-- neither "within the count" nor within "the age". The count begins with the branch's own snapshot.
abbrev pub is_past : Policy → List Snapshot → Reference → List ℤ → ℤ → Bool
is_past p snapshots r listed id = le_z (count_of p r) (pos (length listed)) && is_older p snapshots (age_of p r) id

-- What a ref that remains keeps. A branch keeps its walk up to the first that is past both limits, and nothing behind that one; a tag keeps the snapshot
-- that it names and no ancestor.
unfoldable pub retained : Policy → List Snapshot → Reference → Walk
retained p snapshots r =
    cond (eqb r.kind branch)
    (follow (suc snapshot_room) (parent_of (snapshot_ids snapshots) (snapshot_parents snapshots)) (is_past p snapshots r) [] r.snapshot)
    (Listed (r.snapshot ∷ []))

abbrev pub is_twice : Walk → Bool
is_twice (Listed ids) = false
is_twice Twice = true
is_twice Bad = false

-- "a parent cycle met on a kept branch": one that is within comes again
abbrev pub is_cyclic : Policy → Metadata → Bool
is_cyclic p m = any (λ (r : NamedRef). is_twice (retained p m.snapshots r.reference)) (own_refs p m)

-- "every remaining ref's snapshot stays; each branch also keeps ancestors"; so does all that the office may not remove
unfoldable pub is_retained : Policy → Metadata → ℤ → Bool
is_retained p m id =
    any (λ (r : NamedRef). is_in (listed_ids (retained p m.snapshots r.reference)) id) (own_refs p m)
    || is_needed p.office m id

abbrev pub remaining_snapshots : Policy → Metadata → List Snapshot
remaining_snapshots p m = keep (λ (s : Snapshot). is_retained p m s.id) m.snapshots

-- the ids of the others, ascending as the table is
abbrev pub going_ids : Policy → Metadata → List ℤ
going_ids p m = keep (λ id. not (is_retained p m id)) (snapshot_ids m.snapshots)
