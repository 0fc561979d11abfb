-- Refs: document 01, "Rules for each update", **Set ref**, **Branch commit** and **Remove ref**.
-- Each update has its checks, in 01's order, and its effect, which counts where no check fails.
use Rattle.std.specs.Prelude.{ℕ, Bool, cond, not, ◌&&◌, List, [], ◌∷◌, ◌++◌, eqb, leb, ℤ, length}
use Rattle.std.proofs.Math.Option.{Option, none, some}
use Rattle.rules.specs.Words.{eq_z, is_some, or_else, some_with, same_option, keep, first, same_bytes, put, Check}
use Rattle.rules.specs.Replies.{snapshot_not_held, commit_on_tag, table_full}
use Rattle.rules.specs.Capacities.{ref_room, snapshot_log_room}
use Rattle.rules.specs.Names.{is_main}
use Rattle.rules.specs.Register.{Snapshot, Reference, NamedRef, Terms, State, with_fields, with_refs, with_snapshot_log, with_metadata, with_own, with_current, on_fields, logged}
use Rattle.rules.specs.Register.Update.{SetRef, RemoveRef}
use Rattle.rules.specs.WellFormed.{branch, tag, ref_below, has_snapshot, holds_snapshot}
use Rattle.rules.specs.ChangeLog.{logs_addition}
use Rattle.rules.specs.SnapshotUpdates.{add_snapshot_checks, add_snapshot}

-- ---- set ref

abbrev pub has_name : List ℕ → NamedRef → Bool
has_name name r = same_bytes r.name name

abbrev pub ref_named : List ℕ → List NamedRef → Option NamedRef
ref_named name l = first (has_name name) l

-- the same snapshot, kind and retention numbers
abbrev pub same_reference : Reference → Reference → Bool
same_reference a b =
    eq_z a.snapshot b.snapshot
    && eqb a.kind b.kind
    && same_option eq_z a.min_snapshots b.min_snapshots
    && same_option eq_z a.max_snapshot_age b.max_snapshot_age
    && same_option eq_z a.max_ref_age b.max_ref_age

-- an equal ref is held under the name
abbrev pub is_held_ref : List ℕ → Reference → List NamedRef → Bool
is_held_ref name r l = some_with (λ (n : NamedRef). same_reference n.reference r) (ref_named name l)

-- "Equal ref: nothing at all. Else 12, then 19 (refs, then for `main` the snapshot log)." A name that is held needs no room.
unfoldable pub set_ref_checks : List ℕ → Reference → State → List Check
set_ref_checks name r st =
    cond (is_held_ref name r st.metadata.refs)
    []
    ((not (holds_snapshot st.metadata.snapshots r.snapshot), snapshot_not_held)
    ∷ (not (is_some (ref_named name st.metadata.refs)) && leb ref_room (length st.metadata.refs), table_full)
    ∷ (is_main name && leb snapshot_log_room (length st.metadata.snapshot_log), table_full)
    ∷ [])

abbrev pub time_of : ℤ → List Snapshot → Option ℤ
time_of id l = elim (first (has_snapshot id) l) [ none ↦ none | some s ↦ some s.time ]

-- "If this run logged the addition of that snapshot, the run's last update becomes its time."
abbrev pub own_after : ℤ → State → Option ℤ
own_after id st = cond (logs_addition st.log id) (time_of id st.metadata.snapshots) st.own

-- "For `main`: current snapshot set; the clock becomes the last update if none; a log entry with that time is appended."
abbrev pub as_main : ℤ → ℤ → State → State
as_main clock id st =
    with_own (some (or_else st.own clock))
    (with_metadata
    (with_fields (with_current (some id) st.metadata.fields)
    (with_snapshot_log (st.metadata.snapshot_log ++ (record { snapshot = id; time = or_else st.own clock } ∷ [])) st.metadata))
    st)

-- document 02, request (xi): an owner is "fixed when made", and is then the run's office
abbrev pub owner_after : ℕ → List ℕ → List NamedRef → ℕ
owner_after office name l = elim (ref_named name l) [ none ↦ office | some n ↦ n.owner ]

abbrev pub put_ref : ℕ → List ℕ → Reference → State → State
put_ref office name r st =
    with_metadata
    (with_refs (put ref_below (record { name = name; owner = owner_after office name st.metadata.refs; reference = r }) st.metadata.refs) st.metadata)
    st

unfoldable pub set_ref : Terms → List ℕ → Reference → State → State
set_ref terms name r st =
    cond (is_held_ref name r st.metadata.refs)
    st
    (logged (SetRef name r)
    (put_ref terms.office name r
    (cond (is_main name)
    (as_main terms.clock r.snapshot (with_own (own_after r.snapshot st) st))
    (with_own (own_after r.snapshot st) st))))

-- ---- branch commit

-- "keeping the old retention, or a branch with none"
abbrev pub committed : List ℕ → ℤ → List NamedRef → Reference
committed name id l = elim (ref_named name l) [
  | none ↦ record { snapshot = id; kind = branch; min_snapshots = none; max_snapshot_age = none; max_ref_age = none }
  | some n ↦ record { snapshot = id; kind = n.reference.kind; min_snapshots = n.reference.min_snapshots; max_snapshot_age = n.reference.max_snapshot_age; max_ref_age = n.reference.max_ref_age }
]

abbrev pub is_tag : List ℕ → List NamedRef → Bool
is_tag name l = some_with (λ (n : NamedRef). eqb n.reference.kind tag) (ref_named name l)

-- "13; then add; then set"
unfoldable pub set_branch_snapshot_checks : ℤ → List ℕ → Snapshot → State → List Check
set_branch_snapshot_checks tolerance name s st =
    (is_tag name st.metadata.refs, commit_on_tag)
    ∷ (add_snapshot_checks tolerance s st ++ set_ref_checks name (committed name s.id st.metadata.refs) (add_snapshot s st))

-- "Two log entries."
unfoldable pub set_branch_snapshot : Terms → List ℕ → Snapshot → State → State
set_branch_snapshot terms name s st = set_ref terms name (committed name s.id st.metadata.refs) (add_snapshot s st)

-- ---- remove ref

abbrev pub without_ref : List ℕ → State → State
without_ref name st = with_metadata (with_refs (keep (λ r. not (has_name name r)) st.metadata.refs) st.metadata) st

-- "`main` clears the current snapshot and is logged even if absent. Another absent one: nothing."
unfoldable pub remove_ref : List ℕ → State → State
remove_ref name st =
    cond (is_main name)
    (logged (RemoveRef name) (on_fields (with_current none) (without_ref name st)))
    (cond (is_some (ref_named name st.metadata.refs)) (logged (RemoveRef name) (without_ref name st)) st)
