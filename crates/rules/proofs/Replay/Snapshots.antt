-- Adding and removing snapshots is replayed by what is logged.
use mathlib.Core.Path.{◌≡◌, refl}
use mathlib.Core.Bool.{Bool, true, false, cond}
use mathlib.Core.List.{List}
use lib.IntN.{ℤ}
use lib.Signed.{lt_z}
use Rattle.rules.specs.Words.{is_empty, ascending}
use Rattle.rules.specs.Capacities.{snapshot_room}
use Rattle.rules.specs.Register.{Snapshot, Terms, State, logged}
use Rattle.rules.specs.Register.Update.{AddSnapshot, RemoveSnapshots}
use Rattle.rules.specs.WellFormed.{snapshot_formed, snapshot_below, snapshots_formed, points_in, refs_held, update_formed}
use Rattle.rules.specs.SnapshotUpdates.{add_snapshot, held_snapshots, without_snapshots, remove_snapshots}
use Rattle.rules.specs.Others.{is_others}
use Rattle.rules.specs.Updates.{offers_formed, checks, update_number, effect}
use Rattle.rules.specs.Replay.{strip}
use Rattle.rules.proofs.Tables.{by_key, table_parts_lem}
use Rattle.rules.proofs.Sound.Metadata.{Sound}
use Rattle.rules.proofs.Replay.Lists.{keep_all}
use Rattle.rules.proofs.Replay.Keys.{held_formed, held_again, others_again, none_held}
use Rattle.rules.proofs.Sound.Updates.{accepted_form, accepted_own}
use Rattle.rules.proofs.Replay.Steps.{accepted_if, Replays, nothing, once}

-- ---- add snapshot

pub add_snapshot_replays : (terms : Terms) (s : Snapshot) (st : State) → update_number terms (AddSnapshot s) st ≡ 0 → Replays terms 1 st (add_snapshot s st)
unfolding effect add_snapshot strip
add_snapshot_replays terms s st e = once terms (AddSnapshot s) st (add_snapshot s st) refl e refl (λ l h. refl)

-- ---- remove snapshots

abbrev id_of : Snapshot → ℤ
id_of s = s.id

-- with none held nothing goes: no snapshot, and no ref, since every ref names a held snapshot
nothing_goes : (ids : List ℤ) (st : State) → Sound st.metadata → is_empty (held_snapshots ids st.metadata.snapshots) ≡ true → without_snapshots ids st ≡ st
unfolding refs_held
nothing_goes ids st k q = rw (none_held id_of ids st.metadata.snapshots q, keep_all (points_in st.metadata.snapshots) st.metadata.refs k.refs_held)

snapshots_ascending : (l : List Snapshot) → snapshots_formed l ≡ true → ascending (by_key lt_z id_of) l ≡ true
unfolding snapshots_formed
snapshots_ascending l h = (table_parts_lem snapshot_room snapshot_formed snapshot_below l h).2

-- no more goes than was asked for
held_accepted : (terms : Terms) (ids : List ℤ) (st : State) → update_number terms (RemoveSnapshots ids) st ≡ 0 → Sound st.metadata → update_number terms (RemoveSnapshots (held_snapshots ids st.metadata.snapshots)) st ≡ 0
unfolding checks update_formed offers_formed is_others
held_accepted terms ids st e k =
    accepted_if terms (RemoveSnapshots (held_snapshots ids st.metadata.snapshots)) st
    (held_formed id_of ids st.metadata.snapshots (snapshots_ascending st.metadata.snapshots k.snapshots) (accepted_form terms (RemoveSnapshots ids) st e))
    refl
    (rw (held_again id_of ids st.metadata.snapshots) (accepted_own terms (RemoveSnapshots ids) st e))
    refl

pub remove_snapshots_replays : (terms : Terms) (ids : List ℤ) (st : State) → update_number terms (RemoveSnapshots ids) st ≡ 0 → Sound st.metadata → Replays terms 1 st (effect terms (RemoveSnapshots ids) st)
unfolding effect remove_snapshots strip
remove_snapshots_replays terms ids st e k = go (is_empty (held_snapshots ids st.metadata.snapshots)) refl
  where
    removed : State
    removed = logged (RemoveSnapshots (held_snapshots ids st.metadata.snapshots)) (without_snapshots ids st)

    go : (t : Bool) → is_empty (held_snapshots ids st.metadata.snapshots) ≡ t → Replays terms 1 st (cond t (without_snapshots ids st) removed)
    go true q = rw (nothing_goes ids st k q) (nothing terms 1 st)
    go false q =
        once terms (RemoveSnapshots (held_snapshots ids st.metadata.snapshots)) st removed refl (held_accepted terms ids st e k) refl
        (λ l h. rw (held_again id_of ids st.metadata.snapshots, q, others_again id_of ids st.metadata.snapshots))
