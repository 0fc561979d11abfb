-- Adding and removing snapshots keeps metadata sound.
use Prim.Native.Nat.{◌<◌}
use mathlib.Core.Path.{◌≡◌, refl}
use mathlib.Core.Bool.{true, false, not}
use mathlib.Core.List.{List, [], ◌∷◌}
use lib.IntN.{ℤ}
use lib.Signed.{non_neg}
use lib.ListN.{length}
use borrow.Author.Tests.{leb-false}
use Rattle.rules.specs.Words.{eq_z, if_some, all, keep, is_empty, is_in, put, first_of}
use Rattle.rules.specs.Capacities.{snapshot_room, ref_room}
use Rattle.rules.specs.Register.{Snapshot, NamedRef, Metadata, State, with_snapshots, with_refs, with_last_sequence}
use Rattle.rules.specs.WellFormed.{holds_snapshot, snapshot_formed, ref_formed, snapshot_below, ref_below, snapshots_formed, refs_formed, refs_held, points_in}
use Rattle.rules.specs.SnapshotUpdates.{add_snapshot_checks, add_snapshot, next_row_after, held_snapshots, other_snapshots, without_snapshots, remove_snapshots}
use Rattle.rules.proofs.Checks.{by_test, parts, numbered, passed}
use Rattle.rules.proofs.Orders.{numbers_ordered}
use Rattle.rules.proofs.Tables.{all_then, all_keep, all_kept, any_put, table_put, table_keep}
use Rattle.rules.proofs.Sound.Metadata.{Sound, SoundState, with_fields_lem, with_snapshots_lem, with_refs_lem}
use Rattle.rules.proofs.Sound.Singles.{sequence_formed}

-- ---- add snapshot

pub add_snapshot_numbered : (tolerance : ℤ) (s : Snapshot) (st : State) → numbered (add_snapshot_checks tolerance s st) ≡ true
unfolding add_snapshot_checks
add_snapshot_numbered tolerance s st = refl

-- 5 leaves ids that are not held
pub add_new : (tolerance : ℤ) (s : Snapshot) (st : State) → first_of (add_snapshot_checks tolerance s st) ≡ 0 → holds_snapshot st.metadata.snapshots s.id ≡ false
unfolding add_snapshot_checks
add_new tolerance s st e = (passed (add_snapshot_checks tolerance s st) (add_snapshot_numbered tolerance s st) e).0

-- 19 leaves room
pub add_room : (tolerance : ℤ) (s : Snapshot) (st : State) → first_of (add_snapshot_checks tolerance s st) ≡ 0 → length st.metadata.snapshots < snapshot_room
unfolding add_snapshot_checks
add_room tolerance s st e = leb-false snapshot_room (length st.metadata.snapshots) (passed (add_snapshot_checks tolerance s st) (add_snapshot_numbered tolerance s st) e).1.1.1.1.1.1.1.0

-- a ref to a held snapshot still points to one
put_points : (s : Snapshot) (m : Metadata) → refs_held m ≡ true → all (points_in (put snapshot_below s m.snapshots)) m.refs ≡ true
unfolding refs_held
put_points s m h =
    all_then (points_in m.snapshots) (points_in (put snapshot_below s m.snapshots))
    (λ (r : NamedRef). any_put numbers_ordered (λ (x : Snapshot). x.id) (λ (k : ℤ). eq_z k r.reference.snapshot) s m.snapshots)
    m.refs h

pub add_snapshot_sound : (tolerance : ℤ) (s : Snapshot) (st : State) → snapshot_formed s ≡ true → first_of (add_snapshot_checks tolerance s st) ≡ 0 → Sound st.metadata → Sound (add_snapshot s st).metadata
unfolding add_snapshot snapshots_formed
add_snapshot_sound tolerance s st h e d =
    let m : Metadata = st.metadata in
    let l : List Snapshot = put snapshot_below s m.snapshots in
    let k : snapshots_formed l ≡ true = table_put numbers_ordered (λ (x : Snapshot). x.id) snapshot_room snapshot_formed s m.snapshots (add_room tolerance s st e) h d.snapshots in
    let n : non_neg s.sequence.0 ≡ true = (parts (non_neg s.id) (if_some non_neg s.parent ∷ non_neg s.sequence.0 ∷ []) h).1.1.0 in
    with_fields_lem (with_snapshots l m) (with_snapshots_lem m d l k (put_points s m d.refs_held))
    (with_last_sequence s.sequence (next_row_after s m.fields) m.fields)
    (sequence_formed m.fields d.fields s.sequence (next_row_after s m.fields) n)
    refl refl refl

-- ---- remove snapshots

without_sound : (ids : List ℤ) (st : State) → Sound st.metadata → Sound (without_snapshots ids st).metadata
unfolding snapshots_formed refs_formed refs_held
without_sound ids st d =
    let m : Metadata = st.metadata in
    let l : List Snapshot = other_snapshots ids m.snapshots in
    let r : List NamedRef = keep (points_in l) m.refs in
    let f : refs_formed r ≡ true = table_keep ref_room ref_formed ref_below (points_in l) m.refs d.refs in
    let g : snapshots_formed l ≡ true = table_keep snapshot_room snapshot_formed snapshot_below (λ s. not (is_in ids s.id)) m.snapshots d.snapshots in
    let c : Sound (with_refs r m) = with_refs_lem m d r f (all_keep (points_in m.snapshots) (points_in l) m.refs d.refs_held) in
    with_snapshots_lem (with_refs r m) c l g (all_kept (points_in l) m.refs)

pub remove_snapshots_sound : (ids : List ℤ) (st : State) → Sound st.metadata → Sound (remove_snapshots ids st).metadata
unfolding remove_snapshots
remove_snapshots_sound ids st d = by_test SoundState (is_empty (held_snapshots ids st.metadata.snapshots)) (λ e. without_sound ids st d) (λ e. without_sound ids st d)
