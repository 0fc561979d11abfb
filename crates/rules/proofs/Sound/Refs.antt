-- Setting and removing refs and committing to a branch keeps metadata sound.
use Prim.Native.Nat.{ℕ, ◌<◌}
use mathlib.Core.Path.{◌≡◌, refl, sym, ◌∙◌}
use mathlib.Core.Bool.{Bool, true, false, cond, not, ◌&&◌, ◌||◌, false≢true, true≢false}
use mathlib.Core.List.{List, [], ◌∷◌, ◌++◌}
use mathlib.Core.Option.{Option, none, some}
use lib.Dec.{eqb, leb}
use lib.IntN.{ℤ}
use lib.Signed.{non_neg}
use lib.ListN.{length}
use borrow.Author.Tests.{eqb-true, leb-false, not-false}
use Rattle.rules.specs.Words.{is_some, if_some, or_else, some_with, all, keep, put, first_of, Check}
use Rattle.rules.specs.Replies.{commit_on_tag}
use Rattle.rules.specs.Capacities.{ref_room, snapshot_log_room}
use Rattle.rules.specs.Names.{is_main}
use Rattle.rules.specs.Offices.{first_office, is_office}
use Rattle.rules.specs.Register.{Snapshot, Reference, NamedRef, LogEntry, Metadata, Terms, State, with_snapshot_log, with_own, with_current}
use Rattle.rules.specs.WellFormed.{name_formed, kind_formed, retention_formed, reference_formed, owner_formed, ref_formed, snapshot_formed, ref_below, snapshot_log_formed, refs_formed, fields_formed, refs_held, points_in, holds_snapshot}
use Rattle.rules.specs.SnapshotUpdates.{add_snapshot_checks, add_snapshot}
use Rattle.rules.specs.RefUpdates.{has_name, ref_named, is_held_ref, set_ref_checks, own_after, as_main, owner_after, put_ref, set_ref, committed, is_tag, set_branch_snapshot_checks, set_branch_snapshot, without_ref, remove_ref}
use Rattle.rules.specs.Others.{is_second, is_others_ref, names_others}
use Rattle.rules.proofs.Checks.{by_test, both, and_right, neither, parts, whole, passed_unless, passed_before, passed_after}
use Rattle.rules.proofs.Orders.{names_ordered, names_told_lem}
use Rattle.rules.proofs.Tables.{all_keep, all_put, all_first, first_any, log_append, table_put, table_put_held, table_keep, table_parts_lem}
use Rattle.rules.proofs.Sound.Metadata.{Sound, SoundState, with_fields_lem, with_refs_lem, with_snapshot_log_lem}
use Rattle.rules.proofs.Sound.Snapshots.{add_snapshot_numbered, add_snapshot_sound}

-- ---- set ref

-- 19 leaves room in the snapshot log
as_main_sound : (clock id : ℤ) (st : State) → non_neg id ≡ true → length st.metadata.snapshot_log < snapshot_log_room → Sound st.metadata → Sound (as_main clock id st).metadata
unfolding fields_formed snapshot_log_formed
as_main_sound clock id st h r d =
    let m : Metadata = st.metadata in
    let e : LogEntry = record { snapshot = id; time = or_else st.own clock } in
    let l : List LogEntry = m.snapshot_log ++ (e ∷ []) in
    let f : snapshot_log_formed l ≡ true = log_append snapshot_log_room (λ (x : LogEntry). non_neg x.snapshot) m.snapshot_log e r h d.snapshot_log in
    with_fields_lem (with_snapshot_log l m) (with_snapshot_log_lem m d l f) (with_current (some id) m.fields) d.fields refl refl refl

-- a name that is held needs no room
put_ref_formed : (n : NamedRef) (l : List NamedRef) → ref_formed n ≡ true → (not (is_some (ref_named n.name l)) && leb ref_room (length l)) ≡ false → refs_formed l ≡ true → refs_formed (put ref_below n l) ≡ true
unfolding refs_formed
put_ref_formed n l f r h = go (is_some (ref_named n.name l)) refl
  where
    go : (b : Bool) → is_some (ref_named n.name l) ≡ b → refs_formed (put ref_below n l) ≡ true
    go true e = table_put_held names_ordered (λ (x : NamedRef). x.name) ref_room ref_formed names_told_lem n l (sym (first_any (has_name n.name) l) ∙ e) f h
    go false e = table_put names_ordered (λ (x : NamedRef). x.name) ref_room ref_formed n l (leb-false ref_room (length l) (rw e at r)) f h

-- ---- the owner

-- a name that the office may touch: not `main` for office 2, and not that of a ref of the other
pub names_own : (office : ℕ) (name : List ℕ) (m : Metadata) → names_others office name m ≡ false → (is_second office && is_main name ≡ false) × (some_with (is_others_ref office) (ref_named name m.refs) ≡ false)
names_own office name m n = neither (is_second office && is_main name) (some_with (is_others_ref office) (ref_named name m.refs)) n

-- it is held by no ref, or by one of the office's own: either way its ref is the office's
pub owner_is : (office : ℕ) (name : List ℕ) (m : Metadata) → names_others office name m ≡ false → owner_after office name m.refs ≡ office
owner_is office name m n = go (ref_named name m.refs) (names_own office name m n).1
  where
    go : (o : Option NamedRef) → some_with (is_others_ref office) o ≡ false → ◌≡◌ {A = ℕ} (elim o [ none ↦ office | some r ↦ r.owner ]) office
    go none e = refl
    go (some r) e = eqb-true r.owner office (not-false (eqb r.owner office) e)

-- office 2 sets no `main`, so the owner is well formed
owner_formed_lem : (office : ℕ) (name : List ℕ) (r : Reference) (m : Metadata) → is_office office ≡ true → names_others office name m ≡ false → owner_formed (record { name = name; owner = owner_after office name m.refs; reference = r }) ≡ true
owner_formed_lem office name r m o n =
    rw (owner_is office name m n) (go (eqb office first_office) (is_second office) (is_main name) o (names_own office name m n).0)
  where
    go : (one two main : Bool) → one || two ≡ true → two && main ≡ false → one || (two && not main) ≡ true
    go true two main o n = refl
    go false true true o n = absurd (true≢false n)
    go false true false o n = refl
    go false false main o n = absurd (false≢true o)

-- ---- a ref that takes effect

put_ref_sound : (office : ℕ) (name : List ℕ) (r : Reference) (st : State) → ref_formed (record { name = name; owner = owner_after office name st.metadata.refs; reference = r }) ≡ true
    → holds_snapshot st.metadata.snapshots r.snapshot ≡ true → (not (is_some (ref_named name st.metadata.refs)) && leb ref_room (length st.metadata.refs)) ≡ false
    → Sound st.metadata → Sound (put_ref office name r st).metadata
unfolding refs_held
put_ref_sound office name r st f h k d =
    let m : Metadata = st.metadata in
    let n : NamedRef = record { name = name; owner = owner_after office name m.refs; reference = r } in
    with_refs_lem m d (put ref_below n m.refs) (put_ref_formed n m.refs f k d.refs) (all_put ref_below (points_in m.snapshots) n m.refs h d.refs_held)

module _ (terms : Terms) (name : List ℕ) (r : Reference) (st : State) (o : is_office terms.office ≡ true) (n : names_others terms.office name st.metadata ≡ false)
    (f : name_formed name && reference_formed r ≡ true) (e : first_of (set_ref_checks name r st) ≡ 0) (d : Sound st.metadata) where
  taken_sound : is_held_ref name r st.metadata.refs ≡ false
      → Sound (put_ref terms.office name r (cond (is_main name) (as_main terms.clock r.snapshot (with_own (own_after r.snapshot st) st)) (with_own (own_after r.snapshot st) st))).metadata
  unfolding set_ref_checks
  taken_sound u =
      let k = passed_unless (is_held_ref name r st.metadata.refs) _ refl u e in
      let h : holds_snapshot st.metadata.snapshots r.snapshot ≡ true = not-false (holds_snapshot st.metadata.snapshots r.snapshot) k.0 in
      let i : non_neg r.snapshot ≡ true = (parts (non_neg r.snapshot) (kind_formed r ∷ retention_formed r ∷ []) (and_right (name_formed name) (reference_formed r) f)).0 in
      let own : State = with_own (own_after r.snapshot st) st in
      let room : is_main name ≡ true → length st.metadata.snapshot_log < snapshot_log_room = λ m. leb-false snapshot_log_room (length st.metadata.snapshot_log) (rw m at k.1.1.0) in
      let g : ref_formed (record { name = name; owner = owner_after terms.office name st.metadata.refs; reference = r }) ≡ true = both f (owner_formed_lem terms.office name r st.metadata o n) in
      by_test (λ (x : State). Sound (put_ref terms.office name r x).metadata) (is_main name)
      (λ m. put_ref_sound terms.office name r (as_main terms.clock r.snapshot own) g h k.1.0 (as_main_sound terms.clock r.snapshot own i (room m) d))
      (λ m. put_ref_sound terms.office name r own g h k.1.0 d)

  pub set_ref_sound : Sound (set_ref terms name r st).metadata
  unfolding set_ref
  set_ref_sound = by_test SoundState (is_held_ref name r st.metadata.refs) (λ u. d) taken_sound

-- ---- branch commit

-- a held ref with another snapshot
moved_formed : (id : ℤ) (r : Reference) → non_neg id ≡ true → reference_formed r ≡ true
    → reference_formed (record { snapshot = id; kind = r.kind; min_snapshots = r.min_snapshots; max_snapshot_age = r.max_snapshot_age; max_ref_age = r.max_ref_age }) ≡ true
moved_formed id r h k = whole (non_neg id) (kind_formed r ∷ retention_formed r ∷ []) (h, (parts (non_neg r.snapshot) (kind_formed r ∷ retention_formed r ∷ []) k).1)

pub committed_formed : (name : List ℕ) (id : ℤ) (l : List NamedRef) → non_neg id ≡ true → all ref_formed l ≡ true → reference_formed (committed name id l) ≡ true
committed_formed name id l h k = go (ref_named name l) refl (all_first ref_formed (has_name name) l k)
  where
    go : (o : Option NamedRef) → ref_named name l ≡ o → if_some ref_formed o ≡ true → reference_formed (committed name id l) ≡ true
    go none e f = rw (e, committed) (whole (non_neg id) (true ∷ true ∷ []) (h, (refl, (refl, tt))))
    go (some n) e f = rw (e, committed) (moved_formed id n.reference h (parts (name_formed n.name) (reference_formed n.reference ∷ owner_formed n ∷ []) f).1.0)

pub set_branch_snapshot_sound : (terms : Terms) (name : List ℕ) (s : Snapshot) (st : State) → is_office terms.office ≡ true → names_others terms.office name st.metadata ≡ false → name_formed name ≡ true → snapshot_formed s ≡ true → first_of (set_branch_snapshot_checks terms.tolerance name s st) ≡ 0
    → Sound st.metadata → Sound (set_branch_snapshot terms name s st).metadata
unfolding set_branch_snapshot set_branch_snapshot_checks add_snapshot refs_formed
set_branch_snapshot_sound terms name s st o others f h e d =
    let r : Reference = committed name s.id st.metadata.refs in
    let more : List Check = add_snapshot_checks terms.tolerance s st ++ set_ref_checks name r (add_snapshot s st) in
    let k : first_of more ≡ 0 = passed_after ((is_tag name st.metadata.refs, commit_on_tag) ∷ []) more refl e in
    let n : non_neg s.id ≡ true = (parts (non_neg s.id) (if_some non_neg s.parent ∷ non_neg s.sequence.0 ∷ []) h).0 in
    let c : reference_formed r ≡ true = committed_formed name s.id st.metadata.refs n (table_parts_lem ref_room ref_formed ref_below st.metadata.refs d.refs).1 in
    set_ref_sound terms name r (add_snapshot s st) o others (both f c)
    (passed_after (add_snapshot_checks terms.tolerance s st) (set_ref_checks name r (add_snapshot s st)) (add_snapshot_numbered terms.tolerance s st) k)
    (add_snapshot_sound terms.tolerance s st h (passed_before (add_snapshot_checks terms.tolerance s st) (set_ref_checks name r (add_snapshot s st)) k) d)

-- ---- remove ref

without_ref_sound : (name : List ℕ) (st : State) → Sound st.metadata → Sound (without_ref name st).metadata
unfolding refs_formed refs_held
without_ref_sound name st d =
    let m : Metadata = st.metadata in
    let p : NamedRef → Bool = λ r. not (has_name name r) in
    with_refs_lem m d (keep p m.refs) (table_keep ref_room ref_formed ref_below p m.refs d.refs) (all_keep (points_in m.snapshots) p m.refs d.refs_held)

pub remove_ref_sound : (name : List ℕ) (st : State) → Sound st.metadata → Sound (remove_ref name st).metadata
unfolding remove_ref fields_formed
remove_ref_sound name st d =
    let k : SoundState (without_ref name st) = without_ref_sound name st d in
    by_test SoundState (is_main name)
    (λ e. with_fields_lem (without_ref name st).metadata k (with_current none st.metadata.fields) d.fields refl refl refl)
    (λ e. by_test SoundState (is_some (ref_named name st.metadata.refs)) (λ f. k) (λ f. d))
