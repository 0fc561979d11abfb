-- An addition of a snapshot, by itself or as the first half of a branch commit, decided: a refusal, or one snapshot and one entry more.
use Prim.Native.Nat.{ℕ, ◌+◌, ◌-◌, ◌≤◌, ◌<◌}
use native.Mathlib.Omega.{arith}
use mathlib.Core.Path.{◌≡◌, refl, sym, ap, subst, ◌∙◌}
use mathlib.Core.Bool.{Bool, true, false, cond, ◌&&◌, ◌||◌, true≢false}
use mathlib.Core.List.{List, [], ◌∷◌, ◌++◌, map-append}
use lib.Dec.{eqb}
use lib.IntN.{ℤ, pos}
use lib.ListN.{length, drop, take, set, length-map}
use borrow.Author.Tests.{eqb-true}
use borrow.Table.Steps.{cases}
use Rattle.records.specs.declared.snapshot.Snapshot.{Snapshot}
use Rattle.records.specs.declared.snapshot.Snapshots.{Snapshots}
use Rattle.records.specs.declared.update.TableUpdate.{TableUpdate}
use Rattle.rules.specs.Words.{first_of, put}
use Rattle.rules.specs.Replies.{commit_on_tag}
use Rattle.rules.specs.Register as plain
use Rattle.rules.specs.Register.{Update, State}
use Rattle.rules.specs.Register.Update.{AddSnapshot, SetBranchSnapshot}
use Rattle.rules.specs.WellFormed.{update_formed, snapshot_formed, name_formed, snapshot_below, holds_snapshot}
use Rattle.rules.specs.SnapshotUpdates.{add_snapshot_checks, add_snapshot}
use Rattle.rules.specs.RefUpdates.{is_tag, committed, set_ref_checks, set_branch_snapshot_checks, set_branch_snapshot}
use Rattle.rules.specs.Updates.{offers_formed, checks, offer_checks, effect}
use Rattle.rules.specs.Others.{is_others}
use Rattle.rules.specs.Run.{weight}
use Rattle.rules.specs.Layout.{pad, read_snapshot, laid_snapshot, read_snapshots, laid_snapshots, read_refs}
use Rattle.rules.specs.Kinds.{read_update, read_updates, add_snapshot_kind, set_branch_snapshot_kind}
use Rattle.rules.proofs.Checks.{and_right, by_either, first_before, first_after}
use Rattle.rules.proofs.Slots.Reread.{reread_snapshots}
use Rattle.rules.proofs.Tables.{put_length}
use Rattle.rules.proofs.Sound.Snapshots.{add_room, add_new, add_snapshot_numbered, add_snapshot_sound}
use Rattle.tables.specs.Laid.{LaidSnapshots}
use Rattle.tables.proofs.Each.{tidy_snapshots, made_snapshots}
use Rattle.tables.proofs.Push.{pushed_one}
use Rattle.builder.specs.declared.decision.Decision.{Decision}
use Rattle.builder.specs.Pieces.{laid_builder, ids_of, is_above}
use Rattle.snapshot_updates.specs.Snapshots.{SnapshotDecided}
use Rattle.snapshot_updates.proofs.Last.{put_last_lem}
use Rattle.start.proofs.Reading.{read_add_snapshot, read_set_branch_snapshot}
use Rattle.refinement.specs.Standing.{Given, terms_of, Pieces, with_builder, with_addition, stored, Tables, Represents, Passes, Standing}
use Rattle.refinement.specs.Turns.{update_at, name_at, Midway, Decided}
use Rattle.refinement.proofs.Effects.{Moves, add_moves}
use Rattle.refinement.proofs.Logged.{one_more_lem, push_addition}
use Rattle.refinement.proofs.Moving.{listed, fits, next, check_refused, accepted}
use Rattle.refinement.proofs.Beginning.{read_snapshots_lem, read_refs_lem, laid_snapshots_lem, snapshots_ascend}
use Rattle.refinement.proofs.Closed.{held_ids_lem, held_count}
use Rattle.refinement.proofs.Deciding.{whole, entry_room}
use Rattle.refinement.proofs.Removing.{laid_of}

-- ---- the table after it

module _ {g : Given} {st : State} {p : Pieces} (E : Represents g st p) (x : Snapshot) (back : laid_snapshot (read_snapshot x) ≡ x) (n : first_of (add_snapshot_checks (terms_of g).tolerance (read_snapshot x) st) ≡ 0) where
  pub has_room : p.held.snapshots.count < 64
  has_room = omega (arith, add_room (terms_of g).tolerance (read_snapshot x) st n, held_count E)

  -- above the last: the snapshot and its id are stored behind the others
  module _ (l : is_above (take p.held.snapshots.count p.held.ids) x.snapshot_id.0 ≡ true) where
    at_the_end : put snapshot_below (read_snapshot x) st.metadata.snapshots ≡ st.metadata.snapshots ++ (read_snapshot x ∷ [])
    at_the_end = put_last_lem (read_snapshot x) st.metadata.snapshots (rw (read_snapshots_lem E) at (snapshots_ascend E)) (rw (held_ids_lem E) at l)

    pub stored_last : (t : Snapshots) → t.items ≡ set p.held.snapshots.items p.held.snapshots.count x → t.count ≡ p.held.snapshots.count + 1 → t ≡ laid_snapshots (put snapshot_below (read_snapshot x) st.metadata.snapshots)
    stored_last t a b = pushed_one made_snapshots (tidy_snapshots (laid_snapshots_lem E)) x has_room back a b ∙ ap laid_snapshots (ap (λ (z : List plain.Snapshot). z ++ (read_snapshot x ∷ [])) (read_snapshots_lem E) ∙ sym at_the_end)

    pub id_last : {j : ℤ} → j ≡ x.snapshot_id.0 → set p.held.ids p.held.snapshots.count j ≡ pad 64 (pos 0) (ids_of (put snapshot_below (read_snapshot x) st.metadata.snapshots))
    id_last q =
        let z : List plain.Snapshot = st.metadata.snapshots in
        let j : length (ids_of z) ≡ length z = length-map z (λ (y : plain.Snapshot). y.id) in
        rw q (one_more_lem (pos 0) (ids_of z) (ids_of (put snapshot_below (read_snapshot x) z)) x.snapshot_id.0 E.tables.ids (held_count E ∙ sym j) (omega (arith, add_room (terms_of g).tolerance (read_snapshot x) st n)) (ap ids_of at_the_end ∙ map-append (λ (y : plain.Snapshot). y.id) z (read_snapshot x ∷ [])))

  -- otherwise it is put in its place
  pub put_new : holds_snapshot (read_snapshots p.held.snapshots) x.snapshot_id.0 ≡ false
  put_new = rw (read_snapshots_lem E) (add_new (terms_of g).tolerance (read_snapshot x) st n)

  module _ {t : Snapshots} (q : t ≡ laid_snapshots (put snapshot_below (read_snapshot x) (read_snapshots p.held.snapshots))) where
    pub put_laid : LaidSnapshots t
    put_laid = laid_of (put snapshot_below (read_snapshot x) (read_snapshots p.held.snapshots)) (rw (read_snapshots_lem E) (omega (arith, put_length snapshot_below (read_snapshot x) st.metadata.snapshots, add_room (terms_of g).tolerance (read_snapshot x) st n))) q

    pub put_tables : t ≡ laid_snapshots (put snapshot_below (read_snapshot x) st.metadata.snapshots)
    put_tables = rw (read_snapshots_lem E) at q

    pub put_ids : {js : List ℤ} → js ≡ pad 64 (pos 0) (ids_of (read_snapshots t)) → js ≡ pad 64 (pos 0) (ids_of (put snapshot_below (read_snapshot x) st.metadata.snapshots))
    put_ids w = rw (put_tables, reread_snapshots (put snapshot_below (read_snapshot x) st.metadata.snapshots)) at w

-- ---- the addition

-- the pieces with one snapshot more
abbrev pub grown : Snapshots → List ℤ → ℤ → Pieces → Pieces
grown t is id p =
    record {
      held = record { builder = p.held.builder; snapshots = t; ids = is; refs = p.held.refs; log = p.held.log; last = p.held.last; own_tables = p.held.own_tables };
      changes = with_addition id p.changes;
    }

-- a number that is 0 is no 13
pub untagged : (t : Bool) (n : ℕ) → cond t commit_on_tag n ≡ 0 → (t ≡ false) × (n ≡ 0)
untagged true n e = absurd (let y : ◌≡◌ {A = ℕ} 13 0 = e in omega arith)
untagged false n e = (refl, e)

module _ {g : Given} {i : ℕ} {p : Pieces} (S : Standing g i p) (v : Update) (at : drop i (read_updates g.updates) ≡ v ∷ drop (i + 1) (read_updates g.updates)) (one : 1 ≤ weight v) (e : Passes g.terms.office v S.state) (x : plain.Snapshot) where
  -- the tables after it: the snapshots grow, the builder is the new state's, the others stay
  tables : {b : _} {t : Snapshots} {is : List ℤ} → b ≡ laid_builder (add_snapshot x S.state) → t ≡ laid_snapshots (put snapshot_below x S.state.metadata.snapshots) → is ≡ pad 64 (pos 0) (ids_of (put snapshot_below x S.state.metadata.snapshots))
      → (id : ℤ) → Tables (add_snapshot x S.state) (with_builder b (grown t is id p).held)
  unfolding add_snapshot
  tables a b c id = let T = S.stands.tables in record { builder = a; snapshots = b; ids = c; refs = T.refs; log = T.log; last = T.last; own_tables = T.own_tables }

  -- a check that fails
  refused_decided : (half : Bool) {d : Decision} → d.number ≡ first_of (offer_checks (terms_of g) v S.state) → (d.number ≡ 0 → ⊥) → Decided g i half p d
  refused_decided half n z = record { refuses = λ y. check_refused S v at e n z; room = λ y. entry_room S v at one; logs = λ y t. absurd (z y); stays = λ y t. absurd (z y) }

  module _ (w : v ≡ AddSnapshot x) {d : Decision} (D : SnapshotDecided false (terms_of g).tolerance x S.state d) where
    number : d.number ≡ first_of (offer_checks (terms_of g) v S.state)
    unfolding checks offers_formed
    number = rw w D.number

    pub addition_refused : (half : Bool) → (d.number ≡ 0 → ⊥) → Decided g i half p d
    addition_refused half z = refused_decided half number z

    pub addition_decided : d.number ≡ 0 → {t : Snapshots} {is : List ℤ} {id : ℤ} → t ≡ laid_snapshots (put snapshot_below x S.state.metadata.snapshots) → is ≡ pad 64 (pos 0) (ids_of (put snapshot_below x S.state.metadata.snapshots)) → id ≡ x.id → Decided g i false (grown t is id p) d
    unfolding effect add_snapshot
    addition_decided z {id = id} a b c =
        record {
          refuses = λ y. absurd (y z);
          room = λ y. entry_room S v at one;
          logs = λ y t. whole (next S v at (accepted S v at e number z) (rw w (tables (D.builder z) a b id)) (rw (w, c) (push_addition S.stands.logs (omega (arith, fits S v at)) x D.entry)));
          stays = λ y f. absurd (true≢false (sym D.logs ∙ f));
        }

  module _ (w : v ≡ SetBranchSnapshot (name_at g i) x) (u : x ≡ read_snapshot (update_at g i).snapshots.added) (five : (update_at g i).kind ≡ set_branch_snapshot_kind) (f : update_formed (read_update (update_at g i)) ≡ true) {d : Decision} {t : Bool} (tag : t ≡ is_tag (name_at g i) S.state.metadata.refs) (D : SnapshotDecided t (terms_of g).tolerance x S.state d) where
    pub commit_refused : (half : Bool) → (d.number ≡ 0 → ⊥) → Decided g i half p d
    unfolding checks offers_formed set_branch_snapshot_checks
    commit_refused half z =
        refused_decided half (
        D.number
        ∙ rw (w, ← tag) (cases t (λ y. rw y) (λ f. rw f (sym (first_before (add_snapshot_checks (terms_of g).tolerance x S.state) _ (λ k. z (D.number ∙ rw f k))))))
        ) z

    module _ (z : d.number ≡ 0) where
      no_tag : is_tag (name_at g i) S.state.metadata.refs ≡ false
      no_tag = sym tag ∙ (untagged t (first_of (add_snapshot_checks (terms_of g).tolerance x S.state)) (sym D.number ∙ z)).0

      adds : first_of (add_snapshot_checks (terms_of g).tolerance x S.state) ≡ 0
      adds = (untagged t (first_of (add_snapshot_checks (terms_of g).tolerance x S.state)) (sym D.number ∙ z)).1

      wanted : plain.Reference
      wanted = committed (name_at g i) x.id S.state.metadata.refs

      -- the checks of the commit are those of setting its ref, once its snapshot is added
      then : first_of (offer_checks (terms_of g) v S.state) ≡ first_of (set_ref_checks (name_at g i) wanted (add_snapshot x S.state))
      unfolding checks offers_formed set_branch_snapshot_checks wanted
      then = rw (w, no_tag) (first_after (add_snapshot_checks (terms_of g).tolerance x S.state) _ (add_snapshot_numbered (terms_of g).tolerance x S.state) adds)

      midway : {s : Snapshots} {is : List ℤ} {id : ℤ} → s ≡ laid_snapshots (put snapshot_below x S.state.metadata.snapshots) → is ≡ pad 64 (pos 0) (ids_of (put snapshot_below x S.state.metadata.snapshots)) → id ≡ x.id → Midway g i (stored d (grown s is id p))
      unfolding effect set_branch_snapshot add_snapshot update_formed is_others wanted
      midway {id = id} a b c =
          let two : length S.state.log + 2 ≤ 64 = rw w at (fits S v at) in
          let M : Moves 1 S.state (add_snapshot x S.state) = add_moves x S.state in
          let F : snapshot_formed x ≡ true = and_right (name_formed (name_at g i)) _ (rw w at e.formed) in
          let K = S.stands.since in
          record {
            state = add_snapshot x S.state;
            stands = record {
              sound = add_snapshot_sound (terms_of g).tolerance x S.state F adds S.stands.sound;
              since = record { files = K.files; old = K.old; back = K.back; short = K.short; shared = K.shared };
              tables = tables (D.builder z) a b id;
              logs = rw c (push_addition S.stands.logs (omega arith) x D.entry);
              room = omega (arith, M.light);
            };
            more = omega (arith, M.light);
            own = rw w at e.own;
            wanted = wanted;
            asks = rw (five, u);
            refuses = λ k y. check_refused S v at e (k ∙ sym then) y;
            goes = λ k T L. next S v at (accepted S v at e {n = 0} (sym (then ∙ k)) refl) (rw w T) (rw w L);
          }

      pub commit_decided : {s : Snapshots} {is : List ℤ} {id : ℤ} → s ≡ laid_snapshots (put snapshot_below x S.state.metadata.snapshots) → is ≡ pad 64 (pos 0) (ids_of (put snapshot_below x S.state.metadata.snapshots)) → id ≡ x.id → Decided g i true (grown s is id p) d
      commit_decided a b c =
          record {
            refuses = λ y. absurd (y z);
            room = λ y. entry_room S v at one;
            logs = λ y k. record { whole = λ f. absurd (true≢false f); midway = λ _. midway a b c; commit = λ _. (five, listed g i at, f) };
            stays = λ y f. absurd (true≢false (sym D.logs ∙ f));
          }

-- ---- either of the two, of the update at a place

module _ {g : Given} {i : ℕ} {p : Pieces} (S : Standing g i p) (at : drop i (read_updates g.updates) ≡ read_update (update_at g i) ∷ drop (i + 1) (read_updates g.updates)) (one : 1 ≤ weight (read_update (update_at g i))) (e : Passes g.terms.office (read_update (update_at g i)) S.state)
    (k : (eqb (update_at g i).kind 4 || eqb (update_at g i).kind 5) ≡ true) {t : Bool} (tag : t ≡ (eqb (update_at g i).kind 5 && is_tag (name_at g i) (read_refs p.held.refs))) {d : Decision} (D : SnapshotDecided t (terms_of g).tolerance (read_snapshot (update_at g i).snapshots.added) S.state d) where
  abbrev u : TableUpdate
  u = update_at g i

  by_itself : u.kind ≡ add_snapshot_kind → SnapshotDecided false (terms_of g).tolerance (read_snapshot u.snapshots.added) S.state d
  by_itself q = subst (λ (x : Bool). SnapshotDecided x (terms_of g).tolerance (read_snapshot u.snapshots.added) S.state d) (tag ∙ rw q) D

  tagged : u.kind ≡ set_branch_snapshot_kind → t ≡ is_tag (name_at g i) S.state.metadata.refs
  tagged q = tag ∙ rw (q, read_refs_lem S.stands)

  pub add_refused : (half : Bool) → (d.number ≡ 0 → ⊥) → Decided g i half p d
  add_refused half z =
      by_either (eqb u.kind add_snapshot_kind) (eqb u.kind set_branch_snapshot_kind)
      (λ a. let q = eqb-true u.kind add_snapshot_kind a in addition_refused S (read_update u) at one e (read_snapshot u.snapshots.added) (read_add_snapshot u e.formed q) (by_itself q) half z)
      (λ a. let q = eqb-true u.kind set_branch_snapshot_kind a in commit_refused S (read_update u) at one e (read_snapshot u.snapshots.added) (read_set_branch_snapshot u e.formed q) refl q e.formed (tagged q) D half z)
      k

  -- its checks pass where it is decided with 0
  pub adds_fine : d.number ≡ 0 → first_of (add_snapshot_checks (terms_of g).tolerance (read_snapshot u.snapshots.added) S.state) ≡ 0
  adds_fine z = (untagged t (first_of (add_snapshot_checks (terms_of g).tolerance (read_snapshot u.snapshots.added) S.state)) (sym D.number ∙ z)).1

  pub add_decided : d.number ≡ 0 → {s : Snapshots} {is : List ℤ} {id : ℤ} → s ≡ laid_snapshots (put snapshot_below (read_snapshot u.snapshots.added) S.state.metadata.snapshots) → is ≡ pad 64 (pos 0) (ids_of (put snapshot_below (read_snapshot u.snapshots.added) S.state.metadata.snapshots)) → id ≡ u.snapshots.added.snapshot_id.0 → Decided g i (eqb u.kind set_branch_snapshot_kind) (grown s is id p) d
  add_decided z a b c =
      by_either (eqb u.kind add_snapshot_kind) (eqb u.kind set_branch_snapshot_kind)
      (λ y. let q = eqb-true u.kind add_snapshot_kind y in rw q (addition_decided S (read_update u) at one e (read_snapshot u.snapshots.added) (read_add_snapshot u e.formed q) (by_itself q) z a b c))
      (λ y. let q = eqb-true u.kind set_branch_snapshot_kind y in rw q (commit_decided S (read_update u) at one e (read_snapshot u.snapshots.added) (read_set_branch_snapshot u e.formed q) refl q e.formed (tagged q) D z a b c))
      k
