-- A ref that is set, by itself or as the second half of a branch commit, decided: a refusal, nothing, or one ref and one entry more.
use Prim.Native.Nat.{ℕ, ◌+◌, ◌≤◌, ◌<◌}
use native.Mathlib.Omega.{arith}
use mathlib.Core.Path.{◌≡◌, refl, sym, ap, subst, ◌∙◌}
use mathlib.Core.Bool.{Bool, true, false, cond, not, ◌&&◌, true≢false}
use mathlib.Core.List.{List, [], ◌∷◌, ◌++◌}
use mathlib.Core.Option.{some}
use lib.Dec.{leb, ltb, eqb}
use lib.IntN.{ℤ}
use lib.ListN.{length, drop, take, set, get_or}
use borrow.Author.Tests.{leb-false, ltb-true, lt-ltb, not-true, not-false, eq-eqb, eqb-true}
use Rattle.records.specs.declared.counters.Time.{Time}
use Rattle.records.specs.declared.snapshot.Snapshot.{Snapshot}
use Rattle.records.specs.declared.snapshot.SnapshotLog.{SnapshotLog}
use Rattle.records.specs.declared.snapshot.SnapshotLogEntry.{SnapshotLogEntry}
use Rattle.records.specs.declared.reference.Refs.{Refs}
use Rattle.records.specs.declared.update.TableUpdate.{TableUpdate}
use Rattle.rules.specs.Words.{eq_z, is_some, first_of, put, or_else}
use Rattle.rules.specs.Replies.{snapshot_not_held, table_full}
use Rattle.rules.specs.Capacities.{ref_room, snapshot_log_room}
use Rattle.rules.specs.Names.{is_main}
use Rattle.rules.specs.Register as plain
use Rattle.rules.specs.Register.{Update, State}
use Rattle.rules.specs.Register.Update.{SetRef}
use Rattle.rules.specs.WellFormed.{ref_below, has_snapshot, holds_snapshot}
use Rattle.rules.specs.ChangeLog.{logs_addition}
use Rattle.rules.specs.RefUpdates.{ref_named, is_held_ref, set_ref_checks, set_ref, time_of, own_after, owner_after}
use Rattle.rules.specs.Updates.{offers_formed, checks, effect}
use Rattle.rules.specs.Others.{is_others}
use Rattle.rules.specs.Run.{weight}
use Rattle.rules.specs.Layout.{given, read_reference, laid_reference, read_refs, laid_refs, read_snapshot, read_snapshots, laid_log_entry, laid_snapshot_log}
use Rattle.rules.specs.Kinds.{read_updates, laid_update, set_ref_kind}
use Rattle.rules.proofs.Checks.{and_left, and_right, passed_unless}
use Rattle.rules.proofs.Slots.Reread.{reread_ref_name, reread_reference}
use Rattle.search.specs.Places.{index_of}
use Rattle.tables.specs.Laid.{owned_ref}
use Rattle.tables.proofs.Table.{at, read_length}
use Rattle.tables.proofs.Each.{tidy_snapshots, tidy_snapshot_log, made_snapshot_log}
use Rattle.tables.proofs.Push.{pushed_one}
use Rattle.builder.specs.declared.builder.TableMetadataBuilder.{TableMetadataBuilder}
use Rattle.builder.specs.declared.decision.Decision.{Decision}
use Rattle.builder.specs.Pieces.{laid_builder, last_time}
use Rattle.search.proofs.Places.{index_below, first_at}
use Rattle.builder.proofs.Positions.{snapshot_place, snapshot_found}
use Rattle.ref_updates.specs.Refs.{Faced, RefSet, RefDecided}
use Rattle.close.proofs.Scans.{last_added_lem}
use Rattle.close.specs.Facts.{additions}
use Rattle.refinement.specs.Standing.{Given, terms_of, Pieces, with_main, Represents, Passes, Standing}
use Rattle.refinement.specs.Turns.{update_at, name_at, Midway, Decided}
use Rattle.refinement.proofs.Logged.{push_quiet, push_main, logs_addition_lem}
use Rattle.refinement.proofs.Moving.{fits, next, check_refused, accepted}
use Rattle.refinement.proofs.Beginning.{read_snapshots_lem, read_refs_lem, read_log, laid_snapshots_lem, laid_log}
use Rattle.refinement.proofs.Closed.{held_ids_lem, held_count, added_ids}
use Rattle.refinement.proofs.Deciding.{whole, tabled}

-- ---- what a set ref is handed

module _ {g : Given} {st : State} {p : Pieces} (E : Represents g st p) where
  -- the log has its addition exactly if its id stands among those added
  is_logged_lem : (id : ℤ) {v : ℕ} → v ≡ index_of (λ z. eq_z z id) (take p.changes.adds p.changes.added) → ltb v p.changes.adds ≡ logs_addition st.log id
  is_logged_lem id e = rw (e, added_ids E, E.logs.adds) (index_below (λ z. eq_z z id) (additions st.log) ∙ logs_addition_lem id st.log)

  module _ (id : ℤ) {j : ℕ} (q : j ≡ index_of (λ z. eq_z z id) (take p.held.snapshots.count p.held.ids)) where
    is_there_lem : ltb j p.held.snapshots.count ≡ holds_snapshot st.metadata.snapshots id
    is_there_lem = rw (q, held_ids_lem E, held_count E) (snapshot_found id st.metadata.snapshots)

    time_at : j < p.held.snapshots.count → (d : Snapshot) → time_of id st.metadata.snapshots ≡ some (get_or p.held.snapshots.items j d).timestamp_ms.0
    time_at h d =
        let t = p.held.snapshots in
        let T = tidy_snapshots (laid_snapshots_lem E) in
        let k : j ≡ index_of (has_snapshot id) (read_snapshots t) = rw (q, held_ids_lem E, read_snapshots_lem E) (snapshot_place id st.metadata.snapshots) in
        let l : ltb (index_of (has_snapshot id) (read_snapshots t)) (length (read_snapshots t)) ≡ true = rw (← k, read_length T) (lt-ltb j t.count h) in
        rw (← (read_snapshots_lem E), time_of, first_at (has_snapshot id) (read_snapshot d) (read_snapshots t), l, ← k, at T j d h)

  log_long : p.held.log.count ≡ length st.metadata.snapshot_log
  log_long = sym (ap length (sym (read_log E)) ∙ read_length (tidy_snapshot_log (laid_log E)))

  pub faced : (w : plain.Reference) {j v : ℕ} → j ≡ index_of (λ z. eq_z z w.snapshot) (take p.held.snapshots.count p.held.ids) → v ≡ index_of (λ z. eq_z z w.snapshot) (take p.changes.adds p.changes.added)
      → (d : Snapshot) {time : Time} → (j < p.held.snapshots.count → time ≡ (get_or p.held.snapshots.items j d).timestamp_ms)
      → Faced (terms_of g) st w p.held.builder p.held.refs (ltb j p.held.snapshots.count) (ltb v p.changes.adds) time p.held.log.count g.terms.clock_ms
  faced w {j} q a d {time} t =
      record {
        builder = E.tables.builder;
        refs = E.tables.refs;
        snapshot = is_there_lem w.snapshot q;
        own = λ h.
            let l : j < p.held.snapshots.count = ltb-true j p.held.snapshots.count h in
            let k : time_of w.snapshot st.metadata.snapshots ≡ some time.0 = time_at w.snapshot q l d ∙ ap (λ (x : Time). some x.0) (sym (t l)) in
            rw (is_logged_lem w.snapshot a, k);
        log = log_long;
        now = refl;
      }

-- ---- a ref by itself

pub set_midway : {g : Given} {i : ℕ} {p : Pieces} (S : Standing g i p) (v : Update) (at : drop i (read_updates g.updates) ≡ v ∷ drop (i + 1) (read_updates g.updates)) (one : 1 ≤ weight v) (e : Passes g.terms.office v S.state)
    → v ≡ SetRef (name_at g i) (read_reference (update_at g i).refs.reference) → (update_at g i).kind ≡ set_ref_kind → Midway g i p
unfolding checks offers_formed effect is_others
set_midway {g} {i} S v at one e q k =
    record {
      state = S.state;
      stands = S.stands;
      more = omega (arith, fits S v at);
      own = rw q at e.own;
      wanted = read_reference (update_at g i).refs.reference;
      asks = rw k;
      refuses = λ n y. check_refused S v at e (rw q n) y;
      goes = λ n T L. next S v at (accepted S v at e {n = 0} (rw q (sym n)) refl) (rw q T) (rw q L);
    }

-- ---- the decision

-- what a decision of the update at a place says of the ref that is wanted
pub set_decides : {g : Given} {i : ℕ} {p : Pieces} (W : Midway g i p) {b : TableMetadataBuilder} {t : Refs} {held is_added : Bool} {time : Time} {entries : ℕ} {clock : Time} {d : Decision} → RefDecided b t held is_added time entries clock (update_at g i) d → Faced (terms_of g) W.state W.wanted b t held is_added time entries clock → RefSet (terms_of g) W.state (name_at g i) W.wanted d
set_decides {g} {i} W {b} {t} {held} {is_added} {time} {entries} {clock} {d} R F =
    subst (λ (w : plain.Reference). RefSet (terms_of g) W.state (name_at g i) w d) (sym W.asks)
    (R.answers (terms_of g) W.state (subst (λ (w : plain.Reference). Faced (terms_of g) W.state w b t held is_added time entries clock) W.asks F))

-- the pieces after `main` was set
abbrev pub with_main_set : Refs → SnapshotLog → Time → ℤ → Pieces → Pieces
with_main_set r h last id p =
    record {
      held = record { builder = p.held.builder; snapshots = p.held.snapshots; ids = p.held.ids; refs = r; log = h; last = last; own_tables = p.held.own_tables };
      changes = with_main id p.changes;
    }

module _ {g : Given} {i : ℕ} {p : Pieces} (W : Midway g i p) {d : Decision} (D : RefSet (terms_of g) W.state (name_at g i) W.wanted d) where
  abbrev name : List ℕ
  name = name_at g i

  abbrev w : plain.Reference
  w = W.wanted

  room : p.changes.count < 64
  room = omega (arith, W.more, W.stands.logs.count)

  -- the snapshot log has room for the entry of `main`
  pub main_room : d.grows ≡ true → is_main name ≡ true → p.held.log.count < 128
  unfolding set_ref_checks
  main_room t m =
      let a = sym D.grows ∙ t in
      let z : d.number ≡ 0 = eqb-true d.number 0 (and_right d.logs (eqb d.number 0) a) in
      let y = not-true (is_held_ref name w W.state.metadata.refs) (sym D.logs ∙ and_left d.logs (eqb d.number 0) a) in
      let k = passed_unless (is_held_ref name w W.state.metadata.refs) ((not (holds_snapshot W.state.metadata.snapshots w.snapshot), snapshot_not_held) ∷ (not (is_some (ref_named name W.state.metadata.refs)) && leb ref_room (length W.state.metadata.refs), table_full) ∷ (is_main name && leb snapshot_log_room (length W.state.metadata.snapshot_log), table_full) ∷ []) refl y (sym D.number ∙ z) in
      omega (arith, log_long W.stands, leb-false snapshot_log_room (length W.state.metadata.snapshot_log) (rw m at k.1.1.0))

  fine : d.number ≡ 0 → first_of (set_ref_checks name w W.state) ≡ 0
  fine z = sym D.number ∙ z

  other : d.logs ≡ true → is_held_ref name w W.state.metadata.refs ≡ false
  other t = not-true (is_held_ref name w W.state.metadata.refs) (sym D.logs ∙ t)

  grows : d.number ≡ 0 → d.logs ≡ true → d.grows ≡ true
  grows z t = D.grows ∙ rw (t, eq-eqb d.number 0 z)

  -- the refs after it
  module _ {r : Refs} (q : r ≡ cond d.grows (laid_refs (put ref_below (owned_ref g.terms.office d.entry.refs (read_refs p.held.refs)) (read_refs p.held.refs))) p.held.refs) where
    refs_after : d.grows ≡ true → r ≡ laid_refs (put ref_below (record { name = name; owner = owner_after g.terms.office name W.state.metadata.refs; reference = w }) W.state.metadata.refs)
    unfolding laid_update
    refs_after t =
        let l : List plain.NamedRef = W.state.metadata.refs in
        let n : owned_ref g.terms.office d.entry.refs l ≡ record { name = name; owner = owner_after g.terms.office name l; reference = w } =
        ap (λ (e : TableUpdate). owned_ref g.terms.office e.refs l) D.entry
        ∙ (λ i. record { name = reread_ref_name name i; owner = owner_after g.terms.office (reread_ref_name name i) l; reference = reread_reference w i }) in
        q ∙ rw (t, read_refs_lem W.stands, n)

    pub other_decided : (d.grows && is_main name) ≡ false → Decided g i false (tabled r p.held.own_tables p) d
    unfolding set_ref_checks set_ref
    other_decided m =
        let T = W.stands.tables in
        record {
          refuses = λ z. W.refuses D.number z;
          room = λ z. room;
          logs = λ z t.
              let y = other t in
              let f : is_main name ≡ false = rw (grows z t) at m in
              whole (W.goes (fine z)
              (record { builder = D.builder z t; snapshots = rw (y, f) T.snapshots; ids = rw (y, f) T.ids; refs = rw (y, f) (refs_after (grows z t)); log = rw (y, f) T.log; last = rw (y, f) T.last; own_tables = rw (y, f) T.own_tables })
              (rw (y, f) (push_quiet W.stands.logs W.more (SetRef name w) D.entry (record { adds = refl; sets = rw f; removes = refl }))));
          stays = λ z f.
              let y : is_held_ref name w W.state.metadata.refs ≡ true = not-false (is_held_ref name w W.state.metadata.refs) (sym D.logs ∙ f) in
              let k : d.grows ≡ false = D.grows ∙ rw f in
              whole (W.goes (fine z) (rw y (record { builder = T.builder; snapshots = T.snapshots; ids = T.ids; refs = q ∙ rw k T.refs; log = T.log; last = T.last; own_tables = T.own_tables })) (rw y W.stands.logs));
        }

    module _ (t : d.grows ≡ true) (m : is_main name ≡ true) where
      accepts : (d.logs ≡ true) × (d.number ≡ 0)
      accepts = let k = sym D.grows ∙ t in (and_left d.logs (eqb d.number 0) k, eqb-true d.number 0 (and_right d.logs (eqb d.number 0) k))

      time : ℤ
      time = or_else (own_after w.snapshot W.state) (terms_of g).clock

      -- the entry of the snapshot log
      entry : record { snapshot_id = d.entry.refs.reference.snapshot_id; timestamp_ms = d.builder.own } ≡ laid_log_entry (record { snapshot = w.snapshot; time = time })
      unfolding set_ref laid_builder laid_update laid_reference time
      entry =
          let y = other accepts.0 in
          let b : d.builder ≡ laid_builder (set_ref (terms_of g) name w W.state) = D.builder accepts.1 accepts.0 in
          rw (b, D.entry, y, m)

      pub main_decided : {h : SnapshotLog} {e : SnapshotLogEntry} → e ≡ record { snapshot_id = d.entry.refs.reference.snapshot_id; timestamp_ms = d.builder.own } → p.held.log.count < 128 → h.items ≡ set p.held.log.items p.held.log.count e → h.count ≡ p.held.log.count + 1 → {id : ℤ} → id ≡ w.snapshot
          → Decided g i false (with_main_set r h e.timestamp_ms id p) d
      unfolding set_ref time
      main_decided {h} {e} a l b c v =
          let y = other accepts.0 in
          let T = W.stands.tables in
          let x : plain.LogEntry = record { snapshot = w.snapshot; time = time } in
          let k : e ≡ laid_log_entry x = a ∙ entry in
          let longer : h ≡ laid_snapshot_log (W.state.metadata.snapshot_log ++ (x ∷ [])) =
          pushed_one made_snapshot_log (tidy_snapshot_log (laid_log W.stands)) (laid_log_entry x) l refl (b ∙ ap (set p.held.log.items p.held.log.count) k) c
          ∙ ap laid_snapshot_log (ap (λ (z : List plain.LogEntry). z ++ (x ∷ [])) (read_log W.stands)) in
          let last : given (ltb 0 h.count) e.timestamp_ms.0 ≡ last_time (W.state.metadata.snapshot_log ++ (x ∷ [])) =
          rw (c, lt-ltb 0 (p.held.log.count + 1) (omega arith), last_time, last_added_lem W.state.metadata.snapshot_log x) (ap (λ (z : SnapshotLogEntry). some z.timestamp_ms.0) k) in
          record {
            refuses = λ z. absurd (z accepts.1);
            room = λ z. room;
            logs = λ z f.
                whole (W.goes (fine z)
                (record { builder = D.builder z f; snapshots = rw (y, m) T.snapshots; ids = rw (y, m) T.ids; refs = rw (y, m) (refs_after t); log = rw (y, m) longer; last = rw (y, m) last; own_tables = rw (y, m) T.own_tables })
                (rw (y, m, v) (push_main W.stands.logs W.more name w D.entry m)));
            stays = λ z f. absurd (true≢false (sym accepts.0 ∙ f));
          }
