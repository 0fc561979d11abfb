-- The close: what it is told, and what its answer makes of the run.
use Prim.Native.Nat.{ℕ, ◌+◌, ◌-◌, ◌≤◌, ◌<◌}
use native.Mathlib.Omega.{arith}
use mathlib.Core.Path.{◌≡◌, refl, sym, ap, ◌∙◌}
use mathlib.Core.Bool.{Bool, true, cond, not, ◌&&◌, and-true, and-false}
use mathlib.Core.List.{List, ◌++◌}
use mathlib.Core.Option.{Option}
use lib.Dec.{ltb}
use lib.IntN.{ℤ, pos}
use lib.Signed.{lt_z}
use lib.ListN.{length, take, drop, length-map}
use borrow.Author.Tests.{ne_eqb, ltb-false}
use borrow.Table.Steps.{cases}
use Rattle.records.specs.declared.metadata.MetadataLog.{MetadataLog}
use Rattle.records.specs.declared.metadata.SingleFields.{SingleFields}
use Rattle.records.specs.declared.counters.Time.{Time}
use Rattle.records.specs.declared.schema.Schema.{Schema}
use Rattle.records.specs.declared.snapshot.Snapshots.{Snapshots}
use Rattle.records.specs.declared.run.Answer.{Answer}
use Rattle.rules.specs.Words.{ascending, first_of, or_else, Check}
use Rattle.rules.specs.Capacities.{metadata_log_room}
use Rattle.rules.specs.Register.{Update, State}
use Rattle.rules.specs.Register.Outcome.{Refused, Accepted}
use Rattle.rules.specs.WellFormed.{snapshot_below, metadata_log_formed, file_name_formed}
use Rattle.rules.specs.ChangeLog.{addition, logs_main, logs_removal, main_target}
use Rattle.rules.specs.Limit.{limit_of, is_number, after_plus}
use Rattle.rules.proofs.Checks.{by_test, passed}
use Rattle.rules.specs.Close.{staying, expired, close_checks, closed}
use Rattle.rules.specs.Others.{is_second}
use Rattle.rules.specs.Run.{close, closing_log}
use Rattle.rules.specs.Layout.{given, pad, laid_snapshots, laid_fields, laid_metadata, read_metadata_log, laid_metadata_log}
use Rattle.rules.specs.Kinds.{laid_updates}
use Rattle.rules.specs.Answer.{laid_outcome}
use Rattle.rules.proofs.Slots.Reread.{reread_fields}
use Rattle.rules.proofs.Tables.{log_fits_lem}
use Rattle.rules.specs.Register as plain
use Rattle.builder.specs.declared.builder.TableMetadataBuilder.{TableMetadataBuilder}
use Rattle.builder.specs.Pieces.{laid_builder, ids_of, IsCurrent}
use Rattle.builder.proofs.Positions.{ids_ascend}
use Rattle.builder.proofs.State.{its_own}
use Rattle.tables.specs.Laid.{LaidMetadataLog}
use Rattle.tables.proofs.Table.{within}
use Rattle.tables.proofs.Each.{tidy_metadata_log}
use Rattle.close.specs.declared.history.History.{History}
use Rattle.close.specs.Facts.{additions, Told}
use Rattle.close.specs.Answers.{HistoryOf, Handed, joining}
use Rattle.close.proofs.Join.{Filed, gone_within, stays, expires, stays_length}
use Rattle.refinement.specs.Standing.{Given, Pieces, Represents, terms_of}
use Rattle.refinement.proofs.Slots.{pad_length, pad_front, collect_length}
use Rattle.refinement.proofs.Beginning.{read_fields_lem, read_refs_lem, read_log, read_orders, read_specs, read_snapshots_lem, snapshots_fit, snapshots_ascend}

pub limit_least : (text : List ℕ) → 1 ≤ limit_of text
unfolding limit_of
limit_least text = by_test (λ (n : ℕ). 1 ≤ n) (is_number (after_plus text)) (λ e. omega arith) (λ e. omega arith)

-- a table of snapshots and their ids: the part of the ids that is lent
module _ (l : List plain.Snapshot) {t : Snapshots} {ids : List ℤ} (x : t ≡ laid_snapshots l) (y : ids ≡ pad 64 (pos 0) (ids_of l)) where
  counted : t.count ≡ length l
  unfolding laid_snapshots
  counted = ap (λ (z : Snapshots). z.count) x

  pub lent : take t.count ids ≡ ids_of l
  lent = rw (y, counted, ← (length-map l (λ (s : plain.Snapshot). s.id))) (pad_front (pos 0) 64 (ids_of l))

  pub lent_ascends : ascending snapshot_below l ≡ true → ascending lt_z (take t.count ids) ≡ true
  lent_ascends h = rw lent (ids_ascend l h)

  pub lent_within : length l ≤ 64 → t.count ≤ length ids
  lent_within h = omega (arith, counted, ap length y ∙ pad_length (pos 0) 64 (ids_of l) (omega (arith, length-map l (λ (s : plain.Snapshot). s.id))))

  pub lent_slice : t.count ≡ length (take t.count ids)
  lent_slice = counted ∙ sym (ap length lent ∙ length-map l (λ (s : plain.Snapshot). s.id))

module _ {g : Given} {st : State} {p : Pieces} (E : Represents g st p) where
  pub held_count : p.held.snapshots.count ≡ length st.metadata.snapshots
  held_count = counted st.metadata.snapshots E.tables.snapshots E.tables.ids

  pub held_fits : p.held.snapshots.count ≤ 64
  held_fits = omega (arith, held_count, snapshots_fit E)

  -- no more snapshots are added or become current than there are entries
  pub adds_most : p.changes.adds ≤ length st.log
  unfolding additions
  adds_most = omega (arith, E.logs.adds, collect_length addition st.log)

  pub mains_most : p.changes.mains ≤ length st.log
  unfolding logs_main
  mains_most = omega (arith, E.logs.mains, collect_length main_target st.log)

  adds_fit : p.changes.adds ≤ 64
  adds_fit = omega (arith, adds_most, E.room)

  mains_fit : p.changes.mains ≤ 64
  mains_fit = omega (arith, mains_most, E.room)

  pub held_ids_lem : take p.held.snapshots.count p.held.ids ≡ ids_of st.metadata.snapshots
  held_ids_lem = lent st.metadata.snapshots E.tables.snapshots E.tables.ids

  pub held_ascend : ascending lt_z (take p.held.snapshots.count p.held.ids) ≡ true
  held_ascend = lent_ascends st.metadata.snapshots E.tables.snapshots E.tables.ids (rw (read_snapshots_lem E) at (snapshots_ascend E))

  pub added_ids : take p.changes.adds p.changes.added ≡ additions st.log
  added_ids = rw (E.logs.added, E.logs.adds) (pad_front (pos 0) 64 (additions st.log))

  pub main_ids : take p.changes.mains p.changes.main_targets ≡ logs_main st.log
  main_ids = rw (E.logs.main_targets, E.logs.mains) (pad_front (pos 0) 64 (logs_main st.log))

  pub fields_laid : p.held.builder.fields ≡ laid_fields st.metadata.fields
  unfolding laid_builder
  fields_laid = ap (λ (x : TableMetadataBuilder). x.fields) E.tables.builder

  -- the close of the second office is told nothing of the change log, as if it were empty
  abbrev pub second : Bool
  second = is_second g.terms.office

  abbrev pub log : List Update
  log = closing_log (terms_of g) st

  abbrev pub closing_adds : ℕ
  closing_adds = cond second 0 p.changes.adds

  abbrev pub closing_mains : ℕ
  closing_mains = cond second 0 p.changes.mains

  closing_added : take closing_adds p.changes.added ≡ additions log
  unfolding additions
  closing_added = cases second (λ t. rw t) (λ f. rw f added_ids)

  closing_main : take closing_mains p.changes.main_targets ≡ logs_main log
  unfolding logs_main
  closing_main = cases second (λ t. rw t) (λ f. rw f main_ids)

  pub told : {adds mains : ℕ} {removes : Bool} → adds ≡ closing_adds → mains ≡ closing_mains → removes ≡ (p.changes.removal && not second)
      → Told log st.metadata p.held.log (take p.held.snapshots.count p.held.ids) p.held.builder.fields (take adds p.changes.added) (take mains p.changes.main_targets) removes
  unfolding logs_removal
  told a m r =
      record {
        history = read_log E;
        held = held_ids_lem;
        current = rw fields_laid (ap (λ (x : plain.SingleFields). x.current) (reread_fields st.metadata.fields));
        adds = rw a closing_added;
        sets = rw m closing_main;
        removes = r ∙ cases second (λ t. rw t (and-false p.changes.removal)) (λ f. rw f (and-true p.changes.removal ∙ E.logs.removal));
      }

  pub handed : (s : Schema) → IsCurrent st.metadata s → Handed st.metadata p.held.builder.fields p.held.refs s p.held.own_tables.orders p.held.own_tables.specs
  handed s c = record { single = read_fields_lem E; named = read_refs_lem E; current = c; sorts = read_orders E; partitions = read_specs E }

  pub files_laid : LaidMetadataLog g.metadata.metadata_log
  unfolding metadata_log_formed
  files_laid = record { back = E.since.back; fits = rw (← E.since.files) (log_fits_lem metadata_log_room (λ (e : plain.FileEntry). file_name_formed e.file) st.metadata.metadata_log E.sound.metadata_log) }

  abbrev pub checks : List Check
  checks = close_checks (terms_of g) log st.metadata

  pub files_fit : g.metadata.metadata_log.count ≤ 128
  files_fit = within (tidy_metadata_log files_laid)

  -- the metadata log, under the limit that is given, with so many gone
  module _ {limit gone : ℕ} (e : limit ≡ limit_of g.lent.text) (k : gone ≡ cond g.terms.has_file (g.metadata.metadata_log.count + 1) g.metadata.metadata_log.count - limit) where
    filed : Filed (terms_of g) st.metadata g.metadata.metadata_log g.terms g.metadata.fields.last_updated_ms limit
    filed = record { laid = files_laid; entries = sym E.since.files; name = refl; time = sym E.since.old; most = e; least = rw e (limit_least g.lent.text) }

    pub gone_fits : gone ≤ g.metadata.metadata_log.count
    gone_fits = rw k (gone_within filed)

    stays_count : length (staying (terms_of g) st.metadata) ≡ cond g.terms.has_file (g.metadata.metadata_log.count + 1) g.metadata.metadata_log.count - gone
    stays_count = rw k (stays_length filed)

    pub overfull_is : {b : Bool} → b ≡ ltb metadata_log_room (cond g.terms.has_file (g.metadata.metadata_log.count + 1) g.metadata.metadata_log.count - gone) → b ≡ ltb metadata_log_room (length (staying (terms_of g) st.metadata))
    overfull_is q = q ∙ ap (ltb metadata_log_room) (sym stays_count)

    -- an entry that joins has room, and its name is no longer than a name may be
    pub joins_fit : first_of checks ≡ 0 → g.terms.has_file ≡ true → (g.metadata.metadata_log.count - gone < 128) × (g.terms.file.len ≤ 96)
    unfolding close_checks
    joins_fit z j =
        let few : length (staying (terms_of g) st.metadata) ≤ 128 = ltb-false metadata_log_room _ (passed checks refl z).1.1.1.1.1.0 in
        (omega (arith, few, gone_fits, stays_count ∙ ap (λ (b : Bool). cond b (g.metadata.metadata_log.count + 1) g.metadata.metadata_log.count - gone) j), E.since.short j)

    pub stay_is : {stay : MetadataLog} → stay ≡ laid_metadata_log (drop gone (read_metadata_log g.metadata.metadata_log) ++ joining g.terms g.metadata.fields.last_updated_ms) → stay ≡ laid_metadata_log (staying (terms_of g) st.metadata)
    stay_is q = q ∙ ap laid_metadata_log (ap (λ (n : ℕ). drop n (read_metadata_log g.metadata.metadata_log) ++ joining g.terms g.metadata.fields.last_updated_ms) k ∙ sym (stays filed))

    pub gone_is : {out : MetadataLog} → out ≡ laid_metadata_log (take gone (read_metadata_log g.metadata.metadata_log)) → out ≡ laid_metadata_log (expired (terms_of g) st.metadata)
    gone_is q = q ∙ ap laid_metadata_log (ap (λ (n : ℕ). take n (read_metadata_log g.metadata.metadata_log)) k ∙ sym (expires filed))

  pub close_refused : (place : ℕ) {n : ℕ} → n ≡ first_of checks → (n ≡ 0 → ⊥) → laid_outcome g.metadata (Refused n place) ≡ laid_outcome g.metadata (close (terms_of g) place log st)
  unfolding close
  close_refused place {n} e z = rw (← e, ne_eqb n 0 z)

  accepts : first_of checks ≡ 0 → (place : ℕ) → close (terms_of g) place log st ≡ Accepted (closed (terms_of g) log st) st.log (expired (terms_of g) st.metadata)
  unfolding close
  accepts e place = rw e

  -- the single fields with another last update
  abbrev pub updated : Time → SingleFields → SingleFields
  updated x f = record { format_version = f.format_version; table_uuid = f.table_uuid; location = f.location; last_updated_ms = x; last_sequence_number = f.last_sequence_number; next_row_id = f.next_row_id; last_column_id = f.last_column_id; has_current = f.has_current; current_snapshot_id = f.current_snapshot_id; current_schema_id = f.current_schema_id; default_sort_order_id = f.default_sort_order_id; default_spec_id = f.default_spec_id; last_partition_id = f.last_partition_id }

  pub close_accepted : (place : ℕ) → first_of checks ≡ 0 → {y : History} → HistoryOf log st.metadata y
      → {stay gone : MetadataLog} → stay ≡ laid_metadata_log (staying (terms_of g) st.metadata) → gone ≡ laid_metadata_log (expired (terms_of g) st.metadata)
      → {x : Time} → x.0 ≡ or_else (given p.held.builder.has_own p.held.builder.own.0) g.terms.clock_ms.0
      → ◌≡◌ {A = Answer} (record { number = 0; place = 0; metadata = record { fields = updated x p.held.builder.fields; snapshots = p.held.snapshots; refs = p.held.refs; snapshot_log = y.log; metadata_log = stay; schemas = p.held.own_tables.schemas.table; sort_orders = p.held.own_tables.orders; statistics = p.held.own_tables.statistics; partition_statistics = p.held.own_tables.partition_statistics; partition_specs = p.held.own_tables.specs }; changes = record { items = p.changes.entries; count = p.changes.count }; expired = gone })
      (laid_outcome g.metadata (close (terms_of g) place log st))
  unfolding laid_outcome closed laid_metadata laid_fields laid_updates
  close_accepted place e {y} Y S G {x} u =
      let T = E.tables in
      let own : x.0 ≡ or_else st.own g.terms.clock_ms.0 = u ∙ ap (λ (o : Option ℤ). or_else o g.terms.clock_ms.0) (its_own st T.builder) in
      let F : updated x p.held.builder.fields ≡ updated (record { 0 = or_else st.own g.terms.clock_ms.0 }) (laid_fields st.metadata.fields) = λ i. updated (record { 0 = own i }) (fields_laid i) in
      (λ i. record { number = 0; place = 0; metadata = record { fields = F i; snapshots = T.snapshots i; refs = T.refs i; snapshot_log = Y.log i; metadata_log = S i; schemas = (T.own_tables.schemas i).table; sort_orders = T.own_tables.orders i; statistics = T.own_tables.statistics i; partition_statistics = T.own_tables.partition_statistics i; partition_specs = T.own_tables.specs i }; changes = record { items = E.logs.entries i; count = E.logs.count i }; expired = G i })
      ∙ ap (laid_outcome g.metadata) (sym (accepts e place))

  -- the parts that are lent
  pub held_within : p.held.snapshots.count ≤ length p.held.ids
  held_within = lent_within st.metadata.snapshots E.tables.snapshots E.tables.ids (snapshots_fit E)

  pub adds_few : p.changes.adds ≤ length p.changes.added
  adds_few = omega (arith, adds_fit, ap length E.logs.added ∙ pad_length (pos 0) 64 (additions st.log) (omega (arith, adds_fit, E.logs.adds)))

  pub adds_within : {n : ℕ} → n ≡ closing_adds → n ≤ length p.changes.added
  adds_within q =
      rw q (cases second (λ t. rw t (omega arith)) (λ f. rw f adds_few))

  pub mains_within : {n : ℕ} → n ≡ closing_mains → n ≤ length p.changes.main_targets
  mains_within q =
      let few : p.changes.mains ≤ length p.changes.main_targets = omega (arith, mains_fit, ap length E.logs.main_targets ∙ pad_length (pos 0) 64 (logs_main st.log) (omega (arith, mains_fit, E.logs.mains))) in
      rw q (cases second (λ t. rw t (omega arith)) (λ f. rw f few))

  pub held_slice : p.held.snapshots.count ≡ length (take p.held.snapshots.count p.held.ids)
  held_slice = lent_slice st.metadata.snapshots E.tables.snapshots E.tables.ids

  pub added_slice : {n : ℕ} → n ≡ closing_adds → n ≡ length (take n p.changes.added)
  added_slice q = rw q (cases second (λ t. rw t) (λ f. rw f (E.logs.adds ∙ sym (ap length added_ids))))

  pub main_slice : {n : ℕ} → n ≡ closing_mains → n ≡ length (take n p.changes.main_targets)
  main_slice q = rw q (cases second (λ t. rw t) (λ f. rw f (E.logs.mains ∙ sym (ap length main_ids))))

  pub adds_cut : p.changes.adds ≡ length (take p.changes.adds p.changes.added)
  adds_cut = E.logs.adds ∙ sym (ap length added_ids)
