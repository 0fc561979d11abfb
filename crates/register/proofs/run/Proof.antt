-- `run` meets its contract: in every turn the pieces stand for a state, from which the rest of the list leads where the whole list leads from the start, or the refusal is known.
use Prim.Native.Nat.{ℕ, ◌+◌, ◌*◌, ◌-◌, ◌≤◌, ◌<◌}
use native.Mathlib.Omega.{arith}
use mathlib.Core.Path.{◌≡◌, refl, sym, ap, ◌∙◌}
use mathlib.Core.Bool.{Bool, true, false, not, cond, ◌&&◌, ◌||◌, false≢true}
use mathlib.Core.List.{List, [], ◌∷◌}
use mathlib.Core.Logic.{⊎_elim}
use borrow.Author.Rules.{rules, sfits_of}
use borrow.Author.Tests.{not-true, not-false, eqb-true, eqb-false, eq-eqb, ltb-true, ltb-false}
use borrow.Table.Steps.{cases}
use mir.Syntax.{w64}
use mir.Val.{to_z, of_z}
use mir.Facts.{to_z-of_z}
use lib.Dec.{eqb, ltb}
use lib.IntN.{ℤ, pos}
use lib.ListN.{length, drop, take, set, length-map, get_or}
use lib.Signed.{lt_z}
use Rattle.records.specs.Blanks.{no_snapshot, no_schema_id}
use Rattle.records.specs.declared.schema.Schema.{Schema}
use Rattle.records.specs.declared.snapshot.Snapshots.{Snapshots}
use Rattle.records.specs.declared.update.TableUpdate.{TableUpdate}
use Rattle.rules.specs.Words.{total, any, eq_z, first_of, ascending, put, same_list}
use Rattle.rules.specs.Capacities.{schema_room}
use Rattle.rules.specs.Names.{is_main}
use Rattle.rules.specs.Register as plain
use Rattle.rules.specs.Register.{Terms, Update, State}
use Rattle.rules.specs.Others.{is_second, is_others_ref}
use Rattle.rules.specs.Register.StatisticsTable.{Statistics, PartitionStatistics}
use Rattle.rules.specs.WellFormed.{update_formed, snapshot_below}
use Rattle.rules.specs.SnapshotUpdates.{add_snapshot_checks}
use Rattle.rules.specs.SchemaUpdates.{is_taken, same_schema_field}
use Rattle.rules.specs.Run.{weight, list_sum, closing_log}
use Rattle.rules.specs.Layout.{pad, read_snapshot, laid_snapshot, laid_snapshots, read_snapshot_ids, read_name, read_schema, read_schemas, read_schema_offer, read_schema_ids, read_partition_specs}
use Rattle.rules.specs.Kinds.{is_tidy_update, read_update, read_updates, add_snapshot_kind, set_branch_snapshot_kind, set_ref_kind, add_schema_kind, remove_schemas_kind, read_kind}
use Rattle.close.specs.Answers.{HistoryOf}
use Rattle.rules.proofs.Checks.{and_left, and_right, by_either, neither}
use Rattle.rules.proofs.Offices.Alone.{alone_not_others}
use Rattle.tables.specs.Laid.{LaidName}
use Rattle.tables.proofs.Table.{listed_length}
use Rattle.tables.proofs.Each.{schema_fields}
use Rattle.search.specs.Places.{index_of}
use Rattle.partitions.proofs.Taken.{none_taken}
use Rattle.builder.specs.declared.decision.Decision.{Decision}
use Rattle.builder.specs.Answers.{Decides}
use Rattle.builder.specs.Pieces.{ids_of, is_above}
use Rattle.builder.proofs.Entries.{read_kind_lem}
use Rattle.offices.specs.Shown.{Shown}
use Rattle.offers.specs.declared.OfferedSchema.{OfferedSchema}
use Rattle.offers.specs.Offered.{Offered}
use Rattle.schema_updates.specs.Keys.{KeysFit}
use Rattle.schema_updates.specs.Schemas.{schema_under, Sought}
use Rattle.snapshot_updates.specs.Snapshots.{SnapshotDecided}
use Rattle.ref_updates.specs.Refs.{RefSet}
use Rattle.start.specs.Start.{start_number}
use Rattle.start.proofs.Reading.{formed_tidy, formed_kind, kinds, read_remove_snapshots, read_set_ref, read_remove_ref, here, all_read, weight_read, counts, bounds}
use Rattle.start.proofs.Started.{refused_start}
use Rattle.refinement.specs.Standing.{Given, terms_of, Pieces, Represents, Passes, Standing, OwnTable, Slots, with_table, own_lists, laid_of}
use Rattle.refinement.specs.Standing.OwnTable.{of_schemas, of_orders, of_statistics, of_specs}
use Rattle.refinement.specs.Turns.{nothing, update_at, name_at, Midway, Stands, Decided, Turn}
use Rattle.refinement.proofs.Beginning.{start_refs, start_snapshots, start_schemas, start_log, start_short, standing_start, read_snapshots_lem, read_refs_lem, read_log, schemas_keys, laid_snapshots_lem, laid_refs_lem, laid_log, laid_schemas_lem, laid_orders, laid_specs, laid_statistics_lem, statistics_ascend, location_fits, snapshots_ascend, refs_ascend, orders_formed_lem, order_held, specs_formed_lem, spec_held}
use Rattle.refinement.proofs.Closed.{held_ids_lem, held_ascend, held_fits, held_within, held_slice, adds_few, adds_cut, adds_within, added_slice, mains_within, main_slice, adds_most, mains_most, told, handed, files_laid, files_fit, gone_fits, overfull_is, joins_fit, stay_is, gone_is, checks, close_refused, close_accepted}
use Rattle.refinement.proofs.Moving.{fits, ends}
use Rattle.refinement.proofs.Deciding.{whole, not_formed_decided, others_stand, fields_decided, refs_decided, refs_left, tabled, number_of, own_decided}
use Rattle.refinement.proofs.Removing.{left_laid, left_lent, removed_decided}
use Rattle.refinement.proofs.Shaping.{current_slot, current_laid, current_there, same_count, schemas_sought, none_equal, not_grown, one_more_lem, schemas_same, schemas_left_laid, schemas_left}
use Rattle.refinement.proofs.Adding.{has_room, stored_last, id_last, put_new, put_laid, put_tables, put_ids, add_refused, adds_fine, add_decided, grown}
use Rattle.refinement.proofs.Setting.{faced, set_midway, set_decides, main_room, other_decided, main_decided}
use Rattle.refinement.proofs.Taken.{snapshot_back, reference_back, asked_laid, branch_name_laid, set_name_laid, removed_name_laid, schemas_asked_laid}
use Rattle.refinement.proofs.Effects.{group}
use Rattle.refinement.proofs.Turning.{undivided, unformed, represented, at_the_end, decides, refuses, goes_on_lem, is_ref_removal, is_single, is_schemas, is_orders, is_statistics, is_partition_statistics, is_specs}
use Rattle.rules.specs.Updates.{effect}
use Rattle.statistics_updates.specs.Family.{Within}
use Rattle.refinement.proofs.Ending.{turns, stored_less, refused_less, decided_less, halved_less}
use Rattle.register.proofs.run.Statement.{statement}
use Rattle.register.proofs.run.Tie as tie

-- what the logic reads past the end of a table of schemas
abbrev past : Schema
past = record { schema_id = no_schema_id; items = []; count = 0 }

or_second : (a b : Bool) → a ≡ false → (a || b) ≡ true → b ≡ true
or_second a b e h = rw e at h

and_second : (a b : Bool) → a ≡ true → (a && b) ≡ false → b ≡ false
and_second a b e h = rw e at h

-- ---- the two loops

-- the sum of the updates passed, and of the rest of a list that is not too long, make the list's sum
abbrev invariant_loop : tie.invariant-loop-place
invariant_loop metadata terms text offers updates listed sum₀ place₀ count adds mains removal waits half begun entries builder decision refs orders statistics partitions specs added main-targets snapshots ids log last schemas shared sum place =
    (place ≤ 64) × (sum ≤ 2 * place) × (listed ≤ 64 → (place ≤ listed) × (sum + total weight (drop place (read_updates updates)) ≡ list_sum (read_updates updates)))

abbrev decreases_loop : tie.decreases-loop-place
decreases_loop metadata terms text offers updates listed sum₀ place₀ count adds mains removal waits half begun entries builder decision refs orders statistics partitions specs added main-targets snapshots ids log last schemas shared sum place = 64 - place

abbrev invariant_loop2 : tie.invariant-loop-number
invariant_loop2 metadata terms text offers updates listed sum place₀ count₀ adds₀ mains₀ removal₀ waits₀ half₀ begun₀ entries₀ builder₀ decision₀ refs₀ orders₀ statistics₀ partitions₀ specs₀ added₀ main-targets₀ snapshots₀ ids₀ log₀ last₀ schemas₀ shared number₀ keys₀ place count adds mains removal waits half begun entries builder decision refs orders statistics partitions specs added main-targets snapshots ids log last schemas number keys =
    Turn (record { metadata = metadata; updates = updates; terms = terms; lent = record { text = text; offers = offers } }) number place waits half
    (record {
      held = record { builder = builder; snapshots = snapshots; ids = ids; refs = refs; log = log; last = last; own_tables = record { schemas = record { table = schemas; keys = keys }; orders = orders; statistics = statistics; partition_statistics = partitions; specs = specs } };
      changes = record { entries = entries; count = count; added = added; adds = adds; main_targets = main-targets; mains = mains; removal = removal };
    })
    decision

abbrev decreases_loop2 : tie.decreases-loop-number
decreases_loop2 metadata terms text offers updates listed sum place₀ count₀ adds₀ mains₀ removal₀ waits₀ half₀ begun₀ entries₀ builder₀ decision₀ refs₀ orders₀ statistics₀ partitions₀ specs₀ added₀ main-targets₀ snapshots₀ ids₀ log₀ last₀ schemas₀ shared number₀ keys₀ place count adds mains removal waits half begun entries builder decision refs orders statistics partitions specs added main-targets snapshots ids log last schemas number keys =
    cond (eqb number 0) (4 * (listed - place) + turns waits half) 0

-- ---- before the loops

abbrev begin : tie.After-is_shared-shared invariant_loop decreases_loop invariant_loop2 decreases_loop2 → tie.Start invariant_loop decreases_loop invariant_loop2 decreases_loop2
begin c = c.before.before.before.before.before.before.before.before.before.before.before.before.before.before.before.before.before.before

-- what the run is given
abbrev G : tie.After-is_shared-shared invariant_loop decreases_loop invariant_loop2 decreases_loop2 → Given
G c = record { metadata = (begin c).args.metadata; updates = (begin c).args.updates; terms = (begin c).args.terms; lent = record { text = (begin c).args.text.now; offers = (begin c).args.offers.now } }

long : (c : tie.After-is_shared-shared invariant_loop decreases_loop invariant_loop2 decreases_loop2) → length (G c).updates.items ≡ 64
long c = (begin c).well_formed.1.0.1.1.0.1.0.1

-- ---- the sum

module _ (c : tie.In-loop-place invariant_loop decreases_loop invariant_loop2 decreases_loop2) where
  abbrev sum_at : tie.At-loop-place invariant_loop decreases_loop invariant_loop2 decreases_loop2
  sum_at = c.before

  summed : sum_at.loop-place.place < (begin sum_at.before).args.updates.count
  summed = ltb-true _ _ (and_left (ltb sum_at.loop-place.place (begin sum_at.before).args.updates.count) (ltb sum_at.loop-place.place 64) c.loop-place-test.true)

  slotted : sum_at.loop-place.place < 64
  slotted = ltb-true _ _ (and_right (ltb sum_at.loop-place.place (begin sum_at.before).args.updates.count) (ltb sum_at.loop-place.place 64) c.loop-place-test.true)

  more_summed : {s : ℕ} → s ≡ weight (read_update (update_at (G sum_at.before) sum_at.loop-place.place)) → (G sum_at.before).updates.count ≤ 64
      → (sum_at.loop-place.place + 1 ≤ (G sum_at.before).updates.count) × (sum_at.loop-place.sum + s + total weight (drop (sum_at.loop-place.place + 1) (read_updates (G sum_at.before).updates)) ≡ list_sum (read_updates (G sum_at.before).updates))
  more_summed q h =
      let us = (G sum_at.before).updates in
      let k = sum_at.loop-place.invariant.2 h in
      let w = here us sum_at.loop-place.place nothing summed (omega (arith, long sum_at.before)) in
      let e : total weight (drop sum_at.loop-place.place (read_updates us)) ≡ weight (read_update (update_at (G sum_at.before) sum_at.loop-place.place)) + total weight (drop (sum_at.loop-place.place + 1) (read_updates us)) = ap (total weight) w in
      (omega (arith, summed), omega (arith, k.1))

-- the slot that is read is one of the 64
slotted_unread : (c : tie.In-loop-place-unread invariant_loop decreases_loop invariant_loop2 decreases_loop2) → c.loop-place.place < 64
slotted_unread c = ltb-true _ _ (and_right (ltb c.loop-place.place c.args.updates.count) (ltb c.loop-place.place 64) c.loop-place-test.true)

-- the sum of the whole list
whole_sum : (c : tie.After-loop-place invariant_loop decreases_loop invariant_loop2 decreases_loop2) → (G c.before.before).updates.count ≤ 64 → c.loop-place.sum ≡ list_sum (read_updates (G c.before.before).updates)
whole_sum c h =
    let us = (G c.before.before).updates in
    let l = c.loop-place in
    let k = l.invariant.2 h in
    let e : us.count ≤ l.place = cases (ltb l.place us.count) (λ t. omega (arith, ltb-false l.place 64 (and_second (ltb l.place us.count) (ltb l.place 64) t c.loop-place-test.false))) (λ f. ltb-false l.place us.count f) in
    let z : total weight (drop l.place (read_updates us)) ≡ 0 = ap (total weight) (all_read us l.place e) in
    omega (arith, k.1)

-- ---- a turn

-- what the run is given, and the pieces at the loop
module _ (a : tie.At-loop-number invariant_loop decreases_loop invariant_loop2 decreases_loop2) where
  abbrev asked_of : tie.After-is_shared-shared invariant_loop decreases_loop invariant_loop2 decreases_loop2
  asked_of = a.before.before.before.before.before.before

  abbrev given : Given
  given = G asked_of

  abbrev here_pieces : Pieces
  here_pieces =
      record {
        held = record { builder = a.loop-number.builder; snapshots = a.loop-number.snapshots; ids = a.loop-number.ids; refs = a.loop-number.refs; log = a.loop-number.log; last = a.loop-number.last; own_tables = record { schemas = record { table = a.loop-number.schemas; keys = a.loop-number.keys }; orders = a.loop-number.orders; statistics = a.loop-number.statistics; partition_statistics = a.loop-number.partition_statistics; specs = a.loop-number.specs } };
        changes = record { entries = a.loop-number.entries; count = a.loop-number.count; added = a.loop-number.added; adds = a.loop-number.adds; main_targets = a.loop-number.main_targets; mains = a.loop-number.mains; removal = a.loop-number.removal };
      }

  -- the update at hand
  abbrev U : TableUpdate
  U = update_at given a.loop-number.place

module _ (c : tie.In-loop-number invariant_loop decreases_loop invariant_loop2 decreases_loop2) where
  zero : c.loop-number.number ≡ 0
  zero = eqb-true _ _ (and_left (eqb c.loop-number.number 0) (c.loop-number.waits || ltb c.loop-number.place (given c.before).updates.count) c.loop-number-test.true)

  short : (given c.before).updates.count ≤ 64
  short = c.loop-number.invariant.short zero

-- ---- a turn that stores

module _ (c : tie.Then-waits invariant_loop decreases_loop invariant_loop2 decreases_loop2) where
  abbrev stored_at : tie.At-loop-number invariant_loop decreases_loop invariant_loop2 decreases_loop2
  stored_at = c.before.before

  waiting : (stored_at.loop-number.place < (given stored_at).updates.count) × Decided (given stored_at) stored_at.loop-number.place stored_at.loop-number.half (here_pieces stored_at) stored_at.loop-number.decision
  waiting = stored_at.loop-number.invariant.waits (zero c.before) c.if-waits.true

-- ---- a turn that decides

module _ (c : tie.Else-waits invariant_loop decreases_loop invariant_loop2 decreases_loop2) where
  abbrev decided_at : tie.At-loop-number invariant_loop decreases_loop invariant_loop2 decreases_loop2
  decided_at = c.before.before

  below : decided_at.loop-number.place < (given decided_at).updates.count
  below = ltb-true _ _ (or_second decided_at.loop-number.waits (ltb decided_at.loop-number.place (given decided_at).updates.count) c.if-waits.false (and_right (eqb decided_at.loop-number.number 0) (decided_at.loop-number.waits || ltb decided_at.loop-number.place (given decided_at).updates.count) c.loop-number-test.true))

  stands : Stands (given decided_at) decided_at.loop-number.place decided_at.loop-number.half (here_pieces decided_at)
  stands = decided_at.loop-number.invariant.stands (zero c.before) c.if-waits.false

  at : drop decided_at.loop-number.place (read_updates (given decided_at).updates) ≡ read_update (U decided_at) ∷ drop (decided_at.loop-number.place + 1) (read_updates (given decided_at).updates)
  at = here (given decided_at).updates decided_at.loop-number.place nothing below (omega (arith, long decided_at.before.before.before.before.before.before, short c.before))

  one : 1 ≤ weight (read_update (U decided_at))
  one = omega (arith, weight_read (U decided_at), (counts (U decided_at).kind).0)

  -- the decision waits to be stored
  waits_now : {half : Bool} {p : Pieces} {d : Decision} → Decided (given decided_at) decided_at.loop-number.place half p d → KeysFit p.held.own_tables.schemas.keys → Turn (given decided_at) decided_at.loop-number.number decided_at.loop-number.place true half p d
  waits_now D = decides (zero c.before) (short c.before) below D

  fit : KeysFit decided_at.loop-number.keys
  fit = decided_at.loop-number.invariant.fit

turn_less : (e : tie.Else-waits invariant_loop decreases_loop invariant_loop2 decreases_loop2) → let l = (decided_at e).loop-number in let listed = (given (decided_at e)).updates.count in
    cond (eqb l.number 0) (4 * (listed - l.place) + turns true false) 0 < cond (eqb l.number 0) (4 * (listed - l.place) + turns l.waits l.half) 0
turn_less e = let l = (decided_at e).loop-number in decided_less l.number (given (decided_at e)).updates.count l.place l.half (zero e.before) e.if-waits.false

-- the update is well formed
module _ (c : tie.Else-not-is_formed invariant_loop decreases_loop invariant_loop2 decreases_loop2) where
  abbrev turn_at : tie.Else-waits invariant_loop decreases_loop invariant_loop2 decreases_loop2
  turn_at = c.before.before.before

  well_formed : update_formed (read_update (U (decided_at turn_at))) ≡ true
  well_formed = sym c.is_formed-in-loop-number.ensures ∙ not-false c.is_formed-in-loop-number.result c.if-not-is_formed.false-raw

  shown : (st : State) × Represents (given (decided_at turn_at)) st (here_pieces (decided_at turn_at))
  shown = represented (stands turn_at)

-- whether it can be the other office's was asked once
unshared : (a : tie.At-loop-number invariant_loop decreases_loop invariant_loop2 decreases_loop2) (S : Standing (given a) a.loop-number.place (here_pieces a)) → (asked_of a).is_shared-shared.result ≡ false → (is_second (given a).terms.office || any (is_others_ref (given a).terms.office) S.state.metadata.refs) ≡ false
unshared a S n = S.stands.since.shared ∙ sym ((asked_of a).is_shared-shared.ensures (start_refs (given a) S.starts)) ∙ n

tables_shown : {g : Given} {st : State} {p : Pieces} → Represents g st p → Shown st.metadata p.held.refs p.held.snapshots p.held.log
tables_shown E = record { named = read_refs_lem E; held = read_snapshots_lem E; history = read_log E }

-- it is not the other office's
module _ (c : tie.Else-others invariant_loop decreases_loop invariant_loop2 decreases_loop2) where
  abbrev formed_at : tie.Else-not-is_formed invariant_loop decreases_loop invariant_loop2 decreases_loop2
  formed_at = c.before.before

  abbrev deciding : tie.Else-waits invariant_loop decreases_loop invariant_loop2 decreases_loop2
  deciding = turn_at formed_at

  abbrev loop_at : tie.At-loop-number invariant_loop decreases_loop invariant_loop2 decreases_loop2
  loop_at = decided_at deciding

  abbrev u : TableUpdate
  u = U loop_at

  formed : update_formed (read_update u) ≡ true
  formed = well_formed formed_at

  tidy : is_tidy_update u ≡ true
  tidy = formed_tidy u formed

  by_kind : update_formed (read_kind u) ≡ true
  by_kind = formed_kind u formed

  abbrev terms : Terms
  terms = terms_of (given loop_at)

  -- of another kind than a branch commit: the pieces stand for a state
  abbrev Stood : Type 0
  Stood = Standing (given loop_at) loop_at.loop-number.place (here_pieces loop_at)

  passes : (S : Stood) → Passes (given loop_at).terms.office (read_update u) S.state
  passes S =
      record {
        formed = formed;
        own = ⊎_elim
            (λ w. sym (w.is_others-others.ensures S.state.metadata (tables_shown S.stands)) ∙ sym w.others-is ∙ c.if-others.false)
            (λ w. alone_not_others _ _ _ (unshared loop_at S w.if-shared.false))
            c.if-shared.branch-raw;
      }

  standing : (u.kind ≡ set_branch_snapshot_kind → ⊥) → Stood
  standing n = undivided (stands deciding) n

  -- an update of a family with a table of its own
  own : (s : Stood) (o : OwnTable) → group (read_update u) ≡ number_of o → {d : Decision} → Decides terms u s.state d → {t : Slots o} → (d.number ≡ 0 → t ≡ laid_of o (own_lists (effect terms (read_update u) s.state).metadata)) → KeysFit (with_table o t (here_pieces loop_at).held.own_tables).schemas.keys
      → Turn (given loop_at) loop_at.loop-number.number loop_at.loop-number.place true false (tabled loop_at.loop-number.refs (with_table o t (here_pieces loop_at).held.own_tables) (here_pieces loop_at)) d
  own s o k A x = waits_now deciding (own_decided s (read_update u) (at deciding) (one deciding) (passes s) A o k x)

module _ (c : tie.Then-kind-le-SET_LOCATION invariant_loop decreases_loop invariant_loop2 decreases_loop2) where
  single : Stood c.before
  single = standing c.before (λ q. omega (arith, q, c.if-kind-le-SET_LOCATION.true))

-- an addition, or the first half of a branch commit
module _ (c : tie.Then-kind-begun invariant_loop decreases_loop invariant_loop2 decreases_loop2) where
  abbrev adding : tie.Else-others invariant_loop decreases_loop invariant_loop2 decreases_loop2
  adding = c.before.before

  abbrev adding_kind : ℕ
  adding_kind = (U (loop_at adding)).kind

  either_kind : (eqb adding_kind add_snapshot_kind || eqb adding_kind set_branch_snapshot_kind) ≡ true
  either_kind =
      by_either (eqb adding_kind add_snapshot_kind) (eqb adding_kind set_branch_snapshot_kind && not (loop_at adding).loop-number.half)
      (λ y. rw y) (λ y. rw (and_left (eqb adding_kind set_branch_snapshot_kind) (not (loop_at adding).loop-number.half) y) (or_true (eqb adding_kind add_snapshot_kind))) c.if-kind-begun.true
    where
      or_true : (b : Bool) → (b || true) ≡ true
      or_true true = refl
      or_true false = refl

  adding_standing : Standing (given (loop_at adding)) (loop_at adding).loop-number.place (here_pieces (loop_at adding))
  adding_standing =
      by_either (eqb adding_kind add_snapshot_kind) (eqb adding_kind set_branch_snapshot_kind && not (loop_at adding).loop-number.half)
      (λ y. standing adding (λ q. omega (arith, q, eqb-true adding_kind add_snapshot_kind y)))
      (λ y. (stands (deciding adding)).whole (not-true (loop_at adding).loop-number.half (and_right (eqb adding_kind set_branch_snapshot_kind) (not (loop_at adding).loop-number.half) y)))
      c.if-kind-begun.true

  -- a half is decided only where none was before
  first_half : eqb adding_kind set_branch_snapshot_kind ≡ true → (loop_at adding).loop-number.half ≡ false
  first_half y =
      by_either (eqb adding_kind add_snapshot_kind) (eqb adding_kind set_branch_snapshot_kind && not (loop_at adding).loop-number.half)
      (λ z. absurd (eqb-false add_snapshot_kind set_branch_snapshot_kind refl (sym (eqb-true adding_kind add_snapshot_kind z) ∙ eqb-true adding_kind set_branch_snapshot_kind y)))
      (λ z. not-true (loop_at adding).loop-number.half (and_right (eqb adding_kind set_branch_snapshot_kind) (not (loop_at adding).loop-number.half) z))
      c.if-kind-begun.true

module _ (c : tie.After-add_snapshot-decision invariant_loop decreases_loop invariant_loop2 decreases_loop2) where
  abbrev adds_at : tie.Then-kind-begun invariant_loop decreases_loop invariant_loop2 decreases_loop2
  adds_at = c.before.before.before.before

  add_says : SnapshotDecided c.commits_on_tag-on_tag.result (terms_of (given (loop_at (adding adds_at)))).tolerance (read_snapshot (U (loop_at (adding adds_at))).snapshots.added) (adding_standing adds_at).state c.add_snapshot-decision.result
  add_says = let E = (adding_standing adds_at).stands in c.add_snapshot-decision.ensures (adding_standing adds_at).state E.tables.builder (held_ids_lem E) E.tables.last

-- where it is not refused
module _ (c : tie.Else-not-decision-2 invariant_loop decreases_loop invariant_loop2 decreases_loop2) where
  abbrev added_call : tie.After-add_snapshot-decision invariant_loop decreases_loop invariant_loop2 decreases_loop2
  added_call = c.before.before

  abbrev add_kind : tie.Then-kind-begun invariant_loop decreases_loop invariant_loop2 decreases_loop2
  add_kind = adds_at added_call

  add_zero : added_call.add_snapshot-decision.result.number ≡ 0
  add_zero = eqb-true _ _ (sym (add_says added_call).grows ∙ not-false added_call.add_snapshot-decision.result.grows c.if-not-decision-2.false)

  add_fine : first_of (add_snapshot_checks (terms_of (given (loop_at (adding add_kind)))).tolerance (read_snapshot (U (loop_at (adding add_kind))).snapshots.added) (adding_standing add_kind).state) ≡ 0
  add_fine = adds_fine (adding_standing add_kind) (at (deciding (adding add_kind))) (one (deciding (adding add_kind))) (passes (adding add_kind) (adding_standing add_kind)) (either_kind add_kind) added_call.commits_on_tag-on_tag.ensures (add_says added_call) add_zero

  add_back : laid_snapshot (read_snapshot (U (loop_at (adding add_kind))).snapshots.added) ≡ (U (loop_at (adding add_kind))).snapshots.added
  add_back = snapshot_back (U (loop_at (adding add_kind))) (formed (adding add_kind))

  add_room : (loop_at (adding add_kind)).loop-number.snapshots.count < 64
  add_room = has_room (adding_standing add_kind).stands (U (loop_at (adding add_kind))).snapshots.added add_back add_fine

  adds_room : (loop_at (adding add_kind)).loop-number.adds < 64
  adds_room = omega (arith, adds_most (adding_standing add_kind).stands, fits (adding_standing add_kind) (read_update (U (loop_at (adding add_kind)))) (at (deciding (adding add_kind))), one (deciding (adding add_kind)))

-- the snapshot's id, from its bits
key_back : (c : tie.After-struct_told-1 invariant_loop decreases_loop invariant_loop2 decreases_loop2) → to_z w64 (of_z w64 (U (loop_at (adding (add_kind c.before.before.before)))).snapshots.added.snapshot_id.0) ≡ (U (loop_at (adding (add_kind c.before.before.before)))).snapshots.added.snapshot_id.0
key_back c = to_z-of_z {w = w64} (sfits_of c.struct_told-1.given.0.1)

abbrev to_else7 : tie.After-is_last invariant_loop decreases_loop invariant_loop2 decreases_loop2 → tie.Else-not-decision-2 invariant_loop decreases_loop invariant_loop2 decreases_loop2
to_else7 c = c.before.before.before.before.before

-- above the last id
above : (c : tie.Then-is_last invariant_loop decreases_loop invariant_loop2 decreases_loop2) → let e = adding (add_kind (to_else7 c.before)) in is_above (take (loop_at e).loop-number.snapshots.count (loop_at e).loop-number.ids) (u e).snapshots.added.snapshot_id.0 ≡ true
above c =
    let l = (loop_at (adding (add_kind (to_else7 c.before)))).loop-number in
    ap (is_above (take l.snapshots.count l.ids)) (sym (key_back c.before.before.before)) ∙ sym c.is_last.ensures ∙ c.if-is_last.true

-- the first half of a branch commit may be decided, or an addition
added_less : (t : tie.Then-kind-begun invariant_loop decreases_loop invariant_loop2 decreases_loop2) → let l = (decided_at (deciding (adding t))).loop-number in let listed = (given (decided_at (deciding (adding t)))).updates.count in
    cond (eqb l.number 0) (4 * (listed - l.place) + turns true (eqb (adding_kind t) set_branch_snapshot_kind)) 0 < cond (eqb l.number 0) (4 * (listed - l.place) + turns l.waits l.half) 0
added_less t = let e = deciding (adding t) in let l = (decided_at e).loop-number in halved_less l.number (given (decided_at e)).updates.count l.place l.half _ (zero e.before) e.if-waits.false (first_half t)

-- one snapshot more, and its id
added_now : (w : tie.Else-not-decision-2 invariant_loop decreases_loop invariant_loop2 decreases_loop2) {s : Snapshots} {is : List ℤ} {id : ℤ} → let t = add_kind w in let a = loop_at (adding t) in let x = read_snapshot (u (adding t)).snapshots.added in
    s ≡ laid_snapshots (put snapshot_below x (adding_standing t).state.metadata.snapshots) → is ≡ pad 64 (pos 0) (ids_of (put snapshot_below x (adding_standing t).state.metadata.snapshots)) → id ≡ (u (adding t)).snapshots.added.snapshot_id.0
    → Turn (given a) a.loop-number.number a.loop-number.place true (eqb (adding_kind t) set_branch_snapshot_kind) (grown s is id (here_pieces a)) (added_call w).add_snapshot-decision.result
added_now w p q r =
    let t = add_kind w in
    let e = deciding (adding t) in
    waits_now e (add_decided (adding_standing t) (at e) (one e) (passes (adding t) (adding_standing t)) (either_kind t) (added_call w).commits_on_tag-on_tag.ensures (add_says (added_call w)) (add_zero w) p q r) (fit e)

-- ---- a set ref, or the second half of a branch commit

module _ (c : tie.Then-kind invariant_loop decreases_loop invariant_loop2 decreases_loop2) where
  abbrev setting : tie.Else-others invariant_loop decreases_loop invariant_loop2 decreases_loop2
  setting = c.before.before.before

  abbrev setting_kind : ℕ
  setting_kind = (U (loop_at setting)).kind

  midway : Midway (given (loop_at setting)) (loop_at setting).loop-number.place (here_pieces (loop_at setting))
  midway =
      by_either (eqb setting_kind set_branch_snapshot_kind) (eqb setting_kind set_ref_kind)
      (λ y. (stands (deciding setting)).midway (not-false (loop_at setting).loop-number.half (and_second (eqb setting_kind set_branch_snapshot_kind) (not (loop_at setting).loop-number.half) y (neither (eqb setting_kind add_snapshot_kind) (eqb setting_kind set_branch_snapshot_kind && not (loop_at setting).loop-number.half) c.if-kind-begun.false).1)))
      (λ y. let q = eqb-true setting_kind set_ref_kind y in let S = standing setting (λ z. omega (arith, z, q)) in set_midway S (read_update (U (loop_at setting))) (at (deciding setting)) (one (deciding setting)) (passes setting S) (read_set_ref (U (loop_at setting)) (formed setting) q) q)
      c.if-kind.true

  set_name : LaidName (U (loop_at setting)).refs.name
  set_name = by_either (eqb setting_kind set_branch_snapshot_kind) (eqb setting_kind set_ref_kind) (λ y. branch_name_laid (U (loop_at setting)) (formed setting) (eqb-true setting_kind set_branch_snapshot_kind y)) (λ y. set_name_laid (U (loop_at setting)) (formed setting) (eqb-true setting_kind set_ref_kind y)) c.if-kind.true

-- the snapshot's id, from its bits
target_key : (c : tie.After-struct_told-then-kind-1 invariant_loop decreases_loop invariant_loop2 decreases_loop2) → to_z w64 (of_z w64 c.ref_target-id.result.0) ≡ (midway c.before.before).wanted.snapshot
target_key c =
    let W = midway c.before.before in
    to_z-of_z {w = w64} (sfits_of c.struct_told-then-kind-1.given.0.1) ∙ c.ref_target-id.ensures W.state.metadata.refs ∙ ap (λ (x : plain.Reference). x.snapshot) (sym W.asks)

module _ (c : tie.After-set_ref-decision invariant_loop decreases_loop invariant_loop2 decreases_loop2) where
  abbrev sought : tie.After-target-1 invariant_loop decreases_loop invariant_loop2 decreases_loop2
  sought = c.before.before.before.before.before

  abbrev set_at : tie.Then-kind invariant_loop decreases_loop invariant_loop2 decreases_loop2
  set_at = sought.before.before.before.before.before.before

  set_says : RefSet (terms_of (given (loop_at (setting set_at)))) (midway set_at).state (name_at (given (loop_at (setting set_at))) (loop_at (setting set_at)).loop-number.place) (midway set_at).wanted c.set_ref-decision.result
  set_says =
      let W = midway set_at in
      let k = target_key sought.before.before.before.before in
      set_decides W c.set_ref-decision.ensures
      (faced W.stands W.wanted
      (sought.position_ascending-spot.ensures ∙ ap (λ (y : ℤ). index_of (λ x. eq_z x y) (take (loop_at (setting set_at)).loop-number.snapshots.count (loop_at (setting set_at)).loop-number.ids)) k)
      (c.position-addition.ensures ∙ ap (λ (y : ℤ). index_of (λ x. eq_z x y) (take (loop_at (setting set_at)).loop-number.adds (loop_at (setting set_at)).loop-number.added)) k)
      no_snapshot
      (λ l. ap (λ (n : ℕ). (get_or (loop_at (setting set_at)).loop-number.snapshots.items n no_snapshot).timestamp_ms) (sought.slot-at.ensures.1 l)))

-- whether `main` is set
module _ (c : tie.After-is_main_name-main invariant_loop decreases_loop invariant_loop2 decreases_loop2) where
  abbrev set_call : tie.After-set_ref-decision invariant_loop decreases_loop invariant_loop2 decreases_loop2
  set_call = c.before.before.before

  abbrev set_kind : tie.Then-kind invariant_loop decreases_loop invariant_loop2 decreases_loop2
  set_kind = set_at set_call

  main_is : c.is_main_name-main.result ≡ is_main (name_at (given (loop_at (setting set_kind))) (loop_at (setting set_kind)).loop-number.place)
  main_is = c.is_main_name-main.ensures

-- it is
module _ (c : tie.Else-not-decision-main invariant_loop decreases_loop invariant_loop2 decreases_loop2) where
  abbrev named : tie.After-is_main_name-main invariant_loop decreases_loop invariant_loop2 decreases_loop2
  named = c.before.before

  sets_main : ((set_call named).set_ref-decision.result.grows && named.is_main_name-main.result) ≡ true
  sets_main = not-false ((set_call named).set_ref-decision.result.grows && named.is_main_name-main.result) c.if-not-decision-main.false-raw

  set_grows : (set_call named).set_ref-decision.result.grows ≡ true
  set_grows = and_left (set_call named).set_ref-decision.result.grows named.is_main_name-main.result sets_main

  set_main : is_main (name_at (given (loop_at (setting (set_kind named)))) (loop_at (setting (set_kind named))).loop-number.place) ≡ true
  set_main = sym (main_is named) ∙ and_right (set_call named).set_ref-decision.result.grows named.is_main_name-main.result sets_main

  log_room : (loop_at (setting (set_kind named))).loop-number.log.count < 128
  log_room = main_room (midway (set_kind named)) (set_says (set_call named)) set_grows set_main

  mains_room : (loop_at (setting (set_kind named))).loop-number.mains < 64
  mains_room = omega (arith, mains_most (midway (set_kind named)).stands, (midway (set_kind named)).more)

-- ---- snapshots and refs that are removed

module _ (c : tie.Then-kind-eq-REMOVE_SNAPSHOTS invariant_loop decreases_loop invariant_loop2 decreases_loop2) where
  abbrev removing : tie.Else-others invariant_loop decreases_loop invariant_loop2 decreases_loop2
  removing = c.before.before.before.before

  removed : Stood removing
  removed = standing removing (λ q. omega (arith, q, c.if-kind-eq-REMOVE_SNAPSHOTS.true))

-- of the snapshots that are left, so many ids are lent, and they ascend
lent_left : (c : tie.After-ids_of-ids-then-kind-eq-REMOVE_SNAPSHOTS invariant_loop decreases_loop invariant_loop2 decreases_loop2) → let n : ℕ = c.without-snapshots.result.count in
    (n ≤ length c.ids_of-ids-then-kind-eq-REMOVE_SNAPSHOTS.result) × (n ≡ length (take n c.ids_of-ids-then-kind-eq-REMOVE_SNAPSHOTS.result)) × (ascending lt_z (take n c.ids_of-ids-then-kind-eq-REMOVE_SNAPSHOTS.result) ≡ true)
lent_left c =
    let t = c.before.before.before.before in
    let e = removing t in
    let v = read_update (u e) in
    let xs = read_snapshot_ids (u e).snapshots.removed in
    let w = read_remove_snapshots (u e) (formed e) t.if-kind-eq-REMOVE_SNAPSHOTS.true in
    left_lent (removed t) v (at (deciding e)) (one (deciding e)) (passes e (removed t)) xs w c.without-snapshots.ensures (c.ids_of-ids-then-kind-eq-REMOVE_SNAPSHOTS.ensures (left_laid (removed t) v (at (deciding e)) (one (deciding e)) (passes e (removed t)) xs w c.without-snapshots.ensures))

module _ (c : tie.Then-kind-eq-REMOVE_REF invariant_loop decreases_loop invariant_loop2 decreases_loop2) where
  abbrev dropping : tie.Else-others invariant_loop decreases_loop invariant_loop2 decreases_loop2
  dropping = c.before.before.before.before.before

  dropped : Stood dropping
  dropped = standing dropping (λ q. omega (arith, q, c.if-kind-eq-REMOVE_REF.true))

-- ---- the families with a table of their own, each in its bounds

-- the kinds up to here have had their turns
beyond : (c : tie.Else-kind-eq-REMOVE_REF invariant_loop decreases_loop invariant_loop2 decreases_loop2) → add_schema_kind ≤ (u c.before.before.before.before.before).kind
beyond c =
    let s = c.before.before in
    let a = s.before in
    let e = a.before.before in
    let k = (u e).kind in
    let five = neither (eqb k set_branch_snapshot_kind) (eqb k set_ref_kind) s.if-kind.false in
    let four = neither (eqb k add_snapshot_kind) (eqb k set_branch_snapshot_kind && not (loop_at e).loop-number.half) a.if-kind-begun.false in
    omega (arith, c.if-kind-eq-REMOVE_REF.false, c.if-kind-eq-REMOVE_SNAPSHOTS.false, eqb-false k set_branch_snapshot_kind five.0, eqb-false k set_ref_kind five.1, eqb-false k add_snapshot_kind four.0, a.if-kind-le-SET_LOCATION.false)

module _ (c : tie.Then-kind-eq-ADD_SCHEMA invariant_loop decreases_loop invariant_loop2 decreases_loop2) where
  abbrev shaping : tie.Else-others invariant_loop decreases_loop invariant_loop2 decreases_loop2
  shaping = c.before.before.before.before.before.before

  shaped : Stood shaping
  shaped = standing shaping (λ q. omega (arith, q, c.if-kind-eq-ADD_SCHEMA.true))

-- an addition of a schema, decided
module _ (c : tie.After-add_schema-decision invariant_loop decreases_loop invariant_loop2 decreases_loop2) where
  abbrev asked_at : tie.After-has_size invariant_loop decreases_loop invariant_loop2 decreases_loop2
  asked_at = c.before.before

  abbrev shapes_at : tie.Then-kind-eq-ADD_SCHEMA invariant_loop decreases_loop invariant_loop2 decreases_loop2
  shapes_at = asked_at.before.before.before.before.before.before

  abbrev schemas_held : Represents (given (loop_at (shaping shapes_at))) (shaped shapes_at).state (here_pieces (loop_at (shaping shapes_at)))
  schemas_held = (shaped shapes_at).stands

  abbrev offered : OfferedSchema
  offered = asked_at.schema-offered.result

  said : Offered (given (loop_at (shaping shapes_at))).lent.offers (read_schema_offer (u (shaping shapes_at)).schemas.added) offered
  said = asked_at.schema-offered.ensures

  -- it is asked only where a name is that of a partition
  taken_is : asked_at.if-taken.taken ≡ is_taken (read_schema offered.schema) (read_schemas (loop_at (shaping shapes_at)).loop-number.schemas) (read_partition_specs (loop_at (shaping shapes_at)).loop-number.specs)
  taken_is =
      ⊎_elim (λ w. w.taken-is ∙ w.is_taken-taken.ensures)
      (λ w. w.taken-is ∙ w.if-taken.false ∙ sym (none_taken (read_schema offered.schema) (read_schemas (loop_at (shaping shapes_at)).loop-number.schemas) (read_partition_specs (loop_at (shaping shapes_at)).loop-number.specs) (sym asked_at.meets_partition-taken.ensures ∙ w.if-taken.false)))
      asked_at.if-taken.branch-raw

  -- it is looked for only where a schema has as many fields
  equal_is : c.if-has_size.equal ≡ index_of (λ (x : plain.Schema). same_list same_schema_field x.fields (read_schema offered.schema).fields) (read_schemas (loop_at (shaping shapes_at)).loop-number.schemas)
  equal_is =
      ⊎_elim (λ w. w.equal-is ∙ w.find_equal-equal.ensures)
      (λ w. w.equal-is ∙ none_equal schemas_held (read_schema offered.schema) (listed_length schema_fields offered.schema) asked_at.has_size.ensures w.if-has_size.false)
      c.if-has_size.branch-raw

  told_of_lem : Sought (shaped shapes_at).state.metadata (read_schema offered.schema) (loop_at (shaping shapes_at)).loop-number.keys c.if-has_size.equal asked_at.if-taken.taken
  told_of_lem = schemas_sought schemas_held (read_schema offered.schema) equal_is taken_is

-- a schema is put
module _ (c : tie.Else-not-decision-3 invariant_loop decreases_loop invariant_loop2 decreases_loop2) where
  abbrev adds_schema : tie.After-add_schema-decision invariant_loop decreases_loop invariant_loop2 decreases_loop2
  adds_schema = c.before.before

  schema_grows : adds_schema.add_schema-decision.result.grows ≡ true
  schema_grows = not-false adds_schema.add_schema-decision.result.grows c.if-not-decision-3.false

  keys_room : (loop_at (shaping (shapes_at adds_schema))).loop-number.keys.count < schema_room
  keys_room = adds_schema.add_schema-decision.ensures.room schema_grows

  schemas_room : (loop_at (shaping (shapes_at adds_schema))).loop-number.schemas.count < 16
  schemas_room = omega (arith, keys_room, same_count (schemas_held adds_schema))

module _ (c : tie.Then-kind-eq-SET_CURRENT_SCHEMA invariant_loop decreases_loop invariant_loop2 decreases_loop2) where
  abbrev choosing : tie.Else-others invariant_loop decreases_loop invariant_loop2 decreases_loop2
  choosing = c.before.before.before.before.before.before.before

  choice : Stood choosing
  choice = standing choosing (λ q. omega (arith, q, c.if-kind-eq-SET_CURRENT_SCHEMA.true))

module _ (c : tie.Then-kind-eq-REMOVE_SCHEMAS invariant_loop decreases_loop invariant_loop2 decreases_loop2) where
  abbrev unshaping : tie.Else-others invariant_loop decreases_loop invariant_loop2 decreases_loop2
  unshaping = c.before.before.before.before.before.before.before.before

  unshaped : Stood unshaping
  unshaped = standing unshaping (λ q. omega (arith, q, c.if-kind-eq-REMOVE_SCHEMAS.true))

-- the kinds of schemas have had their turns
past_schemas : (c : tie.Else-kind-eq-REMOVE_SCHEMAS invariant_loop decreases_loop invariant_loop2 decreases_loop2) → remove_schemas_kind < (u c.before.before.before.before.before.before.before.before).kind
past_schemas c = let d = c.before in let e = d.before in omega (arith, beyond e.before, e.if-kind-eq-ADD_SCHEMA.false, d.if-kind-eq-SET_CURRENT_SCHEMA.false, c.if-kind-eq-REMOVE_SCHEMAS.false)

module _ (c : tie.Then-kind-le-SET_DEFAULT_SORT_ORDER invariant_loop decreases_loop invariant_loop2 decreases_loop2) where
  abbrev ordering : tie.Else-others invariant_loop decreases_loop invariant_loop2 decreases_loop2
  ordering = c.before.before.before.before.before.before.before.before.before

  ordered : Stood ordering
  ordered = standing ordering (λ q. omega (arith, q, past_schemas c.before))

module _ (c : tie.Then-kind-le-REMOVE_STATISTICS invariant_loop decreases_loop invariant_loop2 decreases_loop2) where
  abbrev filing_at : tie.Else-others invariant_loop decreases_loop invariant_loop2 decreases_loop2
  filing_at = c.before.before.before.before.before.before.before.before.before.before

  filed : Stood filing_at
  filed = standing filing_at (λ q. omega (arith, q, c.if-kind-le-SET_DEFAULT_SORT_ORDER.false))

module _ (c : tie.Then-kind-le-REMOVE_PARTITION_STATISTICS invariant_loop decreases_loop invariant_loop2 decreases_loop2) where
  abbrev partition_at : tie.Else-others invariant_loop decreases_loop invariant_loop2 decreases_loop2
  partition_at = c.before.before.before.before.before.before.before.before.before.before.before

  partition : Stood partition_at
  partition = standing partition_at (λ q. omega (arith, q, c.if-kind-le-REMOVE_STATISTICS.false))

module _ (c : tie.Else-kind-le-REMOVE_PARTITION_STATISTICS invariant_loop decreases_loop invariant_loop2 decreases_loop2) where
  abbrev specs_at : tie.Else-others invariant_loop decreases_loop invariant_loop2 decreases_loop2
  specs_at = c.before.before.before.before.before.before.before.before.before.before.before

  specced : Stood specs_at
  specced = standing specs_at (λ q. omega (arith, q, c.if-kind-le-REMOVE_PARTITION_STATISTICS.false))

-- ---- the close

module _ (c : tie.Else-number-ne-ACCEPTED-2 invariant_loop decreases_loop invariant_loop2 decreases_loop2) where
  abbrev end_at : tie.At-loop-number invariant_loop decreases_loop invariant_loop2 decreases_loop2
  end_at = c.before.before

  over : (end_at.loop-number.waits || ltb end_at.loop-number.place (given end_at).updates.count) ≡ false
  over = and_second (eqb end_at.loop-number.number 0) (end_at.loop-number.waits || ltb end_at.loop-number.place (given end_at).updates.count) (eq-eqb _ _ c.if-number-ne-ACCEPTED-2.false) c.loop-number-test.false

  passed : (given end_at).updates.count ≤ end_at.loop-number.place
  passed = ltb-false _ _ (neither end_at.loop-number.waits (ltb end_at.loop-number.place (given end_at).updates.count) over).1

  end : Standing (given end_at) end_at.loop-number.place (here_pieces end_at)
  end = at_the_end (end_at.loop-number.invariant.stands c.if-number-ne-ACCEPTED-2.false (neither end_at.loop-number.waits (ltb end_at.loop-number.place (given end_at).updates.count) over).0) passed

module _ (c : tie.After-surplus-gone invariant_loop decreases_loop invariant_loop2 decreases_loop2) where
  abbrev closing : tie.Else-number-ne-ACCEPTED-2 invariant_loop decreases_loop invariant_loop2 decreases_loop2
  closing = c.before.before.before.before.before.before.before.before.before.before

  -- what the close is told of the change log: for the second office nothing
  abbrev told_log : List Update
  told_log = closing_log (terms_of (given (end_at closing))) (end closing).state

  history : HistoryOf told_log (end closing).state.metadata c.close_log-history.result
  history =
      c.close_log-history.ensures.0 told_log (end closing).state.metadata (told (end closing).stands c.closing-adds.ensures c.closing-mains.ensures refl)

  abbrev E : Represents (given (end_at closing)) (end closing).state (here_pieces (end_at closing))
  E = (end closing).stands

  gone_within : c.surplus-gone.result ≤ (given (end_at closing)).metadata.metadata_log.count
  gone_within = gone_fits E c.limit-most.ensures c.surplus-gone.ensures

module _ (c : tie.After-close_number-number invariant_loop decreases_loop invariant_loop2 decreases_loop2) where
  abbrev filing : tie.After-surplus-gone invariant_loop decreases_loop invariant_loop2 decreases_loop2
  filing = c.before.before.before.before

  numbered : c.close_number-number.result ≡ first_of (checks (E filing))
  numbered =
      c.close_number-number.ensures (terms_of (given (end_at (closing filing)))) (told_log filing) (end (closing filing)).state.metadata (history filing) (handed (E filing) _ (current_there (E filing) c.current_place-at-2.ensures past))
      (overfull_is (E filing) filing.limit-most.ensures filing.surplus-gone.ensures c.is_overfull-overfull.ensures)

loop_holds : tie.Need-loop-place-init invariant_loop decreases_loop invariant_loop2 decreases_loop2
unfolding list_sum
loop_holds c = (omega arith, omega arith, λ h. (omega arith, omega arith))

-- the number of the start
started : (c : tie.After-start_number-number invariant_loop decreases_loop invariant_loop2 decreases_loop2) → let g = G c.before.before.before.before in c.start_number-number.result ≡ start_number g.metadata g.updates g.terms
started c = let g = G c.before.before.before.before in c.start_number-number.ensures g.metadata g.updates c.is_formed.ensures refl (whole_sum c.before.before)

loop2_holds : tie.Need-loop-number-init invariant_loop decreases_loop invariant_loop2 decreases_loop2
loop2_holds c =
    let a = c.before.before.before.before.before in
    let b = a.before in
    let g = G a in
    let n = started c.before in
    record {
      within = omega arith;
      fit = c.keys_at_start-keys.ensures.0;
      short = λ z. start_short g (sym n ∙ z);
      refused = λ z. refused_start g.metadata g.updates g.terms g.lent _ (sym n) z;
      stands = λ z _. whole (standing_start g (sym n ∙ z) b.new_from_metadata-builder.ensures (b.ids_of-ids.ensures (start_snapshots g (sym n ∙ z))) (b.last_time-last.ensures (start_log g (sym n ∙ z))) (c.keys_at_start-keys.ensures.1 z) b.blank-update.ensures);
      waits = λ _ f. absurd (false≢true f);
    }

loop2_less : tie.Need-loop-number-smaller-then-number-ne-ACCEPTED invariant_loop decreases_loop invariant_loop2 decreases_loop2
loop2_less c =
    let t = c.before in
    refused_less (stored_at t).loop-number.number (given (stored_at t)).updates.count (stored_at t).loop-number.place (stored_at t).loop-number.half (stored_at t).loop-number.waits (zero t.before) _ _ false (stored_at t).loop-number.half c.if-number-ne-ACCEPTED.true

loop2_again : tie.Need-loop-number-preserved-then-number-ne-ACCEPTED invariant_loop decreases_loop invariant_loop2 decreases_loop2
loop2_again c =
    let t = c.before in
    refuses (waiting t).0 (waiting t).1 (short t.before) (stored_at t).loop-number.invariant.fit c.if-number-ne-ACCEPTED.true

loop2_less_2 : tie.Need-loop-number-smaller-then-not-decision invariant_loop decreases_loop invariant_loop2 decreases_loop2
loop2_less_2 c =
    let f = c.before.before in
    let t = f.before.before in
    stored_less (stored_at t).loop-number.number (given (stored_at t)).updates.count (stored_at t).loop-number.place _ (stored_at t).loop-number.half (zero t.before) t.if-waits.true (waiting t).0 f.after-place.ensures _ f.if-number-ne-ACCEPTED.false

loop2_again_2 : tie.Need-loop-number-preserved-then-not-decision invariant_loop decreases_loop invariant_loop2 decreases_loop2
loop2_again_2 c =
    let f = c.before.before in
    let t = f.before.before in
    goes_on_lem (waiting t).0 (waiting t).1 (short t.before) f.if-number-ne-ACCEPTED.false f.after-place.ensures (stored_at t).loop-number.invariant.fit ((waiting t).1.stays f.if-number-ne-ACCEPTED.false (not-true (stored_at t).loop-number.decision.logs c.if-not-decision.true))

mul_entries : tie.Need-offset_bounds-entries-count invariant_loop decreases_loop invariant_loop2 decreases_loop2
mul_entries c =
    let f = c.before.before.before.before in
    let t = f.before.before in
    omega (arith, (waiting t).1.room f.if-number-ne-ACCEPTED.false)

array_set_from_entries : tie.Need-bounds-entries-count invariant_loop decreases_loop invariant_loop2 decreases_loop2
array_set_from_entries c =
    let f = c.before.before.before.before in
    let t = f.before.before in
    omega (arith, (waiting t).1.room f.if-number-ne-ACCEPTED.false)

add_count : tie.Need-overflow_add-count invariant_loop decreases_loop invariant_loop2 decreases_loop2
add_count c =
    let f = c.before.before.before.before in
    let t = f.before.before in
    omega (arith, (waiting t).1.room f.if-number-ne-ACCEPTED.false)

loop2_less_3 : tie.Need-loop-number-smaller-then-waits invariant_loop decreases_loop invariant_loop2 decreases_loop2
loop2_less_3 c =
    let f = c.before.before.before.before in
    let t = f.before.before in
    stored_less (stored_at t).loop-number.number (given (stored_at t)).updates.count (stored_at t).loop-number.place _ (stored_at t).loop-number.half (zero t.before) t.if-waits.true (waiting t).0 f.after-place.ensures _ f.if-number-ne-ACCEPTED.false

loop2_again_3 : tie.Need-loop-number-preserved-then-waits invariant_loop decreases_loop invariant_loop2 decreases_loop2
loop2_again_3 c =
    let f = c.before.before.before.before in
    let t = f.before.before in
    goes_on_lem (waiting t).0 (waiting t).1 (short t.before) f.if-number-ne-ACCEPTED.false f.after-place.ensures (stored_at t).loop-number.invariant.fit ((waiting t).1.logs f.if-number-ne-ACCEPTED.false (not-false (stored_at t).loop-number.decision.logs c.if-not-decision.false))

loop2_again_4 : tie.Need-loop-number-preserved-then-not-is_formed invariant_loop decreases_loop invariant_loop2 decreases_loop2
loop2_again_4 c =
    let f = c.before.before in
    let e = f.before.before in
    let n : update_formed (read_update (U (decided_at e))) ≡ false = sym f.is_formed-in-loop-number.ensures ∙ not-true f.is_formed-in-loop-number.result c.if-not-is_formed.true-raw in
    waits_now e (not_formed_decided (unformed (stands e) n) (read_update (U (decided_at e))) (at e) (one e) n false (ap (λ (d : Decision). d.number) c.decided-decision-then-not-is_formed.ensures)) (fit e)

loop2_again_5 : tie.Need-loop-number-preserved-then-others invariant_loop decreases_loop invariant_loop2 decreases_loop2
loop2_again_5 c =
    let o = c.before.before.before in
    let f = o.before.before in
    let e = turn_at f in
    waits_now e
    (others_stand (stands e) (at e) (one e) (well_formed f)
    (λ st E. ⊎_elim
    (λ w. sym (w.is_others-others.ensures st.metadata (tables_shown E)) ∙ sym w.others-is ∙ o.if-others.true)
    (λ w. absurd (false≢true (sym w.others-is ∙ o.if-others.true)))
    o.if-shared.branch-raw)
    (c.is_formed-fits.ensures (terms_of (given (decided_at e))) refl)
    (ap (λ (d : Decision). d.number) c.decided-decision-then-others.ensures ∙ c.others_number.ensures))
    (fit e)

loop2_again_6 : tie.Need-loop-number-preserved-then-kind-le-SET_LOCATION invariant_loop decreases_loop invariant_loop2 decreases_loop2
loop2_again_6 c =
    let t = c.before in
    let e = t.before in
    let s = single t in
    waits_now (deciding e) (fields_decided s (read_update (u e)) (at (deciding e)) (one (deciding e)) (passes e s) (c.decide-decision.ensures (terms e) s.state s.stands.tables.builder) (is_single (u e) (formed e) t.if-kind-le-SET_LOCATION.true)) (fit (deciding e))

loop2_again_7 : tie.Need-loop-number-preserved-then-not-decision-2 invariant_loop decreases_loop invariant_loop2 decreases_loop2
loop2_again_7 c =
    let a = c.before.before in
    let t = adds_at a in
    let e = adding t in
    let n : a.add_snapshot-decision.result.number ≡ 0 → ⊥ = eqb-false _ _ (sym (add_says a).grows ∙ not-true a.add_snapshot-decision.result.grows c.if-not-decision-2.true) in
    waits_now (deciding e) (add_refused (adding_standing t) (at (deciding e)) (one (deciding e)) (passes e (adding_standing t)) (either_kind t) a.commits_on_tag-on_tag.ensures (add_says a) (eqb (adding_kind t) 5) n) (fit (deciding e))

loop2_again_8 : tie.Need-loop-number-preserved-then-is_last invariant_loop decreases_loop invariant_loop2 decreases_loop2
loop2_again_8 c =
    let w = to_else7 c.before in
    let x = (u (adding (add_kind w))).snapshots.added in
    let E = (adding_standing (add_kind w)).stands in
    let k = key_back c.before.before.before in
    added_now w (stored_last E x (add_back w) (add_fine w) (above c) _ refl refl) (id_last E x (add_back w) (add_fine w) (above c) k) k

put_requires : tie.Need-put-snapshots-requires invariant_loop decreases_loop invariant_loop2 decreases_loop2
put_requires c κs =
    let e = to_else7 c.before in
    let E = (adding_standing (add_kind e)).stands in
    let x = (u (adding (add_kind e))).snapshots.added in
    (laid_snapshots_lem E, (add_back e, (add_room e, put_new E x (add_back e) (add_fine e))))

loop2_again_9 : tie.Need-loop-number-preserved-then-kind-begun invariant_loop decreases_loop invariant_loop2 decreases_loop2
loop2_again_9 c =
    let l = c.before.before.before in
    let w = to_else7 l in
    let x = (u (adding (add_kind w))).snapshots.added in
    let E = (adding_standing (add_kind w)).stands in
    let P = c.put-snapshots.ensures in
    added_now w (put_tables E x (add_back w) (add_fine w) P) (put_ids E x (add_back w) (add_fine w) P (c.ids_of-ids-then-kind-begun.ensures (put_laid E x (add_back w) (add_fine w) P))) (key_back l.before.before)

set_ref_requires : tie.Need-set_ref-decision-requires invariant_loop decreases_loop invariant_loop2 decreases_loop2
set_ref_requires c κs =
    let t = c.before.before.before.before.before.before.before.before.before.before in
    let e = setting t in
    (laid_refs_lem (midway t).stands, (set_name t, (reference_back (u e) (formed e), (tidy e, t.if-kind.true))))

loop2_again_10 : tie.Need-loop-number-preserved-then-not-decision-main invariant_loop decreases_loop invariant_loop2 decreases_loop2
loop2_again_10 c =
    let m = c.before.before in
    let t = set_kind m in
    let n : ((set_call m).set_ref-decision.result.grows && is_main (name_at (given (loop_at (setting t))) (loop_at (setting t)).loop-number.place)) ≡ false = ap (λ (b : Bool). (set_call m).set_ref-decision.result.grows && b) (sym (main_is m)) ∙ not-true ((set_call m).set_ref-decision.result.grows && m.is_main_name-main.result) c.if-not-decision-main.true-raw in
    waits_now (deciding (setting t)) (other_decided (midway t) (set_says (set_call m)) m.refs_after-refs.ensures n) (fit (deciding (setting t)))

loop2_again_11 : tie.Need-loop-number-preserved-then-kind invariant_loop decreases_loop invariant_loop2 decreases_loop2
loop2_again_11 c =
    let w = c.before.before in
    let m = named w in
    let t = set_kind m in
    waits_now (deciding (setting t)) (main_decided (midway t) (set_says (set_call m)) m.refs_after-refs.ensures (set_grows w) (set_main w) c.main_entry-entry.ensures (log_room w) refl refl (target_key (sought (set_call m)).before.before.before.before)) (fit (deciding (setting t)))

loop2_again_12 : tie.Need-loop-number-preserved-then-kind-eq-REMOVE_SNAPSHOTS invariant_loop decreases_loop invariant_loop2 decreases_loop2
loop2_again_12 c =
    let l = c.before.before.before.before in
    let t = l.before.before.before in
    let e = removing t in
    let s = removed t in
    let T = s.stands.tables in
    let v = read_update (u e) in
    let xs = read_snapshot_ids (u e).snapshots.removed in
    let w = read_remove_snapshots (u e) (formed e) t.if-kind-eq-REMOVE_SNAPSHOTS.true in
    waits_now (deciding e) (removed_decided s v (at (deciding e)) (one (deciding e)) (passes e s) xs w (l.remove_snapshots-decision.ensures s.state T.builder T.snapshots) l.without-snapshots.ensures (c.ids_of-ids-then-kind-eq-REMOVE_SNAPSHOTS.ensures (left_laid s v (at (deciding e)) (one (deciding e)) (passes e s) xs w l.without-snapshots.ensures)) c.pointing-refs.ensures) (fit (deciding e))

loop2_again_13 : tie.Need-loop-number-preserved-then-kind-eq-REMOVE_REF invariant_loop decreases_loop invariant_loop2 decreases_loop2
loop2_again_13 c =
    let t = c.before.before.before in
    let e = dropping t in
    let s = dropped t in
    let T = s.stands.tables in
    let q = t.if-kind-eq-REMOVE_REF.true in
    waits_now (deciding e) (refs_decided s (read_update (u e)) (at (deciding e)) (one (deciding e)) (passes e s) (c.remove_ref-decision.ensures (terms e) s.state T.builder T.refs) (is_ref_removal (u e) (formed e) q)
    (λ z. refs_left s.stands (read_update (u e)) (read_name (u e).refs.name) (read_remove_ref (u e) (formed e) q) c.without-refs.ensures)) (fit (deciding e))

loop2_again_14 : tie.Need-loop-number-preserved-then-not-decision-3 invariant_loop decreases_loop invariant_loop2 decreases_loop2
loop2_again_14 c =
    let a = c.before.before in
    let t = shapes_at a in
    let e = shaping t in
    let s = shaped t in
    let D = a.add_schema-decision.ensures in
    own e s of_schemas (is_schemas (u e) (formed e) (omega (arith, t.if-kind-eq-ADD_SCHEMA.true)) (omega (arith, t.if-kind-eq-ADD_SCHEMA.true))) (D.answers (terms e) s.state (said a) s.stands.tables.builder (told_of_lem a))
    (λ z. not_grown (schemas_held a) (read_schema (schema_under a.add_schema-decision.result.entry.schemas.added.schema_id (offered a).schema)) (D.table (terms e) s.state (said a) (told_of_lem a) z) (not-true a.add_schema-decision.result.grows c.if-not-decision-3.true))
    (fit (deciding e))

loop2_again_15 : tie.Need-loop-number-preserved-then-kind-eq-ADD_SCHEMA invariant_loop decreases_loop invariant_loop2 decreases_loop2
loop2_again_15 c =
    let n = c.before.before in
    let w = n.before in
    let a = adds_schema w in
    let t = shapes_at a in
    let e = shaping t in
    let s = shaped t in
    let D = a.add_schema-decision.ensures in
    let id = a.add_schema-decision.result.entry.schemas.added.schema_id in
    let l = (loop_at e).loop-number in
    own e s of_schemas (is_schemas (u e) (formed e) (omega (arith, t.if-kind-eq-ADD_SCHEMA.true)) (omega (arith, t.if-kind-eq-ADD_SCHEMA.true))) (D.answers (terms e) s.state (said a) s.stands.tables.builder (told_of_lem a))
    (λ z. one_more_lem (schemas_held a) id (said a).laid (schemas_room w) (D.table (terms e) s.state (said a) (told_of_lem a) z) (schema_grows w)
    (ap (set l.schemas.items l.schemas.count) n.new_schema-schema.ensures) refl
    (λ k x f q m. c.with_key-keys.ensures.1 k x f (q ∙ sym (ap (λ (y : Schema). y.schema_id.0) n.new_schema-schema.ensures)) m))
    c.with_key-keys.ensures.0

loop2_again_16 : tie.Need-loop-number-preserved-then-kind-eq-SET_CURRENT_SCHEMA invariant_loop decreases_loop invariant_loop2 decreases_loop2
loop2_again_16 c =
    let t = c.before in
    let e = choosing t in
    let s = choice t in
    let q = t.if-kind-eq-SET_CURRENT_SCHEMA.true in
    own e s of_schemas (is_schemas (u e) (formed e) (omega (arith, q)) (omega (arith, q))) (c.set_current_schema-decision.ensures (terms e) s.state s.stands.tables.builder (schemas_keys s.stands))
    (λ z. schemas_same s.stands (read_update (u e)) (u e).schemas.chosen.0 (read_kind_lem (u e) (tidy e) 10 q))
    (fit (deciding e))

loop2_again_17 : tie.Need-loop-number-preserved-then-kind-eq-REMOVE_SCHEMAS invariant_loop decreases_loop invariant_loop2 decreases_loop2
loop2_again_17 c =
    let o = c.before in
    let r = o.before.before in
    let t = r.before in
    let e = unshaping t in
    let s = unshaped t in
    let q = t.if-kind-eq-REMOVE_SCHEMAS.true in
    own e s of_schemas (is_schemas (u e) (formed e) (omega (arith, q)) (omega (arith, q))) (r.remove_schemas-decision.ensures (terms e) s.state s.stands.tables.builder (schemas_keys s.stands))
    (λ z. schemas_left s.stands (read_schema_ids (u e).schemas.removed) o.without-schemas.ensures (read_update (u e)) (read_kind_lem (u e) (tidy e) 11 q) c.keys_of-keys.ensures.1)
    c.keys_of-keys.ensures.0

loop2_again_18 : tie.Need-loop-number-preserved-then-kind-le-SET_DEFAULT_SORT_ORDER invariant_loop decreases_loop invariant_loop2 decreases_loop2
loop2_again_18 c =
    let d = c.before in
    let p = d.before.before in
    let t = p.before in
    let e = ordering t in
    let s = ordered t in
    let T = s.stands.tables in
    let D = d.decide-decision-then-kind-le-SET_DEFAULT_SORT_ORDER.ensures in
    own e s of_orders (is_orders (u e) (formed e) (past_schemas t.before) t.if-kind-le-SET_DEFAULT_SORT_ORDER.true) (D.answers (terms e) s.state T.builder (current_there s.stands p.current_place-at.ensures past) T.own_tables.orders)
    (λ z. c.after-orders.ensures ∙ D.table (terms e) s.state T.own_tables.orders z)
    (fit (deciding e))

loop2_again_19 : tie.Need-loop-number-preserved-then-kind-le-REMOVE_STATISTICS invariant_loop decreases_loop invariant_loop2 decreases_loop2
loop2_again_19 c =
    let t = c.before.before in
    let e = filing_at t in
    let s = filed t in
    let T = s.stands.tables in
    let D = c.decide-decision-then-kind-le-REMOVE_STATISTICS.ensures in
    let w : Within Statistics (u e) = (omega (arith, t.if-kind-le-SET_DEFAULT_SORT_ORDER.false), t.if-kind-le-REMOVE_STATISTICS.true) in
    own e s (of_statistics Statistics) (is_statistics (u e) (formed e) t.if-kind-le-SET_DEFAULT_SORT_ORDER.false t.if-kind-le-REMOVE_STATISTICS.true) (D.answers Statistics (terms e) s.state w T.builder T.own_tables.statistics)
    (λ z. c.after-statistics.ensures ∙ D.table Statistics (terms e) s.state w T.own_tables.statistics z)
    (fit (deciding e))

loop2_again_20 : tie.Need-loop-number-preserved-then-kind-le-REMOVE_PARTITION_STATISTICS invariant_loop decreases_loop invariant_loop2 decreases_loop2
loop2_again_20 c =
    let t = c.before.before in
    let e = partition_at t in
    let s = partition t in
    let T = s.stands.tables in
    let D = c.decide-decision-then-kind-le-REMOVE_PARTITION_STATISTICS.ensures in
    let w : Within PartitionStatistics (u e) = (omega (arith, t.if-kind-le-REMOVE_STATISTICS.false), t.if-kind-le-REMOVE_PARTITION_STATISTICS.true) in
    own e s (of_statistics PartitionStatistics) (is_partition_statistics (u e) (formed e) t.if-kind-le-REMOVE_STATISTICS.false t.if-kind-le-REMOVE_PARTITION_STATISTICS.true) (D.answers PartitionStatistics (terms e) s.state w T.builder T.own_tables.partition_statistics)
    (λ z. c.after-partition_statistics.ensures ∙ D.table PartitionStatistics (terms e) s.state w T.own_tables.partition_statistics z)
    (fit (deciding e))

loop2_again_21 : tie.Need-loop-number-preserved invariant_loop decreases_loop invariant_loop2 decreases_loop2
loop2_again_21 c =
    let d = c.before.before in
    let p = d.before.before in
    let t = p.before in
    let e = specs_at t in
    let s = specced t in
    let T = s.stands.tables in
    let D = d.decide-made.ensures in
    own e s of_specs (is_specs (u e) (formed e) t.if-kind-le-REMOVE_PARTITION_STATISTICS.false) (D.answers (terms e) s.state refl T.builder (current_there s.stands p.current_place-at-in-loop-number.ensures past) T.own_tables.specs)
    (λ z. D.table (terms e) s.state refl T.builder T.own_tables.specs z)
    (fit (deciding e))

staying_requires : tie.Need-staying-metadata_log-requires invariant_loop decreases_loop invariant_loop2 decreases_loop2
staying_requires c κs =
    let n = c.before.before.before.before.before in
    let f = filing n in
    (files_laid (E f), (gone_within f, joins_fit (E f) f.limit-most.ensures f.surplus-gone.ensures (sym (numbered n) ∙ c.if-number-ne-ACCEPTED-3.false)))

returns_3 : tie.Need-returns invariant_loop decreases_loop invariant_loop2 decreases_loop2
returns_3 c =
    let l = c.before in
    let n = l.before.before.before.before.before.before.before.before in
    let f = filing n in
    close_accepted (E f) _ (sym (numbered n) ∙ l.if-number-ne-ACCEPTED-3.false) (history f)
    (stay_is (E f) f.limit-most.ensures f.surplus-gone.ensures l.staying-metadata_log.ensures)
    (gone_is (E f) f.limit-most.ensures f.surplus-gone.ensures l.part-expired.ensures)
    l.own_or-updated.ensures
    ∙ ends (end (closing f)) (passed (closing f))

pub run_spec : {M : Type 1} → statement M
run_spec =
    tie.close
    (tie.spec
    invariant_loop
    decreases_loop
    invariant_loop2
    decreases_loop2
    (λ c κs. search rules)
    (λ c κs. search rules)
    (λ c κs. search rules)
    (λ c κs. search rules)
    (λ c κs. search rules)
    (λ c κs. search rules)
    loop_holds
    (λ c. omega (arith, slotted_unread c))
    (λ c. slotted_unread c)
    (λ c κs. search rules)
    (λ c. omega (arith, c.weight-sum.ensures, (counts (update_at (G c.before.before.before) c.loop-place.place).kind).1, slotted c.before, c.loop-place.invariant.1))
    (λ c. omega (arith, slotted c.before))
    (λ c. omega (arith, slotted c.before))
    (λ c. (omega (arith, slotted c.before), omega (arith, c.weight-sum.ensures, (counts (update_at (G c.before.before.before) c.loop-place.place).kind).1, c.loop-place.invariant.1), more_summed c.before (c.weight-sum.ensures ∙ sym (weight_read (update_at (G c.before.before.before) c.loop-place.place)))))
    (λ c κs. search rules)
    (λ c κs. search rules)
    (λ c κs z. start_schemas (G c.before.before.before.before) (sym (started c) ∙ z))
    loop2_holds
    loop2_less
    loop2_again
    (λ c κs. omega (arith, (waiting c.before).0, short c.before.before))
    loop2_less_2
    loop2_again_2
    mul_entries
    array_set_from_entries
    add_count
    loop2_less_3
    loop2_again_3
    (λ c. omega (arith, below c, short c.before))
    (λ c. omega (arith, below c, short c.before))
    (λ c κs. search rules)
    (λ c κs. search rules)
    (λ c. turn_less c.before.before.before.before)
    loop2_again_4
    (λ c κs. let e = c.before in let E = (shown e).1 in let v = U (decided_at (turn_at e)) in let f = well_formed e in
    (laid_refs_lem E, (laid_snapshots_lem E, (snapshots_ascend E, (laid_log E, (f, record { branch = branch_name_laid v f; ref = set_name_laid v f; gone = removed_name_laid v f; removed = asked_laid v f }))))))
    (λ c κs. formed_tidy _ (well_formed c.before.before))
    (λ c κs. search rules)
    (λ c κs. search rules)
    (λ c. turn_less (turn_at c.before.before.before.before.before))
    loop2_again_5
    (λ c κs. let e = c.before in (location_fits (single c).stands, (tidy e, (by_kind e, ((bounds (u e) (formed e)).0, c.if-kind-le-SET_LOCATION.true)))))
    (λ c. turn_less (deciding c.before.before))
    loop2_again_6
    (λ c κs. let e = adding c in (laid_refs_lem (adding_standing c).stands, λ q. branch_name_laid (u e) (formed e) q))
    (λ c. held_within (adding_standing c.before).stands)
    (λ c. held_slice (adding_standing c.before.before).stands)
    (λ c κs. let t = c.before.before.before in (tidy (adding t), (either_kind t, held_ascend (adding_standing t).stands)))
    (λ c. added_less (adds_at c.before.before))
    loop2_again_7
    (λ c. omega (arith, adds_room c.before.before.before))
    (λ c. omega (arith, adds_room c.before.before.before))
    (λ c. omega (arith, adds_room c.before.before.before))
    (λ c. held_within (adding_standing (add_kind c.before.before.before)).stands)
    (λ c. held_slice (adding_standing (add_kind c.before.before.before.before)).stands)
    (λ c κs. search rules)
    (λ c. omega (arith, add_room (to_else7 c.before)))
    (λ c. omega (arith, add_room (to_else7 c.before)))
    (λ c. omega (arith, add_room (to_else7 c.before)))
    (λ c. omega (arith, add_room (to_else7 c.before)))
    (λ c. omega (arith, add_room (to_else7 c.before)))
    (λ c. added_less (add_kind (to_else7 c.before)))
    loop2_again_8
    put_requires
    (λ c κs. search rules)
    (λ c. added_less (add_kind (to_else7 c.before.before.before)))
    loop2_again_9
    (λ c κs. search rules)
    (λ c. held_within (midway c.before.before).stands)
    (λ c. held_slice (midway c.before.before.before).stands)
    (λ c κs. held_ascend (midway c.before.before.before).stands)
    (λ c κs. held_fits (midway c.before.before.before.before).stands)
    (λ c. omega (arith, c.slot-at.ensures.0))
    (λ c. omega (arith, c.slot-at.ensures.0))
    (λ c. adds_few (midway c.before.before.before.before.before.before).stands)
    (λ c. adds_cut (midway c.before.before.before.before.before.before.before).stands)
    (λ c κs. search rules)
    set_ref_requires
    (λ c κs. let t = set_at c in (laid_refs_lem (midway t).stands, (refs_ascend (midway t).stands, λ g. c.set_ref-decision.ensures.new g)))
    (λ c κs. set_name (set_at c.before.before))
    (λ c. turn_less (deciding (setting (set_kind c.before.before))))
    loop2_again_10
    (λ c κs. search rules)
    (λ c. omega (arith, log_room c.before.before))
    (λ c. omega (arith, log_room c.before.before))
    (λ c. omega (arith, log_room c.before.before))
    (λ c. omega (arith, mains_room c.before.before))
    (λ c. omega (arith, mains_room c.before.before))
    (λ c. omega (arith, mains_room c.before.before))
    (λ c. turn_less (deciding (setting (set_kind (named c.before.before)))))
    loop2_again_11
    (λ c κs. let e = removing c in let E = (removed c).stands in let q = c.if-kind-eq-REMOVE_SNAPSHOTS.true in (laid_snapshots_lem E, (snapshots_ascend E, (asked_laid (u e) (formed e) q, (tidy e, q)))))
    (λ c κs. let t = c.before.before in let e = removing t in (laid_snapshots_lem (removed t).stands, asked_laid (u e) (formed e) t.if-kind-eq-REMOVE_SNAPSHOTS.true))
    (λ c κs. search rules)
    (λ c. (lent_left c).0)
    (λ c. (lent_left c.before).1)
    (λ c κs. (laid_refs_lem (removed c.before.before.before.before.before).stands, (lent_left c.before).2))
    (λ c. turn_less (deciding (removing c.before.before.before.before.before.before.before)))
    loop2_again_12
    (λ c κs. let e = dropping c in let q = c.if-kind-eq-REMOVE_REF.true in (laid_refs_lem (dropped c).stands, (removed_name_laid (u e) (formed e) q, (tidy e, q))))
    (λ c κs. let t = c.before.before in let e = dropping t in (laid_refs_lem (dropped t).stands, removed_name_laid (u e) (formed e) t.if-kind-eq-REMOVE_REF.true))
    (λ c. turn_less (deciding (dropping c.before.before.before)))
    loop2_again_13
    (λ c κs. search rules)
    (λ c κs. (c.schema-offered.ensures.laid, laid_specs (shaped c.before.before.before).stands))
    (λ c κs. let a = c.before.before.before.before in let E = (shaped a.before.before).stands in (a.schema-offered.ensures.laid, (laid_schemas_lem E, laid_specs E)))
    (λ c κs. fit (deciding (shaping c.before.before.before.before.before)))
    (λ c κs. let a = c.before.before.before.before.before.before in (laid_schemas_lem (shaped a.before.before).stands, a.schema-offered.ensures.laid))
    (λ c κs. let a = c.before.before.before.before.before in let t = a.before.before in let e = shaping t in (fit (deciding e), (a.schema-offered.ensures.laid, (tidy e, t.if-kind-eq-ADD_SCHEMA.true))))
    (λ c. turn_less (deciding (shaping (shapes_at c.before.before))))
    loop2_again_14
    (λ c κs. search rules)
    (λ c. omega (arith, schemas_room c.before))
    (λ c. omega (arith, schemas_room c.before))
    (λ c. omega (arith, schemas_room c.before))
    (λ c κs. let w = c.before.before in (fit (deciding (shaping (shapes_at (adds_schema w)))), keys_room w))
    (λ c. turn_less (deciding (shaping (shapes_at (adds_schema c.before.before.before)))))
    loop2_again_15
    (λ c κs. let e = choosing c in (fit (deciding e), (tidy e, c.if-kind-eq-SET_CURRENT_SCHEMA.true)))
    (λ c. turn_less (deciding (choosing c.before)))
    loop2_again_16
    (λ c κs. let e = unshaping c in (fit (deciding e), (tidy e, (by_kind e, c.if-kind-eq-REMOVE_SCHEMAS.true))))
    (λ c κs. let t = c.before.before in let e = unshaping t in (laid_schemas_lem (unshaped t).stands, schemas_asked_laid (u e) (formed e) t.if-kind-eq-REMOVE_SCHEMAS.true))
    (λ c κs. let t = c.before.before.before in schemas_left_laid (unshaped t).stands (read_schema_ids (u (unshaping t)).schemas.removed) c.without-schemas.ensures)
    (λ c. turn_less (deciding (unshaping c.before.before.before.before)))
    loop2_again_17
    (λ c κs. fit (deciding (ordering c)))
    (λ c. omega (arith, current_slot (ordered c.before).stands c.current_place-at.ensures))
    (λ c. current_slot (ordered c.before).stands c.current_place-at.ensures)
    (λ c κs. let p = c.before in let t = p.before in let e = ordering t in let E = (ordered t).stands in (current_laid E p.current_place-at.ensures past, (laid_orders E, (orders_formed_lem E, (tidy e, (by_kind e, (omega (arith, past_schemas t.before), t.if-kind-le-SET_DEFAULT_SORT_ORDER.true)))))))
    (λ c κs. (laid_orders (ordered c.before.before.before).stands, c.decide-decision-then-kind-le-SET_DEFAULT_SORT_ORDER.ensures.new))
    (λ c. turn_less (deciding (ordering c.before.before.before.before)))
    loop2_again_18
    (λ c κs. let e = filing_at c in (laid_statistics_lem (filed c).stands Statistics, (tidy e, by_kind e)))
    (λ c κs. let E = (filed c.before).stands in (laid_statistics_lem E Statistics, (statistics_ascend E Statistics, c.decide-decision-then-kind-le-REMOVE_STATISTICS.ensures.new)))
    (λ c. turn_less (deciding (filing_at c.before.before)))
    loop2_again_19
    (λ c κs. let e = partition_at c in (laid_statistics_lem (partition c).stands PartitionStatistics, (tidy e, by_kind e)))
    (λ c κs. let E = (partition c.before).stands in (laid_statistics_lem E PartitionStatistics, (statistics_ascend E PartitionStatistics, c.decide-decision-then-kind-le-REMOVE_PARTITION_STATISTICS.ensures.new)))
    (λ c. turn_less (deciding (partition_at c.before.before)))
    loop2_again_20
    (λ c κs. fit (deciding (specs_at c)))
    (λ c. omega (arith, current_slot (specced c.before).stands c.current_place-at-in-loop-number.ensures))
    (λ c. current_slot (specced c.before).stands c.current_place-at-in-loop-number.ensures)
    (λ c κs. let p = c.before in let t = p.before in let e = specs_at t in let E = (specced t).stands in (current_laid E p.current_place-at-in-loop-number.ensures past, (laid_specs E, (specs_formed_lem E, (tidy e, (by_kind e, (omega (arith, t.if-kind-le-REMOVE_PARTITION_STATISTICS.false), (bounds (u e) (formed e)).1)))))))
    (λ c. turn_less (deciding (specs_at c.before.before.before.before.before)))
    loop2_again_21
    (λ c κs. search rules)
    (λ c. c.refused.ensures ∙ c.loop-number.invariant.refused c.if-number-ne-ACCEPTED-2.true)
    (λ c κs. search rules)
    (λ c κs. search rules)
    (λ c. held_within (end c.before.before.before.before).stands)
    (λ c. held_slice (end c.before.before.before.before.before).stands)
    (λ c. adds_within (end c.before.before.before.before.before).stands c.closing-adds.ensures)
    (λ c. added_slice (end c.before.before.before.before.before.before).stands c.closing-adds.ensures)
    (λ c. mains_within (end c.before.before.before.before.before.before).stands c.closing-mains.ensures)
    (λ c. main_slice (end c.before.before.before.before.before.before.before).stands c.closing-mains.ensures)
    (λ c κs. let E = (end c.before.before.before.before.before.before.before).stands in (laid_log E, held_ascend E))
    (λ c κs. search rules)
    (λ c κs. files_fit (end c.before.before.before.before.before.before.before.before.before).stands)
    (λ c κs. (files_fit (E c), gone_within c))
    (λ c κs. (end_at (closing c.before)).loop-number.invariant.fit)
    (λ c. omega (arith, current_slot (E c.before.before) c.current_place-at-2.ensures))
    (λ c. current_slot (E c.before.before) c.current_place-at-2.ensures)
    (λ c κs. let p = c.before in let f = p.before.before in let e = E f in (f.close_log-history.ensures.1, (laid_refs_lem e, (current_laid e p.current_place-at-2.ensures past, (laid_orders e, (order_held e, (laid_specs e, spec_held e)))))))
    (λ c κs. search rules)
    (λ c. let n = c.before.before in let e = closing (filing n) in c.refused-then-number-ne-ACCEPTED-3.ensures ∙ close_refused (E (filing n)) _ (numbered n) c.if-number-ne-ACCEPTED-3.true ∙ ends (end e) (passed e))
    (λ c κs. let f = filing c.before.before in (files_laid (E f), (search rules, gone_within f)))
    staying_requires
    (λ c κs. search rules)
    returns_3)
