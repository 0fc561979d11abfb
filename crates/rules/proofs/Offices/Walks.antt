-- Walks from the other office's refs: all that such a walk lists is reached, so it keeps its records; one that ends at a parentless snapshot is the same
-- after a run, and any other goes on from what it listed, or meets a snapshot twice.
use Prim.Native.Nat.{ℕ, suc, ◌≤◌}
use native.Mathlib.Omega.{arith}
use mathlib.Core.Path.{◌≡◌, refl, sym, ap, ◌∙◌, subst}
use mathlib.Core.Bool.{Bool, true, not, false≢true}
use mathlib.Core.List.{List, [], ◌∷◌, Memᴰ}
use mathlib.Core.Option.{Option, none, some}
use lib.Dec.{eqb}
use lib.IntN.{ℤ, pos, negsuc}
use lib.ListN.{length, length-map}
use lib.Signed.{lt_z, non_neg}
use borrow.Author.Tests.{eqb-true, eq-eqb, le-leb}
use Rattle.rules.specs.Words.{eq_z, is_some, or_else, some_with, all, last_of, is_in, ascending}
use Rattle.rules.specs.Capacities.{snapshot_room}
use Rattle.rules.specs.Register.{Snapshot, NamedRef, FileEntry, Metadata, Update, Terms, Outcome}
use Rattle.rules.specs.Register.Outcome.{Refused, Accepted}
use Rattle.rules.specs.WellFormed.{holds_snapshot, snapshot_formed, snapshot_below, snapshots_formed}
use Rattle.rules.specs.Walk.{Walk, Listed, Twice, Bad, parent_of, lists_formed, follow, ancestors, snapshot_ids, snapshot_parents, record_ancestors, reach}
use Rattle.rules.specs.Others.{others_refs, others_reach}
use Rattle.rules.specs.Run.{run}
use Rattle.rules.specs.Rows.{Given, answered_from, end_over}
use Rattle.rules.specs.OfficeWalks.{is_parentless, is_closed, HeldAlike, WalkStays, Onward, is_of_office}
use Rattle.rules.proofs.Checks.{only_then, both, and_left}
use Rattle.rules.proofs.Orders.{numbers_told}
use Rattle.rules.proofs.Tables.{all_head, all_tail, all_then, all_read, pairs_read, table_parts_lem}
use Rattle.rules.proofs.Sound.Metadata.{Sound}
use Rattle.rules.proofs.Sound.Accepted.{run_accepted}
use Rattle.rules.proofs.Replay.Keys.{in_all}
use Rattle.rules.proofs.FieldIds.Runs.{ascending_unequal}
use Rattle.rules.proofs.History.Lists.{in_last, found_any}
use Rattle.rules.proofs.Offices.Follow.{Way, way_held, way_last, Found, whole_way, follow_found, follow_same, follow_begins, parent_in, parent_field, parent_record, parent_held, way_reached}
use Rattle.rules.proofs.Offices.Refs.{accepted_start}
use Rattle.rules.proofs.Offices.Reach.{record_of, held_alike, OthersStay, accepted_stays}

-- ---- walks over well-formed snapshots

-- where no id is below 0, none is held there
below_none : (ids parents : List ℤ) → all non_neg ids ≡ true → parent_of ids parents (negsuc 0) ≡ none
below_none [] parents h = refl
below_none (x ∷ ids) [] h = refl
below_none (pos x ∷ ids) (p ∷ parents) h = below_none ids parents (all_tail non_neg (pos x) ids h)
below_none (negsuc x ∷ ids) (p ∷ parents) h = absurd (false≢true (all_head non_neg (negsuc x) ids h))

-- the walk ends in front of the excluded id
abbrev stops_at : Option ℤ → List ℤ → ℤ → Bool
stops_at excluded listed id = some_with (eq_z id) excluded

-- a walk that lists ids passes them
not_listed : {ids : List ℤ} → Bad ≡ Listed ids → ⊥
not_listed e = let z : ◌≡◌ {A = ℕ} 0 1 = cc in omega arith

walk_found : (l : List Snapshot) (start : ℤ) (excluded : Option ℤ) (ids : List ℤ) → record_ancestors l start excluded ≡ Listed ids → Found (parent_in l) (stops_at excluded) [] start ids
unfolding ancestors
walk_found l start excluded ids e = follow_found (parent_in l) (stops_at excluded) (suc snapshot_room) [] start ids (only_then (lists_formed (snapshot_ids l) (snapshot_parents l)) not_listed e).1

-- so they are held
walk_held : (l : List Snapshot) (start : ℤ) (excluded : Option ℤ) (ids : List ℤ) → record_ancestors l start excluded ≡ Listed ids → (id : ℤ) → is_in ids id ≡ true → holds_snapshot l id ≡ true
walk_held l start excluded ids e id h =
    let k : Found (parent_in l) (stops_at excluded) [] start ids = walk_found l start excluded ids e in
    sym (parent_held l id) ∙ in_all (λ (z : ℤ). is_some (parent_in l z)) ids id (way_held (parent_in l) start ids k.end (whole_way k)) h

module _ (l : List Snapshot) (f : snapshots_formed l ≡ true) where
  table : (length l ≤ snapshot_room) × (all snapshot_formed l ≡ true) × (ascending snapshot_below l ≡ true)
  unfolding snapshots_formed
  table = table_parts_lem snapshot_room snapshot_formed snapshot_below l f

  ids_formed_lem : all non_neg (snapshot_ids l) ≡ true
  ids_formed_lem = all_read (λ (s : Snapshot). s.id) non_neg l ∙ all_then snapshot_formed (λ (s : Snapshot). non_neg s.id) (λ s h. and_left (non_neg s.id) _ (and_left _ _ h)) l table.1

  -- their ids and parents are such as a walk asks for
  lists_formed_lem : lists_formed (snapshot_ids l) (snapshot_parents l) ≡ true
  lists_formed_lem =
      let few : length l ≤ snapshot_room = table.0 in
      let ids : length (snapshot_ids l) ≡ length l = length-map l (λ (s : Snapshot). s.id) in
      let parents : length (snapshot_parents l) ≡ length l = length-map l (λ (s : Snapshot). or_else s.parent (negsuc 0)) in
      both (both (both (eq-eqb (length (snapshot_ids l)) (length (snapshot_parents l)) (omega arith)) (le-leb (length (snapshot_ids l)) snapshot_room (omega arith)))
      (ascending_unequal (snapshot_ids l) (pairs_read (λ (s : Snapshot). s.id) lt_z l ∙ table.2))) ids_formed_lem

  -- so that it is just followed
  walk_follows : (start : ℤ) (excluded : Option ℤ) → record_ancestors l start excluded ≡ follow (suc snapshot_room) (parent_in l) (stops_at excluded) [] start
  unfolding ancestors
  walk_follows start excluded = rw lists_formed_lem

  -- what it lists is reached
  walk_reached : (start : ℤ) (excluded : Option ℤ) (ids : List ℤ) → record_ancestors l start excluded ≡ Listed ids → (id : ℤ) → is_in ids id ≡ true → is_in (reach l start) id ≡ true
  walk_reached start excluded ids e id h =
      let k : Found (parent_in l) (stops_at excluded) [] start ids = walk_found l start excluded ids e in
      way_reached l table.0 start ids k.end (whole_way k) id h

-- ---- closed walks

-- the way of a closed walk goes on from its last snapshot to below 0
record ClosedWay (l : List Snapshot) (start : ℤ) : Type 0 where
  listed : List ℤ
  last : ℤ
  lists : record_ancestors l start none ≡ Listed listed
  ends : last_of listed ≡ some last
  parentless : is_parentless l last ≡ true
  way : Way (parent_in l) start listed (negsuc 0)

parentless_step : (l : List Snapshot) (id : ℤ) → is_parentless l id ≡ true → parent_in l id ≡ some (negsuc 0)
parentless_step l id h = parent_record l id ∙ by_record (record_of l id) h
  where
    by_parent : (p : Option ℤ) → not (is_some p) ≡ true → some (or_else p (negsuc 0)) ≡ some (negsuc 0)
    by_parent none h = refl
    by_parent (some x) h = absurd (false≢true h)

    by_record : (o : Option Snapshot) → some_with (λ (s : Snapshot). not (is_some s.parent)) o ≡ true → parent_field o ≡ some (negsuc 0)
    by_record none h = absurd (false≢true h)
    by_record (some s) h = by_parent s.parent h

closed_way : (l : List Snapshot) → snapshots_formed l ≡ true → (start : ℤ) → is_closed l (record_ancestors l start none) ≡ true → ClosedWay l start
unfolding is_closed
closed_way l f start c = go (record_ancestors l start none) refl c
  where
    by_last : (ids : List ℤ) → record_ancestors l start none ≡ Listed ids → (o : Option ℤ) → last_of ids ≡ o → some_with (is_parentless l) o ≡ true → ClosedWay l start
    by_last ids e none q c = absurd (false≢true c)
    by_last ids e (some last) q c =
        let k : Found (parent_in l) (stops_at none) [] start ids = walk_found l start none ids e in
        let w : Way (parent_in l) start ids k.end = whole_way k in
        let a : parent_in l last ≡ some k.end = way_last (parent_in l) start ids k.end w last q in
        let b : parent_in l last ≡ some (negsuc 0) = parentless_step l last c in
        let s : k.end ≡ negsuc 0 = cc in
        record { listed = ids; last = last; lists = e; ends = q; parentless = c; way = subst (Way (parent_in l) start ids) s w }

    go : (w : Walk) → record_ancestors l start none ≡ w → is_closed l w ≡ true → ClosedWay l start
    go (Listed ids) e c = by_last ids e (last_of ids) refl c
    go Twice e c = absurd (false≢true c)
    go Bad e c = absurd (false≢true c)

-- snapshots of which those that a walk lists keep their records
module _ (before after : List Snapshot) (f : snapshots_formed before ≡ true) (f' : snapshots_formed after ≡ true) (start : ℤ) where
  agrees : (id : ℤ) → record_of after id ≡ record_of before id → parent_in after id ≡ parent_in before id
  agrees id e = parent_record after id ∙ ap parent_field e ∙ sym (parent_record before id)

  module _ (c : ClosedWay before start) (alike : (id : ℤ) → is_in c.listed id ≡ true → record_of after id ≡ record_of before id) where
    closed_same : (excluded : Option ℤ) → record_ancestors after start excluded ≡ record_ancestors before start excluded
    closed_same excluded =
        walk_follows after f' start excluded
        ∙ follow_same (parent_in before) (parent_in after) (stops_at excluded) (suc snapshot_room) [] start c.listed (negsuc 0) c.way
        (below_none (snapshot_ids before) (snapshot_parents before) (ids_formed_lem before f)) (below_none (snapshot_ids after) (snapshot_parents after) (ids_formed_lem after f'))
        (λ id h. agrees id (alike id h))
        ∙ sym (walk_follows before f start excluded)

    -- it is closed again
    closed_again : is_closed after (record_ancestors after start none) ≡ true
    unfolding is_closed
    closed_again =
        let here : is_in c.listed c.last ≡ true = found_any (eq_z c.last) c.listed (in_last c.listed c.ends) (numbers_told.itself c.last) in
        rw (closed_same none ∙ c.lists, c.ends, alike c.last here) c.parentless

  -- any walk goes on from what it listed
  walk_begins : (excluded : Option ℤ) (ids : List ℤ) → record_ancestors before start excluded ≡ Listed ids → ((id : ℤ) → is_in ids id ≡ true → record_of after id ≡ record_of before id) → Onward ids (record_ancestors after start excluded)
  walk_begins excluded ids e alike =
      rw (walk_follows after f' start excluded)
      (follow_begins (parent_in before) (parent_in after) (stops_at excluded) (suc snapshot_room) [] start ids (sym (walk_follows before f start excluded) ∙ e) (λ id h. agrees id (alike id h)))

-- ---- a run

-- walks from a ref of the other office, where its refs and what they reach stay
module _ (office : ℕ) (m m' : Metadata) (d : Sound m) (s : OthersStay office m m') (r : NamedRef) (own : Memᴰ r (others_refs office m.refs)) where
  -- what a walk lists is reached by the refs
  listed_reached : (excluded : Option ℤ) (ids : List ℤ) → record_ancestors m.snapshots r.reference.snapshot excluded ≡ Listed ids → (id : ℤ) → is_in ids id ≡ true → others_reach office m id ≡ true
  listed_reached excluded ids e id h =
      found_any (λ (x : NamedRef). is_in (reach m.snapshots x.reference.snapshot) id) (others_refs office m.refs) own
      (walk_reached m.snapshots d.snapshots r.reference.snapshot excluded ids e id h)

  listed_alike : (excluded : Option ℤ) (ids : List ℤ) → record_ancestors m.snapshots r.reference.snapshot excluded ≡ Listed ids → (id : ℤ) → is_in ids id ≡ true → HeldAlike m.snapshots m'.snapshots id
  listed_alike excluded ids e id h =
      held_alike m.snapshots m'.snapshots id (walk_held m.snapshots r.reference.snapshot excluded ids e id h) (s.records id (listed_reached excluded ids e id h))

  onward : (excluded : Option ℤ) (ids : List ℤ) → record_ancestors m.snapshots r.reference.snapshot excluded ≡ Listed ids → Onward ids (record_ancestors m'.snapshots r.reference.snapshot excluded)
  onward excluded ids e =
      walk_begins m.snapshots m'.snapshots d.snapshots s.sound.snapshots r.reference.snapshot excluded ids e (λ id h. s.records id (listed_reached excluded ids e id h))

  closed_stays : is_closed m.snapshots (record_ancestors m.snapshots r.reference.snapshot none) ≡ true → WalkStays m.snapshots m'.snapshots r.reference.snapshot
  closed_stays h =
      let c : ClosedWay m.snapshots r.reference.snapshot = closed_way m.snapshots d.snapshots r.reference.snapshot h in
      let alike : (id : ℤ) → is_in c.listed id ≡ true → record_of m'.snapshots id ≡ record_of m.snapshots id = λ id k. s.records id (listed_reached none c.listed c.lists id k) in
      record {
        same = closed_same m.snapshots m'.snapshots d.snapshots s.sound.snapshots r.reference.snapshot c alike;
        records = listed_alike none;
        closed = closed_again m.snapshots m'.snapshots d.snapshots s.sound.snapshots r.reference.snapshot c alike;
      }

-- From an accepted run's start to its end, of a ref of the other office:
module _ (terms : Terms) (m : Metadata) (us : List Update) (m' : Metadata) (log : List Update) (expired : List FileEntry) (e : run terms m us ≡ Accepted m' log expired)
    (r : NamedRef) (own : Memᴰ r (others_refs terms.office m.refs)) where
  start_sound : Sound m
  start_sound = accepted_start (run_accepted terms m' log expired m us e)

  -- what a walk lists is held at the end with equal records,
  pub office_walk_records_stay : (excluded : Option ℤ) (ids : List ℤ) → record_ancestors m.snapshots r.reference.snapshot excluded ≡ Listed ids → (id : ℤ) → is_in ids id ≡ true → HeldAlike m.snapshots m'.snapshots id
  office_walk_records_stay = listed_alike terms.office m m' start_sound (accepted_stays terms m us m' log expired e) r own

  -- a walk that was not refused is a beginning of the new one, unless that meets a snapshot twice,
  pub office_open_walks_begin : (excluded : Option ℤ) (ids : List ℤ) → record_ancestors m.snapshots r.reference.snapshot excluded ≡ Listed ids → Onward ids (record_ancestors m'.snapshots r.reference.snapshot excluded)
  office_open_walks_begin = onward terms.office m m' start_sound (accepted_stays terms m us m' log expired e) r own

  -- and a closed walk stays as it was
  pub office_closed_walks_stay : is_closed m.snapshots (record_ancestors m.snapshots r.reference.snapshot none) ≡ true → WalkStays m.snapshots m'.snapshots r.reference.snapshot
  office_closed_walks_stay = closed_stays terms.office m m' start_sound (accepted_stays terms m us m' log expired e) r own

-- ---- a sequence of runs

alike_on : {a b c : List Snapshot} {id : ℤ} → HeldAlike a b id → HeldAlike b c id → HeldAlike a c id
alike_on p q = record { snapshot = p.snapshot; was = p.was; is = q.is ∙ sym q.was ∙ p.is }

module _ (start : ℤ) where
  stays_here : (a : List Snapshot) → is_closed a (record_ancestors a start none) ≡ true → WalkStays a a start
  stays_here a c = record { same = λ excluded. refl; records = λ ids e id h. held_alike a a id (walk_held a start none ids e id h) refl; closed = c }

  stays_on : (a b c : List Snapshot) → WalkStays a b start → WalkStays b c start → WalkStays a c start
  stays_on a b c p q = record {
    same = λ excluded. q.same excluded ∙ p.same excluded;
    records = λ ids e id h. alike_on (p.records ids e id h) (q.records ids (p.same none ∙ e) id h);
    closed = q.closed;
  }

-- over any sequence of runs of one office, each from what the one before answered, with list and terms of its own, closed walks from the other's refs stay as they were
pub office_closed_walks_over : (office : ℕ) (m : Metadata) (gs : List Given) → all (is_of_office office) gs ≡ true → (r : NamedRef) → Memᴰ r (others_refs office m.refs)
    → is_closed m.snapshots (record_ancestors m.snapshots r.reference.snapshot none) ≡ true → WalkStays m.snapshots (end_over m gs).snapshots r.reference.snapshot
unfolding end_over
office_closed_walks_over office m [] h r own c = stays_here r.reference.snapshot m.snapshots c
office_closed_walks_over office m (g ∷ gs) h r own c =
    go (run g.terms m g.updates) refl (λ m'. office_closed_walks_over office m' gs (all_tail (is_of_office office) g gs h) r)
  where
    named : g.terms.office ≡ office
    named = eqb-true g.terms.office office (all_head (is_of_office office) g gs h)

    go : (o : Outcome) → run g.terms m g.updates ≡ o
        → ((m' : Metadata) → Memᴰ r (others_refs office m'.refs) → is_closed m'.snapshots (record_ancestors m'.snapshots r.reference.snapshot none) ≡ true → WalkStays m'.snapshots (end_over m' gs).snapshots r.reference.snapshot)
        → WalkStays m.snapshots (end_over (answered_from m o) gs).snapshots r.reference.snapshot
    go (Refused number place) e rest = rest m own c
    go (Accepted m' log expired) e rest =
        let s : OthersStay office m m' = subst (λ (x : ℕ). OthersStay x m m') named (accepted_stays g.terms m g.updates m' log expired e) in
        let k : WalkStays m.snapshots m'.snapshots r.reference.snapshot = closed_stays office m m' (accepted_start (run_accepted g.terms m' log expired m g.updates e)) s r own c in
        stays_on r.reference.snapshot m.snapshots m'.snapshots (end_over m' gs).snapshots k (rest m' (rw s.refs own) k.closed)
