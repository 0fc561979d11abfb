-- The lent ids, places and times are those of the table, so that what is found of the refs is what the rules say of the metadata.
use Prim.Native.Nat.{ℕ, ◌≤◌}
use mathlib.Core.Path.{◌≡◌, sym, ap, ap₂, ◌∙◌}
use mathlib.Core.Bool.{true}
use mathlib.Core.List.{List}
use native.Mathlib.Omega.{arith}
use borrow.Author.Rules.{rules}
use lib.IntN.{ℤ, pos, negsuc}
use lib.ListN.{length, take, length-append, length-map}
use lib.Seq.{take_at}
use lib.Signed.{lt_z}
use Rattle.rules.specs.Words.{or_else, ascending}
use Rattle.rules.specs.Capacities.{snapshot_room}
use Rattle.rules.specs.Register as plain
use Rattle.rules.specs.Walk.{snapshot_ids, snapshot_parents}
use Rattle.rules.specs.Layout.{pad, read_snapshots}
use Rattle.rules.proofs.Tables.{pairs_read}
use Rattle.tables.proofs.Table.{Tidy, read_length, within}
use Rattle.tables.proofs.Each.{snapshots, tidy_snapshots}
use Rattle.tables.proofs.Keyed.{lent, lent_within, lent_slice}
use Rattle.expiry.specs.Answer.{no_reason}
use Rattle.expiry.specs.Found.{slotted, place_in, parent_places, snapshot_times, Placed, log_reason}
use Rattle.expiry.proofs.kept.findings.Statement.{statement}
use Rattle.expiry.proofs.kept.findings.Tie as tie

abbrev key : plain.Snapshot → ℤ
key x = x.id

abbrev over : plain.Snapshot → ℤ
over x = or_else x.parent (negsuc 0)

abbrev time : plain.Snapshot → ℤ
time x = x.time

-- with the ids, the parents and the times
module _ (c : tie.After-times_of-times) where
  abbrev s : tie.Start
  s = c.before.before.before

  abbrev n : ℕ
  n = s.args.snapshots.count

  abbrev listed : List plain.Snapshot
  listed = read_snapshots s.args.snapshots

  abbrev h : Tidy snapshots s.args.snapshots
  h = tidy_snapshots s.requires.1.0

  keys : c.ids_of-ids.result ≡ pad snapshot_room (pos 0) (snapshot_ids listed)
  keys = c.ids_of-ids.ensures s.requires.1.0

  overs : c.parents_of-parents.result ≡ pad snapshot_room (pos 0) (snapshot_parents listed)
  overs = c.parents_of-parents.ensures s.requires.1.0

  ids_lent : take n c.ids_of-ids.result ≡ snapshot_ids listed
  ids_lent = lent h key keys

  parents_lent : take n c.parents_of-parents.result ≡ snapshot_parents listed
  parents_lent = lent h over overs

  times_lent : take n c.times_of-times.result ≡ snapshot_times listed
  times_lent = lent h time c.times_of-times.ensures

  rising : ascending lt_z (snapshot_ids listed) ≡ true
  rising = pairs_read key lt_z listed ∙ s.requires.1.1.0

  lent_rising : ascending lt_z (take n c.ids_of-ids.result) ≡ true
  lent_rising = ap (ascending lt_z) ids_lent ∙ rising

  few : length (take n c.ids_of-ids.result) ≤ snapshot_room
  few = omega (arith, lent_slice h key keys, within h)

-- and the places
module _ (c : tie.After-parent_places-over) where
  abbrev t : tie.After-times_of-times
  t = c.before.before.before

  places : c.parent_places-over.result ≡ pad snapshot_room 0 (parent_places (snapshot_ids (listed t)) (snapshot_parents (listed t)))
  places = c.parent_places-over.ensures ∙ ap₂ (λ (x y : List ℤ). pad snapshot_room 0 (parent_places x y)) (ids_lent t) (parents_lent t)

  long : length (parent_places (snapshot_ids (listed t)) (snapshot_parents (listed t))) ≡ n t
  long = length-map (snapshot_parents (listed t)) (place_in (snapshot_ids (listed t))) ∙ length-map (listed t) over ∙ read_length (h t)

  places_lent : take (n t) c.parent_places-over.result ≡ parent_places (snapshot_ids (listed t)) (snapshot_parents (listed t))
  places_lent = ap (take (n t)) places ∙ take_at _ _ (n t) long

  places_within : n t ≤ length c.parent_places-over.result
  places_within = omega (arith, simp length-append at (ap length places), long)

  places_slice : n t ≡ length (take (n t) c.parent_places-over.result)
  places_slice = sym (ap length places_lent ∙ long)

  placed : Placed (listed t) (take (n t) c.parent_places-over.result)
  placed = record { few = (s t).requires.1.0.fits; order = rising t; places = places_lent }

pub findings_spec : {M : Type 1} → statement M
findings_spec =
    tie.close
    (tie.spec
    (λ c κs. search rules)
    (λ c κs. search rules)
    (λ c κs. search rules)
    (λ c. lent_within (h c) key (keys c))
    (λ c. lent_slice (h c.before) key (keys c.before))
    (λ c. lent_within (h c.before) over (overs c.before))
    (λ c. lent_slice (h c.before.before) over (overs c.before.before))
    (λ c κs. let b = c.before.before in (lent_rising b, (few b, sym (lent_slice (h b) key (keys b)) ∙ lent_slice (h b) over (overs b))))
    (λ c. lent_within (h (t c)) key (keys (t c)))
    (λ c. lent_slice (h (t c.before)) key (keys (t c.before)))
    (λ c κs. let b = t c.before in ((s b).requires.1.1.1, (lent_rising b, few b)))
    (λ c. let b = t c.before.before in lent_within (h b) key (keys b))
    (λ c. let b = t c.before.before.before in lent_slice (h b) key (keys b))
    (λ c. places_within c.before.before.before)
    (λ c. places_slice c.before.before.before.before)
    (λ c. let b = t c.before.before.before.before in lent_within (h b) time b.times_of-times.ensures)
    (λ c. let b = t c.before.before.before.before.before in lent_slice (h b) time b.times_of-times.ensures)
    (λ c κs. let q = c.before.before.before.before.before in
    ((s (t q)).requires.0, (lent_rising (t q), omega (arith, places_slice q, within (h (t q))))))
    (λ c m w. let o = c.before.before.before.before in
    let q = o.before.before in
    let k = ids_lent (t q) ∙ ap snapshot_ids w.held in
    c.refs_findings.ensures m w.named k (rw w.held at (placed q)) (times_lent (t q) ∙ ap snapshot_times w.held)
    (o.logged-named.ensures ∙ ap₂ (λ (x : List plain.LogEntry) (y : List ℤ). slotted no_reason (log_reason (s (t q)).args.policy.office x) y) w.history k)))
