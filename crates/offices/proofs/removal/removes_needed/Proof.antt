-- What is asked of the refs and of the log is what is needed of what goes.
use mathlib.Core.Path.{◌≡◌, sym, ap, ap₂, ◌∙◌}
use mathlib.Core.Bool.{Bool, true, ◌||◌}
use mathlib.Core.List.{List}
use native.Mathlib.Omega.{arith}
use borrow.Author.Rules.{rules}
use borrow.Author.Tests.{eq-eqb, ne_eqb}
use lib.IntN.{ℤ, pos, negsuc}
use lib.ListN.{take}
use lib.Signed.{lt_z}
use Rattle.rules.specs.Words.{or_else, ascending}
use Rattle.rules.specs.Capacities.{snapshot_room}
use Rattle.rules.specs.Register as plain
use Rattle.rules.specs.Layout.{pad, read_snapshots, read_snapshot_ids}
use Rattle.rules.specs.Walk.{snapshot_ids, snapshot_parents}
use Rattle.rules.proofs.Tables.{pairs_read}
use Rattle.tables.proofs.Table.{Tidy, within}
use Rattle.tables.proofs.Each.{snapshots, tidy_snapshots}
use Rattle.tables.proofs.Keyed.{lent, lent_within, lent_slice}
use Rattle.offices.proofs.Needed.{needed_second, needed_first}
use Rattle.offices.proofs.removal.removes_needed.Statement.{statement}
use Rattle.offices.proofs.removal.removes_needed.Tie as tie

abbrev key : plain.Snapshot → ℤ
key x = x.id

abbrev over : plain.Snapshot → ℤ
over x = or_else x.parent (negsuc 0)

module _ (c : tie.After-parents_of-parents) where
  abbrev s : tie.Start
  s = c.before.before

  abbrev listed : List plain.Snapshot
  listed = read_snapshots s.args.snapshots

  abbrev h : Tidy snapshots s.args.snapshots
  h = tidy_snapshots s.requires.1.0

  keys : c.ids_of-ids.result ≡ pad snapshot_room (pos 0) (snapshot_ids listed)
  keys = c.ids_of-ids.ensures s.requires.1.0

  overs : c.parents_of-parents.result ≡ pad snapshot_room (pos 0) (snapshot_parents listed)
  overs = c.parents_of-parents.ensures s.requires.1.0

  ids_lent : take s.args.snapshots.count c.ids_of-ids.result ≡ snapshot_ids listed
  ids_lent = lent h key keys

  parents_lent : take s.args.snapshots.count c.parents_of-parents.result ≡ snapshot_parents listed
  parents_lent = lent h over overs

  rising : ascending lt_z (take s.args.snapshots.count c.ids_of-ids.result) ≡ true
  rising = ap (ascending lt_z) ids_lent ∙ pairs_read key lt_z listed ∙ s.requires.1.1.0

pub removes_needed_spec : {M : Type 1} → statement M
removes_needed_spec =
    tie.close
    (tie.spec
    (λ c κs. search rules)
    (λ c κs. search rules)
    (λ c. lent_within (h c) key (keys c))
    (λ c. lent_slice (h c.before) key (keys c.before))
    (λ c. lent_within (h c.before) over (overs c.before))
    (λ c. lent_slice (h c.before.before) over (overs c.before.before))
    (λ c κs. let b = c.before.before in
    ((s b).requires.0, (rising b, (omega (arith, lent_slice (h b) key (keys b), within (h b)), (sym (lent_slice (h b) key (keys b)) ∙ lent_slice (h b) over (overs b), (s b).requires.1.1.1.1)))))
    (λ c. let b = c.before.before.before.before in lent_within (h b) key (keys b))
    (λ c. let b = c.before.before.before.before.before in lent_slice (h b) key (keys b))
    (λ c κs. let b = c.before.before.before.before.before in ((s b).requires.1.1.1.0, (rising b, (s b).requires.1.1.1.1)))
    (λ c m w. let r = c.before.before.before in
    let b = r.before.before.before in
    ap₂ (λ (x y : Bool). x || y) r.refs_reach-reached.ensures c.log_names.ensures
    ∙ needed_second (s b).args.office m (read_snapshot_ids (s b).args.removed) w.named w.held w.history (s b).requires.1.0.fits (ids_lent b) (parents_lent b) (eq-eqb _ _ c.if-office-eq-SECOND_OFFICE.true))
    (λ c m w. let r = c.before in
    let b = r.before.before.before in
    r.refs_reach-reached.ensures
    ∙ needed_first (s b).args.office m (read_snapshot_ids (s b).args.removed) w.named w.held w.history (s b).requires.1.0.fits (ids_lent b) (parents_lent b) (ne_eqb _ _ c.if-office-eq-SECOND_OFFICE.false)))
