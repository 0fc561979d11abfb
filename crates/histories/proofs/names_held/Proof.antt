-- The loop asks of each counted entry that its snapshot is among the ids of those held.
use Prim.Native.Nat.{◌-◌}
use native.Mathlib.Omega.{arith}
use mathlib.Core.Path.{◌≡◌, sym, ap, ◌∙◌}
use mathlib.Core.Bool.{Bool, true}
use borrow.Author.Rules.{rules}
use lib.ListN.{take}
use Rattle.records.specs.Blanks.{no_log_entry}
use Rattle.records.specs.declared.snapshot.SnapshotLogEntry.{SnapshotLogEntry}
use Rattle.rules.specs.Words.{all, is_in}
use Rattle.rules.specs.Capacities.{snapshot_log_room}
use Rattle.rules.specs.Register as plain
use Rattle.rules.specs.WellFormed.{holds_snapshot}
use Rattle.rules.specs.Layout.{read_snapshots, read_log_entry}
use Rattle.tables.proofs.Keyed.{lent_in, lent_within, lent_slice}
use Rattle.tables.proofs.Each.{tidy_snapshots}
use Rattle.formed.proofs.Scans.{slots}
use Rattle.formed.proofs.Counted.{Taken, taken_start, taken_on, taken_end, all_counted}
use Rattle.histories.proofs.names_held.Statement.{statement}
use Rattle.histories.proofs.names_held.Tie as tie

abbrev invariant_loop : tie.invariant-loop-i
invariant_loop log n held ids ok₀ i₀ ok i = Taken (λ (x : SnapshotLogEntry). is_in (take held ids) (read_log_entry x).snapshot) log.count log.items 0 i true ok

abbrev decreases_loop : tie.decreases-loop-i
decreases_loop log n held ids ok₀ i₀ ok i = n - i

-- the ids tell which snapshots are held
told : (c : tie.After-ids_of-ids invariant_loop decreases_loop) → let s = c.before in ◌≡◌ {A = SnapshotLogEntry → Bool} (λ x. is_in (take s.args.t.count c.ids_of-ids.result) (read_log_entry x).snapshot) (λ x. holds_snapshot (read_snapshots s.args.t) (read_log_entry x).snapshot)
told c = λ i x. lent_in (tidy_snapshots c.requires.1) (λ y. y.id) (c.ids_of-ids.ensures c.requires.1) (read_log_entry x).snapshot i

pub names_held_spec : {M : Type 1} → statement M
names_held_spec =
    tie.close
    (tie.spec
    invariant_loop
    decreases_loop
    (λ c κs. search rules)
    (λ c. taken_start snapshot_log_room (search (rules, slots)) c.requires.0)
    (λ c. omega (arith, c.requires.0))
    (λ c. omega (arith, c.requires.0))
    (λ c κs. search rules)
    (λ c. lent_within (tidy_snapshots c.requires.1) (λ y. y.id) (c.ids_of-ids.ensures c.requires.1))
    (λ c. lent_slice (tidy_snapshots c.requires.1) (λ y. y.id) (c.ids_of-ids.ensures c.requires.1))
    (λ c κs. search rules)
    (λ c. omega (arith, c.requires.0))
    (λ c. search rules)
    (λ c. taken_on c.loop-i.invariant _ c.loop-i-test.true (rw c.snapshot_key-k.ensures at c.is_in-ok.ensures))
    (λ c. let l = c.loop-i.invariant in
    let g = c.before.before in
    let a = g.args in
    taken_end l c.loop-i-test.false ∙ ap (λ (q : SnapshotLogEntry → Bool). all q (take a.log.count a.log.items)) (told g) ∙ sym (all_counted read_log_entry no_log_entry a.log.items a.log.count (λ (e : plain.LogEntry). holds_snapshot (read_snapshots a.t) e.snapshot) l.fits)))
