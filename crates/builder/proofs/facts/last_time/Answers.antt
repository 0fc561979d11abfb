-- The last entry is the one at the count less one, and where the count is 0 there is none.
use Rattle.std.proofs.Common.{◌≡◌, ℕ, ◌-◌, ◌<◌, eqb, ltb, length, get_or, lt-ltb, arith}
use Rattle.records.specs.declared.snapshot.SnapshotLog.{SnapshotLog}
use Rattle.records.specs.declared.snapshot.SnapshotLogEntry.{SnapshotLogEntry}
use Rattle.rules.specs.Layout.{given, read_log_entry, read_snapshot_log}
use Rattle.std.proofs.lemmas.Bool.{eqb-false}
use Rattle.rules.proofs.Checks.{neither}
use Rattle.tables.specs.Laid.{LaidSnapshotLog}
use Rattle.tables.proofs.Table.{at, read_length}
use Rattle.tables.proofs.Each.{tidy_snapshot_log}
use Rattle.builder.specs.Pieces.{last_time}
use Rattle.builder.proofs.Positions.{last_at}
use Rattle.builder.proofs.facts.last_time.Goals as goal

last : (t : SnapshotLog) (h : LaidSnapshotLog t) (d : SnapshotLogEntry) → 0 < t.count → given (ltb 0 t.count) (get_or t.items (t.count - 1) d).timestamp_ms.0 ≡ last_time (read_snapshot_log t)
last t h d p =
    let T = tidy_snapshot_log h in
    let n : length (read_snapshot_log t) ≡ t.count = read_length T in
    let l : get_or (read_snapshot_log t) (t.count - 1) (read_log_entry d) ≡ read_log_entry (get_or t.items (t.count - 1) d) = at T (t.count - 1) d (omega arith) in
    rw (lt-ltb 0 t.count p, last_time, last_at (read_log_entry d) (read_snapshot_log t) (λ z. omega arith), n, l)

positive : (m : ℕ) → (m ≡ 0 → ⊥) → 0 < m
positive m z = omega arith

pub returns : goal.returns
returns c = λ h. last c.args.log h _ (positive c.args.log.count (eqb-false c.args.log.count 0 (neither (eqb c.args.log.count 0) (ltb 128 c.args.log.count) c.if-log.false).0))
