-- The tests of the log, as the code groups them.
use Prim.Native.Nat.{ℕ}
use mathlib.Core.Path.{sym, ap, ◌∙◌}
use borrow.Author.Rules.{rules}
use lib.Dec.{leb}
use lib.Signed.{non_neg}
use Rattle.records.specs.Blanks.{no_log_entry}
use Rattle.rules.specs.Capacities.{snapshot_log_room}
use Rattle.rules.specs.Register as plain
use Rattle.rules.specs.WellFormed.{snapshot_log_formed}
use Rattle.rules.specs.Blanks.{is_tidy_snapshot_log}
use Rattle.rules.specs.Layout.{read_log_entry, read_snapshot_log}
use Rattle.formed.proofs.Counted.{read_length}
use Rattle.faults.specs.Faults.{snapshot_log_faults}
use Rattle.faults.proofs.Picked.{log_asked}
use Rattle.faults.proofs.part.snapshot_log_fault.Goals as goal

pub returns : goal.returns
unfolding snapshot_log_faults snapshot_log_formed
returns c =
    let t = c.args.t in
    c.log_fault.ensures
    ∙ log_asked 12 snapshot_log_room (is_tidy_snapshot_log t) (λ (e : plain.LogEntry). non_neg e.snapshot) (read_snapshot_log t)
    (ap (λ (n : ℕ). leb n snapshot_log_room) (sym (read_length read_log_entry no_log_entry t.items t.count)))
    c.snapshot_log_formed.ensures
