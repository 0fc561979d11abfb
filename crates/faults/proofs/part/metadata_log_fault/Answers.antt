-- The tests of the log, as the code groups them.
use Prim.Native.Nat.{ℕ}
use mathlib.Core.Path.{sym, ap, ◌∙◌}
use borrow.Author.Rules.{rules}
use lib.Dec.{leb}
use Rattle.records.specs.Blanks.{no_metadata_log_entry}
use Rattle.rules.specs.Capacities.{metadata_log_room}
use Rattle.rules.specs.Register as plain
use Rattle.rules.specs.WellFormed.{file_name_formed, metadata_log_formed}
use Rattle.rules.specs.Blanks.{is_tidy_metadata_log}
use Rattle.rules.specs.Layout.{read_metadata_log_entry, read_metadata_log}
use Rattle.formed.proofs.Counted.{read_length}
use Rattle.faults.specs.Faults.{metadata_log_faults}
use Rattle.faults.proofs.Picked.{log_asked}
use Rattle.faults.proofs.part.metadata_log_fault.Goals as goal

pub returns : goal.returns
unfolding metadata_log_faults metadata_log_formed
returns c =
    let t = c.args.t in
    c.log_fault.ensures
    ∙ log_asked 14 metadata_log_room (is_tidy_metadata_log t) (λ (e : plain.FileEntry). file_name_formed e.file) (read_metadata_log t)
    (ap (λ (n : ℕ). leb n metadata_log_room) (sym (read_length read_metadata_log_entry no_metadata_log_entry t.items t.count)))
    c.metadata_log_formed.ensures
