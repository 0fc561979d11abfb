-- The tests of the table, as the code groups them.
use Prim.Native.Nat.{ℕ}
use mathlib.Core.Path.{sym, ap, ◌∙◌}
use borrow.Author.Rules.{rules}
use lib.Dec.{leb}
use Rattle.records.specs.Blanks.{no_statistics_file}
use Rattle.rules.specs.Capacities.{statistics_room}
use Rattle.rules.specs.WellFormed.{statistics_file_formed, statistics_below, statistics_formed}
use Rattle.rules.specs.Blanks.{is_tidy_statistics}
use Rattle.rules.specs.Layout.{read_statistics_file, read_statistics}
use Rattle.formed.proofs.Counted.{read_length}
use Rattle.faults.specs.Faults.{statistics_faults}
use Rattle.faults.proofs.Picked.{table_asked}
use Rattle.faults.proofs.part.statistics_fault.Goals as goal

pub returns : goal.returns
unfolding statistics_faults statistics_formed
returns c =
    let t = c.args.t in
    c.table_fault.ensures
    ∙ table_asked c.args.first statistics_room (is_tidy_statistics t) statistics_file_formed (read_statistics t) statistics_below
    (ap (λ (n : ℕ). leb n statistics_room) (sym (read_length read_statistics_file no_statistics_file t.items t.count)))
    c.statistics_keys-k.ensures.slots
    c.statistics_keys-k.ensures.order
