-- The tests of the table, as the code groups them.
use Prim.Native.Nat.{ℕ}
use mathlib.Core.Path.{sym, ap, ◌∙◌}
use borrow.Author.Rules.{rules}
use lib.Dec.{leb}
use Rattle.records.specs.Blanks.{no_partition_spec}
use Rattle.rules.specs.Capacities.{spec_room}
use Rattle.rules.specs.WellFormed.{spec_formed, spec_below, specs_formed}
use Rattle.rules.specs.Blanks.{is_tidy_partition_specs}
use Rattle.rules.specs.Layout.{read_partition_spec, read_partition_specs}
use Rattle.formed.proofs.Counted.{read_length}
use Rattle.faults.specs.Faults.{spec_faults}
use Rattle.faults.proofs.Picked.{table_asked}
use Rattle.faults.proofs.part.specs_fault.Goals as goal

pub returns : goal.returns
unfolding spec_faults specs_formed
returns c =
    let t = c.args.t in
    c.table_fault.ensures
    ∙ table_asked 28 spec_room (is_tidy_partition_specs t) spec_formed (read_partition_specs t) spec_below
    (ap (λ (n : ℕ). leb n spec_room) (sym (read_length read_partition_spec no_partition_spec t.items t.count)))
    c.spec_keys-k.ensures.slots
    c.spec_keys-k.ensures.order
