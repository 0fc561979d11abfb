-- The tests of the table, as the code groups them.
use Prim.Native.Nat.{ℕ}
use mathlib.Core.Path.{sym, ap, ◌∙◌}
use borrow.Author.Rules.{rules}
use lib.Dec.{leb}
use Rattle.records.specs.Blanks.{no_schema}
use Rattle.rules.specs.Capacities.{schema_room}
use Rattle.rules.specs.WellFormed.{schema_formed, schema_below, schemas_formed}
use Rattle.rules.specs.Blanks.{is_tidy_schemas}
use Rattle.rules.specs.Layout.{read_schema, read_schemas}
use Rattle.formed.proofs.Counted.{read_length}
use Rattle.faults.specs.Faults.{schema_faults}
use Rattle.faults.proofs.Picked.{table_asked}
use Rattle.faults.proofs.part.schemas_fault.Goals as goal

pub returns : goal.returns
unfolding schema_faults schemas_formed
returns c =
    let t = c.args.t in
    c.table_fault.ensures
    ∙ table_asked 16 schema_room (is_tidy_schemas t) schema_formed (read_schemas t) schema_below
    (ap (λ (n : ℕ). leb n schema_room) (sym (read_length read_schema no_schema t.items t.count)))
    c.schema_keys-k.ensures.slots
    c.schema_keys-k.ensures.order
