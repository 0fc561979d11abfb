use Rattle.std.proofs.Common.{arith}
use Rattle.records.specs.Blanks.{no_schema}
use Rattle.rules.specs.WellFormed.{schema_formed}
use Rattle.rules.specs.Blanks.{is_tidy_schema, is_blank_schema, is_tidy_schemas}
use Rattle.rules.specs.Capacities.{schema_room}
use Rattle.rules.specs.Layout.{read_schema}
use Rattle.formed.proofs.Gathered.{found_read}
use Rattle.formed.proofs.slots.schema_keys.Goals as goal

pub returns : goal.returns
unfolding is_tidy_schemas
returns c =
    let t = c.args.t in
    found_read read_schema is_tidy_schema schema_formed is_blank_schema (λ x. x.id) no_schema schema_room t.count t.items (omega arith) c.keys.ensures
