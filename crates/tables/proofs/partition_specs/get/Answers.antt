-- The id is held, so the search finds it.
use Rattle.std.proofs.Common.{arith}
use Rattle.rules.specs.WellFormed.{has_spec}
use Rattle.tables.proofs.Table.{within}
use Rattle.tables.proofs.Search.{found_within, found_first}
use Rattle.tables.proofs.Spans.{run_place}
use Rattle.tables.proofs.Each.{tidy_partition_specs, spec_at_lem}
use Rattle.tables.proofs.partition_specs.get.Goals as goal

pub offset_bounds-t-position_of : goal.offset_bounds-t-position_of
offset_bounds-t-position_of c =
    let h = tidy_partition_specs c.requires.laid_specs in
    omega (arith, found_within h (has_spec c.args.id.0) c.requires.id_value (run_place h (has_spec c.args.id.0) (rw c.spec_key.ensures.result_value at c.position_of.ensures)), within h)

pub bounds-t-position_of : goal.bounds-t-position_of
bounds-t-position_of c =
    let h = tidy_partition_specs c.requires.laid_specs in
    omega (arith, found_within h (has_spec c.args.id.0) c.requires.id_value (run_place h (has_spec c.args.id.0) (rw c.spec_key.ensures.result_value at c.position_of.ensures)), within h)

pub returns-clause-t_value : goal.returns-clause-t_value
returns-clause-t_value c =
    let h = tidy_partition_specs c.requires.laid_specs in
    found_first h (has_spec c.args.id.0) c.requires.id_value (run_place h (has_spec c.args.id.0) (rw c.spec_key.ensures.result_value at c.position_of.ensures)) _

pub returns-clause-laid_spec : goal.returns-clause-laid_spec
returns-clause-laid_spec c =
    let h = tidy_partition_specs c.requires.laid_specs in
    spec_at_lem c.requires.laid_specs _ _ (found_within h (has_spec c.args.id.0) c.requires.id_value (run_place h (has_spec c.args.id.0) (rw c.spec_key.ensures.result_value at c.position_of.ensures)))
