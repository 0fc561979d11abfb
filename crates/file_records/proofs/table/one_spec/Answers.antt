-- The first slot.
use Rattle.records.specs.Blanks.{no_partition_specs}
use Rattle.rules.specs.Layout.{laid_partition_specs}
use Rattle.file_records.proofs.table.one_spec.Goals as goal

pub returns : goal.returns
unfolding no_partition_specs laid_partition_specs
returns c = rw (c.spec_of.ensures, c.blank-table.ensures)
