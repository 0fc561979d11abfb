-- The first slot.
use Rattle.records.specs.Blanks.{no_schemas}
use Rattle.rules.specs.Layout.{laid_schemas}
use Rattle.file_records.proofs.table.one_schema.Goals as goal

pub returns : goal.returns
unfolding no_schemas laid_schemas
returns c = rw (c.schema_at.ensures, c.blank-table.ensures)
