-- The members one behind the other.
use Rattle.rules.specs.Layout.{read_partition_specs}
use Rattle.file_text.proofs.Pieces.{then, is}
use Rattle.file_tables.proofs.Texts.{specs_is}
use Rattle.file_tables.proofs.file.put_specs_part.Goals as goal

pub returns : goal.returns
returns c =
    is (then (then (then (then c.put_default_spec-at.ensures c.put-at.ensures) c.put_specs-at.ensures) c.put_number-at.ensures) c.put_number.ensures) (specs_is c.args.f (read_partition_specs c.args.t) c.of_spec.ensures c.of_field.ensures)
