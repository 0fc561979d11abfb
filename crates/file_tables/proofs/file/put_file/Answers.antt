-- The parts one behind the other.
use Rattle.rules.specs.Layout.{read_metadata}
use Rattle.file_text.proofs.Pieces.{then, is}
use Rattle.file_tables.proofs.Texts.{whole_is}
use Rattle.file_tables.proofs.file.put_file.Goals as goal

pub returns : goal.returns
returns c =
    is (then (then (then (then c.put_head-at.ensures c.put_schemas_part-at.ensures) c.put_specs_part-at.ensures) c.put_snapshots_part-at.ensures) c.put_tail.ensures) (whole_is (read_metadata c.args.m))
