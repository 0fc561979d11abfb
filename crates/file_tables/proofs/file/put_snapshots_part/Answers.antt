-- The members one behind the other.
use Rattle.rules.specs.Layout.{read_metadata_log, read_snapshot_log, read_snapshots}
use Rattle.file_text.proofs.Pieces.{then, is}
use Rattle.file_tables.proofs.Texts.{snapshots_is}
use Rattle.file_tables.proofs.file.put_snapshots_part.Goals as goal

pub returns : goal.returns
returns c =
    is (then (then (then (then (then (then (then c.put_number-at.ensures c.put-at.ensures) c.put_snapshots-at.ensures) c.put-at-2.ensures) c.put_snapshot_log-at.ensures) c.put-at-3.ensures) c.put_metadata_log-at.ensures) c.put.ensures) (snapshots_is c.args.f (read_snapshots c.args.t) (read_snapshot_log c.args.log) (read_metadata_log c.args.files) c.of_snapshot.ensures)
