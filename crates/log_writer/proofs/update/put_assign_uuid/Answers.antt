-- The members one behind the other.
use Rattle.file_text.proofs.Pieces.{then, is}
use Rattle.log_writer.proofs.Texts.{uuid_is}
use Rattle.log_writer.proofs.update.put_assign_uuid.Goals as goal

pub returns : goal.returns
returns c = is (then c.put_uuid-at.ensures c.put.ensures) (uuid_is c.args.p.uuid)
