-- All sixteen bytes are copied.
use Rattle.std.proofs.Common.{◌∙◌, arith}
use Rattle.json_store.proofs.Stores.{cut_part}
use Rattle.json_store.proofs.record.uuid.Goals as goal

pub returns : goal.returns
returns c = c.copy_from_slice.ensures.after ∙ cut_part 0 16 c.args.texts.now (omega arith)
