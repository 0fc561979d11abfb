-- One byte more is stored, and at the end all are.
use Rattle.std.proofs.Common.{◌∙◌, arith}
use Rattle.json_store.proofs.Uuids.{uuid_more, uuid_end}
use Rattle.json_store.proofs.texts.put_uuid.Goals as goal

pub loop-i-preserved : goal.loop-i-preserved
loop-i-preserved c = c.loop-i.invariant ∙ uuid_more c.args.kept.now c.loop-i.texts c.loop-i.i _ (omega arith) c.byte_of.ensures

pub returns : goal.returns
returns c = uuid_end c.args.kept.now c.args.texts.now c.loop-i.texts c.loop-i.i (omega arith) c.loop-i.invariant
