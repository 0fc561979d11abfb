use Rattle.rules.proofs.Slots.Relaid.{length_counted}
use Rattle.formed.proofs.record.SchemaFieldFormed.is_formed.Goals as goal

pub returns : goal.returns
returns c = let n = c.args.self.now.name in rw (c.field_id_formed.ensures, length_counted 0 n.bytes n.len)
