use Rattle.builder.proofs.Halves.{set}
use Rattle.ref_updates.proofs.setting.Goals as goal

pub returns : goal.returns
returns c k e h b = rw c.blank-entry.ensures (set c.args.u e c.args.r h b k)
