-- The id goes into the first slot that is not in use.
use Rattle.std.proofs.Common.{refl}
use Rattle.tables.proofs.Push.{pushed_one}
use Rattle.tables.proofs.Each.{tidy_snapshot_ids, made_snapshot_ids}
use Rattle.tables.proofs.ids.push_snapshot.Goals as goal

pub returns : goal.returns
returns c = pushed_one made_snapshot_ids (tidy_snapshot_ids c.requires.laid_snapshot_ids) c.args.id c.requires.count_bound refl refl refl
