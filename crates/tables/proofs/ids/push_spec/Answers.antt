-- The id goes into the first slot that is not in use.
use Rattle.std.proofs.Common.{refl}
use Rattle.tables.proofs.Push.{pushed_one}
use Rattle.tables.proofs.Each.{tidy_spec_ids, made_spec_ids}
use Rattle.tables.proofs.ids.push_spec.Goals as goal

pub returns : goal.returns
returns c = pushed_one made_spec_ids (tidy_spec_ids c.requires.laid_spec_ids) c.args.id c.requires.count_bound refl refl refl
