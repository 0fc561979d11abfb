-- The spec goes into the first slot that is not in use.
use Rattle.std.proofs.Common.{◌≡◌, true, refl}
use Rattle.tables.proofs.Push.{pushed_one}
use Rattle.tables.proofs.Each.{tidy_partition_specs, made_partition_specs}
use Rattle.spec_updates.proofs.addition.specs_after.Goals as goal

pub returns : goal.returns
returns c =
    let g : c.args.grows ≡ true = c.if-not-grows.false in
    let k = c.requires.laid_spec g in
    rw g (pushed_one made_partition_specs (tidy_partition_specs c.requires.laid_specs) c.args.p k.1 k.0.back refl refl)
