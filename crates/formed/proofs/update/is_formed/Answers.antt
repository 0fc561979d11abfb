-- An update that is not tidy reads as one that is not well formed.
use Rattle.rules.specs.Kinds.{is_tidy_update, kind_weight, read_kind, read_update}
use Rattle.formed.proofs.Used.{tidy_first}
use Rattle.formed.proofs.update.is_formed.Goals as goal

pub returns : goal.returns
unfolding read_update
returns c =
    let u = c.args.u in
    rw (c.is_tidy.ensures, c.used_formed.ensures) (tidy_first (is_tidy_update u) (read_kind u) (kind_weight u.kind))
