use Rattle.std.proofs.Common.{◌≡◌, drop}
use Rattle.rules.specs.Words.{any}
use Rattle.rules.specs.Layout.{read_ref, read_snapshot_ids}
use Rattle.offices.specs.Reach.{ref_reaches}
use Rattle.offices.proofs.reach.refs_reach.Given as goal

abbrev pub invariant-loop-held : goal.invariant-loop-held
invariant-loop-held l =
    any (λ x. ref_reaches l.office l.ids l.parents (read_snapshot_ids l.removed) (read_ref x)) l.held-items
    ≡ any (λ x. ref_reaches l.office l.ids l.parents (read_snapshot_ids l.removed) (read_ref x)) (drop l.held-index l.held-items)
