use Rattle.std.proofs.Common.{◌≡◌, arith}
use Rattle.tables.proofs.Table.{within}
use Rattle.tables.proofs.Spans.{run_keys}
use Rattle.tables.proofs.Each.{tidy_snapshots}
use Rattle.tables.proofs.snapshots.ids_of.Goals as goal

pub returns : goal.returns
returns c =
    λ h. let all : c.min.result ≡ c.args.t.count = omega (arith, c.min.ensures, within (tidy_snapshots h)) in
    run_keys (tidy_snapshots h) (λ x. x.id) (rw all at c.keys_of.ensures.value)
