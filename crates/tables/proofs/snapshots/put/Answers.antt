-- It goes before the first snapshot that is not below it; none has its id.
use Rattle.std.proofs.Common.{not, ap, ◌∙◌, refl}
use lib.Signed.{lt_z}
use Rattle.rules.specs.Layout.{read_snapshot, read_snapshots, laid_snapshots}
use Rattle.rules.proofs.Orders.{numbers_ordered, numbers_told}
use Rattle.tables.proofs.Search.{place_within}
use Rattle.tables.proofs.Put.{put_new}
use Rattle.tables.proofs.Spans.{run_place, inserted_laid}
use Rattle.tables.proofs.Each.{tidy_snapshots, made_snapshots}
use Rattle.tables.proofs.snapshots.put.Goals as goal

pub insert-requires-clause-place : goal.insert-requires-clause-place
insert-requires-clause-place c =
    let h = tidy_snapshots c.requires.laid_snapshots in
    place_within h (λ x. not (lt_z x.id c.args.s.snapshot_id.0)) (run_place h (λ x. not (lt_z x.id c.args.s.snapshot_id.0)) (rw c.snapshot_key.ensures at c.place_of-at.ensures))

pub returns : goal.returns
returns c =
    let h = tidy_snapshots c.requires.laid_snapshots in
    let at = run_place h (λ x. not (lt_z x.id c.args.s.snapshot_id.0)) (rw c.snapshot_key.ensures at c.place_of-at.ensures) in
    inserted_laid made_snapshots h c.requires.s_value (place_within h (λ x. not (lt_z x.id c.args.s.snapshot_id.0)) at) c.requires.count_bound c.insert.ensures refl
    ∙ ap laid_snapshots (put_new numbers_ordered numbers_told (λ x. x.id) (read_snapshot c.args.s) (read_snapshots c.args.t) at c.requires.snapshot_id_value)
