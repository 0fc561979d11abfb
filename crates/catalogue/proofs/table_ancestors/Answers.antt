-- More than 64 records are no snapshots to walk over.
use Rattle.std.proofs.Common.{◌≡◌, refl, arith}
use lib.ListN.{length-map}
use Rattle.records.specs.Blanks.{no_snapshot}
use Rattle.rules.specs.Layout.{counted, given, read_snapshot, read_snapshots}
use Rattle.rules.specs.Walk.{Bad, record_ancestors}
use Rattle.rules.proofs.Slots.Relaid.{length_counted}
use Rattle.walk.specs.Answers.{walked}
use Rattle.catalogue.proofs.Gathered.{too_many}
use Rattle.catalogue.proofs.table_ancestors.Goals as goal

over : (c : goal.Then-n-gt-SNAPSHOTS) → record_ancestors (read_snapshots c.args.snapshots) c.args.start (given c.args.has_excluded c.args.excluded) ≡ Bad
over c =
    let t = c.args.snapshots in
    let long = length-map (counted no_snapshot t.items t.count) read_snapshot in
    too_many c.args.start (given c.args.has_excluded c.args.excluded) (read_snapshots t) (omega (arith, long, length_counted no_snapshot t.items t.count, c.if-n-gt-SNAPSHOTS.true))

pub returns-then-n-gt-SNAPSHOTS-clause-answer : goal.returns-then-n-gt-SNAPSHOTS-clause-answer
unfolding walked
returns-then-n-gt-SNAPSHOTS-clause-answer c = rw (over c) refl

pub returns-then-n-gt-SNAPSHOTS-clause-buffer : goal.returns-then-n-gt-SNAPSHOTS-clause-buffer
returns-then-n-gt-SNAPSHOTS-clause-buffer c = rw (over c) refl
