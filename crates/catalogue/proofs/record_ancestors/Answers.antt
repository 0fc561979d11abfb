-- The walk over the links that `gather` answers is the walk over the records.
use Rattle.std.proofs.Common.{◌≡◌, map, length, ap, ◌∙◌, to_z-of_z}
use Rattle.rules.specs.Layout.{given, read_snapshot}
use Rattle.rules.specs.Walk.{Walk, record_ancestors, walk_buffer}
use Rattle.walk.specs.Answers.{walked}
use Rattle.catalogue.specs.declared.links.Links.{Links}
use Rattle.catalogue.specs.Links.{link_ancestors}
use Rattle.catalogue.proofs.Gathered.{gathered_walks}
use Rattle.catalogue.proofs.record_ancestors.Goals as goal

module _ (c : goal.After-out-1) where
  abbrev of_links : Links → Walk
  of_links l = link_ancestors l c.args.start (given c.args.has_excluded c.args.excluded)

  same : of_links c.gather.result ≡ record_ancestors (map read_snapshot c.args.snapshots.now) c.args.start (given c.args.has_excluded c.args.excluded)
  same = ap of_links c.gather.ensures ∙ gathered_walks c.args.start (given c.args.has_excluded c.args.excluded) (map read_snapshot c.args.snapshots.now)

pub returns-clause-answer : goal.returns-clause-answer
returns-clause-answer c = (rw (to_z-of_z c.ranges.start, to_z-of_z c.ranges.excluded) at c.link_ancestors.ensures.answer) ∙ ap (λ (w : Walk). walked (length c.args.out.now) w) (same c)

pub returns-clause-buffer : goal.returns-clause-buffer
returns-clause-buffer c = (rw (to_z-of_z c.ranges.start, to_z-of_z c.ranges.excluded) at c.link_ancestors.ensures.buffer) ∙ ap (walk_buffer c.args.out.now) (same c)
