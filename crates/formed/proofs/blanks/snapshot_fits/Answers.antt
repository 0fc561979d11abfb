use Rattle.std.proofs.Common.{◌∙◌, pos}
use Rattle.rules.specs.Blanks.{is_tidy_snapshot}
use Rattle.equality.proofs.Derived.{numbers, snapshot}
use Rattle.formed.proofs.Unused.{same_as_no_snapshot}
use Rattle.formed.proofs.blanks.snapshot_fits.Goals as goal

pub returns-then-used : goal.returns-then-used
unfolding is_tidy_snapshot
returns-then-used c = rw (c.if-used.true, c.eq.ensures ∙ numbers c.args.s.parent_snapshot_id.0 (pos 0), c.eq-then-used.ensures)

pub returns : goal.returns
returns c = rw (c.if-used.false, c.eq-2.ensures ∙ snapshot c.args.s c.blank.result, c.blank.ensures) (same_as_no_snapshot c.args.s)
