use Rattle.std.proofs.Common.{◌∙◌, pos}
use Rattle.rules.specs.Blanks.{is_tidy_reference}
use Rattle.equality.proofs.Derived.{numbers, reference}
use Rattle.formed.proofs.Unused.{same_as_no_reference}
use Rattle.formed.proofs.blanks.reference_fits.Goals as goal

pub returns-then-used : goal.returns-then-used
unfolding is_tidy_reference
returns-then-used c =
    let r = c.args.r in
    rw (
      c.if-used.true,
      c.eq.ensures ∙ numbers r.min_snapshots_to_keep.0 (pos 0),
      c.eq-then-used.ensures ∙ numbers r.max_snapshot_age_ms.0 (pos 0),
      c.eq-then-used-2.ensures ∙ numbers r.max_ref_age_ms.0 (pos 0),
    )

pub returns : goal.returns
returns c = rw (c.if-used.false, c.eq-2.ensures ∙ reference c.args.r c.blank.result, c.blank.ensures) (same_as_no_reference c.args.r)
