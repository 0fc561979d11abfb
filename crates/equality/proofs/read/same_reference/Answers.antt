-- Each test is the rule's: two numbers behind flags are the same where both flags are set and the numbers are equal, or neither is set.
use Rattle.std.proofs.Common.{◌∙◌, ◌&&◌, eqb}
use Rattle.equality.proofs.Derived.{numbers}
use Rattle.equality.proofs.Readings.{same_given}
use Rattle.equality.proofs.read.same_reference.Goals as goal

pub returns : goal.returns
returns c =
    let a = c.args.a in
    let b = c.args.b in
    λ i.
    (c.eq.ensures ∙ numbers a.snapshot_id.0 b.snapshot_id.0) i
    && eqb a.kind b.kind
    && same_given a.has_min a.min_snapshots_to_keep.0 b.has_min b.min_snapshots_to_keep.0 c.eq-2.ensures i
    && same_given a.has_age a.max_snapshot_age_ms.0 b.has_age b.max_snapshot_age_ms.0 c.eq-3.ensures i
    && same_given a.has_ref_age a.max_ref_age_ms.0 b.has_ref_age b.max_ref_age_ms.0 c.eq-4.ensures i
