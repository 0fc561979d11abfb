-- Whose the ref is, whether it goes, and of which kind it is say what it keeps.
use Rattle.std.proofs.Common.{ap, not, arith}
use borrow.Author.Tests.{eq-eqb, ne_eqb}
use Rattle.rules.specs.Walk.{snapshot_ids}
use Rattle.rules.specs.Layout.{read_ref}
use Rattle.retention.specs.Retention.{count_of}
use Rattle.expiry.specs.Answer.{read_policy}
use Rattle.expiry.proofs.Going.{held_places}
use Rattle.expiry.proofs.OfRefs.{of_others, of_dropped, of_branch, of_tag}
use Rattle.expiry.proofs.kept.ref_kept.Goals as goal

pub returns-then-x-policy : goal.returns-then-x-policy
returns-then-x-policy c =
    let a = c.args in
    λ snapshots h t e. of_others (read_policy a.policy) snapshots (read_ref a.x) (c.ref_goes-goes.ensures snapshots t e) (ap not (ne_eqb a.x.owner a.policy.office c.if-x-policy.true)) (c.reach_marks-slots.ensures snapshots (read_ref a.x).reference.snapshot h e)

pub returns-then-goes : goal.returns-then-goes
returns-then-goes c =
    let a = c.args in
    λ snapshots h t e. of_dropped (read_policy a.policy) snapshots (read_ref a.x) (c.ref_goes-goes.ensures snapshots t e) (ap not (eq-eqb a.x.owner a.policy.office c.if-x-policy.false)) (omega (arith, held_places h, c.requires.over_len_bound)) c.if-goes.true

pub returns-then-x-eq-BRANCH : goal.returns-then-x-eq-BRANCH
returns-then-x-eq-BRANCH c =
    let a = c.args in
    λ snapshots h t e. of_branch (read_policy a.policy) snapshots (read_ref a.x) (c.ref_goes-goes.ensures snapshots t e) (ap not (eq-eqb a.x.owner a.policy.office c.if-x-policy.false)) c.if-goes.false c.if-x-eq-BRANCH.true c.limits_of.ensures (c.branch_marks-marks.ensures snapshots (read_ref a.x).reference.snapshot h t e)

pub returns : goal.returns
returns c =
    let a = c.args in
    λ snapshots h t e. of_tag (read_policy a.policy) snapshots (read_ref a.x) (c.ref_goes-goes.ensures snapshots t e) (ap not (eq-eqb a.x.owner a.policy.office c.if-x-policy.false)) c.if-goes.false c.if-x-eq-BRANCH.false
    (c.tag_marks-slots.ensures (snapshot_ids snapshots) (read_ref a.x).reference.snapshot (count_of (read_policy a.policy) (read_ref a.x).reference) h.order (held_places h) e)
