-- What is found of the refs from `i` on.
use Rattle.std.proofs.Common.{◌≡◌}
use Rattle.rules.specs.Register.{Metadata}
use Rattle.rules.specs.Walk.{snapshot_ids}
use Rattle.rules.specs.Layout.{read_refs}
use Rattle.expiry.specs.Answer.{read_policy, no_reason}
use Rattle.expiry.specs.Found.{slotted, snapshot_times, Placed, log_reason}
use Rattle.expiry.proofs.Findings.{From}
use Rattle.expiry.proofs.kept.refs_findings.Given as goal

abbrev pub invariant-loop-i : goal.invariant-loop-i
invariant-loop-i l =
    (m : Metadata)
    → read_refs l.refs ≡ m.refs
    → l.ids ≡ snapshot_ids m.snapshots
    → Placed m.snapshots l.over
    → l.times ≡ snapshot_times m.snapshots
    → l.fn.named ≡ slotted no_reason (log_reason l.policy.office m.snapshot_log) (snapshot_ids m.snapshots)
    → From (read_policy l.policy) m l.goes l.stays l.cyclic l.i
