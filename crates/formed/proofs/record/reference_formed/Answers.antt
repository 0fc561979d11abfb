use Rattle.rules.proofs.Slots.Relaid.{flag_given}
use Rattle.formed.proofs.record.reference_formed.Goals as goal

pub returns : goal.returns
returns c =
    let r = c.args.r in
    rw (c.snapshot_id_formed.ensures, c.min_formed.ensures, c.age_formed.ensures, c.age_formed-2.ensures, flag_given r.has_min r.min_snapshots_to_keep.0, flag_given r.has_age r.max_snapshot_age_ms.0)
