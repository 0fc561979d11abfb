use Rattle.std.specs.Int.Signed.{non_neg}
use Rattle.formed.proofs.Signs.{behind_flag}
use Rattle.formed.proofs.record.snapshot_formed.Goals as goal

pub returns : goal.returns
returns c =
    let s = c.args.s in
    rw (c.snapshot_id_formed.ensures, c.snapshot_id_formed-2.ensures, c.sequence_formed.ensures, behind_flag non_neg s.has_parent s.parent_snapshot_id.0)
