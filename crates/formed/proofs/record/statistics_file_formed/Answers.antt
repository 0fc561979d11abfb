use Rattle.rules.proofs.Slots.Relaid.{length_counted}
use Rattle.formed.proofs.record.statistics_file_formed.Goals as goal

pub returns : goal.returns
returns c =
    let p = c.args.f.statistics_path in
    rw (c.snapshot_id_formed.ensures, c.file_size_formed.ensures, length_counted 0 p.bytes p.len)
