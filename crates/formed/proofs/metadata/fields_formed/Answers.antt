use Rattle.std.proofs.Common.{◌∙◌, pos}
use Rattle.rules.specs.WellFormed.{fields_formed}
use Rattle.rules.specs.Blanks.{is_tidy_fields}
use Rattle.rules.proofs.Slots.Relaid.{length_counted}
use Rattle.equality.proofs.Derived.{numbers}
use Rattle.formed.proofs.metadata.fields_formed.Goals as goal

pub returns : goal.returns
unfolding is_tidy_fields fields_formed
returns c =
    let f = c.args.f in
    rw (c.text_fits.ensures, c.eq.ensures ∙ numbers f.current_snapshot_id.0 (pos 0), c.sequence_formed.ensures, c.last_partition_formed.ensures, length_counted 0 f.location.bytes f.location.len)
