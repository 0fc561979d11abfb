-- The tests in order; as many bytes are read of a location as its length says.
use Rattle.std.proofs.Common.{◌∙◌, pos}
use Rattle.equality.proofs.Derived.{numbers}
use Rattle.rules.proofs.Slots.Relaid.{length_counted}
use Rattle.faults.specs.Faults.{field_faults}
use Rattle.faults.proofs.part.fields_fault.Goals as goal

pub returns : goal.returns
unfolding field_faults
returns c =
    let l = c.args.f.location in
    rw (
      c.unless.ensures,
      c.unless-from_location.ensures,
      c.text_fits.ensures,
      c.unless-from_sequence.ensures,
      c.sequence_formed.ensures,
      c.unless-from_current.ensures,
      c.eq.ensures ∙ numbers c.args.f.current_snapshot_id.0 (pos 0),
      c.unless-from_partition.ensures,
      c.last_partition_formed.ensures,
      length_counted 0 l.bytes l.len,
    )
