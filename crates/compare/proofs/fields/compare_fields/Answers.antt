-- Each comparison is given what the later ones found.
use Rattle.std.proofs.Common.{◌∙◌, refl}
use Rattle.equality.proofs.Derived.{numbers, listed, text}
use Rattle.compare.proofs.fields.compare_fields.Goals as goal

pub returns : goal.returns
returns c =
    let a = c.args.a in
    let b = c.args.b in
    rw (
      c.unless.ensures,
      c.unless-from_uuid.ensures,
      c.unless-from_location.ensures,
      c.unless-from_updated.ensures,
      c.unless-from_sequence.ensures,
      c.unless-from_next_row.ensures,
      c.unless-from_column.ensures,
      c.unless-from_current.ensures,
    ) (rw (
      c.eq-uuid.ensures ∙ listed (λ x y. refl) a.table_uuid b.table_uuid,
      c.eq-location.ensures ∙ text a.location b.location,
      c.eq-updated.ensures ∙ numbers a.last_updated_ms.0 b.last_updated_ms.0,
      c.eq-sequence.ensures ∙ numbers a.last_sequence_number.0 b.last_sequence_number.0,
      c.eq-next_row.ensures,
      c.eq-column.ensures ∙ numbers a.last_column_id.0 b.last_column_id.0,
      c.eq.ensures ∙ numbers a.current_snapshot_id.0 b.current_snapshot_id.0,
    ))
