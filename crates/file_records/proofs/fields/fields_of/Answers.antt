-- Field by field.
use Rattle.std.proofs.Common.{ap, ◌∙◌, arith}
use Rattle.std.proofs.lemmas.Int.{ints, to_z-of_z}
use Rattle.records.specs.declared.counters.SnapshotId.{SnapshotId}
use Rattle.file_records.proofs.Chosen.{given_told, id_told}
use Rattle.file_records.proofs.Singles.{fields_laid}
use Rattle.file_records.proofs.fields.fields_of.Goals as goal

pub returns : goal.returns
returns c =
    fields_laid c.args.bytes.now c.args.cells.now c.args.version
    c.uuid_at.ensures
    c.text_at.ensures
    (grind (arith, ints, to_z-of_z))
    c.last_sequence.ensures
    c.next_row.ensures
    (grind (arith, ints, to_z-of_z))
    (c.is_some.ensures ∙ given_told _ c.current-snapshot.ensures)
    (ap (λ (s : SnapshotId). s.0) c.unwrap_or.ensures ∙ id_told _ c.current-snapshot.ensures)
    c.current_schema.ensures
    (grind (arith, ints, to_z-of_z))
    c.default_spec.ensures
    c.last_partition.ensures
