-- Both members, or none.
use Rattle.file_text.proofs.Pieces.{then, is}
use Rattle.file_tables.proofs.Texts.{rows_is}
use Rattle.file_tables.proofs.record.put_rows.Goals as goal

pub returns : goal.returns
returns c =
    is (then c.put_natural-at.ensures c.put_natural.ensures) (rows_is c.args.wanted (record { first = c.args.first; added = c.args.added }))
