-- Its name, and where it points.
use borrow.Author.Rules.{rules}
use Rattle.rules.specs.Layout.{laid_ref}
use Rattle.file_records.specs.Decoded.{ref_at}
use Rattle.file_records.proofs.record.ref_at.Statement.{statement}
use Rattle.file_records.proofs.record.ref_at.Tie as tie

pub ref_at_spec : {M : Type 1} → statement M
unfolding laid_ref ref_at
ref_at_spec =
    tie.close
    (tie.spec
    (λ c κs. search rules)
    (λ c. search rules)
    (λ c κs. search rules)
    (λ c. rw (c.reference_at-reference.ensures, c.name_at-name.ensures)))
