-- Both tests are the model's.
use borrow.Author.Tests.{ne_eqb}
use Rattle.file_members.proofs.value.is_null_at.Statement.{statement}
use Rattle.file_members.proofs.value.is_null_at.Tie as tie

pub is_null_at_spec : {M : Type 1} → statement M
is_null_at_spec = tie.close (tie.spec (λ c. rw (ne_eqb _ 14 c.if-want-ne-CURRENT_SNAPSHOT_ID.true)) (λ c. rw c.if-want-ne-CURRENT_SNAPSHOT_ID.false))
