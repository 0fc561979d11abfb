-- The two arms are the two cases of the rule.
use Rattle.builder.specs.Pieces.{laid_builder}
use Rattle.ref_updates.proofs.with_own.Statement.{statement}
use Rattle.ref_updates.proofs.with_own.Tie as tie

pub with_own_spec : {M : Type 1} → statement M
unfolding laid_builder
with_own_spec = tie.close (tie.spec (λ c st e. rw (c.if-is_added.true, e)) (λ c st e. rw (c.if-is_added.false, e)))
