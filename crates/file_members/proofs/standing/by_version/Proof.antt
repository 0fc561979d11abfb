-- Each version has its own.
use borrow.Author.Tests.{ne_eqb}
use Rattle.file_members.specs.Standings.{by_version}
use Rattle.file_members.proofs.standing.by_version.Statement.{statement}
use Rattle.file_members.proofs.standing.by_version.Tie as tie

pub by_version_spec : {M : Type 1} → statement M
unfolding by_version
by_version_spec =
    tie.close
    (tie.spec
    (λ c. rw c.in-1.is)
    (λ c. rw c.in-2.is)
    (λ c. rw c.in-3.is)
    (λ c. rw (ne_eqb _ _ c.in_default.in_default-own.rest.0.0.1, ne_eqb _ _ c.in_default.in_default-own.rest.0.1, ne_eqb _ _ c.in_default.in_default-own.rest.1)))
