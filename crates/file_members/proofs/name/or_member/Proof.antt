-- What was found before stays; else the word decides.
use borrow.Author.Rules.{rules}
use borrow.Author.Tests.{ne_eqb}
use Rattle.file_members.proofs.name.or_member.Statement.{statement}
use Rattle.file_members.proofs.name.or_member.Tie as tie

pub or_member_spec : {M : Type 1} → statement M
or_member_spec =
    tie.close
    (tie.spec
    (λ c. rw (ne_eqb _ 0 c.if-found-ne-NOTHING.true))
    (λ c κs. search rules)
    (λ c. rw (c.if-found-ne-NOTHING.false, ← c.is_word.ensures, c.if-is_word.true))
    (λ c. rw (c.if-found-ne-NOTHING.false, ← c.is_word.ensures, c.if-is_word.false)))
