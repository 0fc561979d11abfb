-- What is kept of the next lexeme, where it is a text that is not too long.
use borrow.Author.Rules.{rules}
use Rattle.json_members.specs.Kept.{front}
use Rattle.file_records.proofs.Said.{none_there, no_text_lem, long_text, short_text}
use Rattle.file_records.proofs.text.said.Statement.{statement}
use Rattle.file_records.proofs.text.said.Tie as tie

pub said_spec : {M : Type 1} → statement M
unfolding front
said_spec =
    tie.close
    (tie.spec
    (λ c κs. search rules)
    (λ c. none_there c.next-token.ensures c.if-token-ne-WHOLE.true)
    (λ c. no_text_lem c.next-token.ensures c.if-token-ne-WHOLE.false c.if-token-ne34.true)
    (λ c. long_text c.next-token.ensures c.if-token-ne-WHOLE.false c.if-token-ne34.false c.if-token-gt-TEXT.true)
    (λ c. short_text c.next-token.ensures c.if-token-ne-WHOLE.false c.if-token-ne34.false c.if-token-gt-TEXT.false))
