-- Each of the two words, and no other.
use borrow.Author.Rules.{rules}
use Rattle.json_members.proofs.Words.{told, none, this, later}
use Rattle.json_members.proofs.kind.direction.Statement.{statement}
use Rattle.json_members.proofs.kind.direction.Tie as tie

pub direction_spec : {M : Type 1} → statement M
direction_spec =
    tie.close
    (tie.spec
    (λ c κs. search rules)
    (λ c. told _ _ _ (this c.if-is_word.true c.is_word.ensures))
    (λ c κs. search rules)
    (λ c. told _ _ _ (later c.if-is_word.false c.is_word.ensures (this c.if-is_word-2.true c.is_word-2.ensures)))
    (λ c. told _ _ _ (later c.if-is_word.false c.is_word.ensures (later c.if-is_word-2.false c.is_word-2.ensures none))))
