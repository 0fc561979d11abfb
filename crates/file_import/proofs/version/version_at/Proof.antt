-- The lexeme that stands there, if it is whole, by its number.
use mathlib.Core.Path.{◌∙◌}
use borrow.Author.Rules.{rules}
use lib.ListN.{length}
use Rattle.file_import.proofs.Known.{token_whole, token_other}
use Rattle.file_import.proofs.version.version_at.Statement.{statement}
use Rattle.file_import.proofs.version.version_at.Tie as tie

pub version_at_spec : {M : Type 1} → statement M
version_at_spec =
    tie.close
    (tie.spec
    (λ c κs. search rules)
    (λ c. let a = c.args in token_other (length a.bytes.now) a.bytes.now a.from _ _ c.next-t.ensures c.if-t-ne-WHOLE.true)
    (λ c κs. search rules)
    (λ c. let i = c.before in let a = i.args in c.known_version.ensures ∙ token_whole (length a.bytes.now) a.bytes.now a.from _ _ i.next-t.ensures i.if-t-ne-WHOLE.false))
