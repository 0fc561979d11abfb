-- Where it is there.
use mathlib.Core.Path.{sym, ◌∙◌}
use borrow.Author.Rules.{rules}
use Rattle.json_members.specs.Kept.{front}
use Rattle.file_records.specs.Decoded.{text_at}
use Rattle.file_records.proofs.text.read.Statement.{statement}
use Rattle.file_records.proofs.text.read.Tie as tie

pub read_spec : {M : Type 1} → statement M
unfolding front text_at
read_spec =
    tie.close
    (tie.spec
    (λ c κs. search rules)
    (λ c κs. search rules)
    (λ c κs. search rules)
    (λ c. rw (sym c.is_there.ensures ∙ c.if-is_there.true, ← c.place_of.ensures) c.said.ensures)
    (λ c. rw (sym c.is_there.ensures ∙ c.if-is_there.false)))
