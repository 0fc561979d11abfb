-- Of a text that is one.
use mathlib.Core.Path.{sym, ◌∙◌}
use borrow.Author.Rules.{rules}
use Rattle.file_records.specs.Decoded.{uuid_at}
use Rattle.file_records.proofs.Texts.{uuid_kept}
use Rattle.file_records.proofs.text.uuid_at.Statement.{statement}
use Rattle.file_records.proofs.text.uuid_at.Tie as tie

one : tie.Need-returns-then-is_uuid
unfolding uuid_at
one c =
    let is = sym c.is_uuid.ensures ∙ c.if-is_uuid.true in
    rw (← c.read-len.ensures, is) (c.uuid_of.ensures ∙ uuid_kept _ _ is)

none : tie.Need-returns
unfolding uuid_at
none c = rw (← c.read-len.ensures, sym c.is_uuid.ensures ∙ c.if-is_uuid.false)

pub uuid_at_spec : {M : Type 1} → statement M
uuid_at_spec = tie.close (tie.spec (λ c κs. search rules) (λ c κs. search rules) (λ c κs. search rules) one none)
