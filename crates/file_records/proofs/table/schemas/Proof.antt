-- The single one, or the table.
use mathlib.Core.Path.{sym, ◌∙◌}
use borrow.Author.Rules.{rules}
use Rattle.file_rule.specs.Import.{inserted, sorted}
use Rattle.file_records.specs.Decoded.{schemas_in}
use Rattle.file_records.proofs.table.schemas.Statement.{statement}
use Rattle.file_records.proofs.table.schemas.Tie as tie

single : tie.Need-returns-then-single_decides
unfolding schemas_in sorted inserted
single c = rw (sym c.single_decides.ensures ∙ c.if-single_decides.true) c.one_schema.ensures

table : tie.Need-returns
unfolding schemas_in
table c = rw (sym c.single_decides.ensures ∙ c.if-single_decides.false) c.all_schemas.ensures

pub schemas_spec : {M : Type 1} → statement M
schemas_spec = tie.close (tie.spec (λ c κs. search rules) (λ c κs. search rules) single (λ c κs. search rules) table)
