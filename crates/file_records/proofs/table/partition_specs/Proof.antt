-- The single one, or the table.
use mathlib.Core.Path.{sym, ◌∙◌}
use borrow.Author.Rules.{rules}
use Rattle.file_rule.specs.Import.{inserted, sorted}
use Rattle.file_records.specs.Decoded.{specs_in}
use Rattle.file_records.proofs.table.partition_specs.Statement.{statement}
use Rattle.file_records.proofs.table.partition_specs.Tie as tie

single : tie.Need-returns-then-single_decides
unfolding specs_in sorted inserted
single c = rw (sym c.single_decides.ensures ∙ c.if-single_decides.true) c.one_spec.ensures

table : tie.Need-returns
unfolding specs_in
table c = rw (sym c.single_decides.ensures ∙ c.if-single_decides.false) c.all_specs.ensures

pub partition_specs_spec : {M : Type 1} → statement M
partition_specs_spec = tie.close (tie.spec (λ c κs. search rules) (λ c κs. search rules) single (λ c κs. search rules) table)
