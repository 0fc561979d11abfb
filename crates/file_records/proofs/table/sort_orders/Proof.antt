-- The table, or the order without fields.
use mathlib.Core.Path.{sym, ◌∙◌}
use borrow.Author.Rules.{rules}
use Rattle.records.specs.Blanks.{no_sort_order, no_sort_orders}
use Rattle.rules.specs.Layout.{laid_sort_order, laid_sort_orders}
use Rattle.file_rule.specs.Import.{inserted, sorted}
use Rattle.file_records.specs.Decoded.{orders_in}
use Rattle.file_records.proofs.table.sort_orders.Statement.{statement}
use Rattle.file_records.proofs.table.sort_orders.Tie as tie

table : tie.Need-returns-then-is_there
unfolding orders_in
table c = rw (sym c.is_there.ensures ∙ c.if-is_there.true) c.all_orders.ensures

none : tie.Need-returns
unfolding orders_in no_sort_order no_sort_orders laid_sort_order laid_sort_orders inserted sorted
none c = rw (sym c.is_there.ensures ∙ c.if-is_there.false, c.blank-t.ensures)

pub sort_orders_spec : {M : Type 1} → statement M
sort_orders_spec = tie.close (tie.spec (λ c κs. search rules) (λ c κs. search rules) table (λ c κs. search rules) none)
