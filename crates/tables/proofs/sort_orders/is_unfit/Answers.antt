use Rattle.std.proofs.Common.{not, take, sym, ap, ◌∙◌}
use Rattle.records.specs.declared.sort_order.SortField.{SortField}
use Rattle.rules.specs.Words.{any, is_in}
use Rattle.rules.specs.WellFormed.{field_ids}
use Rattle.rules.specs.Layout.{read_schema}
use Rattle.tables.proofs.Spans.{any_here, any_on, any_none, run_any, run_holds}
use Rattle.tables.proofs.Each.{tidy_schema, tidy_sort_order}
use Rattle.tables.proofs.sort_orders.is_unfit.Goals as goal

pub returns-then-not-holds_key : goal.returns-then-not-holds_key
returns-then-not-holds_key c =
    run_any (tidy_sort_order c.requires.laid_order) (λ f. not (is_in (field_ids (read_schema c.args.s)) f.source))
    (any_here _ _ _ c.loop-f-test.true c.loop-f.invariant (ap not (sym (rw c.field_key.ensures.result_value at c.holds_key.ensures) ∙ c.if-not-holds_key.true))
    ∙ ap (λ (q : SortField → _). any q (take c.args.o.count c.args.o.items)) (λ i f. not (run_holds (tidy_schema c.requires.laid_schema) (λ g. g.id) f.source_id.0 i)))

pub loop-f-preserved : goal.loop-f-preserved
loop-f-preserved c = any_on _ _ _ c.loop-f-test.true c.loop-f.invariant (ap not (sym (rw c.field_key.ensures.result_value at c.holds_key.ensures) ∙ c.if-not-holds_key.false))

pub returns : goal.returns
returns c =
    run_any (tidy_sort_order c.requires.laid_order) (λ f. not (is_in (field_ids (read_schema c.args.s)) f.source))
    (any_none _ _ c.loop-f-test.false c.loop-f.invariant
    ∙ ap (λ (q : SortField → _). any q (take c.args.o.count c.args.o.items)) (λ i f. not (run_holds (tidy_schema c.requires.laid_schema) (λ g. g.id) f.source_id.0 i)))
