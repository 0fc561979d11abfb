-- The choice is made of the state's last added and current ids, and the builder that comes back has the chosen one.
use mathlib.Core.Path.{◌≡◌, refl, ap, ◌∙◌}
use mathlib.Core.List.{List}
use mathlib.Core.Option.{Option}
use borrow.Author.Rules.{rules}
use lib.IntN.{ℤ}
use Rattle.records.specs.declared.sort_order.SortOrders.{SortOrders}
use Rattle.rules.specs.Words.{eq_z}
use Rattle.rules.specs.Register as plain
use Rattle.rules.specs.Register.{with_default_order, on_fields}
use Rattle.rules.specs.Register.Update.{SetDefaultSortOrder}
use Rattle.rules.specs.SchemaUpdates.{chosen, choice_logged}
use Rattle.rules.specs.OrderUpdates.{holds_order, set_default_sort_order_checks, set_default_sort_order}
use Rattle.rules.specs.Layout.{given, read_sort_orders, laid_fields}
use Rattle.rules.specs.Kinds.{laid_update}
use Rattle.rules.proofs.Slots.Reread.{reread_sort_orders}
use Rattle.tables.proofs.Keyed.{lent_in, lent_within, lent_slice}
use Rattle.tables.proofs.Each.{tidy_sort_orders}
use Rattle.builder.specs.declared.builder.TableMetadataBuilder.{TableMetadataBuilder}
use Rattle.builder.specs.Pieces.{laid_builder}
use Rattle.builder.proofs.Steps.{stepped_unless}
use Rattle.builder.proofs.Choices.{given_back, chosen_as}
use Rattle.order_updates.specs.Orders.{added_order}
use Rattle.order_updates.proofs.order_choice.Statement.{statement}
use Rattle.order_updates.proofs.order_choice.Tie as tie

returns : tie.Need-returns
unfolding set_default_sort_order_checks set_default_sort_order laid_builder laid_fields laid_update
returns c st p q =
    let x = c.before.before.before in
    let k = x.before.before in
    let g = k.before.before.before in
    let a = g.args in
    let last : Option ℤ = st.added.order in
    let current : ℤ = st.metadata.fields.default_order in
    let K =
    chosen_as k.order_key-asked.ensures
    (ap (given a.b.has_order) k.order_key-last.ensures ∙ ap (λ (b : TableMetadataBuilder). added_order b) p ∙ given_back last)
    (k.order_key-current.ensures ∙ ap (λ (b : TableMetadataBuilder). b.fields.default_sort_order_id.0) p)
    (λ i z. (lent_in (tidy_sort_orders g.requires) (λ y. y.id) g.ids_of-ids.ensures.0 z ∙ ap (λ (l : List plain.SortOrder). holds_order l z) (ap (λ (t : SortOrders). read_sort_orders t) q ∙ reread_sort_orders st.metadata.orders)) i)
    x.choose_id-x.ensures in
    let y : ℤ = chosen a.id.0 last in
    let new : c.order_id-chosen.result ≡ record { 0 = y } = λ i. record { 0 = (c.order_id-chosen.ensures ∙ K.takes) i } in
    let put : c.order_id-logged.result ≡ record { 0 = choice_logged y last } = λ i. record { 0 = (c.order_id-logged.ensures ∙ K.logs) i } in (
      K.checked,
      λ z. rw (K.unchanged, put, new, p) (stepped_unless (eq_z y current) st (on_fields (with_default_order y) st) (SetDefaultSortOrder (choice_logged y last)) _ _ refl refl refl),
    )

pub order_choice_spec : {M : Type 1} → statement M
order_choice_spec =
    tie.close
    (tie.spec
    (λ c κs. search rules)
    (λ c κs. search rules)
    (λ c κs. search rules)
    (λ c κs. search rules)
    (λ c. lent_within (tidy_sort_orders c.requires) (λ y. y.id) c.ids_of-ids.ensures.0)
    (λ c. lent_slice (tidy_sort_orders c.requires) (λ y. y.id) c.ids_of-ids.ensures.0)
    (λ c κs. search rules)
    (λ c κs. search rules)
    (λ c κs. search rules)
    returns)
