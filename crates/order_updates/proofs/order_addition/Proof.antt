-- An order whose fields are held gets that id; any other gets a new one, under which it is put. Either is logged with its final id.
use Prim.Native.Nat.{ℕ}
use mathlib.Core.Path.{◌≡◌, refl, sym, ap, ◌∙◌}
use mathlib.Core.Bool.{Bool, true, false, cond, not, ◌&&◌, false≢true}
use mathlib.Core.List.{List, [], ◌∷◌}
use mathlib.Core.Option.{Option, none, some}
use native.Mathlib.Omega.{arith}
use borrow.Author.Rules.{rules}
use borrow.Author.Tests.{leb-false, eq-eqb, eqb-true}
use lib.Dec.{eqb, leb}
use lib.IntN.{ℤ}
use lib.ListN.{length}
use Rattle.records.specs.Blanks.{no_sort_orders_part}
use Rattle.records.specs.declared.counters.SortOrderId.{SortOrderId}
use Rattle.records.specs.declared.schema.Schema.{Schema}
use Rattle.records.specs.declared.sort_order.SortOrder.{SortOrder}
use Rattle.records.specs.declared.sort_order.SortOrders.{SortOrders}
use Rattle.rules.specs.Words.{eq_z, some_with, any, is_empty, is_in, highest, put, first_of, Check}
use Rattle.rules.specs.Capacities.{sort_order_room, largest_sort_order_id}
use Rattle.rules.specs.Register as plain
use Rattle.rules.specs.Register.{State, with_orders, with_metadata}
use Rattle.rules.specs.Register.Update.{AddSortOrder}
use Rattle.rules.specs.WellFormed.{field_ids, order_below, orders_formed}
use Rattle.rules.specs.OrderUpdates.{reused_order, order_ids, new_order_id, is_unfit, add_sort_order_checks, add_sort_order}
use Rattle.rules.specs.OrderUpdates as rule
use Rattle.rules.specs.Layout.{read_schema, read_sort_order, laid_sort_order, read_sort_orders, laid_sort_orders, laid_fields}
use Rattle.rules.specs.Kinds.{laid_update, of_kind, with_sort_orders_part, with_sort_order, add_sort_order_kind}
use Rattle.rules.proofs.Checks.{by_test, Passed, passed}
use Rattle.rules.proofs.Slots.Reread.{reread_sort_orders}
use Rattle.tables.specs.Laid.{LaidOrder}
use Rattle.tables.proofs.Table.{listed_length}
use Rattle.tables.proofs.Each.{sort_orders}
use Rattle.builder.specs.declared.builder.TableMetadataBuilder.{TableMetadataBuilder}
use Rattle.builder.specs.Pieces.{laid_builder, IsCurrent}
use Rattle.order_updates.specs.Orders.{added_order, OrderGrown}
use Rattle.builder.proofs.Steps.{stepped_unless}
use Rattle.builder.proofs.Choices.{given_back}
use Rattle.order_updates.proofs.NewOrders.{new_order_not_held}
use Rattle.order_updates.proofs.order_addition.Statement.{statement}
use Rattle.order_updates.proofs.order_addition.Tie as tie

-- the builder after an order of this id
abbrev after : SortOrderId → TableMetadataBuilder → TableMetadataBuilder
after id b = record { fields = b.fields; has_own = b.has_own; own = b.own; has_schema = b.has_schema; last_added_schema_id = b.last_added_schema_id; has_order = true; last_added_order_id = id; has_spec = b.has_spec; last_added_spec_id = b.last_added_spec_id }

-- the order under this id
abbrev renamed : SortOrderId → SortOrder → SortOrder
renamed id o = record { order_id = id; items = o.items; count = o.count }

-- which is laid out as it was
order_renamed : (o : SortOrder) → LaidOrder o → (id : SortOrderId) → LaidOrder (renamed id o)
unfolding laid_sort_order
order_renamed o h id = record { back = λ i. record { order_id = id; items = (h.back i).items; count = (h.back i).count }; fits = h.fits }

module _ (b : TableMetadataBuilder) (t : SortOrders) (s : Schema) (o : SortOrder) (k : LaidOrder o) (id : SortOrderId) where
  at_state : (st : State) → t ≡ laid_sort_orders st.metadata.orders → read_sort_orders t ≡ st.metadata.orders
  at_state st q = ap (λ (x : SortOrders). read_sort_orders x) q ∙ reread_sort_orders st.metadata.orders

  -- ---- its fields are held

  module _ (e : reused_order (read_sort_order o) (read_sort_orders t) ≡ some id.0) where
    held_at_state : (st : State) → t ≡ laid_sort_orders st.metadata.orders → reused_order (read_sort_order o) st.metadata.orders ≡ some id.0
    held_at_state st q = ap (reused_order (read_sort_order o)) (sym (at_state st q)) ∙ e

    held : (last : Bool) → last ≡ some_with (eq_z id.0) (added_order b) → OrderGrown b t s o (record { number = 0; logs = not last; grows = false; order = renamed id o; builder = after id b })
    unfolding add_sort_order_checks add_sort_order laid_builder laid_fields laid_update
    held last x =
        record {
          answers = λ st p _ q.
              let l : last ≡ some_with (eq_z id.0) st.added.order = x ∙ ap (some_with (eq_z id.0)) (ap (λ (y : TableMetadataBuilder). added_order y) p ∙ given_back st.added.order) in (
                rw (held_at_state st q),
                λ z. rw (held_at_state st q, add_sort_order, l, p) (stepped_unless (some_with (eq_z id.0) st.added.order) st (rule.added_order id.0 st) (AddSortOrder (read_sort_order (renamed id o))) _ _ refl refl (ap (λ (y : SortOrder). with_sort_orders_part (with_sort_order y no_sort_orders_part) (of_kind add_sort_order_kind)) (sym (order_renamed o k id).back))),
              );
          table = λ st q z. rw (held_at_state st q, add_sort_order) (by_test (λ (y : State). y.metadata.orders ≡ st.metadata.orders) (some_with (eq_z id.0) st.added.order) (λ h. refl) (λ h. refl));
          laid = order_renamed o k id;
          room = λ h. absurd (false≢true h);
          new = λ h. absurd (false≢true h);
        }

  -- ---- they are not

  abbrev largest : List plain.SortOrder → Bool
  largest l = not (is_empty (read_sort_order o).fields) && eq_z (highest (order_ids l)) largest_sort_order_id

  abbrev new_checks : Bool → List plain.SortOrder → List Check
  new_checks unfit l = (largest l, 18) ∷ (unfit, 17) ∷ (leb sort_order_room (length l), 19) ∷ []

  -- the order names a field that is not among these
  abbrev unfit_for : Option plain.Schema → Bool
  unfit_for s = any (λ (f : plain.SortField). not (is_in (elim s [ none ↦ [] | some x ↦ field_ids x ]) f.source)) (read_sort_order o).fields

  module _ (e : reused_order (read_sort_order o) (read_sort_orders t) ≡ none) (formed : orders_formed (read_sort_orders t) ≡ true)
      (exhausted : Bool) (x : exhausted ≡ largest (read_sort_orders t)) (g : largest (read_sort_orders t) ≡ false → id.0 ≡ new_order_id (read_sort_order o) (read_sort_orders t))
      (unfit : Bool) (v : unfit ≡ unfit_for (some (read_schema s)))
      (number : ℕ) (n : number ≡ cond exhausted 18 (cond unfit 17 (cond (leb sort_order_room t.count) 19 0))) where
    new_at_state : (st : State) → t ≡ laid_sort_orders st.metadata.orders → reused_order (read_sort_order o) st.metadata.orders ≡ none
    new_at_state st q = ap (reused_order (read_sort_order o)) (sym (at_state st q)) ∙ e

    checked : number ≡ first_of (new_checks unfit (read_sort_orders t))
    checked = n ∙ ap (λ (y : Bool). cond y 18 (cond unfit 17 (cond (leb sort_order_room t.count) 19 0))) x ∙ ap (λ (y : ℕ). cond (largest (read_sort_orders t)) 18 (cond unfit 17 (cond (leb sort_order_room y) 19 0))) (sym (listed_length sort_orders t))

    accepted : number ≡ 0 → Passed (new_checks unfit (read_sort_orders t))
    accepted z = passed (new_checks unfit (read_sort_orders t)) refl (sym checked ∙ z)

    numbered : (st : State) → t ≡ laid_sort_orders st.metadata.orders → number ≡ 0 → id.0 ≡ new_order_id (read_sort_order o) st.metadata.orders
    numbered st q z = g (accepted z).0 ∙ ap (new_order_id (read_sort_order o)) (at_state st q)

    unfit_at_state : (st : State) → IsCurrent st.metadata s → unfit ≡ is_unfit (read_sort_order o) st.metadata
    unfit_at_state st y = v ∙ ap unfit_for (sym y)

    new : OrderGrown b t s o (record { number = number; logs = true; grows = eqb number 0; order = renamed id o; builder = after id b })
    unfolding add_sort_order_checks add_sort_order laid_builder laid_fields laid_update
    new =
        record {
          answers = λ st p r q.
              let m = st.metadata in
              let one : plain.SortOrder = record { id = new_order_id (read_sort_order o) m.orders; fields = (read_sort_order o).fields } in
              let end : State = rule.added_order one.id (with_metadata (with_orders (put order_below one m.orders) m) st) in (
                checked ∙ rw (new_at_state st q, at_state st q, unfit_at_state st r),
                λ z.
                    let i : id ≡ record { 0 = one.id } = λ j. record { 0 = numbered st q z j } in
                    let y : laid_sort_order one ≡ renamed id o = ap (λ (d : ℤ). laid_sort_order (record { id = d; fields = (read_sort_order o).fields })) (sym (numbered st q z)) ∙ (order_renamed o k id).back in
                    rw (new_at_state st q, add_sort_order) (stepped_unless false st end (AddSortOrder one) _ _ refl (rw (i, p)) (ap (λ (d : SortOrder). with_sort_orders_part (with_sort_order d no_sort_orders_part) (of_kind add_sort_order_kind)) (sym y))),
              );
          table = λ st q z. rw (new_at_state st q, add_sort_order, eq-eqb number 0 z) (ap (λ (d : ℤ). put order_below (record { id = d; fields = (read_sort_order o).fields }) st.metadata.orders) (sym (numbered st q z)));
          laid = order_renamed o k id;
          room = λ h. let f = leb-false sort_order_room (length (read_sort_orders t)) (accepted (eqb-true number 0 h)).1.1.0 in omega (arith, f, listed_length sort_orders t);
          new = λ h. rw (g (accepted (eqb-true number 0 h)).0) (new_order_not_held (read_sort_order o) (read_sort_orders t) formed e);
        }

returns : tie.Need-returns-then-found
returns c =
    let f = c.before.before.before in
    let r = f.reuse_or_create_new_sort_id-x in
    let yes = c.if-found.true in
    held f.args.b f.args.t f.args.s f.args.o f.requires.1.1.1 r.result.id (r.ensures.held yes) r.result.is_last (r.ensures.again yes)

returns_2 : tie.Need-returns
returns_2 c =
    let u = c.before.before.before in
    let j = u.before in
    let f = j.before.before in
    let r = f.reuse_or_create_new_sort_id-x in
    let no = j.if-found.false in
    new f.args.b f.args.t f.args.s f.args.o f.requires.1.1.1 r.result.id (r.ensures.new no) f.requires.1.0
    r.result.exhausted (r.ensures.over no) (r.ensures.gets no)
    u.is_unfit-unfit.result u.is_unfit-unfit.ensures
    c.choose-number.result
    (c.choose-number.ensures ∙ ap (cond r.result.exhausted 18) (c.choose-rest.ensures ∙ ap (cond u.is_unfit-unfit.result 17) c.choose-later.ensures))

pub order_addition_spec : {M : Type 1} → statement M
order_addition_spec =
    tie.close
    (tie.spec
    (λ c κs. search rules)
    returns
    (λ c κs. search rules)
    (λ c κs. search rules)
    (λ c κs. search rules)
    (λ c κs. search rules)
    returns_2)
