-- The search gives the first with equal fields, whose id is among the keys; where there is none the new id is 0 or the highest one's successor.
use Prim.Native.Nat.{ℕ}
use mathlib.Core.Path.{◌≡◌, refl, sym, ap, ◌∙◌}
use mathlib.Core.Bool.{Bool, true, false, cond, not, ◌&&◌, true≢false, false≢true}
use mathlib.Core.List.{List, [], ◌∷◌}
use mathlib.Core.Option.{Option}
use native.Mathlib.Omega.{arith}
use borrow.Author.Rules.{rules}
use borrow.Author.Tests.{eq-eqb, ne_eqb}
use lib.Dec.{eqb}
use lib.IntN.{ℤ, pos, suc_ℤ}
use lib.ListN.{length}
use mir.Syntax.{w64}
use Rattle.rules.specs.Words.{eq_z, same_list, highest, is_empty}
use Rattle.rules.specs.Register as plain
use Rattle.rules.specs.Capacities.{largest_sort_order_id}
use Rattle.rules.specs.OrderUpdates.{same_sort_field, reused_order, order_ids}
use Rattle.rules.specs.Layout.{given, read_sort_order, read_sort_orders}
use Rattle.tables.proofs.Table.{listed_length}
use Rattle.tables.proofs.Keyed.{lent, lent_within, lent_slice, take_fits}
use Rattle.tables.proofs.Each.{sort_fields, tidy_sort_orders}
use Rattle.builder.specs.Added.{Numbered}
use Rattle.builder.proofs.NewIds.{numbered, reused_at}
use Rattle.order_updates.proofs.reuse_or_create_new_sort_id.Statement.{statement}
use Rattle.order_updates.proofs.reuse_or_create_new_sort_id.Tie as tie

counted_empty : {A : Type 0} (l : List A) (n : ℕ) → length l ≡ n → eqb n 0 ≡ is_empty l
counted_empty [] n e = eq-eqb n 0 (sym e)
counted_empty (x ∷ l) n e = ne_eqb n 0 (λ q. omega arith)

-- what an order with fields would get
as_any : (c : tie.After-order_id-id) → let x = c.before in let s = x.before.before.before.before.before in let l = read_sort_orders s.args.t in let r = x.reuse_or_create_new_id-x.result in
    Numbered (reused_order (read_sort_order s.args.o) l) (eq_z (highest (order_ids l)) largest_sort_order_id) (suc_ℤ (highest (order_ids l))) (given s.args.has_last s.args.last.0) r.found r.exhausted r.is_last c.order_id-id.result.0
as_any c =
    let x = c.before in
    let k = x.before.before in
    let i = k.before.before in
    let e = lent (tidy_sort_orders i.requires.0) (λ y. y.id) i.ids_of-ids.ensures.0 in
    numbered w64 (take_fits w64 i.args.t.count i.ids_of-ids.result i.ids_of-ids.ensures.1) x.reuse_or_create_new_id-x.ensures e (ap (given i.args.has_last) k.order_key-k.ensures) c.order_id-id.ensures
    (reused_at (λ (y : plain.SortOrder). same_list same_sort_field y.fields (read_sort_order i.args.o).fields) (λ y. y.id) (read_sort_orders i.args.t) k.find_equal-i.ensures e)

-- a new one with no fields gets 0
module _ {reused : Option ℤ} {over exhausted is_last : Bool} {next id : ℤ} {last : Option ℤ} where
  zero : (empty found : Bool) → Numbered reused over next last found exhausted is_last id → (not found && empty) ≡ true → Numbered reused (not empty && over) (cond empty (pos 0) next) last false false false (pos 0)
  zero true false k e = record { held = λ t. absurd (false≢true t); again = λ t. absurd (false≢true t); new = k.new; over = λ f. refl; gets = λ f o. refl }
  zero true true k e = absurd (false≢true e)
  zero false true k e = absurd (false≢true e)
  zero false false k e = absurd (false≢true e)

  as_it_is : (empty found : Bool) → Numbered reused over next last found exhausted is_last id → (not found && empty) ≡ false → Numbered reused (not empty && over) (cond empty (pos 0) next) last found exhausted is_last id
  as_it_is false found k e = k
  as_it_is true true k e = record { held = k.held; again = k.again; new = λ f. absurd (true≢false f); over = λ f. absurd (true≢false f); gets = λ f o. absurd (true≢false f) }
  as_it_is true false k e = absurd (true≢false e)

-- whether there are fields is told by their count
told : (c : tie.After-order_id-id) {t : Bool} → let x = c.before in let found = x.reuse_or_create_new_id-x.result.found in
    (not found && eqb x.args.o.count 0) ≡ t → (not found && is_empty (read_sort_order x.args.o).fields) ≡ t
told c e =
    let o = c.args.o in
    ap (λ (b : Bool). not c.reuse_or_create_new_id-x.result.found && b) (sym (counted_empty (read_sort_order o).fields o.count (listed_length sort_fields o))) ∙ e

returns : tie.Need-returns-then-x-m
returns c = let y = c.before.before in zero _ y.reuse_or_create_new_id-x.result.found (as_any y) (told y c.if-x-m.true)

returns_2 : tie.Need-returns
returns_2 c = let y = c.before.before in as_it_is _ y.reuse_or_create_new_id-x.result.found (as_any y) (told y c.if-x-m.false)

pub reuse_or_create_new_sort_id_spec : {M : Type 1} → statement M
reuse_or_create_new_sort_id_spec =
    tie.close
    (tie.spec
    (λ c κs. search rules)
    (λ c κs. search rules)
    (λ c κs. search rules)
    (λ c. lent_within (tidy_sort_orders c.requires.0) (λ y. y.id) c.ids_of-ids.ensures.0)
    (λ c. lent_slice (tidy_sort_orders c.requires.0) (λ y. y.id) c.ids_of-ids.ensures.0)
    (λ c κs. search rules)
    (λ c κs. search rules)
    returns
    returns_2)
