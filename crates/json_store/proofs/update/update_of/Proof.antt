-- Part by part.
use borrow.Author.Rules.{rules}
use Rattle.json_store.proofs.Made.{made_of}
use Rattle.json_store.proofs.update.update_of.Statement.{statement}
use Rattle.json_store.proofs.update.update_of.Tie as tie

returns : tie.Need-returns
returns c =
    let p = c.before in
    let so = p.before in
    let sc = so.before in
    let rf = sc.before in
    let sn = rf.before in
    let fl = sn.before in
    let mk = fl.before in
    let a = mk.args in
    rw (← mk.kind_of-kind.ensures)
    (made_of mk.kind_of-kind.result a.place a.judge.now a.numbers.now a.texts.now mk.made_kind-made.ensures fl.fields_part-fields.ensures sn.snapshots_part-snapshots.ensures rf.refs_part-refs.ensures sc.schemas_part-schemas.ensures so.sort_orders_part-sort_orders.ensures p.blank-statistics.ensures c.specs_part-partition_specs.ensures)

pub update_of_spec : {M : Type 1} → statement M
update_of_spec =
    tie.close
    (tie.spec
    (λ c κs. search rules)
    (λ c κs. search rules)
    (λ c κs. search rules)
    (λ c κs. search rules)
    (λ c κs. search rules)
    (λ c κs. search rules)
    (λ c κs. search rules)
    (λ c κs. search rules)
    (λ c κs. search rules)
    returns)
