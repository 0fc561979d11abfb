-- Each arm puts what the rule writes of the kind, and of no other kind is anything written.
use native.Mathlib.Omega.{arith}
use borrow.Author.Rules.{rules}
use borrow.Author.Tests.{ne_eqb}
use Rattle.file_text.proofs.Pieces.{nothing, is}
use Rattle.log_rule.specs.LogText.{sent_in}
use Rattle.log_writer.proofs.Tidy.{text_at_lem, no_text_at}
use Rattle.log_writer.proofs.log.put_kind.Statement.{statement}
use Rattle.log_writer.proofs.log.put_kind.Tie as tie

pub put_kind_spec : {M : Type 1} → statement M
unfolding sent_in
put_kind_spec =
    tie.close
    (tie.spec
    (λ c κs. search rules)
    (λ c κs. search rules)
    (λ c κs. search rules)
    (λ c κs. search rules)
    (λ c κs. search rules)
    (λ c κs. search rules)
    (λ c κs. search rules)
    (λ c κs. search rules)
    (λ c κs. search rules)
    (λ c κs. search rules)
    (λ c κs. search rules)
    (λ c κs. search rules)
    (λ c κs. search rules)
    (λ c κs. search rules)
    (λ c κs. search rules)
    (λ c. search rules)
    (λ c. let a = c.args in is c.put_assign_uuid.ensures (text_at_lem a.offers.now a.u 1 c.in-1.is))
    (λ c. search rules)
    (λ c. let a = c.args in is c.put_upgrade.ensures (text_at_lem a.offers.now a.u 2 c.in-2.is))
    (λ c. search rules)
    (λ c. let a = c.args in is c.put_set_location.ensures (text_at_lem a.offers.now a.u 3 c.in-3.is))
    (λ c. search rules)
    (λ c. let a = c.args in is c.put_add_snapshot.ensures (text_at_lem a.offers.now a.u 4 c.in-4.is))
    (λ c. search rules)
    (λ c. let a = c.args in is c.put_remove_snapshots.ensures (text_at_lem a.offers.now a.u 6 c.in-6.is))
    (λ c. search rules)
    (λ c. let a = c.args in is c.put_set_ref.ensures (text_at_lem a.offers.now a.u 7 c.in-7.is))
    (λ c. search rules)
    (λ c. let a = c.args in is c.put_remove_ref.ensures (text_at_lem a.offers.now a.u 8 c.in-8.is))
    (λ c. search rules)
    (λ c. let a = c.args in is c.put_add_schema.ensures (text_at_lem a.offers.now a.u 9 c.in-9.is))
    (λ c. search rules)
    (λ c. let a = c.args in is c.put_set_current_schema.ensures (text_at_lem a.offers.now a.u 10 c.in-10.is))
    (λ c. search rules)
    (λ c. let a = c.args in is c.put_remove_schemas.ensures (text_at_lem a.offers.now a.u 11 c.in-11.is))
    (λ c. search rules)
    (λ c. let a = c.args in is c.put_add_order.ensures (text_at_lem a.offers.now a.u 12 c.in-12.is))
    (λ c. search rules)
    (λ c. let a = c.args in is c.put_set_default_order.ensures (text_at_lem a.offers.now a.u 13 c.in-13.is))
    (λ c. search rules)
    (λ c. let a = c.args in is c.put_add_spec.ensures (text_at_lem a.offers.now a.u 18 c.in-18.is))
    (λ c. search rules)
    (λ c. let a = c.args in is c.put_set_default_spec.ensures (text_at_lem a.offers.now a.u 19 c.in-19.is))
    (λ c. search rules)
    (λ c. let a = c.args in is c.put_remove_specs.ensures (text_at_lem a.offers.now a.u 20 c.in-20.is))
    (λ c. let a = c.args in
    let k = a.u.kind in
    let n = c.in_default.in_default-own.rest in
    is (nothing (omega arith)) (no_text_at a.offers.now a.u (rw (ne_eqb k 1 n.0.0.0.0.0.0.0.0.0.0.0.0.0.0.1, ne_eqb k 2 n.0.0.0.0.0.0.0.0.0.0.0.0.0.1, ne_eqb k 3 n.0.0.0.0.0.0.0.0.0.0.0.0.1, ne_eqb k 4 n.0.0.0.0.0.0.0.0.0.0.0.1, ne_eqb k 6 n.0.0.0.0.0.0.0.0.0.0.1, ne_eqb k 7 n.0.0.0.0.0.0.0.0.0.1, ne_eqb k 8 n.0.0.0.0.0.0.0.0.1, ne_eqb k 9 n.0.0.0.0.0.0.0.1, ne_eqb k 10 n.0.0.0.0.0.0.1, ne_eqb k 11 n.0.0.0.0.0.1, ne_eqb k 12 n.0.0.0.0.1, ne_eqb k 13 n.0.0.0.1, ne_eqb k 18 n.0.0.1, ne_eqb k 19 n.0.1, ne_eqb k 20 n.1)))))
