-- Each arm asks what the rule asks of the kind, and no other kind has an action.
use mathlib.Core.Path.{◌∙◌}
use borrow.Author.Rules.{rules}
use borrow.Author.Tests.{ne_eqb}
use Rattle.log_rule.specs.LogText.{sent_in, plain_texts}
use Rattle.log_writer.proofs.Tidy.{carried_at, not_carried_at}
use Rattle.log_writer.proofs.carried.kind_carried.Statement.{statement}
use Rattle.log_writer.proofs.carried.kind_carried.Tie as tie

pub kind_carried_spec : {M : Type 1} → statement M
unfolding sent_in plain_texts
kind_carried_spec =
    tie.close
    (tie.spec
    (λ c κs. search rules)
    (λ c κs. search rules)
    (λ c κs. search rules)
    (λ c κs. search rules)
    (λ c κs. search rules)
    (λ c. let a = c.args in carried_at a.offers.now a.u 1 c.in-1.is)
    (λ c. let a = c.args in carried_at a.offers.now a.u 2 c.in-2.is)
    (λ c. let a = c.args in c.text_is_utf8.ensures ∙ carried_at a.offers.now a.u 3 c.in-3.is)
    (λ c. let a = c.args in carried_at a.offers.now a.u 4 c.in-4.is)
    (λ c. let a = c.args in carried_at a.offers.now a.u 6 c.in-6.is)
    (λ c. let a = c.args in c.name_is_utf8.ensures ∙ carried_at a.offers.now a.u 7 c.in-7.is)
    (λ c. let a = c.args in c.name_is_utf8-in-8.ensures ∙ carried_at a.offers.now a.u 8 c.in-8.is)
    (λ c. let a = c.args in c.schema_carried.ensures ∙ carried_at a.offers.now a.u 9 c.in-9.is)
    (λ c. let a = c.args in carried_at a.offers.now a.u 10 c.in-10.is)
    (λ c. let a = c.args in carried_at a.offers.now a.u 11 c.in-11.is)
    (λ c. let a = c.args in carried_at a.offers.now a.u 12 c.in-12.is)
    (λ c. let a = c.args in carried_at a.offers.now a.u 13 c.in-13.is)
    (λ c. let a = c.args in c.spec_carried.ensures ∙ carried_at a.offers.now a.u 18 c.in-18.is)
    (λ c. let a = c.args in carried_at a.offers.now a.u 19 c.in-19.is)
    (λ c. let a = c.args in carried_at a.offers.now a.u 20 c.in-20.is)
    (λ c. let a = c.args in
    let k = a.u.kind in
    let n = c.in_default.in_default-own.rest in
    not_carried_at a.offers.now a.u (rw (ne_eqb k 1 n.0.0.0.0.0.0.0.0.0.0.0.0.0.0.1, ne_eqb k 2 n.0.0.0.0.0.0.0.0.0.0.0.0.0.1, ne_eqb k 3 n.0.0.0.0.0.0.0.0.0.0.0.0.1, ne_eqb k 4 n.0.0.0.0.0.0.0.0.0.0.0.1, ne_eqb k 6 n.0.0.0.0.0.0.0.0.0.0.1, ne_eqb k 7 n.0.0.0.0.0.0.0.0.0.1, ne_eqb k 8 n.0.0.0.0.0.0.0.0.1, ne_eqb k 9 n.0.0.0.0.0.0.0.1, ne_eqb k 10 n.0.0.0.0.0.0.1, ne_eqb k 11 n.0.0.0.0.0.1, ne_eqb k 12 n.0.0.0.0.1, ne_eqb k 13 n.0.0.0.1, ne_eqb k 18 n.0.0.1, ne_eqb k 19 n.0.1, ne_eqb k 20 n.1))))
