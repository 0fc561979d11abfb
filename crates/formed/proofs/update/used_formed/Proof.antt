-- Each arm asks what the rule asks of the kind, and no other kind is well formed.
use mathlib.Core.Logic.{inl, inr}
use mathlib.Core.Path.{sym, ◌∙◌}
use borrow.Author.Rules.{rules}
use borrow.Author.Tests.{ne_eqb}
use Rattle.rules.specs.WellFormed.{update_formed}
use Rattle.rules.proofs.Slots.Relaid.{length_counted}
use Rattle.formed.proofs.Used.{sets_statistics, removes_statistics}
use Rattle.formed.proofs.update.used_formed.Statement.{statement}
use Rattle.formed.proofs.update.used_formed.Tie as tie

pub used_formed_spec : {M : Type 1} → statement M
unfolding update_formed
used_formed_spec =
    tie.close
    (tie.spec
    (λ c κs. search rules)
    (λ c κs. search rules)
    (λ c κs. search rules)
    (λ c κs. search rules)
    (λ c κs. search rules)
    (λ c κs. search rules)
    (λ c κs. search rules)
    (λ c κs. search rules)
    (λ c κs. search rules)
    (λ c κs. search rules)
    (λ c κs. search rules)
    (λ c κs. search rules)
    (λ c κs. search rules)
    (λ c κs. search rules)
    (λ c. rw c.in-1.is)
    (λ c. rw c.in-2.is)
    (λ c. let l = c.args.u.fields.location in rw (c.in-3.is, length_counted 0 l.bytes l.len))
    (λ c. rw (c.in-4.is, c.snapshot_formed.ensures))
    (λ c. let n = c.args.u.refs.name in rw (c.in-5.is, c.snapshot_formed-in-5.ensures, length_counted 0 n.bytes n.len))
    (λ c. rw (c.in-6.is, c.snapshot_ids_formed.ensures))
    (λ c. let n = c.args.u.refs.name in rw (c.in-7.is, c.reference_formed.ensures, length_counted 0 n.bytes n.len))
    (λ c. let n = c.args.u.refs.name in rw (c.in-8.is, length_counted 0 n.bytes n.len))
    (λ c. rw (c.in-9.is, c.schema_id_formed.ensures))
    (λ c. rw (c.in-10.is, c.schema_choice_formed.ensures))
    (λ c. rw (c.in-11.is, c.schema_ids_formed.ensures))
    (λ c. rw (c.in-12.is, c.offered_order_formed.ensures))
    (λ c. rw (c.in-13.is, c.order_choice_formed.ensures))
    (λ c. c.statistics_file_formed.ensures ∙ sym (sets_statistics c.args.u c.in-14.is))
    (λ c. c.snapshot_id_formed.ensures ∙ sym (removes_statistics c.args.u c.in-15.is))
    (λ c. rw (c.in-18.is, c.offered_ids_formed.ensures))
    (λ c. rw (c.in-19.is, c.spec_choice_formed.ensures))
    (λ c. rw (c.in-20.is, c.spec_ids_formed.ensures))
    (λ c. let k = c.args.u.kind in
    let n = c.in_default.in_default-own.rest in
    rw (ne_eqb k 1 n.0.0.0.0.0.0.0.0.0.0.0.0.0.0.0.0.0.1, ne_eqb k 2 n.0.0.0.0.0.0.0.0.0.0.0.0.0.0.0.0.1, ne_eqb k 3 n.0.0.0.0.0.0.0.0.0.0.0.0.0.0.0.1, ne_eqb k 4 n.0.0.0.0.0.0.0.0.0.0.0.0.0.0.1, ne_eqb k 5 n.0.0.0.0.0.0.0.0.0.0.0.0.0.1, ne_eqb k 6 n.0.0.0.0.0.0.0.0.0.0.0.0.1, ne_eqb k 7 n.0.0.0.0.0.0.0.0.0.0.0.1, ne_eqb k 8 n.0.0.0.0.0.0.0.0.0.0.1, ne_eqb k 9 n.0.0.0.0.0.0.0.0.0.1, ne_eqb k 10 n.0.0.0.0.0.0.0.0.1, ne_eqb k 11 n.0.0.0.0.0.0.0.1, ne_eqb k 12 n.0.0.0.0.0.0.1, ne_eqb k 13 n.0.0.0.0.0.1, ne_eqb k 14 (λ e. n.0.0.0.0.1 (inl e)), ne_eqb k 15 (λ e. n.0.0.0.1 (inl e)), ne_eqb k 16 (λ e. n.0.0.0.0.1 (inr e)), ne_eqb k 17 (λ e. n.0.0.0.1 (inr e)), ne_eqb k 18 n.0.0.1, ne_eqb k 19 n.0.1, ne_eqb k 20 n.1)))
