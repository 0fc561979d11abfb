-- The blank is answered where a test failed, and the spec where none did.
use mathlib.Core.Path.{sym, ◌∙◌}
use borrow.Author.Rules.{rules}
use borrow.Author.Tests.{not-false}
use Rattle.offers.proofs.SpecAnswers.{passed_there, not_there, not_tidy, ill_formed, offered}
use Rattle.offers.proofs.spec.Statement.{statement}
use Rattle.offers.proofs.spec.Tie as tie

pub spec_spec : {M : Type 1} → statement M
spec_spec =
    tie.close
    (tie.spec
    (λ c κs. search rules)
    (λ c κs. search rules)
    (λ c. let a = c.args in
    not_there a.bytes.now a.o c.spec_not_formed.ensures c.are_there.ensures c.if-not-are_there.true-raw)
    (λ c κs. let a = c.args in
    (passed_there a.bytes.now a.o c.are_there.ensures c.if-not-are_there.false-raw).1)
    (λ c κs. search rules)
    (λ c. let a = c.args in
    not_tidy a.bytes.now a.o c.spec_not_formed-then-not-are_tidy.ensures c.are_tidy.ensures c.if-not-are_tidy.true-raw)
    (λ c κs. let d = c.before in let a = d.args in
    let p = passed_there a.bytes.now a.o d.are_there.ensures d.if-not-are_there.false-raw in
    (p.0, (p.1, sym d.are_tidy.ensures ∙ not-false _ c.if-not-are_tidy.false-raw)))
    (λ c κs. search rules)
    (λ c κs. search rules)
    (λ c. let f = c.before.before in let a = f.args in
    ill_formed a.bytes.now a.o f.spec_of-s.ensures f.offered_spec_formed.ensures c.spec_not_formed-then-not-offered_spec_formed.ensures c.if-not-offered_spec_formed.true-raw)
    (λ c. let f = c.before in let g = f.before.before in let d = g.before in let a = d.args in
    offered a.bytes.now a.o f.spec_of-s.ensures f.offered_spec_formed.ensures
    d.are_there.ensures d.if-not-are_there.false-raw d.are_tidy.ensures g.if-not-are_tidy.false-raw c.if-not-offered_spec_formed.false-raw))
