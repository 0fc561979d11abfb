-- By whether anything is refused.
use borrow.Author.Rules.{rules}
use Rattle.json_list.proofs.Feeds.{answered_list, answered_refusal}
use Rattle.json_list.proofs.reader.answer_of.Statement.{statement}
use Rattle.json_list.proofs.reader.answer_of.Tie as tie

returns : tie.Need-returns-then-judge-eq0
returns c =
    let a = c.args in
    answered_list a.judge.now a.held.list a.held.offered a.offers.now c.if-judge-eq0.true

returns_2 : tie.Need-returns
returns_2 c =
    let a = c.args in
    answered_refusal a.judge.now a.held.list a.held.offered a.offers.now c.blank-list.result c.blank_offers.new.offers c.if-judge-eq0.false c.blank-list.ensures c.blank_offers.ensures

pub answer_of_spec : {M : Type 1} → statement M
answer_of_spec =
    tie.close
    (tie.spec
    (λ c. search rules)
    (λ c. search rules)
    returns
    (λ c κs. search rules)
    (λ c κs. search rules)
    (λ c. search rules)
    (λ c. search rules)
    (λ c. search rules)
    returns_2)
