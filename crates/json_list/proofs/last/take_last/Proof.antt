-- By the mode in which the text ends.
use borrow.Author.Rules.{rules}
use Rattle.json_machine.specs.Lexing.{reading}
use Rattle.json_list.specs.Listing.{work}
use Rattle.json_list.proofs.Turns.{whole_worked}
use Rattle.json_list.proofs.States.{last_whole, last_none, last_stopped, last_broken}
use Rattle.json_list.proofs.last.take_last.Statement.{statement}
use Rattle.json_list.proofs.last.take_last.Tie as tie

returns : tie.Need-returns-then-may_end
returns c =
    let a = c.args in
    let held = work a.judge.now a.numbers.now a.texts.now in
    last_whole a.len (reading a.l a.kept.now) held c.may_end.result c.may_end.ensures _ c.if-may_end.true (whole_worked a.l c.whole.result c.head_of.result c.is_whole_number.result a.kept.now held _ c.head_of.ensures c.is_whole_number.ensures c.whole.ensures)

returns_2 : tie.Need-returns-then-mode-eq-BETWEEN
returns_2 c =
    let a = c.args in
    last_none a.len (reading a.l a.kept.now) (work a.judge.now a.numbers.now a.texts.now) c.may_end.result c.may_end.ensures c.if-may_end.false c.if-mode-eq-BETWEEN.true

returns_3 : tie.Need-returns-then-mode-eq-STOPPED
returns_3 c =
    let a = c.args in
    last_stopped a.len (reading a.l a.kept.now) (work a.judge.now a.numbers.now a.texts.now) c.may_end.result c.may_end.ensures c.if-may_end.false c.if-mode-eq-BETWEEN.false c.if-mode-eq-STOPPED.true

returns_4 : tie.Need-returns
returns_4 c =
    let a = c.args in
    last_broken a.len (reading a.l a.kept.now) (work a.judge.now a.numbers.now a.texts.now) c.may_end.result c.may_end.ensures c.if-may_end.false c.if-mode-eq-BETWEEN.false c.head_of-2.result _ c.if-mode-eq-STOPPED.false c.head_of-2.ensures c.take_broken.ensures

pub take_last_spec : {M : Type 1} → statement M
take_last_spec =
    tie.close
    (tie.spec
    (λ c κs. search rules)
    (λ c κs. search rules)
    (λ c κs. search rules)
    (λ c κs. search rules)
    returns
    returns_2
    returns_3
    (λ c κs. search rules)
    (λ c κs. search rules)
    returns_4)
