-- By what the byte does to the lexeme.
use borrow.Author.Rules.{rules}
use Rattle.json_machine.specs.Lexing.{reading}
use Rattle.json_list.specs.Listing.{work}
use Rattle.json_list.proofs.Turns.{step_broken, step_ended, step_mode, step_whole, whole_worked, whole_turn_lem}
use Rattle.json_list.proofs.step.step.Statement.{statement}
use Rattle.json_list.proofs.step.step.Tie as tie

returns : tie.Need-returns-then-next-eq-BROKEN
returns c =
    let a = c.args in
    step_broken a.byte a.place a.at c.after-next.result (reading a.lexer a.kept.now) (work a.judge.now a.numbers.now a.texts.now) c.after-next.ensures c.head_of.result _ c.run_of.result c.if-next-eq-BROKEN.true c.head_of.ensures c.take_broken.ensures c.run_of.ensures

returns_2 : tie.Need-returns-then-next-eq-ENDED
returns_2 c =
    let a = c.args in
    let held = work a.judge.now a.numbers.now a.texts.now in
    step_ended a.byte a.place a.at c.after-next.result (reading a.lexer a.kept.now) held c.after-next.ensures _ c.if-next-eq-ENDED.true (whole_turn_lem a.lexer a.at c.whole-done.result a.kept.now held _ c.run_of-then-next-eq-ENDED.result (whole_worked a.lexer c.whole-done.result c.head_of-then-next-eq-ENDED.result c.is_whole_number.result a.kept.now held _ c.head_of-then-next-eq-ENDED.ensures c.is_whole_number.ensures c.whole-done.ensures) c.run_of-then-next-eq-ENDED.ensures)

returns_3 : tie.Need-returns-then-is_mode
returns_3 c =
    let a = c.args in
    step_mode a.byte a.place a.at c.after-next.result (reading a.lexer a.kept.now) (work a.judge.now a.numbers.now a.texts.now) c.after-next.ensures c.with_next-l.result _ c.is_mode.result c.if-next-eq-BROKEN.false c.if-next-eq-ENDED.false c.with_next-l.ensures c.is_mode.ensures c.run_of-then-is_mode.result c.if-is_mode.true c.run_of-then-is_mode.ensures

returns_4 : tie.Need-returns
returns_4 c =
    let a = c.args in
    let held = work a.judge.now a.numbers.now a.texts.now in
    step_whole a.byte a.place a.at c.after-next.result (reading a.lexer a.kept.now) held c.after-next.ensures c.with_next-l.result _ c.is_mode.result c.if-next-eq-BROKEN.false c.if-next-eq-ENDED.false c.with_next-l.ensures c.is_mode.ensures _ c.if-is_mode.false (whole_turn_lem c.with_next-l.result _ c.whole-done-2.result c.with_next-l.new.kept held _ c.run_of-2.result (whole_worked c.with_next-l.result c.whole-done-2.result c.head_of-2.result c.is_whole_number-2.result c.with_next-l.new.kept held _ c.head_of-2.ensures c.is_whole_number-2.ensures c.whole-done-2.ensures) c.run_of-2.ensures)

pub step_spec : {M : Type 1} → statement M
step_spec =
    tie.close
    (tie.spec
    (λ c κs. search rules)
    (λ c κs. search rules)
    (λ c κs. search rules)
    (λ c. search rules)
    (λ c κs. search rules)
    returns
    (λ c κs. search rules)
    (λ c κs. search rules)
    (λ c κs. search rules)
    (λ c κs. search rules)
    returns_2
    (λ c κs. search rules)
    (λ c κs. search rules)
    (λ c. search rules)
    (λ c κs. search rules)
    returns_3
    (λ c κs. search rules)
    (λ c κs. search rules)
    (λ c κs. search rules)
    (λ c. search rules)
    (λ c κs. search rules)
    returns_4)
