-- A turn is the plain bytes of a text, and the byte behind them.
use borrow.Author.Rules.{rules}
use Rattle.json_machine.specs.Lexing.{reading}
use Rattle.json_list.specs.Listing.{work}
use Rattle.json_list.proofs.Parts.{turn_steps, turn_stays}
use Rattle.json_list.proofs.part.turn_on.Statement.{statement}
use Rattle.json_list.proofs.part.turn_on.Tie as tie

returns : tie.Need-returns-then-at-part
returns c =
    let a = c.args in
    turn_steps a.before a.part.now a.run.at c.past_plain-r.result.at c.past_plain-r.result.done (reading a.run.lexer a.kept.now) (reading c.past_plain-r.result.lexer _) (work a.judge.now a.numbers.now a.texts.now) c.past_plain-r.ensures _ c.if-at-part.true c.step.ensures

returns_2 : tie.Need-returns
returns_2 c =
    let a = c.args in
    turn_stays a.before a.part.now a.run.at c.past_plain-r.result.at c.past_plain-r.result.done (reading a.run.lexer a.kept.now) (reading c.past_plain-r.result.lexer _) (work a.judge.now a.numbers.now a.texts.now) c.past_plain-r.ensures c.if-at-part.false

pub turn_on_spec : {M : Type 1} → statement M
turn_on_spec = tie.close (tie.spec (λ c κs. search rules) (λ c. search rules) (λ c. search rules) (λ c κs. search rules) returns returns_2)
