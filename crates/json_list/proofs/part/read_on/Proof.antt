-- Turn by turn, until an update is closed or the part ends.
use borrow.Author.Tests.{eqb-true, eqb-false, not-true, not-false}
use lib.ListN.{length}
use Rattle.json_machine.specs.Lexing.{reading}
use Rattle.json_list.specs.Listing.{work}
use Rattle.json_list.specs.Turns.{turn, turn_of}
use Rattle.json_list.specs.Parts.{left}
use Rattle.json_list.proofs.Parts.{Reached, reached_none, reached_on, reached_closed, reached_end}
use Rattle.json_list.proofs.part.read_on.Statement.{statement}
use Rattle.json_list.proofs.part.read_on.Tie as tie

abbrev invariant_loop : tie.invariant-loop-run
invariant_loop part before kept₀ judge₀ numbers₀ texts₀ run₀ kept judge numbers texts run = Reached before part (turn (reading run₀.lexer kept₀) (work judge₀ numbers₀ texts₀) run₀.at 0) (turn_of run kept (work judge numbers texts))

abbrev decreases_loop : tie.decreases-loop-run
decreases_loop part before kept₀ judge₀ numbers₀ texts₀ run₀ kept judge numbers texts run = left (length part) run.at (reading run.lexer kept)

loop_holds : tie.Need-loop-run-init invariant_loop decreases_loop
loop_holds c =
    let a = c.args in
    reached_none a.before a.part.now (reading a.start.lexer a.kept.now) (work a.judge.now a.numbers.now a.texts.now) a.start.at

turn_on_requires : tie.Need-turn_on-run-requires invariant_loop decreases_loop
turn_on_requires c κs =
    (c.loop-run-test.true, c.requires.1)

loop_less : tie.Need-loop-run-smaller invariant_loop decreases_loop
loop_less c = c.turn_on-run.ensures.less

loop_again : tie.Need-loop-run-preserved invariant_loop decreases_loop
loop_again c =
    let a = c.args in
    reached_on a.before a.part.now (turn (reading a.start.lexer a.kept.now) (work a.judge.now a.numbers.now a.texts.now) a.start.at 0) (turn_of c.loop-run.run c.loop-run.kept (work c.loop-run.judge c.loop-run.numbers c.loop-run.texts)) c.loop-run.invariant (turn_of c.turn_on-run.result c.turn_on-run.new.kept (work c.turn_on-run.new.judge c.turn_on-run.new.numbers c.turn_on-run.new.texts)) (eqb-false c.loop-run.run.done 2 (not-true _ c.if-run-ne-UPDATE.true-raw)) c.turn_on-run.ensures

returns : tie.Need-returns-else-run-ne-UPDATE invariant_loop decreases_loop
returns c =
    let a = c.args in
    reached_closed a.before a.part.now (turn (reading a.start.lexer a.kept.now) (work a.judge.now a.numbers.now a.texts.now) a.start.at 0) (turn_of c.loop-run.run c.loop-run.kept (work c.loop-run.judge c.loop-run.numbers c.loop-run.texts)) c.loop-run.invariant (eqb-true c.loop-run.run.done 2 (not-false _ c.if-run-ne-UPDATE.false-raw))

returns_2 : tie.Need-returns-after-loop-run invariant_loop decreases_loop
returns_2 c =
    let a = c.args in
    reached_end a.before a.part.now (turn (reading a.start.lexer a.kept.now) (work a.judge.now a.numbers.now a.texts.now) a.start.at 0) (turn_of c.loop-run.run c.loop-run.kept (work c.loop-run.judge c.loop-run.numbers c.loop-run.texts)) c.loop-run.invariant c.requires.0 c.loop-run-test.false

pub read_on_spec : {M : Type 1} → statement M
read_on_spec = tie.close (tie.spec invariant_loop decreases_loop loop_holds turn_on_requires loop_less loop_again returns returns_2)
