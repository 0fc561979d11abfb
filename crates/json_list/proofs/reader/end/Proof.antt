-- The last lexeme, what it closes, the end of the list, and the answer.
use borrow.Author.Rules.{rules}
use Rattle.json_machine.specs.Lexing.{reading}
use Rattle.json_list.specs.Listing.{work}
use Rattle.json_list.proofs.Feeds.{ended_by}
use Rattle.json_list.proofs.reader.end.Statement.{statement}
use Rattle.json_list.proofs.reader.end.Tie as tie

returns : tie.Need-returns
returns c =
    let a = c.args in
    let r = a.reader in
    ended_by r.before (reading r.lexer r.kept) (work r.judge r.numbers r.texts) r.list r.offered a.offers.now (work c.take_last-done.new.judge c.take_last-done.new.numbers c.take_last-done.new.texts) c.take_last-done.result c.store_last-held.result.list c.store_last-held.result.offered c.store_last-held.new.offers c.take_end.new.judge _ c.take_last-done.ensures c.store_last-held.ensures c.take_end.ensures c.answer_of.ensures

pub end_spec : {M : Type 1} → statement M
end_spec = tie.close (tie.spec (λ c κs. search rules) (λ c κs. search rules) (λ c κs. search rules) (λ c κs. search rules) returns)
