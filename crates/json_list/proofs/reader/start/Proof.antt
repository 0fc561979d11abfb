-- Nothing is held.
use borrow.Author.Rules.{rules}
use Rattle.json_list.proofs.States.{started}
use Rattle.json_list.proofs.reader.start.Statement.{statement}
use Rattle.json_list.proofs.reader.start.Tie as tie

returns : tie.Need-returns
returns c =
    started c.between-lexer.result c.start-judge.result c.blank-list.result c.args.offers.now c.blank_offers.new.offers c.between-lexer.ensures c.start-judge.ensures c.blank-list.ensures c.blank_offers.ensures

pub start_spec : {M : Type 1} → statement M
start_spec = tie.close (tie.spec (λ c κs. search rules) (λ c κs. search rules) (λ c κs. search rules) (λ c κs. search rules) returns)
