-- The plain bytes in front are kept in one go.
use borrow.Author.Rules.{rules}
use Rattle.json_list.proofs.Parts.{run_within, past_run}
use Rattle.json_list.proofs.part.past_plain.Statement.{statement}
use Rattle.json_list.proofs.part.past_plain.Tie as tie

keep_all_requires : tie.Need-keep_all-requires
keep_all_requires c κs =
    run_within c.args.part.now c.args.from c.plain_end-end.result c.requires c.plain_end-end.ensures

returns_3 : tie.Need-returns
returns_3 c =
    past_run c.args.part.now c.args.from c.plain_end-end.result c.requires c.plain_end-end.ensures c.args.l c.settled-text.result c.args.kept.now c.keep_all.new.kept c.keep_all.result c.if-l-ne-TEXT.false c.if-end-from.false c.settled-text.ensures c.keep_all.ensures

pub past_plain_spec : {M : Type 1} → statement M
past_plain_spec =
    tie.close
    (tie.spec
    (λ c. search rules)
    (λ c κs. search rules)
    (λ c. search rules)
    (λ c κs. search rules)
    keep_all_requires
    returns_3)
