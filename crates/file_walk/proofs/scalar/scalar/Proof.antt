-- By the token.
use mathlib.Core.Path.{sym, ◌∙◌}
use borrow.Author.Rules.{rules}
use Rattle.file_walk.proofs.Scalars.{stops_none, stops_broken, stops_whole, whole_bounds, reads}
use Rattle.file_walk.proofs.scalar.scalar.Statement.{statement}
use Rattle.file_walk.proofs.scalar.scalar.Tie as tie

pub scalar_spec : {M : Type 1} → statement M
scalar_spec =
    tie.close
    (tie.spec
    (λ c κs. search rules)
    (λ c. stops_none c.args.bytes.now c.args.kept.now c.args.want c.args.schema c.args.base c.args.t c.args.seat c.args.cells.now c.requires.0 c.requires.1.1 c.not_json.result c.if-t-eq-END.true c.not_json.ensures)
    (λ c κs. search rules)
    (λ c. stops_broken c.args.bytes.now c.args.kept.now c.args.want c.args.schema c.args.base c.args.t c.args.seat c.args.cells.now c.requires.0 c.requires.1.1 c.not_json-then-t-eq-BROKEN.result c.if-t-eq-BROKEN.true c.not_json-then-t-eq-BROKEN.ensures)
    (λ c κs. search rules)
    (λ c κs. (c.requires.1.0, whole_bounds c.args.bytes.now c.args.kept.now c.args.want c.args.schema c.args.base c.args.t c.args.seat c.args.cells.now c.requires.0 c.requires.1.1 c.if-t-eq-END.false c.if-t-eq-BROKEN.false))
    (λ c. reads c.args.bytes.now c.args.kept.now c.args.want c.args.schema c.args.base c.args.t c.args.seat c.args.cells.now c.requires.0 c.requires.1.1 c.hold.result _ c.if-t-eq-END.false c.if-t-eq-BROKEN.false (sym c.stands_alone.ensures ∙ c.if-stands_alone.true) c.hold.ensures)
    (λ c κs. search rules)
    (λ c. stops_whole c.args.bytes.now c.args.kept.now c.args.want c.args.schema c.args.base c.args.t c.args.seat c.args.cells.now c.requires.0 c.requires.1.1 c.not_json-2.result c.if-t-eq-END.false c.if-t-eq-BROKEN.false (sym c.stands_alone.ensures ∙ c.if-stands_alone.false) c.not_json-2.ensures))
