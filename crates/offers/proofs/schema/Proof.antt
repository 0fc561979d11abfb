-- The blank is answered where a test failed, and the schema where none did.
use mathlib.Core.Path.{sym, ◌∙◌}
use borrow.Author.Rules.{rules}
use borrow.Author.Tests.{not-false}
use Rattle.rules.specs.Layout.{read_schema_offer}
use Rattle.offers.proofs.Answers.{passed_there, tidy_offered, not_there, not_tidy, ill_formed, offered}
use Rattle.offers.proofs.schema.Statement.{statement}
use Rattle.offers.proofs.schema.Tie as tie

pub schema_spec : {M : Type 1} → statement M
schema_spec =
    tie.close
    (tie.spec
    (λ c κs. search rules)
    (λ c κs. search rules)
    (λ c. let a = c.args in
    not_there a.bytes.now (read_schema_offer a.o) c.not_formed.ensures c.is_there.ensures c.if-not-is_there.true-raw)
    (λ c κs. let a = c.args in
    (passed_there a.bytes.now (read_schema_offer a.o) c.is_there.ensures c.if-not-is_there.false-raw).1)
    (λ c κs. search rules)
    (λ c. let a = c.args in
    not_tidy a.bytes.now (read_schema_offer a.o) c.not_formed-then-not-fields_tidy.ensures c.fields_tidy.ensures c.if-not-fields_tidy.true-raw)
    (λ c κs. let d = c.before in let a = d.args in
    let p = passed_there a.bytes.now (read_schema_offer a.o) d.is_there.ensures d.if-not-is_there.false-raw in
    (p.0, (p.1, sym d.fields_tidy.ensures ∙ not-false _ c.if-not-fields_tidy.false-raw)))
    (λ c κs. let g = c.before in let d = g.before in let a = d.args in
    tidy_offered a.bytes.now (read_schema_offer a.o) c.schema_of-s.ensures d.is_there.ensures d.if-not-is_there.false-raw d.fields_tidy.ensures g.if-not-fields_tidy.false-raw)
    (λ c κs. search rules)
    (λ c. let f = c.before.before in let a = f.args in
    ill_formed a.bytes.now (read_schema_offer a.o) f.schema_of-s.ensures f.schema_formed.ensures c.not_formed-then-not-schema_formed.ensures c.if-not-schema_formed.true-raw)
    (λ c. let f = c.before in let g = f.before.before in let d = g.before in let a = d.args in
    offered a.bytes.now (read_schema_offer a.o) f.schema_of-s.ensures f.schema_formed.ensures
    d.is_there.ensures d.if-not-is_there.false-raw d.fields_tidy.ensures g.if-not-fields_tidy.false-raw c.if-not-schema_formed.false-raw))
