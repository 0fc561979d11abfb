-- By the byte behind the spaces: none, a quotation mark, a byte by itself, or the first of a number or a literal name.
use mathlib.Core.Path.{ap}
use borrow.Author.Rules.{rules}
use Rattle.json_tokens.specs.declared.token.Token.{Token}
use Rattle.json_tokens.proofs.Answers.{answers_none, answers_text, answers_single, answers_bare}
use Rattle.json_tokens.proofs.token.next.Statement.{statement}
use Rattle.json_tokens.proofs.token.next.Tie as tie

returns : tie.Need-returns-then-first-bytes
returns c =
    let a = c.args in
    answers_none a.bytes.now a.from c.past_spaces-first.result c.past_spaces-first.ensures a.kept.now c.room.ensures c.plain_token.result c.if-first-bytes.true (ap (λ (r : Token). r.state) c.plain_token.ensures)

returns_2 : tie.Need-returns-then-head-eq34
returns_2 c =
    let a = c.args in
    answers_text a.bytes.now a.from c.past_spaces-first.result c.past_spaces-first.ensures _ c.room-then-head-eq34.ensures c.if-first-bytes.false c.if-head-eq34.true a.kept.now c.room.ensures c.read_text-token.result c.read_text-token.ensures

returns_3 : tie.Need-returns-then-mode-eq-WHOLE
returns_3 c =
    let a = c.args in
    answers_single a.bytes.now a.from c.past_spaces-first.result c.past_spaces-first.ensures a.kept.now c.room.ensures c.if-first-bytes.false c.if-head-eq34.false c.plain_token-then-mode-eq-WHOLE.result c.begun-mode.result c.begun-mode.ensures c.if-mode-eq-WHOLE.true c.plain_token-then-mode-eq-WHOLE.ensures

returns_4 : tie.Need-returns
returns_4 c =
    let a = c.args in
    answers_bare a.bytes.now a.from c.past_spaces-first.result c.past_spaces-first.ensures a.kept.now c.room.ensures c.if-first-bytes.false c.if-head-eq34.false c.read_bare.result c.begun-mode.result c.begun-mode.ensures c.if-mode-eq-WHOLE.false c.read_bare.ensures

pub next_spec : {M : Type 1} → statement M
next_spec =
    tie.close
    (tie.spec
    (λ c κs. search rules)
    (λ c κs. search rules)
    (λ c κs. search rules)
    returns
    (λ c. search rules)
    (λ c. search rules)
    (λ c κs. search rules)
    (λ c κs. search rules)
    returns_2
    (λ c κs. search rules)
    (λ c. search rules)
    (λ c κs. search rules)
    returns_3
    (λ c. search rules)
    (λ c κs. search rules)
    returns_4)
