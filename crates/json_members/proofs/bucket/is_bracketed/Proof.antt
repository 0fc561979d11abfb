-- Each test in its turn.
use mathlib.Core.Path.{sym, ◌∙◌}
use native.Mathlib.Omega.{arith}
use borrow.Author.Rules.{rules}
use borrow.Author.Tests.{le-leb, lt-leb, eq-eqb, ne_eqb, not-true, not-false}
use Rattle.json_members.proofs.Buckets.{bracketed_front}
use Rattle.json_members.proofs.bucket.is_bracketed.Statement.{statement}
use Rattle.json_members.proofs.bucket.is_bracketed.Tie as tie

returns_3 : tie.Need-returns-then-not-is_word
returns_3 c =
    let a = c.args in
    rw (bracketed_front a.len a.kept.now, le-leb 9 a.len (omega arith), le-leb a.len 18 (omega arith), sym c.is_word.ensures ∙ not-true _ c.if-not-is_word.true-raw)

returns_4 : tie.Need-returns-then-kept-len-ne93
returns_4 c =
    let a = c.args in
    rw (bracketed_front a.len a.kept.now, le-leb 9 a.len (omega arith), le-leb a.len 18 (omega arith), sym c.is_word.ensures ∙ not-false _ c.if-not-is_word.false-raw, ne_eqb _ 93 c.if-kept-len-ne93.true)

returns_5 : tie.Need-returns-then-kept-eq48
returns_5 c =
    let f = c.before.before in
    let a = f.args in
    rw (bracketed_front a.len a.kept.now, le-leb 9 a.len (omega arith), le-leb a.len 18 (omega arith), sym f.is_word.ensures ∙ not-false _ f.if-not-is_word.false-raw, eq-eqb _ 93 f.if-kept-len-ne93.false, eq-eqb _ 48 c.if-kept-eq48.true)

returns_6 : tie.Need-returns
returns_6 c =
    let f = c.before.before in
    let a = f.args in
    rw (bracketed_front a.len a.kept.now, le-leb 9 a.len (omega arith), le-leb a.len 18 (omega arith), sym f.is_word.ensures ∙ not-false _ f.if-not-is_word.false-raw, eq-eqb _ 93 f.if-kept-len-ne93.false, ne_eqb _ 48 c.if-kept-eq48.false)

pub is_bracketed_spec : {M : Type 1} → statement M
is_bracketed_spec =
    tie.close
    (tie.spec
    (λ c. search rules)
    (λ c. rw (bracketed_front c.args.len c.args.kept.now, lt-leb 9 c.args.len (omega arith)))
    (λ c. search rules)
    (λ c. search rules)
    (λ c. rw (bracketed_front c.args.len c.args.kept.now, le-leb 9 c.args.len (omega arith), lt-leb c.args.len 18 c.if-len-2.true))
    (λ c κs. search rules)
    returns_3
    (λ c. search rules)
    (λ c. search rules)
    returns_4
    (λ c. search rules)
    (λ c. search rules)
    returns_5
    returns_6)
