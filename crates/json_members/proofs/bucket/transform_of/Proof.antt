-- One of the words, or buckets whose number is not too large.
use mathlib.Core.Path.{sym, ◌∙◌}
use native.Mathlib.Omega.{arith}
use borrow.Author.Rules.{rules}
use borrow.Author.Tests.{not-true, not-false}
use Rattle.json_members.specs.Kept.{front}
use Rattle.json_members.proofs.Transforms.{plain_told, no_bucket, too_many, some_buckets, a_word, no_word_there, bounds, said_between}
use Rattle.json_members.proofs.bucket.transform_of.Statement.{statement}
use Rattle.json_members.proofs.bucket.transform_of.Tie as tie

returns : tie.Need-returns-then-kind-ne-NO_KIND
returns c =
    let a = c.args in
    let text = front a.len a.kept.now in
    rw c.word_kind-kind.ensures (plain_told text (a_word text _ c.word_kind-kind.ensures c.if-kind-ne-NO_KIND.true))

returns_2 : tie.Need-returns-then-not-is_bracketed
returns_2 c =
    let text = front c.args.len c.args.kept.now in
    no_bucket text (no_word_there text _ c.word_kind-kind.ensures c.if-kind-ne-NO_KIND.false) (sym c.is_bracketed.ensures ∙ not-true _ c.if-not-is_bracketed.true-raw)

number_of_requires : tie.Need-number_of-number-requires
number_of_requires c κs =
    let a = c.args in
    omega (arith, bounds a.len a.kept.now (sym c.is_bracketed.ensures ∙ not-false _ c.if-not-is_bracketed.false-raw))

returns_3 : tie.Need-returns-then-number-gt-MOST
returns_3 c =
    let e = c.before.before in
    let a = e.args in
    let text = front a.len a.kept.now in
    let b = sym e.is_bracketed.ensures ∙ not-false _ e.if-not-is_bracketed.false-raw in
    too_many text (no_word_there text _ e.word_kind-kind.ensures e.if-kind-ne-NO_KIND.false) b c.number_of-number.result
    (said_between a.len a.kept.now b c.number_of-number.result c.number_of-number.ensures) c.if-number-gt-MOST.true

returns_4 : tie.Need-returns
returns_4 c =
    let e = c.before.before in
    let a = e.args in
    let text = front a.len a.kept.now in
    let b = sym e.is_bracketed.ensures ∙ not-false _ e.if-not-is_bracketed.false-raw in
    some_buckets text (no_word_there text _ e.word_kind-kind.ensures e.if-kind-ne-NO_KIND.false) b c.number_of-number.result
    (said_between a.len a.kept.now b c.number_of-number.result c.number_of-number.ensures) c.if-number-gt-MOST.false

pub transform_of_spec : {M : Type 1} → statement M
transform_of_spec =
    tie.close
    (tie.spec
    (λ c κs. search rules)
    returns
    (λ c κs. search rules)
    returns_2
    (λ c. let a = c.args in omega (arith, bounds a.len a.kept.now (sym c.is_bracketed.ensures ∙ not-false _ c.if-not-is_bracketed.false-raw)))
    (λ c. let a = c.args in omega (arith, bounds a.len a.kept.now (sym c.is_bracketed.ensures ∙ not-false _ c.if-not-is_bracketed.false-raw)))
    number_of_requires
    returns_3
    (λ c. search rules)
    returns_4)
