-- Each word in its turn.
use mathlib.Core.Path.{refl}
use borrow.Author.Rules.{rules}
use Rattle.json_members.proofs.Words.{answered_first, done, ask}
use Rattle.json_members.proofs.bucket.word_kind.Statement.{statement}
use Rattle.json_members.proofs.bucket.word_kind.Tie as tie

returns : tie.Need-returns
returns c =
    let c3 = c.before.before in
    let c2 = c3.before.before in
    answered_first _ _
    (ask refl c2.or_kind-kind.ensures
    (ask refl c2.or_kind-kind-2.ensures
    (ask refl c3.or_kind-kind-3.ensures
    (ask refl c.or_kind.ensures
    done))))

pub word_kind_spec : {M : Type 1} → statement M
word_kind_spec =
    tie.close
    (tie.spec
    (λ c κs. search rules)
    (λ c κs. search rules)
    (λ c κs. search rules)
    (λ c κs. search rules)
    returns)
