-- Each word in its turn, and then the later ones.
use mathlib.Core.Path.{refl}
use borrow.Author.Rules.{rules}
use Rattle.json_members.proofs.Words.{answered_first, others, ask}
use Rattle.json_members.proofs.kind.action_kind.Statement.{statement}
use Rattle.json_members.proofs.kind.action_kind.Tie as tie

returns : tie.Need-returns
returns c =
    let c7 = c.before in
    let c6 = c7.before.before in
    let c5 = c6.before.before in
    let c4 = c5.before.before in
    let c3 = c4.before.before in
    let c2 = c3.before.before in
    answered_first _ _
    (ask refl c2.or_kind-kind.ensures
    (ask refl c2.or_kind-kind-2.ensures
    (ask refl c3.or_kind-kind-3.ensures
    (ask refl c4.or_kind-kind-4.ensures
    (ask refl c5.or_kind-kind-5.ensures
    (ask refl c6.or_kind-kind-6.ensures
    (ask refl c7.or_kind-kind-7.ensures
    (others c.later_kind.ensures))))))))

pub action_kind_spec : {M : Type 1} → statement M
action_kind_spec =
    tie.close
    (tie.spec
    (λ c κs. search rules)
    (λ c κs. search rules)
    (λ c κs. search rules)
    (λ c κs. search rules)
    (λ c κs. search rules)
    (λ c κs. search rules)
    (λ c κs. search rules)
    (λ c κs. search rules)
    returns)
