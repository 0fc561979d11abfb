-- Each name in its turn.
use mathlib.Core.Path.{refl}
use borrow.Author.Rules.{rules}
use Rattle.json_members.specs.Spots.{row_at}
use Rattle.json_members.proofs.Words.{answered_first, done, ask}
use Rattle.json_members.proofs.name.field_member.Statement.{statement}
use Rattle.json_members.proofs.name.field_member.Tie as tie

returns : tie.Need-returns
unfolding row_at
returns c =
    let c3 = c.before.before in
    let c2 = c3.before.before in
    answered_first _ _
    (ask refl c2.or_member-spot.ensures
    (ask refl c2.or_member-spot-2.ensures
    (ask refl c3.or_member-spot-3.ensures
    (ask refl c.or_member.ensures
    done))))

pub field_member_spec : {M : Type 1} → statement M
field_member_spec =
    tie.close
    (tie.spec
    (λ c κs. search rules)
    (λ c κs. search rules)
    (λ c κs. search rules)
    (λ c κs. search rules)
    returns)
