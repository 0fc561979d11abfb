-- Each name in its turn.
use mathlib.Core.Path.{refl}
use borrow.Author.Rules.{rules}
use Rattle.json_members.specs.Spots.{row_at}
use Rattle.json_members.proofs.Words.{answered_first, done, ask}
use Rattle.json_members.proofs.name.order_member.Statement.{statement}
use Rattle.json_members.proofs.name.order_member.Tie as tie

returns : tie.Need-returns
unfolding row_at
returns c =
    answered_first _ _
    (ask refl c.or_member-spot.ensures
    (ask refl c.or_member.ensures
    done))

pub order_member_spec : {M : Type 1} → statement M
order_member_spec =
    tie.close
    (tie.spec
    (λ c κs. search rules)
    (λ c κs. search rules)
    returns)
