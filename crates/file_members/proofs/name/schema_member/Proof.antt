-- Each name in its turn.
use mathlib.Core.Path.{refl}
use borrow.Author.Rules.{rules}
use Rattle.json_members.proofs.Words.{answered_first, done, ask}
use Rattle.file_members.proofs.name.schema_member.Statement.{statement}
use Rattle.file_members.proofs.name.schema_member.Tie as tie

returns : tie.Need-returns
returns c =
    answered_first _ _
    (ask refl c.or_member-spot.ensures
    (ask refl c.or_member-spot-2.ensures
    (ask refl c.or_member.ensures
    done)))

pub schema_member_spec : {M : Type 1} → statement M
schema_member_spec =
    tie.close
    (tie.spec
    (λ c κs. search rules)
    (λ c κs. search rules)
    (λ c κs. search rules)
    returns)
