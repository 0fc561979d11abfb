-- Each name in its turn, behind what was found before.
use mathlib.Core.Path.{refl}
use borrow.Author.Rules.{rules}
use Rattle.json_members.specs.Spots.{row_at}
use Rattle.json_members.proofs.Words.{answered, done, ask}
use Rattle.json_members.proofs.name.later_member.Statement.{statement}
use Rattle.json_members.proofs.name.later_member.Tie as tie

returns : tie.Need-returns
unfolding row_at
returns c =
    let c8 = c.before.before in
    let c7 = c8.before.before in
    let c6 = c7.before.before in
    let c5 = c6.before.before in
    let c4 = c5.before.before in
    let c3 = c4.before.before in
    let c2 = c3.before.before in
    answered _ _ _
    (ask refl c2.or_member-spot.ensures
    (ask refl c2.or_member-spot-2.ensures
    (ask refl c3.or_member-spot-3.ensures
    (ask refl c4.or_member-spot-4.ensures
    (ask refl c5.or_member-spot-5.ensures
    (ask refl c6.or_member-spot-6.ensures
    (ask refl c7.or_member-spot-7.ensures
    (ask refl c8.or_member-spot-8.ensures
    (ask refl c.or_member.ensures
    done)))))))))

pub later_member_spec : {M : Type 1} → statement M
later_member_spec =
    tie.close
    (tie.spec
    (λ c κs. search rules)
    (λ c κs. search rules)
    (λ c κs. search rules)
    (λ c κs. search rules)
    (λ c κs. search rules)
    (λ c κs. search rules)
    (λ c κs. search rules)
    (λ c κs. search rules)
    (λ c κs. search rules)
    returns)
