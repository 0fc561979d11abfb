-- Each name in its turn.
use mathlib.Core.Path.{refl}
use borrow.Author.Rules.{rules}
use Rattle.json_members.proofs.Words.{answered, done, ask}
use Rattle.file_members.proofs.name.late_file_member.Statement.{statement}
use Rattle.file_members.proofs.name.late_file_member.Tie as tie

returns : tie.Need-returns
returns c =
    answered _ _ _
    (ask refl c.or_member-spot.ensures
    (ask refl c.or_member-spot-2.ensures
    (ask refl c.or_member-spot-3.ensures
    (ask refl c.or_member-spot-4.ensures
    (ask refl c.or_member-spot-5.ensures
    (ask refl c.or_member-spot-6.ensures
    (ask refl c.or_member-spot-7.ensures
    (ask refl c.or_member-spot-8.ensures
    (ask refl c.or_member-spot-9.ensures
    (ask refl c.or_member.ensures
    done))))))))))

pub late_file_member_spec : {M : Type 1} → statement M
late_file_member_spec =
    tie.close
    (tie.spec
    (λ c κs. search rules)
    (λ c κs. search rules)
    (λ c κs. search rules)
    (λ c κs. search rules)
    (λ c κs. search rules)
    (λ c κs. search rules)
    (λ c κs. search rules)
    (λ c κs. search rules)
    (λ c κs. search rules)
    (λ c κs. search rules)
    returns)
