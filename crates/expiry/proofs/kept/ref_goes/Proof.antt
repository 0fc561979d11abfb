-- Each of the three tests is one of the rule's; the age is asked at the place of the ref's snapshot.
use mathlib.Core.Path.{◌≡◌, refl, ap, ap₂, ◌∙◌}
use mathlib.Core.Bool.{Bool, true, false, not, ◌&&◌}
use borrow.Author.Rules.{rules}
use lib.Dec.{eqb}
use lib.IntN.{ℤ}
use Rattle.rules.specs.Layout.{read_reference}
use Rattle.retention.specs.Retention.{ref_age_of, goes}
use Rattle.expiry.specs.Answer.{read_policy}
use Rattle.expiry.specs.Found.{is_older_at}
use Rattle.expiry.proofs.Times.{older_at}
use Rattle.expiry.proofs.kept.ref_goes.Statement.{statement}
use Rattle.expiry.proofs.kept.ref_goes.Tie as tie

own : (b : Bool) → b ≡ not (not b)
own true = refl
own false = refl

returns : tie.Need-returns
unfolding goes
returns c snapshots t e =
    let o = c.before.before.before in
    let p = read_policy o.args.policy in
    let r = read_reference o.args.x.reference in
    ap₂ (λ (x y : Bool). x && y)
    (ap₂ (λ (x y : Bool). x && y) (ap not c.is_main_name.ensures) (own (eqb o.args.x.owner o.args.policy.office)))
    (o.is_older-old.ensures
    ∙ ap (λ (age : ℤ). is_older_at o.args.times.now o.args.start age p.clock) o.own_age-age.ensures
    ∙ older_at snapshots r.snapshot (ref_age_of p r) p.clock t e)

pub ref_goes_spec : {M : Type 1} → statement M
ref_goes_spec = tie.close (tie.spec (λ c κs. search rules) (λ c κs. search rules) (λ c κs. search rules) returns)
