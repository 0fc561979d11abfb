-- The kind decides what is asked.
use mathlib.Core.Path.{ap, ◌∙◌}
use mathlib.Core.Bool.{Bool, ◌&&◌}
use borrow.Author.Rules.{rules}
use borrow.Author.Tests.{ne_eqb}
use Rattle.rules.specs.Others.{is_second}
use Rattle.offices.proofs.ByKind.{name_laid, naming, removing, kept_kind}
use Rattle.offices.proofs.is_others.Statement.{statement}
use Rattle.offices.proofs.is_others.Tie as tie

pub is_others_spec : {M : Type 1} → statement M
is_others_spec =
    tie.close
    (tie.spec
    (λ c κs. (name_laid c.args.update c.requires.1.1.1.1.1 c.if-kind.true, c.requires.0))
    (λ c m w. c.names_others.ensures ∙ naming c.args.update c.args.office m c.requires.1.1.1.1.0 w.named c.if-kind.true)
    (λ c κs. (c.requires.0, (c.requires.1.0, (c.requires.1.1.0, (c.requires.1.1.1.0, c.requires.1.1.1.1.1.removed c.if-kind-eq-REMOVE_SNAPSHOTS.true)))))
    (λ c m w. c.removes_needed.ensures m w ∙ removing c.args.update c.args.office m c.requires.1.1.1.1.0 c.if-kind-eq-REMOVE_SNAPSHOTS.true)
    (λ c κs. search rules)
    (λ c m w. ap (λ (t : Bool). t && is_second c.args.office) c.is_kept.ensures ∙ kept_kind c.args.update c.args.office m c.requires.1.1.1.1.0 c.if-kind.false (ne_eqb _ _ c.if-kind-eq-REMOVE_SNAPSHOTS.false)))
