-- The default order is the one that is held under its id.
use mathlib.Core.Path.{sym, ◌∙◌}
use Rattle.rules.specs.Words.{first}
use Rattle.rules.specs.WellFormed.{has_order}
use Rattle.close.proofs.Facts.{unfit_is}
use Rattle.close.proofs.is_default_unfit.Statement.{statement}
use Rattle.close.proofs.is_default_unfit.Tie as tie

pub is_default_unfit_spec : {M : Type 1} → statement M
is_default_unfit_spec =
    tie.close
    (tie.spec
    (λ c κs. (c.requires.1.0, c.requires.1.1))
    (λ c κs. (c.get-o.ensures.1, c.requires.0))
    (λ c p q r o. c.is_unfit.ensures
    ∙ unfit_is p _ _
    r
    ((λ i. first (has_order (sym q i).default_order) (sym o i)) ∙ c.get-o.ensures.0)))
