-- An id is among those kept of the targets if it is a target and was superseded.
use mathlib.Core.Path.{sym, ◌∙◌}
use borrow.Author.Rules.{rules}
use Rattle.rules.specs.Layout.{read_fields}
use Rattle.close.specs.Facts.{is_superseded, intermediates_of}
use Rattle.close.proofs.Ids.{in_kept}
use Rattle.close.proofs.Tests.{by_second, by_first}
use Rattle.close.proofs.history.is_intermediate.Statement.{statement}
use Rattle.close.proofs.history.is_intermediate.Tie as tie

both : tie.Need-returns-then-is_among
unfolding intermediates_of
both c =
    let a = c.args in
    by_second c.is_among.ensures c.if-is_among.true c.is_superseded.ensures
    ∙ sym (in_kept (is_superseded a.added.now (read_fields a.f).current) a.mains.now a.id.0)

no_target : tie.Need-returns-else-is_among
unfolding intermediates_of
no_target c =
    let a = c.args in
    by_first _ c.is_among.ensures c.if-is_among.false
    ∙ sym (in_kept (is_superseded a.added.now (read_fields a.f).current) a.mains.now a.id.0)

pub is_intermediate_spec : {M : Type 1} → statement M
is_intermediate_spec = tie.close (tie.spec (λ c κs. search rules) (λ c κs. search rules) both no_target)
