-- The highest of the keys of the fields, or the old one.
use mathlib.Core.Path.{sym, ap, subst, ◌∙◌}
use borrow.Author.Rules.{rules}
use lib.ListN.{take}
use mir.Syntax.{w32}
use mir.Val.{SFits}
use Rattle.rules.specs.Words.{larger, highest}
use Rattle.tables.proofs.Keyed.{lent, lent_within, lent_slice, take_fits}
use Rattle.tables.proofs.Each.{tidy_schema}
use Rattle.builder.proofs.NewIds.{larger_fits, highest_fits}
use Rattle.schema_updates.proofs.last_column.Statement.{statement}
use Rattle.schema_updates.proofs.last_column.Tie as tie

top_fits : (c : tie.After-highest-top) → SFits w32 c.highest-top.result.0
top_fits c =
    let l = take c.args.s.count c.field_ids_of-ids.result in
    subst (SFits w32) (sym c.highest-top.ensures) (highest_fits w32 l (take_fits w32 c.args.s.count c.field_ids_of-ids.result c.field_ids_of-ids.ensures.1))

pub last_column_spec : {M : Type 1} → statement M
last_column_spec =
    tie.close
    (tie.spec
    (λ c κs. search rules)
    (λ c κs. search rules)
    (λ c. lent_within (tidy_schema c.requires) (λ y. y.id) c.field_ids_of-ids.ensures.0)
    (λ c. lent_slice (tidy_schema c.requires) (λ y. y.id) c.field_ids_of-ids.ensures.0)
    (λ c κs. search rules)
    (λ c κs. search rules)
    (λ c κs. subst (SFits w32) (sym c.larger-column.ensures) (larger_fits w32 _ _ c.field_key-k.ensures.1 (top_fits c.before)))
    (λ c. let h = c.before.before in let k = h.before.before in c.field_id.ensures ∙ c.larger-column.ensures
    ∙ (λ j. larger (k.field_key-k.ensures.0 j) ((h.highest-top.ensures ∙ ap highest (lent (tidy_schema k.requires) (λ y. y.id) k.field_ids_of-ids.ensures.0)) j))))
