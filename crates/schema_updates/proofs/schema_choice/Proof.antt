-- The choice is made of the state's last added and current ids, and the builder that comes back has the chosen one.
use mathlib.Core.Path.{◌≡◌, refl, ap, ◌∙◌}
use mathlib.Core.Option.{Option}
use borrow.Author.Rules.{rules}
use lib.IntN.{ℤ}
use lib.ListN.{length}
use mir.Syntax.{w32}
use Rattle.rules.specs.Words.{eq_z}
use Rattle.rules.specs.Register.{with_current_schema, on_fields}
use Rattle.rules.specs.Register.Update.{SetCurrentSchema}
use Rattle.rules.specs.SchemaUpdates.{chosen, choice_logged, set_current_schema_checks, set_current_schema}
use Rattle.rules.specs.Layout.{given, laid_fields}
use Rattle.rules.specs.Kinds.{laid_update}
use Rattle.builder.specs.declared.builder.TableMetadataBuilder.{TableMetadataBuilder}
use Rattle.builder.specs.Pieces.{laid_builder}
use Rattle.builder.proofs.Steps.{stepped_unless}
use Rattle.builder.proofs.Choices.{given_back, chosen_as, takes_fits, logs_fits}
use Rattle.schema_updates.specs.Schemas.{added_schema}
use Rattle.schema_updates.proofs.Lent.{keys_within, keys_slice, keys_in}
use Rattle.schema_updates.proofs.schema_choice.Statement.{statement}
use Rattle.schema_updates.proofs.schema_choice.Tie as tie

long : (c : tie.Start) → length c.args.keys.items ≡ 16
long c = search rules

returns : tie.Need-returns
unfolding set_current_schema_checks set_current_schema laid_builder laid_fields laid_update
returns c st p q =
    let x = c.before.before.before.before.before in
    let k = x.before.before in
    let g = k.before.before.before.before.before in
    let a = g.args in
    let last : Option ℤ = st.added.schema in
    let current : ℤ = st.metadata.fields.current_schema in
    let K =
    chosen_as k.schema_key-asked.ensures.0
    (ap (given a.b.has_schema) k.schema_key-last.ensures.0 ∙ ap (λ (b : TableMetadataBuilder). added_schema b) p ∙ given_back last)
    (k.schema_key-current.ensures.0 ∙ ap (λ (b : TableMetadataBuilder). b.fields.current_schema_id.0) p)
    (λ i z. keys_in st.metadata.schemas q z i)
    x.choose_id-x.ensures in
    let y : ℤ = chosen a.id.0 last in
    let new : c.schema_id-chosen.result ≡ record { 0 = y } = λ i. record { 0 = (c.schema_id-chosen.ensures ∙ K.takes) i } in
    let put : c.schema_id-logged.result ≡ record { 0 = choice_logged y last } = λ i. record { 0 = (c.schema_id-logged.ensures ∙ K.logs) i } in (
      K.checked,
      λ z. rw (K.unchanged, put, new, p) (stepped_unless (eq_z y current) st (on_fields (with_current_schema y) st) (SetCurrentSchema (choice_logged y last)) _ _ refl refl refl),
    )

pub schema_choice_spec : {M : Type 1} → statement M
schema_choice_spec =
    tie.close
    (tie.spec
    (λ c κs. search rules)
    (λ c κs. search rules)
    (λ c κs. search rules)
    (λ c. let s = c.before.before.before.before.before.before.before in keys_within s.requires (long s))
    (λ c. let s = c.before.before.before.before.before.before.before.before in keys_slice s.requires (long s))
    (λ c κs. search rules)
    (λ c κs. takes_fits w32 c.args.b.has_schema c.schema_key-last.result.0 c.choose_id-x.ensures c.schema_key-asked.ensures.1 c.schema_key-last.ensures.1)
    (λ c κs. logs_fits w32 c.args.b.has_schema c.schema_key-last.result.0 c.choose_id-x.ensures c.schema_key-asked.ensures.1 c.schema_key-last.ensures.1)
    returns)
