-- What is left is read of the state's table, what was held of its ids, and the entry is the update with the held ids in place of its own.
use mathlib.Core.Path.{◌≡◌, refl, ap, ◌∙◌}
use mathlib.Core.Bool.{Bool, not}
use mathlib.Core.List.{List, [], ◌∷◌, map}
use borrow.Author.Rules.{rules}
use borrow.Table.Steps.{cases}
use lib.Dec.{ltb}
use lib.IntN.{ℤ}
use lib.ListN.{length-map}
use Rattle.records.specs.Blanks.{no_schema_id}
use Rattle.records.specs.declared.counters.SchemaId.{SchemaId}
use Rattle.records.specs.declared.update.TableUpdate.{TableUpdate}
use Rattle.rules.specs.Words.{is_in, is_empty, keep}
use Rattle.rules.specs.Register as plain
use Rattle.rules.specs.Register.{with_schemas, with_metadata}
use Rattle.rules.specs.Register.Update.{RemoveSchemas}
use Rattle.rules.specs.WellFormed.{update_formed}
use Rattle.rules.specs.SchemaUpdates.{held_schemas, remove_schemas_checks, remove_schemas}
use Rattle.rules.specs.Updates.{offers_formed, checks, effect}
use Rattle.rules.specs.Layout.{counted, read_schema_ids, laid_schema_ids, laid_fields}
use Rattle.rules.specs.Kinds.{read_update, laid_update, with_schemas_part, with_schema_ids}
use Rattle.rules.proofs.Slots.Relaid.{length_counted}
use Rattle.tables.specs.Laid.{LaidSchemaIds}
use Rattle.builder.specs.declared.builder.TableMetadataBuilder.{TableMetadataBuilder}
use Rattle.builder.specs.Pieces.{laid_builder}
use Rattle.builder.proofs.Steps.{stepped_unless, some_counted}
use Rattle.builder.proofs.Entries.{of_kind_lem, read_kind_lem, formed_kind}
use Rattle.builder.proofs.Given.{given_schema_ids}
use Rattle.schema_updates.proofs.Lent.{keys_lent}
use Rattle.schema_updates.proofs.remove_schemas.Statement.{statement}
use Rattle.schema_updates.proofs.remove_schemas.Tie as tie

keep_map : {A B : Type 0} (p : B → Bool) (f : A → B) (l : List A) → keep p (map f l) ≡ map f (keep (λ x. p (f x)) l)
keep_map p f [] = refl
keep_map p f (x ∷ l) = cases (p (f x)) (λ t. rw (t, keep_map p f l)) (λ e. rw (e, keep_map p f l))

-- the update, of kind 11
module _ (s : tie.Start) where
  laid_ids : LaidSchemaIds s.args.u.schemas.removed
  unfolding update_formed
  laid_ids = given_schema_ids s.args.u s.requires.1.0 (formed_kind s.args.u s.requires.1.0 11 s.requires.1.1.1 s.requires.1.1.0)

returns : tie.Need-returns
unfolding checks offers_formed effect remove_schemas_checks remove_schemas laid_builder laid_fields laid_update
returns c terms st p q =
    let h = c.before in
    let r = h.before.before in
    let u = r.args.u in
    let ids : List ℤ = read_schema_ids u.schemas.removed in
    let k : read_update u ≡ RemoveSchemas ids = read_kind_lem u r.requires.1.0 11 r.requires.1.1.1 in
    let some : ltb 0 u.schemas.removed.count ≡ not (is_empty ids) = some_counted ids u.schemas.removed.count (length-map (counted no_schema_id u.schemas.removed.items u.schemas.removed.count) (λ (x : SchemaId). x.0) ∙ length_counted no_schema_id u.schemas.removed.items u.schemas.removed.count) in
    let held : h.held-logged.result ≡ laid_schema_ids (held_schemas ids st.metadata.schemas) = h.held-logged.ensures ∙ ap laid_schema_ids (ap (keep (is_in ids)) (keys_lent st.metadata.schemas q) ∙ keep_map (is_in ids) (λ (x : plain.Schema). x.id) st.metadata.schemas) in
    let left : List plain.Schema = keep (λ (x : plain.Schema). not (is_in ids x.id)) st.metadata.schemas in
    let e : with_schemas_part (with_schema_ids h.held-logged.result u.schemas) u ≡ laid_update (RemoveSchemas (held_schemas ids st.metadata.schemas)) =
    ap (λ (y : TableUpdate). with_schemas_part (with_schema_ids h.held-logged.result y.schemas) y) (of_kind_lem u r.requires.1.0 11 r.requires.1.1.1) ∙ rw held in
    rw (c.decided.ensures, k, some) (
      h.choose-number.ensures ∙ rw (r.has_schema-removed.ensures, ap (λ (b : TableMetadataBuilder). b.fields.current_schema_id.0) p),
      λ z. stepped_unless (is_empty ids) st (with_metadata (with_schemas left st.metadata) st) (RemoveSchemas (held_schemas ids st.metadata.schemas)) _ _ refl p e,
    )

pub remove_schemas_spec : {M : Type 1} → statement M
remove_schemas_spec =
    tie.close
    (tie.spec
    (λ c κs. laid_ids c.before.before.before.before)
    (λ c κs. search rules)
    (λ c κs. let s = c.before.before.before.before.before.before in (s.requires.0, laid_ids s))
    (λ c κs. search rules)
    returns)
