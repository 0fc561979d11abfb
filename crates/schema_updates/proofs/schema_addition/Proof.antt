-- A schema whose fields are held gets that id and is logged as offered; any other gets the next id, under which it is put at the end and logged.
use Prim.Native.Nat.{ℕ}
use mathlib.Core.Path.{◌≡◌, refl, sym, ap, ◌∙◌}
use mathlib.Core.Bool.{Bool, true, false, cond, not, false≢true}
use mathlib.Core.List.{List, [], ◌∷◌}
use mathlib.Core.Option.{Option, none, some}
use native.Mathlib.Omega.{arith}
use borrow.Author.Rules.{rules}
use borrow.Author.Tests.{leb-false, eq-eqb, eqb-true}
use lib.Dec.{eqb, leb, ltb}
use lib.IntN.{ℤ, pos, suc_ℤ}
use lib.ListN.{length, get_or}
use Rattle.records.specs.Blanks.{no_schemas_part}
use Rattle.records.specs.declared.counters.FieldId.{FieldId}
use Rattle.records.specs.declared.counters.SchemaId.{SchemaId}
use Rattle.records.specs.declared.schema.Schema.{Schema}
use Rattle.rules.specs.Words.{eq_z, larger, some_with, same_list, highest, put, first_of, Check}
use Rattle.rules.specs.Capacities.{schema_room, largest_schema_id}
use Rattle.rules.specs.Register as plain
use Rattle.rules.specs.Register.{Metadata, State, with_last_column, with_schemas, with_metadata, on_fields}
use Rattle.rules.specs.Register.Update.{AddSchema}
use Rattle.rules.specs.WellFormed.{field_ids, schema_below}
use Rattle.rules.specs.SchemaUpdates.{same_schema_field, reused_schema, schema_ids, add_schema_checks, offered_as, add_schema}
use Rattle.rules.specs.SchemaUpdates as rule
use Rattle.rules.specs.Layout.{given, read_schema, laid_schema_offer, laid_fields}
use Rattle.rules.specs.Kinds.{laid_update, of_kind, with_schemas_part, with_schema_offer, add_schema_kind}
use Rattle.rules.proofs.Checks.{by_test, Passed, passed}
use Rattle.builder.specs.declared.builder.TableMetadataBuilder.{TableMetadataBuilder}
use Rattle.builder.specs.Pieces.{laid_builder}
use Rattle.builder.proofs.Steps.{stepped_unless}
use Rattle.builder.proofs.Choices.{given_back}
use Rattle.builder.proofs.NewIds.{reused_at, put_next}
use Rattle.schema_updates.specs.declared.keys.SchemaKeys.{SchemaKeys}
use Rattle.schema_updates.specs.Keys.{laid_keys, lent_keys}
use Rattle.schema_updates.specs.Schemas.{added_schema, schema_under, Sought, SchemaGrown}
use Rattle.schema_updates.proofs.Lent.{keys_lent}
use Rattle.schema_updates.proofs.schema_addition.Statement.{statement}
use Rattle.schema_updates.proofs.schema_addition.Tie as tie

-- the builder after a schema of this id, with this last column
abbrev after : SchemaId → FieldId → TableMetadataBuilder → TableMetadataBuilder
after id column b =
    record {
      fields =
          record {
            format_version = b.fields.format_version;
            table_uuid = b.fields.table_uuid;
            location = b.fields.location;
            last_updated_ms = b.fields.last_updated_ms;
            last_sequence_number = b.fields.last_sequence_number;
            next_row_id = b.fields.next_row_id;
            last_column_id = column;
            has_current = b.fields.has_current;
            current_snapshot_id = b.fields.current_snapshot_id;
            current_schema_id = b.fields.current_schema_id;
            default_sort_order_id = b.fields.default_sort_order_id;
            default_spec_id = b.fields.default_spec_id;
            last_partition_id = b.fields.last_partition_id;
          };
      has_own = b.has_own;
      own = b.own;
      has_schema = true;
      last_added_schema_id = id;
      has_order = b.has_order;
      last_added_order_id = b.last_added_order_id;
      has_spec = b.has_spec;
      last_added_spec_id = b.last_added_spec_id;
    }

module _ (b : TableMetadataBuilder) (keys : SchemaKeys) (equal : ℕ) (s : Schema) (id : SchemaId) where
  -- what the search comes to
  abbrev found : Option ℤ
  found = given (ltb equal (length (lent_keys keys))) (get_or (lent_keys keys) equal (pos 0))

  reused_is : {m : Metadata} → Sought m (read_schema s) keys equal false → reused_schema (read_schema s) m.schemas ≡ found
  reused_is {m} q = reused_at (λ (y : plain.Schema). same_list same_schema_field y.fields (read_schema s).fields) (λ y. y.id) m.schemas q.place (keys_lent m.schemas q.ids)

  -- ---- its fields are held

  module _ (e : found ≡ some id.0) where
    held_at_state : (st : State) → Sought st.metadata (read_schema s) keys equal false → reused_schema (read_schema s) st.metadata.schemas ≡ some id.0
    held_at_state st q = reused_is q ∙ e

    held : (last : Bool) → last ≡ some_with (eq_z id.0) (added_schema b)
        → SchemaGrown b keys equal s (record { number = 0; logs = not last; grows = false; schema_id = s.schema_id; builder = after id b.fields.last_column_id b })
    unfolding add_schema_checks add_schema laid_builder laid_fields laid_update
    held last x =
        record {
          answers = λ o st w p q.
              let l : last ≡ some_with (eq_z id.0) st.added.schema = x ∙ ap (some_with (eq_z id.0)) (ap (λ (y : TableMetadataBuilder). added_schema y) p ∙ given_back st.added.schema) in (
                rw (← q.clash, held_at_state st q),
                λ z. rw (held_at_state st q, add_schema, l, p) (stepped_unless (some_with (eq_z id.0) st.added.schema) st (rule.added_schema id.0 st) (AddSchema o) _ _ refl refl (ap (λ (y : ℤ). with_schemas_part (with_schema_offer (laid_schema_offer (offered_as y o)) no_schemas_part) (of_kind add_schema_kind)) (sym w))),
              );
          table = λ o st q z. rw (held_at_state st q, add_schema) (by_test (λ (y : State). y.metadata.schemas ≡ st.metadata.schemas) (some_with (eq_z id.0) st.added.schema) (λ h. refl) (λ h. refl));
          room = λ h. absurd (false≢true h);
        }

  -- ---- they are not

  abbrev new_checks : List ℤ → ℕ → List Check
  new_checks ids n = (eq_z (highest ids) largest_schema_id, 18) ∷ (leb schema_room n, 19) ∷ []

  module _ (e : found ≡ none) (exhausted : Bool) (x : exhausted ≡ eq_z (highest (lent_keys keys)) largest_schema_id) (g : eq_z (highest (lent_keys keys)) largest_schema_id ≡ false → id.0 ≡ suc_ℤ (highest (lent_keys keys)))
      (number : ℕ) (n : number ≡ cond exhausted 18 (cond (leb schema_room keys.count) 19 0)) where
    new_at_state : (st : State) → Sought st.metadata (read_schema s) keys equal false → reused_schema (read_schema s) st.metadata.schemas ≡ none
    new_at_state st q = reused_is q ∙ e

    checked : number ≡ first_of (new_checks (lent_keys keys) keys.count)
    checked = n ∙ ap (λ (y : Bool). cond y 18 (cond (leb schema_room keys.count) 19 0)) x

    -- the checks by the table
    at_state : {m : Metadata} → Sought m (read_schema s) keys equal false → number ≡ first_of (new_checks (schema_ids m.schemas) (length m.schemas))
    unfolding laid_keys
    at_state {m} q = checked ∙ (λ j. first_of (new_checks (keys_lent m.schemas q.ids j) (q.ids j).count))

    accepted : number ≡ 0 → Passed (new_checks (lent_keys keys) keys.count)
    accepted z = passed (new_checks (lent_keys keys) keys.count) refl (sym checked ∙ z)

    numbered : {m : Metadata} → Sought m (read_schema s) keys equal false → number ≡ 0 → id.0 ≡ suc_ℤ (highest (schema_ids m.schemas))
    numbered {m} q z = g (accepted z).0 ∙ ap (λ (y : List ℤ). suc_ℤ (highest y)) (keys_lent m.schemas q.ids)

    new : (column : FieldId) → column.0 ≡ larger b.fields.last_column_id.0 (highest (field_ids (read_schema s)))
        → SchemaGrown b keys equal s (record { number = number; logs = true; grows = eqb number 0; schema_id = id; builder = after id column b })
    unfolding add_schema_checks add_schema laid_builder laid_fields laid_update
    new column y =
        record {
          answers = λ o st _ p q.
              let m = st.metadata in
              let one : plain.Schema = record { id = suc_ℤ (highest (schema_ids m.schemas)); fields = (read_schema s).fields } in
              let end : State = rule.added_schema one.id (on_fields (λ f. with_last_column (larger f.last_column (highest (field_ids one))) f) (with_metadata (with_schemas (put schema_below one m.schemas) m) st)) in (
                at_state q ∙ rw (← q.clash, new_at_state st q),
                λ z.
                    let i : id ≡ record { 0 = one.id } = λ j. record { 0 = numbered q z j } in
                    let v : column.0 ≡ larger m.fields.last_column (highest (field_ids (read_schema s))) = y ∙ ap (λ (w : TableMetadataBuilder). larger w.fields.last_column_id.0 (highest (field_ids (read_schema s)))) p in
                    let w : column ≡ record { 0 = larger m.fields.last_column (highest (field_ids (read_schema s))) } = λ j. record { 0 = v j } in
                    rw (new_at_state st q, add_schema) (stepped_unless false st end (AddSchema (offered_as one.id o)) _ _ refl (rw (i, w, p)) (ap (λ (d : ℤ). with_schemas_part (with_schema_offer (laid_schema_offer (offered_as d o)) no_schemas_part) (of_kind add_schema_kind)) (numbered q z))),
              );
          table = λ o st q z.
              let l = st.metadata.schemas in
              rw (new_at_state st q, add_schema, eq-eqb number 0 z)
              (ap (λ (d : ℤ). put schema_below (record { id = d; fields = (read_schema s).fields }) l) (sym (numbered q z)) ∙ put_next (λ (x : plain.Schema). x.id) (read_schema (schema_under id s)) l (numbered q z));
          room = λ h. omega (arith, leb-false schema_room keys.count (accepted (eqb-true number 0 h)).1.0);
        }

returns : tie.Need-returns-then-found
returns c =
    let f = c.before.before.before in
    let r = f.reuse_or_create_new_schema_id-x in
    let yes = c.if-found.true in
    held f.args.b f.args.keys f.args.equal f.args.s r.result.id (r.ensures.held yes) r.result.is_last (r.ensures.again yes)

returns_2 : tie.Need-returns
returns_2 c =
    let i = c.before.before in
    let j = i.before.before in
    let f = j.before.before in
    let r = f.reuse_or_create_new_schema_id-x in
    let no = j.if-found.false in
    new f.args.b f.args.keys f.args.equal f.args.s r.result.id (r.ensures.new no) r.result.exhausted (r.ensures.over no) (r.ensures.gets no)
    i.choose-number.result
    (i.choose-number.ensures ∙ ap (cond r.result.exhausted 18) i.choose-later.ensures)
    c.last_column-column.result
    c.last_column-column.ensures

pub schema_addition_spec : {M : Type 1} → statement M
schema_addition_spec =
    tie.close
    (tie.spec
    (λ c κs. search rules)
    returns
    (λ c κs. search rules)
    (λ c κs. search rules)
    (λ c κs. search rules)
    returns_2)
