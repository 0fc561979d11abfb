-- Schemas: the id of the one added last, what an addition is told of the tables, and what it answers.
use Rattle.std.specs.Prelude.{ℕ, ◌<◌, ◌≡◌, Bool, true, false, cond, [], ◌∷◌, ◌++◌, ℤ}
use Rattle.std.proofs.Math.Option.{Option}
use Rattle.records.specs.Blanks.{no_schemas_part}
use Rattle.records.specs.declared.counters.SchemaId.{SchemaId}
use Rattle.records.specs.declared.schema.Schema.{Schema}
use Rattle.records.specs.declared.update.TableUpdate.{TableUpdate}
use Rattle.rules.specs.Words.{same_list}
use Rattle.rules.specs.Capacities.{schema_room}
use Rattle.rules.specs.Register as plain
use Rattle.rules.specs.Register.{Metadata, Terms, State}
use Rattle.rules.specs.SchemaUpdates.{same_schema_field, is_taken, add_schema_checks, offered_as, add_schema}
use Rattle.rules.specs.Updates.{effect}
use Rattle.rules.specs.Layout.{given, read_schema, read_schema_offer, laid_schema_offer}
use Rattle.rules.specs.Kinds.{read_update, of_kind, with_schemas_part, with_schema_offer, add_schema_kind}
use Rattle.search.specs.Places.{index_of}
use Rattle.offers.specs.declared.OfferedSchema.{OfferedSchema}
use Rattle.offers.specs.Offered.{Offered}
use Rattle.builder.specs.declared.builder.TableMetadataBuilder.{TableMetadataBuilder}
use Rattle.builder.specs.declared.decision.Decision.{Decision}
use Rattle.builder.specs.Pieces.{laid_builder}
use Rattle.builder.specs.Answers.{Answers, Decides}
use Rattle.schema_updates.specs.declared.SchemaAdded.{SchemaAdded}
use Rattle.schema_updates.specs.declared.keys.SchemaKeys.{SchemaKeys}
use Rattle.schema_updates.specs.Keys.{laid_keys}

-- the id of the schema added last, where there is one
abbrev pub added_schema : TableMetadataBuilder → Option ℤ
added_schema b = given b.has_schema b.last_added_schema_id.0

-- a schema under another id
abbrev pub schema_under : SchemaId → Schema → Schema
schema_under id s = record { schema_id = id; items = s.items; count = s.count }

-- what an addition of a schema is told of what is held: the ids of the schemas, where the first with its fields stands, and whether a name of it is taken
pub record Sought (m : Metadata) (s : plain.Schema) (keys : SchemaKeys) (equal : ℕ) (taken : Bool) : Type 0 where
  pub ids : keys ≡ laid_keys m.schemas
  pub place : equal ≡ index_of (λ (x : plain.Schema). same_list same_schema_field x.fields s.fields) m.schemas
  pub clash : taken ≡ is_taken s m.schemas m.specs

-- Of a schema none of whose names is taken: the answer, the table after it, and that there is room for a schema to put, which goes to the end: its id is above
-- all others. The offer that is logged is any that offers the schema, under the id that it has then.
pub record SchemaGrown (b : TableMetadataBuilder) (keys : SchemaKeys) (equal : ℕ) (s : Schema) (r : SchemaAdded) : Type 0 where
  pub answers : (o : plain.SchemaOffer) (st : State) → o.id ≡ s.schema_id.0 → b ≡ laid_builder st → Sought st.metadata (read_schema s) keys equal false → Answers (add_schema_checks (read_schema s) st) st (add_schema o (read_schema s) st) r.number r.logs r.builder (with_schemas_part (with_schema_offer (laid_schema_offer (offered_as r.schema_id.0 o)) no_schemas_part) (of_kind add_schema_kind))
  pub table : (o : plain.SchemaOffer) (st : State) → Sought st.metadata (read_schema s) keys equal false → r.number ≡ 0 → (add_schema o (read_schema s) st).metadata.schemas ≡ cond r.grows (st.metadata.schemas ++ (read_schema (schema_under r.schema_id s) ∷ [])) st.metadata.schemas
  pub room : r.grows ≡ true → keys.count < schema_room

-- an addition, decided: the answer, the table after it, and that there is room for a schema to put
pub record SchemaDecided (b : TableMetadataBuilder) (keys : SchemaKeys) (equal : ℕ) (taken : Bool) (offered : OfferedSchema) (u : TableUpdate) (d : Decision) : Type 0 where
  pub answers : (terms : Terms) (st : State) → Offered terms.offers (read_schema_offer u.schemas.added) offered → b ≡ laid_builder st → Sought st.metadata (read_schema offered.schema) keys equal taken → Decides terms u st d
  pub table : (terms : Terms) (st : State) → Offered terms.offers (read_schema_offer u.schemas.added) offered → Sought st.metadata (read_schema offered.schema) keys equal taken → d.number ≡ 0 → (effect terms (read_update u) st).metadata.schemas ≡ cond d.grows (st.metadata.schemas ++ (read_schema (schema_under d.entry.schemas.added.schema_id offered.schema) ∷ [])) st.metadata.schemas
  pub room : d.grows ≡ true → keys.count < schema_room
