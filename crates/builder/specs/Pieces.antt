-- The pieces of a run's state as the builder holds them.
use Rattle.std.specs.Prelude.{◌≡◌, Bool, true, false, List, [], ◌∷◌, ◌++◌, map, ℤ, pos}
use Rattle.std.proofs.Math.Option.{Option, none, some}
use Rattle.std.specs.Int.Signed.{lt_z}
use Rattle.records.specs.declared.update.TableUpdate.{TableUpdate}
use Rattle.records.specs.declared.metadata.SingleFields.{SingleFields}
use Rattle.records.specs.declared.schema.Schema.{Schema}
use Rattle.rules.specs.Words.{is_some, or_else, if_some, first, last_of}
use Rattle.rules.specs.Register.{Snapshot, LogEntry, Metadata, Update, State}
use Rattle.rules.specs.WellFormed.{has_schema}
use Rattle.rules.specs.Layout.{laid_fields, read_schema}
use Rattle.rules.specs.Kinds.{laid_update}
use Rattle.builder.specs.declared.builder.TableMetadataBuilder.{TableMetadataBuilder}

-- a new builder over the single fields of the previous metadata: nothing added, no last update of its own
unfoldable pub fresh : SingleFields → TableMetadataBuilder
fresh f = record { fields = f; has_own = false; own = record { 0 = pos 0 }; has_schema = false; last_added_schema_id = record { 0 = pos 0 }; has_order = false; last_added_order_id = record { 0 = pos 0 }; has_spec = false; last_added_spec_id = record { 0 = pos 0 } }

-- the builder of a state: its single fields, the run's own last update, the ids added last
unfoldable pub laid_builder : State → TableMetadataBuilder
laid_builder st =
    record {
      fields = laid_fields st.metadata.fields;
      has_own = is_some st.own;
      own = record { 0 = or_else st.own (pos 0) };
      has_schema = is_some st.added.schema;
      last_added_schema_id = record { 0 = or_else st.added.schema (pos 0) };
      has_order = is_some st.added.order;
      last_added_order_id = record { 0 = or_else st.added.order (pos 0) };
      has_spec = is_some st.added.spec;
      last_added_spec_id = record { 0 = or_else st.added.spec (pos 0) };
    }

-- the ids of the snapshots, in table order
abbrev pub ids_of : List Snapshot → List ℤ
ids_of l = map (λ (s : Snapshot). s.id) l

-- the time of the last entry
abbrev pub last_time : List LogEntry → Option ℤ
last_time l = elim (last_of l) [ none ↦ none | some e ↦ some e.time ]

-- the id is above the last of an ascending list
abbrev pub is_above : List ℤ → ℤ → Bool
is_above ids id = if_some (λ x. lt_z x id) (last_of ids)

-- an update that took effect: the builder is the new state's, and the log has one entry more, which is laid out as given
pub record Took (st st' : State) (b : TableMetadataBuilder) (entry : TableUpdate) : Type 0 where
  pub builder : b ≡ laid_builder st'
  pub update : Update
  pub log : st'.log ≡ st.log ++ (update ∷ [])
  pub laid : entry ≡ laid_update update

-- it took effect and was logged, or nothing changed
pub record Stepped (st st' : State) (logs : Bool) (b : TableMetadataBuilder) (entry : TableUpdate) : Type 0 where
  pub took : logs ≡ true → Took st st' b entry
  pub left : logs ≡ false → st' ≡ st

-- the record is the current schema
abbrev pub IsCurrent : Metadata → Schema → Type 0
IsCurrent m s = first (has_schema m.fields.current_schema) m.schemas ≡ some (read_schema s)
