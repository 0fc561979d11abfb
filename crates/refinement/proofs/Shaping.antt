-- The schemas and their ids: what an update of schemas is told of them, what they are after it, and where the current schema stands.
use Prim.Native.Nat.{ℕ, suc, ◌+◌, ◌<◌}
use native.Mathlib.Omega.{arith}
use mathlib.Core.Path.{◌≡◌, refl, sym, ap, ◌∙◌}
use mathlib.Core.Bool.{Bool, true, false, not, cond, false≢true, and-false}
use mathlib.Core.List.{List, [], ◌∷◌, ◌++◌}
use borrow.Author.Tests.{eqb-false}
use borrow.Table.Steps.{cases}
use lib.Dec.{eqb}
use lib.IntN.{ℤ}
use lib.ListN.{length, get_or, set}
use Rattle.records.specs.declared.counters.SchemaId.{SchemaId}
use Rattle.records.specs.declared.schema.Schema.{Schema}
use Rattle.records.specs.declared.schema.Schemas.{Schemas}
use Rattle.rules.specs.Words.{eq_z, is_in, is_empty, any, keep, same_list}
use Rattle.rules.specs.Capacities.{schema_room}
use Rattle.rules.specs.Register as plain
use Rattle.rules.specs.Register.{Update, State}
use Rattle.rules.specs.Register.Update.{SetCurrentSchema, RemoveSchemas}
use Rattle.rules.specs.WellFormed.{schema_formed, schema_below, schemas_formed, has_schema}
use Rattle.rules.specs.SchemaUpdates.{same_schema_field, is_taken, chosen, set_current_schema, remove_schemas}
use Rattle.rules.specs.Updates.{effect}
use Rattle.rules.specs.Layout.{read_schema, laid_schema, read_schemas, laid_schemas, read_partition_specs}
use Rattle.rules.proofs.Checks.{by_test, neither}
use Rattle.rules.proofs.Tables.{table_keep}
use Rattle.rules.proofs.Slots.Reread.{reread_schemas}
use Rattle.search.specs.Places.{index_of}
use Rattle.tables.specs.Laid.{LaidSchema, LaidSchemas}
use Rattle.tables.proofs.Table.{within, listed_length}
use Rattle.tables.proofs.Search.{found_within, found_first}
use Rattle.tables.proofs.Push.{pushed_one}
use Rattle.tables.proofs.Each.{tidy_schemas, made_schemas, schema_at_lem, schema_fields}
use Rattle.builder.specs.Pieces.{IsCurrent}
use Rattle.schema_updates.specs.declared.keys.SchemaKeys.{SchemaKeys}
use Rattle.schema_updates.specs.Keys.{laid_keys}
use Rattle.schema_updates.specs.Schemas.{schema_under, Sought}
use Rattle.refinement.specs.Standing.{Given, terms_of, HeldSchemas, held_schemas, Pieces, Represents}
use Rattle.refinement.proofs.Beginning.{schemas_laid, schemas_table, schemas_keys, read_schemas_lem, read_specs, laid_schemas_lem, schema_held, current_is}

keep_all : {A : Type 0} (q : A → Bool) (l : List A) → ((x : A) → q x ≡ true) → keep q l ≡ l
keep_all q [] h = refl
keep_all q (x ∷ l) h = rw (h x) (ap (λ (y : List _). x ∷ y) (keep_all q l h))

none_in : (l : List ℤ) (x : ℤ) → is_empty l ≡ true → not (is_in l x) ≡ true
none_in [] x e = refl
none_in (y ∷ l) x e = absurd (false≢true e)

-- lists of which one is longer are not the same
longer_differs : {A : Type 0} (same : A → A → Bool) (xs ys : List A) → (length xs ≡ length ys → ⊥) → same_list same xs ys ≡ false
longer_differs same [] [] h = absurd (h refl)
longer_differs same [] (y ∷ ys) h = refl
longer_differs same (x ∷ xs) [] h = refl
longer_differs same (x ∷ xs) (y ∷ ys) h = rw (longer_differs same xs ys (λ e. h (ap suc e))) (and-false (same x y))

-- a test that fails wherever another does fails of all where that one does
fails_of_all : {A : Type 0} (p q : A → Bool) → ((x : A) → q x ≡ false → p x ≡ false) → (l : List A) → any q l ≡ false → length l ≡ index_of p l
fails_of_all p q f [] h = refl
fails_of_all p q f (x ∷ l) h = let k = neither (q x) (any q l) h in rw (f x k.0) (ap suc (fails_of_all p q f l k.1))

-- under another id a schema is laid out as it was
schema_back : (id : SchemaId) {s : Schema} → LaidSchema s → laid_schema (read_schema (schema_under id s)) ≡ schema_under id s
unfolding laid_schema
schema_back id h = λ i. schema_under id (h.back i)

module _ {g : Given} {st : State} {p : Pieces} (E : Represents g st p) where
  abbrev held : HeldSchemas
  held = p.held.own_tables.schemas

  -- ---- where the current schema stands

  module _ {j : ℕ} (q : (l : List plain.Schema) → held.keys ≡ laid_keys l → j ≡ index_of (has_schema p.held.builder.fields.current_schema_id.0) l) where
    placed : j ≡ index_of (has_schema p.held.builder.fields.current_schema_id.0) (read_schemas held.table)
    placed = q st.metadata.schemas (schemas_keys E) ∙ ap (index_of (has_schema p.held.builder.fields.current_schema_id.0)) (sym (read_schemas_lem E))

    below : j < held.table.count
    below = found_within (tidy_schemas (laid_schemas_lem E)) (has_schema p.held.builder.fields.current_schema_id.0) (schema_held E) placed

    pub current_slot : j < 16
    current_slot = omega (arith, below, within (tidy_schemas (laid_schemas_lem E)))

    pub current_laid : (d : Schema) → LaidSchema (get_or held.table.items j d)
    current_laid d = schema_at_lem (laid_schemas_lem E) j d below

    pub current_there : (d : Schema) → IsCurrent st.metadata (get_or held.table.items j d)
    current_there d = current_is E (get_or held.table.items j d) (found_first (tidy_schemas (laid_schemas_lem E)) (has_schema p.held.builder.fields.current_schema_id.0) (schema_held E) placed d)

  -- as many ids as schemas
  pub same_count : held.keys.count ≡ held.table.count
  unfolding laid_keys laid_schemas
  same_count = ap (λ (k : SchemaKeys). k.count) (schemas_keys E) ∙ sym (ap (λ (t : Schemas). t.count) (schemas_table E))

  -- ---- what an addition is told

  pub schemas_sought : (s : plain.Schema) {equal : ℕ} {taken : Bool} → equal ≡ index_of (λ (x : plain.Schema). same_list same_schema_field x.fields s.fields) (read_schemas held.table)
      → taken ≡ is_taken s (read_schemas held.table) (read_partition_specs p.held.own_tables.specs) → Sought st.metadata s held.keys equal taken
  schemas_sought s e t = record { ids = schemas_keys E; place = e ∙ ap (index_of (λ (x : plain.Schema). same_list same_schema_field x.fields s.fields)) (read_schemas_lem E); clash = t ∙ (λ i. is_taken s (read_schemas_lem E i) (read_specs E i)) }

  -- where none has as many fields, none has equal ones
  pub none_equal : (s : plain.Schema) {size : ℕ} {found : Bool} → length s.fields ≡ size → ((l : List plain.Schema) → held.keys ≡ laid_keys l → found ≡ any (λ (x : plain.Schema). eqb (length x.fields) size) l) → found ≡ false
      → held.keys.count ≡ index_of (λ (x : plain.Schema). same_list same_schema_field x.fields s.fields) (read_schemas held.table)
  unfolding laid_keys
  none_equal s {size} e q f =
      let l : List plain.Schema = st.metadata.schemas in
      let p : plain.Schema → Bool = λ x. same_list same_schema_field x.fields s.fields in
      ap (λ (k : SchemaKeys). k.count) (schemas_keys E)
      ∙ fails_of_all p (λ x. eqb (length x.fields) size) (λ x n. longer_differs same_schema_field x.fields s.fields (λ m. eqb-false (length x.fields) size n (m ∙ e))) l (sym (q l (schemas_keys E)) ∙ f)
      ∙ ap (index_of p) (sym (read_schemas_lem E))

  -- ---- after it: the same, or one more

  pub not_grown : (x : plain.Schema) {l : List plain.Schema} {grows : Bool} → l ≡ cond grows (st.metadata.schemas ++ (x ∷ [])) st.metadata.schemas → grows ≡ false → held ≡ held_schemas l
  not_grown x e n = E.tables.own_tables.schemas ∙ ap held_schemas (sym (e ∙ rw n))

  module _ (id : SchemaId) {s : Schema} (h : LaidSchema s) where
    pub one_more_lem : held.table.count < schema_room → {l : List plain.Schema} {grows : Bool} → l ≡ cond grows (st.metadata.schemas ++ (read_schema (schema_under id s) ∷ [])) st.metadata.schemas → grows ≡ true
        → {t : Schemas} {k : SchemaKeys} → t.items ≡ set held.table.items held.table.count (schema_under id s) → t.count ≡ held.table.count + 1
        → ((l : List plain.Schema) (x : plain.Schema) → held.keys ≡ laid_keys l → x.id ≡ id.0 → length x.fields ≡ s.count → k ≡ laid_keys (l ++ (x ∷ [])))
        → ◌≡◌ {A = HeldSchemas} (record { table = t; keys = k }) (held_schemas l)
    one_more_lem r {l} e y {t} {k} a b q =
        let x : plain.Schema = read_schema (schema_under id s) in
        let m : t ≡ laid_schemas (st.metadata.schemas ++ (x ∷ [])) = pushed_one made_schemas (tidy_schemas (laid_schemas_lem E)) (schema_under id s) r (schema_back id h) a b ∙ ap (λ (z : List plain.Schema). laid_schemas (z ++ (x ∷ []))) (read_schemas_lem E) in
        let n : k ≡ laid_keys (st.metadata.schemas ++ (x ∷ [])) = q st.metadata.schemas x (schemas_keys E) refl (listed_length schema_fields s) in
        (λ i. record { table = m i; keys = n i }) ∙ ap held_schemas (sym (e ∙ rw y))

  -- ---- after a choice, and after a removal

  pub schemas_same : (v : Update) (id : ℤ) → v ≡ SetCurrentSchema id → held ≡ held_schemas (effect (terms_of g) v st).metadata.schemas
  unfolding effect set_current_schema
  schemas_same v id q = E.tables.own_tables.schemas ∙ rw q (ap held_schemas (by_test (λ (s : State). st.metadata.schemas ≡ s.metadata.schemas) (eq_z (chosen id st.added.schema) st.metadata.fields.current_schema) (λ _. refl) (λ _. refl)))

  module _ (ids : List ℤ) {t : Schemas} (e : t ≡ laid_schemas (keep (λ s. not (is_in ids s.id)) (read_schemas held.table))) where
    left : t ≡ laid_schemas (keep (λ (s : plain.Schema). not (is_in ids s.id)) st.metadata.schemas)
    left = rw (read_schemas_lem E) at e

    pub schemas_left_laid : LaidSchemas t
    unfolding schemas_formed
    schemas_left_laid = schemas_laid (keep (λ (s : plain.Schema). not (is_in ids s.id)) st.metadata.schemas) left (table_keep schema_room schema_formed schema_below (λ (s : plain.Schema). not (is_in ids s.id)) st.metadata.schemas E.sound.schemas)

    pub schemas_left : (v : Update) → v ≡ RemoveSchemas ids → {k : SchemaKeys} → k ≡ laid_keys (read_schemas t) → ◌≡◌ {A = HeldSchemas} (record { table = t; keys = k }) (held_schemas (effect (terms_of g) v st).metadata.schemas)
    unfolding effect remove_schemas
    schemas_left v q {k} f =
        let l : List plain.Schema = keep (λ (s : plain.Schema). not (is_in ids s.id)) st.metadata.schemas in
        let n : k ≡ laid_keys l = f ∙ ap (λ (x : Schemas). laid_keys (read_schemas x)) left ∙ ap laid_keys (reread_schemas l) in
        (λ i. record { table = left i; keys = n i })
        ∙ rw q (ap held_schemas
        (by_test (λ (s : State). l ≡ s.metadata.schemas) (is_empty ids)
        (λ y. keep_all (λ (x : plain.Schema). not (is_in ids x.id)) st.metadata.schemas (λ x. none_in ids x.id y)) (λ _. refl)))
