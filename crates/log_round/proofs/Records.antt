-- Snapshots, schemas and sort orders in a list of updates: they are written as in a file of version 3, and nothing is wrong with them there either.
use Prim.Native.Nat.{ℕ}
use mathlib.Core.Path.{◌≡◌, refl, ap}
use mathlib.Core.Bool.{true, false}
use mathlib.Core.List.{List, [], ◌∷◌, ◌++◌}
use mathlib.Core.Option.{Option, none, some}
use lib.Dec.{eqb, leb}
use lib.IntN.{ℤ, pos}
use lib.ListN.{length}
use Rattle.rules.specs.Words.{all}
use Rattle.rules.specs.Capacities.{name_room, schema_field_room, sort_field_room}
use Rattle.rules.specs.Register.{RowRange, Snapshot, SchemaField, Schema, SortField, SortOrder}
use Rattle.rules.specs.WellFormed.{long}
use Rattle.rules.proofs.Checks.{parts}
use Rattle.json_rule.specs.Letters.{bytes}
use Rattle.json_rule.specs.Shapes.{ASnapshot, ASchema, AField, AnOrder, ASortField, TextUpTo, OneOf, No, ARecord, i32, i64, u64, rows_of}
use Rattle.json_rule.specs.Defects.{required_names, both_or_neither}
use Rattle.file_rule.specs.Written.{number_text, quoted}
use Rattle.file_rule.specs.Fits.{snapshot_fits, fits32, fits64}
use Rattle.file_round.proofs.Fields.{Field, names, is_there, names_of_lem}
use Rattle.file_round.proofs.Scalars as scalars
use Rattle.file_round.proofs.Scalars.{fine32, fine64, text_fine, word_fine}
use Rattle.file_round.proofs.Snapshots as snapshots
use Rattle.file_round.proofs.Snapshots.{snapshot_fields, snapshot_show, range_fine, first_fits, added_fits}
use Rattle.file_round.proofs.Schemas.{type_word, type_is, false_fine, column_fields, column_show, column_ok, column_bounds, schema_fields, schema_show, schema_ok, direction_word, nulls_word, direction_is, nulls_is, sort_fields, sort_show, sort_field_ok, sort_bounds, order_fields, order_show, order_ok}
use Rattle.log_round.proofs.Objects.{Fine, Asks, single_fine, optional_fine, object_fine}
use Rattle.log_round.proofs.Listed.{list_fine}

-- ---- snapshots

abbrev snapshot_names : List Field → List (List ℕ)
snapshot_names fs = required_names (rows_of ASnapshot) ++ both_or_neither (names fs) (bytes "first-row-id") (bytes "added-rows")

snapshot_asks : (fs : List Field) → Asks ASnapshot fs (snapshot_names fs)
snapshot_asks fs =
    record { foreign = λ place. refl; needs = λ place. ap (λ ns. required_names (rows_of ASnapshot) ++ both_or_neither ns (bytes "first-row-id") (bytes "added-rows")) (names_of_lem fs place) }

snapshot_there : (s : Snapshot) → all (is_there (snapshot_fields 3 s)) (snapshot_names (snapshot_fields 3 s)) ≡ true
snapshot_there s = go s.parent s.rows
  where
    with : Option ℤ → Option RowRange → List Field
    with p r = snapshot_fields 3 (record { id = s.id; parent = p; sequence = s.sequence; time = s.time; rows = r })

    go : (p : Option ℤ) (r : Option RowRange) → all (is_there (with p r)) (snapshot_names (with p r)) ≡ true
    go none none = refl
    go none (some r) = refl
    go (some p) none = refl
    go (some p) (some r) = refl

pub snapshot_fine : (s : Snapshot) → snapshot_fits s ≡ true → Fine false (ARecord ASnapshot) (some (snapshot_show 3 s))
snapshot_fine s h =
    let b = snapshots.bounds s h in
    object_fine ASnapshot (snapshot_fields 3 s) (snapshot_names (snapshot_fields 3 s)) (snapshot_asks (snapshot_fields 3 s)) refl (snapshot_there s) (
      single_fine 3 false i64 (number_text s.id) (fine64 3 false s.id b.id),
      (
        optional_fine 3 false i64 number_text s.parent (scalars.optional_fine 3 s.parent b.parent),
        (
          single_fine 3 false i64 (number_text s.sequence.0) (fine64 3 false s.sequence.0 b.sequence),
          (
            single_fine 3 false i64 (number_text s.time) (fine64 3 false s.time b.time),
            (
              optional_fine 3 false u64 (λ (r : RowRange). number_text (pos r.first.0)) s.rows (range_fine s 3 (λ r. r.first.0) first_fits b.rows),
              (optional_fine 3 false u64 (λ (r : RowRange). number_text (pos r.added)) s.rows (range_fine s 3 (λ r. r.added) added_fits b.rows), tt),
            ),
          ),
        ),
      ),
    )

-- ---- schemas

column_fine : (f : SchemaField) → column_ok f ≡ true → Fine false (ARecord AField) (some (column_show f))
column_fine f h =
    let b = column_bounds f h in
    let t = type_word (eqb f.field_type long) in
    object_fine AField (column_fields f) (required_names (rows_of AField)) (record { foreign = λ place. refl; needs = λ place. refl }) refl refl (
      single_fine 3 false i32 (number_text f.id) (fine32 3 false f.id b.id),
      (
        single_fine 3 false (TextUpTo name_room) (quoted f.name) (text_fine 3 false name_room f.name b.name),
        (
          single_fine 3 true No (bytes "false") (false_fine 3),
          (single_fine 3 true (OneOf (bytes "long" ∷ bytes "timestamp" ∷ [])) (quoted t) (word_fine 3 true (bytes "long" ∷ bytes "timestamp" ∷ []) t (type_is (eqb f.field_type long))), tt),
        ),
      ),
    )

pub schema_fine : (s : Schema) → schema_ok s ≡ true → Fine false (ARecord ASchema) (some (schema_show s))
schema_fine s h =
    let k = parts (fits32 s.id) (leb (length s.fields) schema_field_room ∷ all column_ok s.fields ∷ []) h in
    object_fine ASchema (schema_fields s) (required_names (rows_of ASchema)) (record { foreign = λ place. refl; needs = λ place. refl }) refl refl (
      single_fine 3 false (OneOf (bytes "struct" ∷ [])) (quoted (bytes "struct")) (word_fine 3 false (bytes "struct" ∷ []) (bytes "struct") refl),
      (
        list_fine (ARecord AField) column_show column_ok column_fine schema_field_room s.fields k.1.1.0 k.1.0,
        (single_fine 3 false i32 (number_text s.id) (fine32 3 false s.id k.0), tt),
      ),
    )

-- ---- sort orders

sort_fine : (f : SortField) → sort_field_ok f ≡ true → Fine false (ARecord ASortField) (some (sort_show f))
sort_fine f h =
    let b = sort_bounds f h in
    let d = direction_word (eqb f.direction 0) in
    let n = nulls_word (eqb f.nulls 0) in
    object_fine ASortField (sort_fields f) (required_names (rows_of ASortField)) (record { foreign = λ place. refl; needs = λ place. refl }) refl refl (
      single_fine 3 false (OneOf (bytes "identity" ∷ [])) (quoted (bytes "identity")) (word_fine 3 false (bytes "identity" ∷ []) (bytes "identity") refl),
      (
        single_fine 3 false i32 (number_text f.source) (fine32 3 false f.source b.source),
        (
          single_fine 3 false (OneOf (bytes "asc" ∷ bytes "desc" ∷ [])) (quoted d) (word_fine 3 false (bytes "asc" ∷ bytes "desc" ∷ []) d (direction_is (eqb f.direction 0))),
          (single_fine 3 false (OneOf (bytes "nulls-first" ∷ bytes "nulls-last" ∷ [])) (quoted n) (word_fine 3 false (bytes "nulls-first" ∷ bytes "nulls-last" ∷ []) n (nulls_is (eqb f.nulls 0))), tt),
        ),
      ),
    )

pub order_fine : (o : SortOrder) → order_ok o ≡ true → Fine false (ARecord AnOrder) (some (order_show o))
order_fine o h =
    let k = parts (fits64 o.id) (leb (length o.fields) sort_field_room ∷ all sort_field_ok o.fields ∷ []) h in
    object_fine AnOrder (order_fields o) (required_names (rows_of AnOrder)) (record { foreign = λ place. refl; needs = λ place. refl }) refl refl (
      single_fine 3 false i64 (number_text o.id) (fine64 3 false o.id k.0),
      (list_fine (ARecord ASortField) sort_show sort_field_ok sort_fine sort_field_room o.fields k.1.1.0 k.1.0, tt),
    )
