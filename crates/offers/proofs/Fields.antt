-- The fields of an offered schema, laid out in the slots of a schema.
use Prim.Native.Nat.{ℕ, ◌+◌, ◌≤◌, ◌<◌}
use native.Mathlib.Omega.{arith}
use mathlib.Core.Path.{◌≡◌, sym, ap, ◌∙◌}
use mathlib.Core.Bool.{true, ◌&&◌, and_assoc}
use mathlib.Core.List.{List, [], map}
use lib.ListN.{length, get_or, set, drop, length-map, get_or-map}
use Rattle.records.specs.Blanks.{no_schema_field, no_schema}
use Rattle.records.specs.declared.schema.SchemaField.{SchemaField}
use Rattle.records.specs.declared.schema.Schema.{Schema}
use Rattle.records.specs.declared.schema.SchemaOffer.{SchemaOffer}
use Rattle.rules.specs.Capacities.{largest_field_id, schema_field_room, field_bytes}
use Rattle.rules.specs.Register as plain
use Rattle.rules.specs.Offers.{number_at, is_number_at, fits_at, rest_zero_at, is_tidy_field, offered_field, offered_fields, offered_schema}
use Rattle.rules.specs.Layout.{laid_schema_field, laid_schema, read_schema_offer}
use Rattle.rules.proofs.Checks.{and_left, and_right}
use Rattle.offers.proofs.Named.{number_small}
use Rattle.offers.proofs.Filled.{Filled, filled_start, filled_on, filled_all}
use Rattle.offers.proofs.Pieces.{pieces_length}

-- what is asked of its bytes: a number and a name
pub tidy_parts : (bs : List ℕ) → is_tidy_field bs ≡ (is_number_at 0 bs && (fits_at 5 bs && rest_zero_at 5 bs))
tidy_parts bs = and_assoc (is_number_at 0 bs) (fits_at 5 bs) (rest_zero_at 5 bs)

module _ (bs : List ℕ) (t : is_tidy_field bs ≡ true) where
  pub id_small : number_at 0 bs ≤ largest_field_id
  id_small = number_small 0 bs (and_left (is_number_at 0 bs) _ (sym (tidy_parts bs) ∙ t))

  pub name_tidy : (fits_at 5 bs && rest_zero_at 5 bs) ≡ true
  name_tidy = and_right (is_number_at 0 bs) _ (sym (tidy_parts bs) ∙ t)

-- ---- laid out

abbrev laid_fields : List (List ℕ) → List SchemaField
laid_fields l = map laid_schema_field (map offered_field l)

laid_length : (l : List (List ℕ)) → length (laid_fields l) ≡ length l
laid_length l = simp length-map

-- the slots of a schema hold the first i of some fields
abbrev pub FilledFields : List (List ℕ) → List SchemaField → ℕ → Type 0
FilledFields l items i = Filled schema_field_room no_schema_field (laid_fields l) items i

pub fields_start : {r : Schema} (l : List (List ℕ)) → r ≡ no_schema → FilledFields l r.items 0
unfolding no_schema
fields_start l e = filled_start (ap (λ (t : Schema). t.items) e)

pub fields_on : (l : List (List ℕ)) {items : List SchemaField} {i : ℕ} → FilledFields l items i → {x : SchemaField} → i < length l → length l ≤ schema_field_room → x ≡ laid_schema_field (offered_field (get_or l i [])) → FilledFields l (set items i x) (i + 1)
fields_on l {items} {i} f b h e =
    let g = get_or-map laid_schema_field (map offered_field l) i (offered_field []) ∙ ap laid_schema_field (get_or-map offered_field l i []) in
    filled_on f (laid_schema_field (offered_field [])) (omega (arith, laid_length l)) (omega (arith, laid_length l)) (e ∙ sym g)

pub fields_counted : (bs : List ℕ) (o : plain.SchemaOffer) → length (offered_schema bs o).fields ≡ o.count
unfolding offered_schema
fields_counted bs o = length-map (offered_fields bs o) offered_field ∙ pieces_length field_bytes o.count _

pub fields_end : (bs : List ℕ) (o : SchemaOffer) {items : List SchemaField} {i : ℕ} → FilledFields (offered_fields bs (read_schema_offer o)) items i → o.count ≤ i
    → record { schema_id = o.schema_id; items = items; count = o.count } ≡ laid_schema (offered_schema bs (read_schema_offer o))
unfolding laid_schema offered_schema
fields_end bs o f h =
    let l : List (List ℕ) = offered_fields bs (read_schema_offer o) in
    let p = filled_all f (omega (arith, laid_length l, pieces_length field_bytes o.count (drop o.at bs))) in
    let q = sym (fields_counted bs (read_schema_offer o)) in
    λ i. record { schema_id = o.schema_id; items = p i; count = q i }
