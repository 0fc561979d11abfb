-- What is answered of an offer of a schema: the blank where a test of it failed, and the schema where none did.
use Prim.Native.Nat.{ℕ, ◌+◌, ◌*◌, ◌≤◌}
use native.Mathlib.Omega.{arith}
use mathlib.Core.Path.{◌≡◌, refl, sym, ap, ◌∙◌}
use mathlib.Core.Bool.{Bool, true, false, not, ◌&&◌, false≢true}
use mathlib.Core.List.{List}
use borrow.Author.Tests.{leb-true, not-false}
use lib.Dec.{leb}
use lib.ListN.{length}
use lib.Signed.{non_neg}
use Rattle.records.specs.Blanks.{no_schema}
use Rattle.records.specs.declared.schema.Schema.{Schema}
use Rattle.rules.specs.Words.{all}
use Rattle.rules.specs.Capacities.{schema_field_room, field_bytes}
use Rattle.rules.specs.Register as plain
use Rattle.rules.specs.WellFormed.{name_formed, schema_formed}
use Rattle.rules.specs.Blanks.{is_tidy_schema}
use Rattle.rules.specs.Offers.{is_tidy_field, offered_field, offered_fields, offered_schema, is_tidy_offer, offer_formed}
use Rattle.rules.specs.Layout.{read_schema, laid_schema}
use Rattle.rules.proofs.Checks.{and_left, and_right, parts, schema_tests}
use Rattle.rules.proofs.Slots.Laid.{all_map, tidy_names}
use Rattle.rules.proofs.Slots.Reread.{reread_schema}
use Rattle.tables.specs.Laid.{LaidSchema}
use Rattle.offers.specs.declared.OfferedSchema.{OfferedSchema}
use Rattle.offers.specs.Offered.{Offered}
use Rattle.offers.proofs.Named.{name_formed_lem}
use Rattle.offers.proofs.Fields.{name_tidy, fields_counted}
use Rattle.offers.proofs.Tests.{fails_there, fails_tidy, fails_formed, passes}

blank_laid : LaidSchema no_schema
unfolding no_schema laid_schema
blank_laid = record { back = refl; fits = omega arith }

module _ (bs : List ℕ) (o : plain.SchemaOffer) where
  abbrev few : Bool
  few = leb o.count schema_field_room

  abbrev within : Bool
  within = leb (o.at + o.count * field_bytes) (length bs)

  abbrev tidy : Bool
  tidy = all is_tidy_field (offered_fields bs o)

  abbrev formed : Bool
  formed = schema_formed (offered_schema bs o)

  bounded : formed ≡ true → few ≡ true
  bounded e = let s = offered_schema bs o in rw (fields_counted bs o) at (parts (non_neg s.id) (schema_tests s) e).1.0

  -- ---- the code's tests

  pub passed_there : {z : Bool} → z ≡ (few && within) → not z ≡ false → (o.count ≤ schema_field_room) × (o.at + o.count * field_bytes ≤ length bs)
  passed_there {z} e h =
      let t : (few && within) ≡ true = sym e ∙ not-false z h in
      (leb-true _ _ (and_left few within t), leb-true _ _ (and_right few within t))

  -- the schema that passed both is tidy
  pub tidy_offered : {s : Schema} {t d : Bool} → s ≡ laid_schema (offered_schema bs o) → t ≡ (few && within) → not t ≡ false → d ≡ tidy → not d ≡ false → is_tidy_schema s ≡ true
  unfolding offered_schema
  tidy_offered {s} {t} {d} l u v x y =
      let h : leb (length (offered_schema bs o).fields) schema_field_room ≡ true = rw (fields_counted bs o) (and_left few within (sym u ∙ not-false t v)) in
      let named : (f : List ℕ) → is_tidy_field f ≡ true → name_formed (offered_field f).name ≡ true = λ f e. name_formed_lem 5 f (name_tidy f e) in
      ap is_tidy_schema l ∙ tidy_names (offered_schema bs o) h (all_map (λ (f : plain.SchemaField). name_formed f.name) is_tidy_field offered_field named (offered_fields bs o) (sym x ∙ not-false d y))

  module _ {r : OfferedSchema} (n : (r.formed ≡ false) × (r.schema ≡ no_schema)) where
    refused : offer_formed bs o ≡ false → Offered bs o r
    refused e = record { formed = n.0 ∙ sym e; says = λ t. absurd (false≢true (sym n.0 ∙ t)); blank = λ _. n.1; laid = rw n.1 blank_laid }

    pub not_there : {z : Bool} → z ≡ (few && within) → not z ≡ true → Offered bs o r
    unfolding offer_formed is_tidy_offer
    not_there e h = refused (fails_there few within tidy formed bounded e h)

    pub not_tidy : {z : Bool} → z ≡ tidy → not z ≡ true → Offered bs o r
    unfolding offer_formed is_tidy_offer
    not_tidy e h = refused (fails_tidy few within tidy formed bounded e h)

  module _ {s : Schema} (l : s ≡ laid_schema (offered_schema bs o)) {z : Bool} (e : z ≡ schema_formed (read_schema s)) where
    reread : read_schema s ≡ offered_schema bs o
    reread = ap read_schema l ∙ reread_schema (offered_schema bs o)

    asked : z ≡ formed
    asked = e ∙ ap schema_formed reread

    pub ill_formed : {r : OfferedSchema} → (r.formed ≡ false) × (r.schema ≡ no_schema) → not z ≡ true → Offered bs o r
    unfolding offer_formed is_tidy_offer
    ill_formed n h = refused n (fails_formed few within tidy formed bounded asked h)

    pub offered : {t d : Bool} → t ≡ (few && within) → not t ≡ false → d ≡ tidy → not d ≡ false → not z ≡ false → Offered bs o (record { formed = true; schema = s })
    unfolding offer_formed is_tidy_offer
    offered u v x y w =
        record {
          formed = sym (passes few within tidy formed bounded u v x y asked w);
          says = λ q. l;
          blank = λ q. absurd (false≢true (sym q));
          laid = record { back = ap laid_schema reread ∙ sym l; fits = omega (arith, ap (λ (p : plain.Schema). length p.fields) reread, fields_counted bs o, passed_there u v) };
        }
