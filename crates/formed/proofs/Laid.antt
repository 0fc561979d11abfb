-- Tables that were found tidy and well formed are laid out from what is read of them, as the functions on tables ask.
use Prim.Native.Nat.{ℕ, ◌≤◌, ◌<◌}
use native.Mathlib.Omega.{arith}
use mathlib.Core.Path.{◌≡◌, refl, sym, ap, ◌∙◌}
use mathlib.Core.Bool.{Bool, true, ◌&&◌}
use mathlib.Core.List.{List, [], ◌∷◌, map}
use borrow.Author.Tests.{leb-true}
use lib.Dec.{leb}
use lib.ListN.{length, get_or, length-append, length-replicate, length-map, get_or-append, get_or-map}
use lib.Seq.{drop-cons}
use lib.Signed.{non_neg}
use Rattle.records.specs.Blanks.{no_ref}
use Rattle.records.specs.declared.reference.NamedRef.{NamedRef}
use Rattle.records.specs.declared.reference.Refs.{Refs}
use Rattle.records.specs.declared.schema.Schemas.{Schemas}
use Rattle.records.specs.declared.sort_order.SortOrders.{SortOrders}
use Rattle.records.specs.declared.partition.PartitionSpecs.{PartitionSpecs}
use Rattle.rules.specs.Words.{all, ascending}
use Rattle.rules.specs.Register as plain
use Rattle.rules.specs.Capacities.{ref_room, name_room, schema_room, schema_field_room, sort_order_room, sort_field_room, spec_room, partition_field_room}
use Rattle.rules.specs.WellFormed.{name_formed, reference_formed, owner_formed, ref_formed, schema_formed, sort_field_formed, offered_order_formed, order_formed, partition_field_formed, spec_formed, schema_below, order_below, spec_below, refs_formed, schemas_formed, orders_formed, specs_formed}
use Rattle.rules.specs.Blanks.{is_blank_ref, is_tidy_ref, is_tidy_refs, is_tidy_schemas, is_tidy_sort_orders, is_tidy_partition_specs}
use Rattle.rules.specs.Layout.{pad, read_name, read_ref, laid_ref, read_refs, laid_refs, read_schemas, read_sort_orders, read_partition_specs}
use Rattle.rules.proofs.Checks.{both, and_left, and_right, parts, schema_tests, offered_of}
use Rattle.rules.proofs.Tables.{all_then, all_at, log_formed, log_fits_lem, log_all}
use Rattle.rules.proofs.Slots.Relaid.{table_back, blank_ref, back_ref, back_schemas, back_sort_orders, back_partition_specs}
use Rattle.tables.specs.Laid.{LaidName, LaidRefs, LaidSchemas, LaidOrders, LaidSpecs}
use Rattle.formed.proofs.Counted.{read_length, read_at}

-- the order of refs is not asked: it is tested on names that are laid out
pub laid_refs_lem : (t : Refs) {ok : Bool} → ok ≡ (is_tidy_refs t && log_formed ref_room ref_formed (read_refs t)) → ok ≡ true → LaidRefs t
unfolding is_tidy_refs laid_refs
laid_refs_lem t h y =
    let z : (is_tidy_refs t && log_formed ref_room ref_formed (read_refs t)) ≡ true = sym h ∙ y in
    let e : is_tidy_refs t ≡ true = and_left (is_tidy_refs t) _ z in
    let f : log_formed ref_room ref_formed (read_refs t) ≡ true = and_right (is_tidy_refs t) _ z in
    let a : all ref_formed (read_refs t) ≡ true = log_all ref_room ref_formed (read_refs t) f in
    let r = table_back no_ref is_blank_ref blank_ref read_ref laid_ref is_tidy_ref ref_formed back_ref ref_room t.count t.items e (and_left (leb (length (read_refs t)) ref_room) _ f) a in
    record {
      back = λ i. record { items = r.0 i; count = r.1 i };
      fits = log_fits_lem ref_room ref_formed (read_refs t) f;
      names = all_then ref_formed (λ (x : plain.NamedRef). leb (length x.name) name_room) (λ x k. (parts (name_formed x.name) (reference_formed x.reference ∷ owner_formed x ∷ []) k).0) (read_refs t) a;
    }

pub laid_formed_refs : (t : Refs) → is_tidy_refs t ≡ true → refs_formed (read_refs t) ≡ true → LaidRefs t
unfolding refs_formed
laid_formed_refs t e f = laid_refs_lem t refl (both e (and_left (log_formed ref_room ref_formed (read_refs t)) _ f))

-- ---- the names of refs that are laid out

pub refs_fit : {t : Refs} → LaidRefs t → t.count ≤ ref_room
refs_fit {t} h = omega (arith, h.fits, read_length read_ref no_ref t.items t.count)

any_default : {A : Type 0} (l : List A) (i : ℕ) (d e : A) → i < length l → get_or l i d ≡ get_or l i e
any_default l i d e h = cc (drop-cons l i d h, drop-cons l i e h)

module _ {t : Refs} (h : LaidRefs t) where
  pub refs_slots : length t.items ≡ ref_room
  unfolding laid_refs
  refs_slots =
      let l : List NamedRef = map laid_ref (read_refs t) in
      let m : length l ≡ length (read_refs t) = length-map (read_refs t) laid_ref in
      let e : length (pad ref_room no_ref l) ≡ ref_room = simp (length-append, length-replicate) (omega (arith, h.fits)) in
      ap (λ (u : Refs). length u.items) (sym h.back) ∙ e

  module _ (i : ℕ) (d : NamedRef) (b : i < t.count) where
    abbrev pub here : NamedRef
    here = get_or t.items i d

    below : i < length (read_refs t)
    below = omega (arith, read_length read_ref no_ref t.items t.count)

    pub read_here : get_or (read_refs t) i (read_ref d) ≡ read_ref here
    read_here = read_at read_ref no_ref t.items t.count i d b (omega (arith, refs_slots, refs_fit h))

    laid_here : laid_ref (read_ref here) ≡ here
    unfolding laid_refs
    laid_here =
        let l : List NamedRef = map laid_ref (read_refs t) in
        let o : NamedRef = laid_ref (read_ref d) in
        let w : i < length l = rw (length-map (read_refs t) laid_ref) below in
        let m : get_or t.items i o ≡ get_or l i o = ap (λ (u : Refs). get_or u.items i o) (sym h.back) ∙ get_or-append l _ o i w in
        sym (any_default t.items i d o (omega (arith, refs_slots, refs_fit h)) ∙ m ∙ get_or-map laid_ref (read_refs t) i (read_ref d) ∙ ap laid_ref read_here)

    pub laid_name_lem : LaidName here.name
    unfolding laid_ref
    laid_name_lem =
        let p : plain.NamedRef → Bool = λ x. leb (length x.name) name_room in
        let f : leb (length (read_name here.name)) name_room ≡ true = ap p (sym read_here) ∙ all_at p (read_ref d) (read_refs t) h.names i below in
        record { back = ap (λ (x : NamedRef). x.name) laid_here; fits = leb-true _ _ f }

-- ---- the other tables

pub laid_schemas_lem : (t : Schemas) → is_tidy_schemas t ≡ true → schemas_formed (read_schemas t) ≡ true → LaidSchemas t
unfolding schemas_formed
laid_schemas_lem t e f =
    let k = parts (leb (length (read_schemas t)) schema_room) (all schema_formed (read_schemas t) ∷ ascending schema_below (read_schemas t) ∷ []) f in
    record {
      back = back_schemas t e f;
      fits = leb-true _ _ k.0;
      fields = all_then schema_formed (λ (s : plain.Schema). leb (length s.fields) schema_field_room) (λ s h. (parts (non_neg s.id) (schema_tests s) h).1.0) (read_schemas t) k.1.0;
    }

pub laid_orders : (t : SortOrders) → is_tidy_sort_orders t ≡ true → orders_formed (read_sort_orders t) ≡ true → LaidOrders t
unfolding orders_formed
laid_orders t e f =
    let k = parts (leb (length (read_sort_orders t)) sort_order_room) (all order_formed (read_sort_orders t) ∷ ascending order_below (read_sort_orders t) ∷ []) f in
    record {
      back = back_sort_orders t e f;
      fits = leb-true _ _ k.0;
      fields = all_then order_formed (λ (o : plain.SortOrder). leb (length o.fields) sort_field_room) (λ o h. (parts (non_neg o.id) (leb (length o.fields) sort_field_room ∷ all sort_field_formed o.fields ∷ []) (and_left (offered_order_formed o) _ h)).1.0) (read_sort_orders t) k.1.0;
    }

pub laid_specs : (t : PartitionSpecs) → is_tidy_partition_specs t ≡ true → specs_formed (read_partition_specs t) ≡ true → LaidSpecs t
unfolding specs_formed
laid_specs t e f =
    let k = parts (leb (length (read_partition_specs t)) spec_room) (all spec_formed (read_partition_specs t) ∷ ascending spec_below (read_partition_specs t) ∷ []) f in
    record {
      back = back_partition_specs t e f;
      fits = leb-true _ _ k.0;
      fields = all_then spec_formed (λ (s : plain.PartitionSpec). leb (length s.fields) partition_field_room) (λ s h. (parts (non_neg s.id) (leb (length s.fields) partition_field_room ∷ all partition_field_formed s.fields ∷ []) (offered_of s h)).1.0) (read_partition_specs t) k.1.0;
    }
