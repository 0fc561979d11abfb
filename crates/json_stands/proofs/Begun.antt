-- What is held when a list or an object begins that is wanted.
use Prim.Native.Nat.{ℕ}
use mathlib.Core.Path.{◌≡◌, refl, sym, ap, ◌∙◌}
use mathlib.Core.Bool.{true, true≢false}
use mathlib.Core.List.{List, [], ◌∷◌}
use Rattle.rules.specs.Words.{is_some}
use Rattle.json_rule.specs.Shapes.{Kind, AnUpdate, ASnapshot, ASchema, AField, AnOrder, ASortField, ASpec, APartitionField, Shape}
use Rattle.json_rule.specs.Defects.{listing_of, kind_of}
use Rattle.json_judge.specs.Frames.{Frame}
use Rattle.json_members.specs.Slots.{wanting, of_kind, clearing}
use Rattle.json_members.specs.Spots.{row_at, shape_at, item_at}
use Rattle.json_members.specs.Opening.{slot_of, count_slot, entering, entering_list}
use Rattle.json_members.specs.Marks.{opening}
use Rattle.json_members.proofs.Cases.{done, ◌&◌, by_keys}
use Rattle.json_members.proofs.Tables.{list_arms, only_spots}
use Rattle.json_stands.proofs.Marked.{cleared, length_cleared}
use Rattle.json_stands.proofs.Laid.{Held, state, Sized, laid, marked, clear_laid}
use Rattle.json_stands.proofs.Members.{first_member, member_count, ends_below}
use Rattle.json_stands.proofs.Open.{Ids, snapshot_ids, schema_ids, spec_ids, Part, snapshot, schema, order, spec, Fields, schema_fields, order_fields, spec_fields}
use Rattle.json_stands.proofs.Entered.{list_begun, ids_begun, fields_begun, EntersList, update_begun, part_begun, field_begun, EntersObject, object_arms}
use Rattle.json_stands.proofs.Same.{same_held}

-- ---- lists

-- at a place, by the spot of the list
pub data ListBegun (first : ℕ) (h : Held) : ℕ → Held → Type 0 where
  the_updates : ListBegun first h 1 (list_begun first h)
  some_ids : {v : ℕ} {each : Shape} → Ids v each → ListBegun first h v (ids_begun first h)
  some_fields : {v room x : ℕ} {each kind : Kind} → Fields v room x each kind → ListBegun first h v (fields_begun first h)

module _ (first : ℕ) {h : Held} {f : Frame} {fs : List Frame} (z : Sized h.marks h.places) where
  -- what is held is what the slots say
  list_held : (v : ℕ) (x : EntersList v first h f fs) (g : Held) → Sized g.marks g.places → wanting (item_at v) (entering_list first (laid (state 0 0 0 v 0 0 0 h))) ≡ laid (state 0 0 v (item_at v) 0 0 0 g) → x.held ≡ g
  list_held v x g y e = same_held (state 0 0 v (item_at v) 0 0 0 x.held) (state 0 0 v (item_at v) 0 0 0 g) (x.sized z) y (sym (x.laid_so 0 0 0 0 0 0) ∙ e)

  updates_held : (x : EntersList 1 first h f fs) → ListBegun first h 1 x.held
  unfolding row_at item_at entering slot_of count_slot
  updates_held x = rw (list_held 1 x (list_begun first h) z refl) the_updates

  snapshot_ids_held : (x : EntersList 8 first h f fs) → ListBegun first h 8 x.held
  unfolding row_at item_at entering slot_of count_slot
  snapshot_ids_held x = rw (list_held 8 x (ids_begun first h) z refl) (some_ids snapshot_ids)

  schema_ids_held : (x : EntersList 18 first h f fs) → ListBegun first h 18 x.held
  unfolding row_at item_at entering slot_of count_slot
  schema_ids_held x = rw (list_held 18 x (ids_begun first h) z refl) (some_ids schema_ids)

  spec_ids_held : (x : EntersList 23 first h f fs) → ListBegun first h 23 x.held
  unfolding row_at item_at entering slot_of count_slot
  spec_ids_held x = rw (list_held 23 x (ids_begun first h) z refl) (some_ids spec_ids)

  schema_fields_held : (x : EntersList 38 first h f fs) → ListBegun first h 38 x.held
  unfolding row_at item_at entering slot_of count_slot
  schema_fields_held x = rw (list_held 38 x (fields_begun first h) z refl) (some_fields schema_fields)

  order_fields_held : (x : EntersList 45 first h f fs) → ListBegun first h 45 x.held
  unfolding row_at item_at entering slot_of count_slot
  order_fields_held x = rw (list_held 45 x (fields_begun first h) z refl) (some_fields order_fields)

  spec_fields_held : (x : EntersList 52 first h f fs) → ListBegun first h 52 x.held
  unfolding row_at item_at entering slot_of count_slot
  spec_fields_held x = rw (list_held 52 x (fields_begun first h) z refl) (some_fields spec_fields)

  pub list_begun_lem : (v : ℕ) → is_some (listing_of (shape_at v)) ≡ true → (x : EntersList v first h f fs) → ListBegun first h v x.held
  unfolding row_at
  list_begun_lem v =
      by_keys (λ (u : ℕ). is_some (listing_of (shape_at u)) ≡ true → (x : EntersList u first h f fs) → ListBegun first h u x.held) (1 ∷ 8 ∷ 18 ∷ 23 ∷ 38 ∷ 45 ∷ 52 ∷ []) v
      ((λ _ x. updates_held x)
      & (λ _ x. snapshot_ids_held x)
      & (λ _ x. schema_ids_held x)
      & (λ _ x. spec_ids_held x)
      & (λ _ x. schema_fields_held x)
      & (λ _ x. order_fields_held x)
      & (λ _ x. spec_fields_held x)
      & done)
      (λ n is _. absurd (true≢false (sym is ∙ only_spots (λ y. is_some (listing_of y)) list_arms v refl refl (rw n))))

-- ---- objects

pub data ObjectBegun (first : ℕ) (h : Held) : ℕ → Held → Type 0 where
  an_update : ObjectBegun first h 2 (update_begun first h)
  a_part : {v : ℕ} {kind : Kind} → Part v kind → ObjectBegun first h v (part_begun kind first h)
  a_field : {w room v : ℕ} {each kind : Kind} → Fields w room v each kind → ObjectBegun first h v (field_begun each first h)

-- the members of an object are forgotten
module _ (h : Held) (z : Sized h.marks h.places) (kind : Kind) where
  abbrev forgotten : List ℕ
  forgotten = cleared (member_count kind) (first_member kind) h.marks

  forgotten_size : Sized forgotten h.places
  forgotten_size = record { marks_all = length_cleared (member_count kind) (first_member kind) h.marks ∙ z.marks_all; places_all = z.places_all }

  forgetting_laid : (v : ℕ) → clearing (member_count kind) (first_member kind) (laid (state 0 0 0 v 0 0 0 h)) ≡ laid (marked forgotten (state 0 0 0 v 0 0 0 h))
  forgetting_laid v = clear_laid (member_count kind) (first_member kind) (state 0 0 0 v 0 0 0 h) z (ends_below kind)

module _ (first : ℕ) {h : Held} {f : Frame} {fs : List Frame} (z : Sized h.marks h.places) where
  -- what is held is what the slots say
  object_held : (v : ℕ) (x : EntersObject v first h f fs) (g : Held) → Sized g.marks g.places → entering first (opening v (laid (state 0 0 0 v 0 0 0 h))) ≡ laid (state 0 0 v v 0 0 0 g) → x.held ≡ g
  object_held v x g y e = same_held (state 0 0 v v 0 0 0 x.held) (state 0 0 v v 0 0 0 g) x.sized y (sym (x.laid_so 0 0 0 0 0 0) ∙ e)

  update_held : (x : EntersObject 2 first h f fs) → ObjectBegun first h 2 x.held
  unfolding row_at entering slot_of opening
  update_held x = rw (object_held 2 x (update_begun first h) (forgotten_size h z AnUpdate) (ap (λ (l : List ℕ). entering first (of_kind 0 l)) (forgetting_laid h z AnUpdate 2))) an_update

  part_held : {v : ℕ} {kind : Kind} → Part v kind → (x : EntersObject v first h f fs) → ObjectBegun first h v x.held
  unfolding row_at entering slot_of opening
  part_held snapshot x = rw (object_held 7 x (part_begun ASnapshot first h) (forgotten_size h z ASnapshot) (ap (entering first) (forgetting_laid h z ASnapshot 7))) (a_part snapshot)
  part_held schema x = rw (object_held 15 x (part_begun ASchema first h) (forgotten_size h z ASchema) (ap (entering first) (forgetting_laid h z ASchema 15))) (a_part schema)
  part_held order x = rw (object_held 19 x (part_begun AnOrder first h) (forgotten_size h z AnOrder) (ap (entering first) (forgetting_laid h z AnOrder 19))) (a_part order)
  part_held spec x = rw (object_held 21 x (part_begun ASpec first h) (forgotten_size h z ASpec) (ap (entering first) (forgetting_laid h z ASpec 21))) (a_part spec)

  field_held : {w room v : ℕ} {each kind : Kind} → Fields w room v each kind → (x : EntersObject v first h f fs) → ObjectBegun first h v x.held
  unfolding row_at entering slot_of opening
  field_held schema_fields x = rw (object_held 39 x (field_begun AField first h) (forgotten_size h z AField) (ap (entering first) (forgetting_laid h z AField 39))) (a_field schema_fields)
  field_held order_fields x = rw (object_held 46 x (field_begun ASortField first h) (forgotten_size h z ASortField) (ap (entering first) (forgetting_laid h z ASortField 46))) (a_field order_fields)
  field_held spec_fields x = rw (object_held 53 x (field_begun APartitionField first h) (forgotten_size h z APartitionField) (ap (entering first) (forgetting_laid h z APartitionField 53))) (a_field spec_fields)

  pub object_begun_lem : (v : ℕ) → is_some (kind_of (shape_at v)) ≡ true → (x : EntersObject v first h f fs) → ObjectBegun first h v x.held
  unfolding row_at
  object_begun_lem v =
      by_keys (λ (u : ℕ). is_some (kind_of (shape_at u)) ≡ true → (x : EntersObject u first h f fs) → ObjectBegun first h u x.held) (2 ∷ 7 ∷ 15 ∷ 19 ∷ 21 ∷ 39 ∷ 46 ∷ 53 ∷ []) v
      ((λ _ x. update_held x)
      & (λ _ x. part_held snapshot x)
      & (λ _ x. part_held schema x)
      & (λ _ x. part_held order x)
      & (λ _ x. part_held spec x)
      & (λ _ x. field_held schema_fields x)
      & (λ _ x. field_held order_fields x)
      & (λ _ x. field_held spec_fields x)
      & done)
      (λ n is _. absurd (true≢false (sym is ∙ only_spots (λ y. is_some (kind_of y)) object_arms v refl refl (rw n))))
