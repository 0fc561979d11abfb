-- A list or an object that is judged begins: it holds nothing.
use Prim.Native.Nat.{ℕ, zero, suc, ◌+◌, ◌≤◌}
use native.Mathlib.Nat.{suc-add, add-suc}
use mathlib.Core.Path.{◌≡◌, refl, sym, ap, ◌∙◌}
use mathlib.Core.Bool.{Bool, true, false, not, ◌&&◌, ◌||◌, true≢false}
use mathlib.Core.List.{List, [], ◌∷◌}
use mathlib.Core.Option.{some}
use native.Mathlib.Omega.{arith}
use borrow.Author.Tests.{eqb-true, eqb-false, eq-eqb, not-true, leb-false, ltb-true, ltb-false}
use borrow.Table.Steps.{cases}
use lib.Dec.{eqb, leb, ltb}
use lib.ListN.{length, set}
use Rattle.rules.specs.Words.{is_some}
use Rattle.rules.proofs.Checks.{and_right}
use Rattle.json_rule.specs.Lexemes.{Lexeme}
use Rattle.json_rule.specs.Tree.{Json}
use Rattle.json_rule.specs.Shapes.{Kind, AnUpdate, ASnapshot, ASchema, AField, AnOrder, ASortField, ASpec, APartitionField, Shape}
use Rattle.json_rule.specs.Defects.{listing_of, kind_of}
use Rattle.json_judge.specs.Sending.{Held, Holding, HoldsItems, HoldsMembers}
use Rattle.json_members.specs.Spots.{row_at, shape_at, value_at, item_at}
use Rattle.json_members.proofs.Cases.{all_below, all_below_lem}
use Rattle.json_stands.proofs.Marked.{is_marked, cleared, other_marked, kept_before}
use Rattle.json_stands.proofs.Members.{is_member, first_member, member_count, members_end, say_none}
use Rattle.json_stands.proofs.Open.{Ids, snapshot_ids, schema_ids, spec_ids, Part, snapshot, schema, order, spec, Fields, schema_fields, order_fields, spec_fields}
use Rattle.json_gather.proofs.Owners.{top_of, mid_of, Hand, Agree, agree_less, off}
use Rattle.json_gather.proofs.Claims.{ListHeld, no_element, room_at}
use Rattle.json_gather.proofs.Keeping.{list_held_kept}
use Rattle.json_gather.proofs.Footprints.{footprint}
use Rattle.json_gather.proofs.Holds.{KeptBut, AllHeld, Awaits, members, awaits, awaits_kept}
use Rattle.json_gather.proofs.Values.{mine}
use Rattle.json_gather.proofs.Inside.{in_part_lem, Within, in_field_lem, field_there}
use Rattle.json_gather.proofs.Gathers.{OpenItems, Gathers, nothing, updates, update, ids, part, fields, field}
use Rattle.json_gather.proofs.Spots.{value_spot, list_something, record_something, update_list_lem, part_list, field_list, update_record, part_record, field_record}
use Rattle.json_gather.proofs.Names.{with_marks, field_room, field_kind, update_kind, updates_no_object}

-- ---- a list

no_items : (a : Hand) (v : ℕ) (items : ℕ) → items ≡ 0 → OpenItems a v items true (item_at v) []
no_items a v items z = record { count = z; few = omega arith; held = no_element; item = λ e. refl }

pub ids_not_one : {v : ℕ} {each : Shape} → Ids v each → v ≡ 1 → ⊥
ids_not_one snapshot_ids e = omega arith
ids_not_one schema_ids e = omega arith
ids_not_one spec_ids e = omega arith

pub fields_not_one : {v room x : ℕ} {each kind : Kind} → Fields v room x each kind → v ≡ 1 → ⊥
fields_not_one schema_fields e = omega arith
fields_not_one order_fields e = omega arith
fields_not_one spec_fields e = omega arith

-- an element is no list
ids_items : {w : ℕ} {each : Shape} → Ids w each → is_some (listing_of (shape_at (item_at w))) ≡ false
unfolding item_at row_at
ids_items snapshot_ids = refl
ids_items schema_ids = refl
ids_items spec_ids = refl

fields_items : {w room x : ℕ} {each kind : Kind} → Fields w room x each kind → is_some (listing_of (shape_at (item_at w))) ≡ false
unfolding item_at row_at
fields_items schema_fields = refl
fields_items order_fields = refl
fields_items spec_fields = refl

updates_items : is_some (listing_of (shape_at 2)) ≡ false
unfolding row_at
updates_items = refl

module _ (a : Hand) (items : ℕ) (v place : ℕ) (is : is_some (listing_of (shape_at v)) ≡ true) (items' : ℕ) (z : (v ≡ 1 → ⊥) → items' ≡ 0) where
  not_item : (y : ℕ) → v ≡ y → is_some (listing_of (shape_at y)) ≡ false → ⊥
  not_item y e n = true≢false (sym is ∙ (ap (λ (x : ℕ). is_some (listing_of (shape_at x))) e ∙ n))

  abbrev Begun : List Holding → Type 0
  Begun js = Gathers a items' false true (item_at v) v (HoldsItems place [] ∷ js)

  -- the spot that an object waits for
  awaited : (m : ℕ) → value_at m ≡ v → m ≡ v
  awaited m e = value_spot m v e (list_something (shape_at v) is)

  pub list_begins : {w : ℕ} {js : List Holding} → Gathers a items true true v w js → Begun js
  unfolding item_at
  list_begins (nothing g) = rw (g refl) (updates (λ _. refl))
  list_begins (updates g) = absurd (not_item 2 (g refl) updates_items)
  list_begins (update (awaits {m = m} {hs = us} {t = t} e u)) =
      let u' : Awaits AnUpdate a v us t = rw (awaited m e) at u in
      let i = update_list_lem v u'.a_member is in
      ids i.are (no_items a v items' (z (ids_not_one i.are))) u'
  list_begins (ids i o u) = absurd (not_item _ (o.item refl) (ids_items i))
  list_begins (part {kind = kind} p (awaits {m = m} {hs = ps} {t = t} e n) u) =
      let n' : Awaits kind a v ps t = rw (awaited m e) at n in
      let f = part_list p v n'.a_member is in
      fields f.are p (no_items a v items' (z (fields_not_one f.are))) n' u
  list_begins (fields f p o n u) = absurd (not_item _ (o.item refl) (fields_items f))
  list_begins (field f p (awaits {m = m} e h) c k l n u) = absurd (field_list f m h.a_member (rw (awaited m e) is))

-- ---- an object

-- the marks from the first member on, so many
abbrev in_range : Kind → ℕ → Bool
in_range kind o = leb (first_member kind) o && ltb o (members_end kind)

ends_there_lem : (kind : Kind) → members_end kind ≤ 58
ends_there_lem AnUpdate = omega arith
ends_there_lem ASnapshot = omega arith
ends_there_lem ASchema = omega arith
ends_there_lem AField = omega arith
ends_there_lem AnOrder = omega arith
ends_there_lem ASortField = omega arith
ends_there_lem ASpec = omega arith
ends_there_lem APartitionField = omega arith

range_all : (kind : Kind) → all_below 58 (λ o. not (in_range kind o) || is_member kind o) ≡ true
range_all AnUpdate = refl
range_all ASnapshot = refl
range_all ASchema = refl
range_all AField = refl
range_all AnOrder = refl
range_all ASortField = refl
range_all ASpec = refl
range_all APartitionField = refl

range_member : (kind : Kind) (o : ℕ) → in_range kind o ≡ true → is_member kind o ≡ true
range_member kind o e =
    let h = ltb-true o (members_end kind) (and_right (leb (first_member kind) o) _ e) in
    rw e at (all_below_lem 58 (λ x. not (in_range kind x) || is_member kind x) (range_all kind) o (omega (arith, ends_there_lem kind)))

kept_behind : (n m : ℕ) (marks : List ℕ) (x : ℕ) → m + n ≤ x → is_marked (cleared n m marks) x ≡ is_marked marks x
unfolding cleared
kept_behind zero m marks x h = refl
kept_behind (suc n) m marks x h = kept_behind n (suc m) (set marks m 0) x (omega (arith, suc-add m n, add-suc m n)) ∙ other_marked marks m 0 x (λ e. omega (arith, add-suc m n))

abbrev pub opened_hand : Kind → Hand → Hand
opened_hand kind a = with_marks (cleared (member_count kind) (first_member kind) a.marks) a

clear_agrees : (kind : Kind) (a : Hand) → Agree (off (in_range kind)) a (opened_hand kind a)
clear_agrees kind a =
    record {
      kind = λ e. refl;
      marks = λ x e. stays x (not-true (in_range kind x) e);
      magnitude = λ i e. refl;
      negative = λ i e. refl;
      texts = λ o e. refl;
    }
  where
    stays : (x : ℕ) → in_range kind x ≡ false → is_marked (opened_hand kind a).marks x ≡ is_marked a.marks x
    stays x e =
        cases (leb (first_member kind) x)
        (λ t. kept_behind (member_count kind) (first_member kind) a.marks x (ltb-false x (members_end kind) (rw t at e)))
        (λ f. kept_before (member_count kind) (first_member kind) a.marks x (leb-false (first_member kind) x f))

-- nothing is held
none_held : (kind : Kind) (a : Hand) (b : Hand) → length a.marks ≡ 64 → b.marks ≡ (opened_hand kind a).marks → AllHeld kind b []
none_held kind a b long e = record { each = λ x i. ap (λ (l : List ℕ). is_marked l x) e ∙ say_none a.marks kind long x i }

-- what is inside a member of an update leaves the others, and so inside a member of a record
module _ (inner : Kind) (a : Hand) where
  kept_update_opened : (w : ℕ) → ((o : ℕ) → is_member inner o ≡ true → top_of o ≡ w) → KeptBut AnUpdate w a (opened_hand inner a)
  kept_update_opened w top =
      record {
        agree = λ x i n. agree_less (off (in_range inner)) (footprint AnUpdate x) (λ o e. outside x n o (eqb-true (top_of o) x e)) (clear_agrees inner a);
      }
    where
      outside : (x : ℕ) → eqb x w ≡ false → (o : ℕ) → top_of o ≡ x → off (in_range inner) o ≡ true
      outside x n o e = cases (in_range inner o) (λ t. absurd (eqb-false x w n (sym e ∙ top o (range_member inner o t)))) (λ f. rw f)

  kept_part_opened : {v : ℕ} {kind : Kind} → Part v kind → (w : ℕ) → ((o : ℕ) → is_member inner o ≡ true → mid_of o ≡ w) → KeptBut kind w a (opened_hand inner a)
  kept_part_opened {kind = kind} p w mid =
      record {
        agree = λ x i n. agree_less (off (in_range inner)) (footprint kind x) (λ o e. outside x n o (mid_is p x o e)) (clear_agrees inner a);
      }
    where
      outside : (x : ℕ) → eqb x w ≡ false → (o : ℕ) → mid_of o ≡ x → off (in_range inner) o ≡ true
      outside x n o e = cases (in_range inner o) (λ t. absurd (eqb-false x w n (sym e ∙ mid o (range_member inner o t)))) (λ f. rw f)

      mid_is : {v : ℕ} {kind : Kind} → Part v kind → (x o : ℕ) → footprint kind x o ≡ true → mid_of o ≡ x
      mid_is snapshot x o e = eqb-true (mid_of o) x e
      mid_is schema x o e = eqb-true (mid_of o) x e
      mid_is order x o e = eqb-true (mid_of o) x e
      mid_is spec x o e = eqb-true (mid_of o) x e

  -- a spot that is none of its members keeps its mark, and a list of what stands elsewhere its elements
  elsewhere : (y : ℕ) → ((o : ℕ) → is_member inner o ≡ true → off (mine o) y ≡ true) → off (in_range inner) y ≡ true
  elsewhere y h =
      cases (in_range inner y)
      (λ t. absurd (true≢false (sym (h y (range_member inner y t)) ∙ rw (eq-eqb y y refl))))
      (λ f. rw f)

-- an element is a record, or none
ids_no_record : {w : ℕ} {each : Shape} {kind : Kind} → Ids w each → kind_of (shape_at (item_at w)) ≡ some kind → ⊥
unfolding item_at row_at
ids_no_record snapshot_ids e = true≢false (sym (ap is_some e))
ids_no_record schema_ids e = true≢false (sym (ap is_some e))
ids_no_record spec_ids e = true≢false (sym (ap is_some e))

part_not_two : {v : ℕ} {kind : Kind} → Part v kind → v ≡ 2 → ⊥
part_not_two snapshot e = omega arith
part_not_two schema e = omega arith
part_not_two order e = omega arith
part_not_two spec e = omega arith

field_not_two : {w room x : ℕ} {each kind : Kind} → Fields w room x each kind → x ≡ 2 → ⊥
field_not_two schema_fields e = omega arith
field_not_two order_fields e = omega arith
field_not_two spec_fields e = omega arith

pub fields_list : {w room x : ℕ} {each kind : Kind} → Fields w room x each kind → is_some (listing_of (shape_at w)) ≡ true
unfolding row_at
fields_list schema_fields = refl
fields_list order_fields = refl
fields_list spec_fields = refl

pub room_for : {items n room least : ℕ} → suc items ≤ least → items ≡ n → least ≡ room → suc n ≤ room
room_for a b c = omega arith

-- one more element, for which there is room
pub record MoreItems (w items items' : ℕ) : Type 0 where
  pub more : items' ≡ suc items
  pub room : suc items ≤ room_at w

module _ (a b : Hand) (items : ℕ) (v place : ℕ) (kind : Kind) (is : kind_of (shape_at v) ≡ some kind) (long : length a.marks ≡ 64) (cleared-so : b.marks ≡ (opened_hand kind a).marks) (same : (v ≡ 2 → ⊥) → b ≡ opened_hand kind a) (items' : ℕ) where
  abbrev Opens : List Holding → Type 0
  Opens js = Gathers b items' false false v v (HoldsMembers place [] ∷ js)

  awaited_record : (m : ℕ) → value_at m ≡ v → m ≡ v
  awaited_record m e = value_spot m v e (record_something (shape_at v) kind is)

  kind_at_lem : (y : ℕ) → v ≡ y → kind_of (shape_at y) ≡ some kind
  kind_at_lem y e = ap (λ (x : ℕ). kind_of (shape_at x)) (sym e) ∙ is

  empty : (other : Kind) → kind ≡ other → AllHeld other b []
  empty other e = rw e at (none_held kind a b long cleared-so)

  in_part_opened : {us : List Held} {t : Lexeme} → Part v kind → Awaits AnUpdate a v us t → Awaits AnUpdate b v us t
  in_part_opened p u =
      rw (same (part_not_two p))
      (awaits_kept AnUpdate (kept_update_opened kind a v (λ o i. (in_part_lem p o i).top)) ((clear_agrees kind a).marks v (elsewhere kind a v (λ o i. (in_part_lem p o i).other))) u)

  module _ {w room x y : ℕ} {each outer : Kind} (f : Fields w room x each outer) (p : Part y outer) (e : v ≡ x) (k : kind ≡ each) where
    within : (o : ℕ) → is_member kind o ≡ true → Within y w x o
    within o i = in_field_lem f p o (rw k at i)

    not_two : v ≡ 2 → ⊥
    not_two q = field_not_two f (sym e ∙ q)

    outer_opened : {us : List Held} {t : Lexeme} → Awaits AnUpdate a y us t → Awaits AnUpdate b y us t
    outer_opened u =
        rw (same not_two)
        (awaits_kept AnUpdate (kept_update_opened kind a y (λ o i. (within o i).top.top)) ((clear_agrees kind a).marks y (elsewhere kind a y (λ o i. (within o i).top.other))) u)

    record_opened : {ps : List Held} {t : Lexeme} → Awaits outer a w ps t → Awaits outer b w ps t
    record_opened n =
        rw (same not_two)
        (awaits_kept outer (kept_part_opened kind a p w (λ o i. (within o i).mid)) ((clear_agrees kind a).marks w (elsewhere kind a w (λ o i. (within o i).other))) n)

    fields_opened : {xs : List Json} → length xs ≤ room_at w → ListHeld a w xs → ListHeld b w xs
    fields_opened few l =
        let item : off (in_range kind) (item_at w) ≡ true = rw (field_there f p).item (elsewhere kind a x (λ o i. (within o i).item)) in
        rw (same not_two) (list_held_kept (off (in_range kind)) (clear_agrees kind a) item few l)

  pub object_begins : {w : ℕ} {js : List Holding} → (is_some (listing_of (shape_at w)) ≡ true → (w ≡ 1 → ⊥) → MoreItems w items items') → Gathers a items true true v w js → Opens js
  object_begins el (nothing g) = absurd (updates_no_object (kind_at_lem 1 (g refl)))
  object_begins el (updates g) = let e = g refl in rw e (update (members (empty AnUpdate (update_kind (kind_at_lem 2 e)))))
  object_begins el (update (awaits {m = m} {hs = us} {t = t} e u)) =
      let u' : Awaits AnUpdate a v us t = rw (awaited_record m e) at u in
      let p = update_record v kind u'.a_member is in
      part p (members (empty kind refl)) (in_part_opened p u')
  object_begins el (ids i o u) = absurd (ids_no_record i (kind_at_lem _ (o.item refl)))
  object_begins el (part p (awaits {m = m} e n) u) = absurd (part_record p m kind n.a_member (rw (awaited_record m e) is))
  object_begins el (fields {w = w} {room = room} {x = x} {each = each} {xs = xs} f p o n u) =
      let e : v ≡ x = o.item refl ∙ (field_there f p).item in
      let k : kind ≡ each = field_kind f (kind_at_lem x e) in
      let more = el (fields_list f) (fields_not_one f) in
      let count : items' ≡ suc (length xs) = more.more ∙ ap suc o.count in
      let few : suc (length xs) ≤ room = room_for more.room o.count (field_room f) in
      rw e (field f p (members (empty each k)) count few (fields_opened f p e k o.few o.held) (record_opened f p e k n) (outer_opened f p e k u))
  object_begins el (field f p (awaits {m = m} e h) c k l n u) = absurd (field_record f m kind h.a_member (rw (awaited_record m e) is))
