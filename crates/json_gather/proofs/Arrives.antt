-- A value comes where it is awaited: in an object, or as an element of a list of ids.
use Prim.Native.Nat.{ℕ, suc, ◌%◌, ◌<◌}
use mathlib.Core.Path.{◌≡◌, refl, sym, ap, ◌∙◌}
use mathlib.Core.Bool.{Bool, true, false, not, ◌&&◌, ◌||◌, true≢false, false≢true}
use mathlib.Core.List.{List, ◌∷◌}
use native.Mathlib.Omega.{arith}
use borrow.Author.Tests.{not-true}
use lib.Dec.{eqb}
use lib.IntN.{pos, negsuc}
use lib.ListN.{length}
use Rattle.rules.specs.Words.{all, any, is_some}
use Rattle.json_rule.specs.Lexemes.{Lexeme}
use Rattle.json_rule.specs.Tree.{Json, Scalar}
use Rattle.json_rule.specs.Shapes.{Kind, AnUpdate, ASnapshot, ASchema, AField, AnOrder, ASortField, ASpec, APartitionField, Shape, Anything, TextUpTo, OneOf, NumberIn, No, AUuid, ATransform, ListUpTo, ARecord}
use Rattle.json_rule.specs.Defects.{listing_of, kind_of, is_anything}
use Rattle.json_judge.specs.Sending.{Holding, put}
use Rattle.json_members.specs.Kept.{LexemeKept}
use Rattle.json_members.specs.Spots.{row_at, shape_at, spots_of, value_at, item_at}
use Rattle.json_members.specs.Rows.{action_at}
use Rattle.json_members.specs.Faults.{Judged, fault_of}
use Rattle.json_members.specs.Model.{Told, told}
use Rattle.json_stands.proofs.Marked.{is_marked}
use Rattle.json_stands.proofs.Members.{is_member}
use Rattle.json_stands.proofs.Open.{Ids, snapshot_ids, schema_ids, spec_ids, Fields, schema_fields, order_fields, spec_fields}
use Rattle.json_gather.proofs.Owners.{Hand, Agree, off}
use Rattle.json_gather.proofs.Claims.{room_at, ShapeStored, nothing_asked, PartStored, StoredIn}
use Rattle.json_gather.proofs.Keeping.{list_held_kept}
use Rattle.json_gather.proofs.Footprints.{of_all, member_below}
use Rattle.json_gather.proofs.Holds.{members, awaits, awaits_kept, value_held}
use Rattle.json_gather.proofs.Changes.{agree_self}
use Rattle.json_gather.proofs.Right.{RightNumber, number_right}
use Rattle.json_gather.proofs.Values.{mine, put_hand, Long, unplain, scalar_put}
use Rattle.json_gather.proofs.Elements.{id_put_lem}
use Rattle.json_gather.proofs.Inside.{kept_beside, kept_update, kept_part, in_part_lem, in_ids, in_field_lem, field_there}
use Rattle.json_gather.proofs.Gathers.{Gathers, nothing, updates, update, ids, part, fields, field, part_no_list, field_no_list, update_no_list, nothing_no_list}
use Rattle.json_gather.proofs.Spots.{value_spot, value_any}
use Rattle.json_gather.proofs.Names.{field_room}
use Rattle.json_gather.proofs.Begins.{MoreItems, room_for, ids_not_one, fields_list}

-- ---- a value in an object

-- it is stored at the spot of its member, and all else stays
pub record Arrival (a b : Hand) (kind : Kind) (m : ℕ) (x : Json) : Type 0 where
  pub agree : Agree (off (mine m)) a b
  pub stored : StoredIn kind b m x

updates_list : is_some (listing_of (shape_at 1)) ≡ true
unfolding row_at
updates_list = refl

ids_list : {w : ℕ} {each : Shape} → Ids w each → is_some (listing_of (shape_at w)) ≡ true
unfolding row_at
ids_list snapshot_ids = refl
ids_list schema_ids = refl
ids_list spec_ids = refl

module _ (a b : Hand) (items : ℕ) (v : ℕ) (x : Json) (marks : b.marks ≡ a.marks) (come : (kind : Kind) (m : ℕ) → is_member kind m ≡ true → value_at m ≡ v → Arrival a b kind m x) where
  mark_same : (m : ℕ) → is_marked b.marks m ≡ is_marked a.marks m
  mark_same m = ap (λ (l : List ℕ). is_marked l m) marks

  pub arrives : {w wanted : ℕ} {asks : Bool} {js : List Holding} → is_some (listing_of (shape_at w)) ≡ false → Gathers a items true asks v w js → Gathers b items false false wanted w (put x js)
  arrives n (nothing g) = nothing (λ e. absurd (false≢true e))
  arrives n (updates g) = absurd (true≢false (sym updates_list ∙ n))
  arrives n (update (awaits {m = m} e u)) =
      let c = come AnUpdate m u.a_member e in
      update (members (value_held x (kept_beside AnUpdate m u.a_member c.agree) (mark_same m) c.stored u))
  arrives n (ids i o u) = absurd (true≢false (sym (ids_list i) ∙ n))
  arrives {w} n (part {kind = kind} p (awaits {m = m} e h) u) =
      let c = come kind m h.a_member e in
      let d = in_part_lem p m h.a_member in
      part p (members (value_held x (kept_beside kind m h.a_member c.agree) (mark_same m) c.stored h)) (awaits_kept AnUpdate (kept_update w m d.top c.agree) (mark_same w) u)
  arrives n (fields f p o h u) = absurd (true≢false (sym (fields_list f) ∙ n))
  arrives n (field {w = list} {v = top} {each = each} {kind = kind} f p (awaits {m = m} e h) c few l r u) =
      let y = come each m h.a_member e in
      let d = in_field_lem f p m h.a_member in
      let item : off (mine m) (item_at list) ≡ true = rw (field_there f p).item d.item in
      field f p (members (value_held x (kept_beside each m h.a_member y.agree) (mark_same m) y.stored h)) c few
      (list_held_kept (off (mine m)) y.agree item (rw (field_room f) (omega arith)) l)
      (awaits_kept kind (kept_part p list m d.mid y.agree) (mark_same list) r)
      (awaits_kept AnUpdate (kept_update top m d.top.top y.agree) (mark_same top) u)

-- ---- by the kind

stored_by : (b : Hand) (kind : Kind) (m : ℕ) (x : Json) → ShapeStored b (PartStored b) m x (shape_at m) → ShapeStored b nothing_asked m x (shape_at m) → StoredIn kind b m x
stored_by b AnUpdate m x p q = p
stored_by b ASnapshot m x p q = q
stored_by b ASchema m x p q = q
stored_by b AField m x p q = q
stored_by b AnOrder m x p q = q
stored_by b ASortField m x p q = q
stored_by b ASpec m x p q = q
stored_by b APartitionField m x p q = q

-- what is passed over
any_stored : (b : Hand) (r : Kind → Json → Type 0) (m : ℕ) (x : Json) (s : Shape) → is_anything s ≡ true → ShapeStored b r m x s
any_stored b r m x Anything e = tt
any_stored b r m x (TextUpTo room) e = absurd (false≢true e)
any_stored b r m x (OneOf words) e = absurd (false≢true e)
any_stored b r m x (NumberIn least most) e = absurd (false≢true e)
any_stored b r m x No e = absurd (false≢true e)
any_stored b r m x AUuid e = absurd (false≢true e)
any_stored b r m x ATransform e = absurd (false≢true e)
any_stored b r m x (ListUpTo room each) e = absurd (false≢true e)
any_stored b r m x (ARecord kind) e = absurd (false≢true e)

pub any_arrives : (a : Hand) (x : Json) (kind : Kind) (m : ℕ) → is_member kind m ≡ true → value_at m ≡ 0 → Arrival a a kind m x
any_arrives a x kind m i e =
    let n = value_any kind m i e in
    record { agree = agree_self (off (mine m)) a; stored = stored_by a kind m x (any_stored a (PartStored a) m x (shape_at m) n) (any_stored a nothing_asked m x (shape_at m) n) }

-- ---- the action

abbrev pub of_kind : ℕ → Hand → Hand
of_kind kind a = record { kind = kind; marks = a.marks; numbers = a.numbers; texts = a.texts }

kind_agrees : (kind : ℕ) (a : Hand) → Agree (off (mine 3)) a (of_kind kind a)
kind_agrees kind a = record { kind = λ e. absurd (false≢true e); marks = λ m e. refl; magnitude = λ i e. refl; negative = λ i e. refl; texts = λ o e. refl }

something_wanted : is_anything (shape_at 3) ≡ false
unfolding row_at
something_wanted = refl

action_stored : (r : Kind → Json → Type 0) (a : Hand) (kind : ℕ) (x : Json) → is_some (action_at (kind % 256)) ≡ true → ShapeStored (of_kind kind a) r 3 x (shape_at 3)
unfolding row_at
action_stored r a kind x e = record { word = λ f. absurd (false≢true f); acts = λ z. e }

pub action_arrives : (a : Hand) (number : ℕ) (x : Json) → is_some (action_at (number % 256)) ≡ true → (kind : Kind) (m : ℕ) → is_member kind m ≡ true → value_at m ≡ 3 → Arrival a (of_kind number a) kind m x
action_arrives a number x e kind m i q =
    let s : m ≡ 3 = value_spot m 3 q something_wanted in
    rw s (record { agree = kind_agrees number a; stored = stored_by (of_kind number a) kind 3 x (action_stored (PartStored (of_kind number a)) a number x e) (action_stored nothing_asked a number x e) })

-- ---- a value that is right

-- what is no list and no record
abbrev pub is_plain : Shape → Bool
is_plain s = not (is_some (listing_of s)) && not (is_some (kind_of s))

all_plain : (kind : Kind) → all (λ y. not (is_plain (shape_at y)) || not (any (eqb y) unplain)) (spots_of kind) ≡ true
unfolding row_at
all_plain AnUpdate = refl
all_plain ASnapshot = refl
all_plain ASchema = refl
all_plain AField = refl
all_plain AnOrder = refl
all_plain ASortField = refl
all_plain ASpec = refl
all_plain APartitionField = refl

-- a scalar is none of these
pub scalar_plain : (s : Shape) (t : Lexeme) → fault_of s t ≡ 0 → is_plain s ≡ true
unfolding fault_of
scalar_plain Anything t e = refl
scalar_plain (TextUpTo room) t e = refl
scalar_plain (OneOf words) t e = refl
scalar_plain (NumberIn least most) t e = refl
scalar_plain No t e = refl
scalar_plain AUuid t e = refl
scalar_plain ATransform t e = refl
scalar_plain (ListUpTo room each) t e = absurd (omega arith)
scalar_plain (ARecord kind) t e = absurd (omega arith)

plain_member : (kind : Kind) (m : ℕ) → is_member kind m ≡ true → is_plain (shape_at m) ≡ true → any (eqb m) unplain ≡ false
plain_member kind m i e = not-true (any (eqb m) unplain) (rw e at (of_all (λ y. not (is_plain (shape_at y)) || not (any (eqb y) unplain)) (spots_of kind) m i (all_plain kind)))

module _ (a : Hand) (long : Long a) (t : Lexeme) {kept : List ℕ} {len : ℕ} {integer : Bool} {magnitude : ℕ} (k : LexemeKept kept len integer magnitude t) (v items : ℕ) (given : Bool) (j : Judged v) (e : fault_of (shape_at v) t ≡ 0) where
  abbrev what : Told
  what = told kept t.head t.first len integer magnitude

  abbrev after : Hand
  after = put_hand v what items given a

  pub scalar_arrives : (kind : Kind) (m : ℕ) → is_member kind m ≡ true → value_at m ≡ v → Arrival a after kind m (Scalar t)
  scalar_arrives kind m i q =
      let s : m ≡ v = value_spot m v q j.something in
      let i' : is_member kind v ≡ true = rw s at i in
      let n = plain_member kind v i' (scalar_plain (shape_at v) t e) in
      let h = member_below kind v i' in
      let one = scalar_put (PartStored after) a long t k v t.first items given h n j e in
      let two = scalar_put nothing_asked a long t k v t.first items given h n j e in
      rw s (record { agree = one.agree; stored = stored_by after kind v (Scalar t) one.stored two.stored })

-- ---- an element of a list of ids

ids_shape : {w : ℕ} {each : Shape} → Ids w each → shape_at (item_at w) ≡ each
unfolding item_at row_at
ids_shape snapshot_ids = refl
ids_shape schema_ids = refl
ids_shape spec_ids = refl

ids_room : {w : ℕ} {each : Shape} → Ids w each → room_at w ≡ 16
unfolding row_at
ids_room snapshot_ids = refl
ids_room schema_ids = refl
ids_room spec_ids = refl

-- an element that is a record is no scalar
fields_element : {w room x : ℕ} {each kind : Kind} → Fields w room x each kind → is_plain (shape_at (item_at w)) ≡ false
unfolding item_at row_at
fields_element schema_fields = refl
fields_element order_fields = refl
fields_element spec_fields = refl

pub update_element : is_plain (shape_at 2) ≡ false
unfolding row_at
update_element = refl

number_element : {w : ℕ} {each : Shape} → Ids w each → (t : Lexeme) {kept : List ℕ} {len : ℕ} {integer : Bool} {magnitude : ℕ} → LexemeKept kept len integer magnitude t → Judged (item_at w) → fault_of (shape_at (item_at w)) t ≡ 0 → RightNumber each magnitude t
number_element {w} snapshot_ids t k j e = number_right t k (item_at w) (negsuc 9223372036854775807) (pos 9223372036854775807) j (ids_shape snapshot_ids) e
number_element {w} schema_ids t k j e = number_right t k (item_at w) (negsuc 2147483647) (pos 2147483647) j (ids_shape schema_ids) e
number_element {w} spec_ids t k j e = number_right t k (item_at w) (negsuc 2147483647) (pos 2147483647) j (ids_shape spec_ids) e

module _ (a : Hand) (long : Long a) (t : Lexeme) {kept : List ℕ} {len : ℕ} {integer : Bool} {magnitude : ℕ} (k : LexemeKept kept len integer magnitude t) (v items items' : ℕ) (given : Bool) (j : Judged v) (e : fault_of (shape_at v) t ≡ 0) where
  not_plain : (y : ℕ) → v ≡ y → is_plain (shape_at y) ≡ false → ⊥
  not_plain y q n = true≢false (sym (scalar_plain (shape_at v) t e) ∙ (ap (λ (x : ℕ). is_plain (shape_at x)) q ∙ n))

  pub element_arrives : {w wanted : ℕ} {waits : Bool} {js : List Holding} → is_some (listing_of (shape_at w)) ≡ true → ((w ≡ 1 → ⊥) → MoreItems w items items') → Gathers a items waits true v w js
      → Gathers (put_hand v (told kept t.head t.first len integer magnitude) items' given a) items' false false wanted w (put (Scalar t) js)
  element_arrives i more (nothing g) = absurd (true≢false (sym i ∙ nothing_no_list))
  element_arrives i more (updates g) = absurd (not_plain 2 (g refl) update_element)
  element_arrives i more (update h) = absurd (true≢false (sym i ∙ update_no_list))
  element_arrives {w} i more (ids {each = each} {xs = xs} d o u) =
      let q : v ≡ item_at w = o.item refl in
      let m = more (ids_not_one d) in
      let c : items' ≡ suc (length xs) = m.more ∙ ap suc o.count in
      let few : length xs < 16 = room_for m.room o.count (ids_room d) in
      let j' : Judged (item_at w) = rw q at j in
      let e' : fault_of (shape_at (item_at w)) t ≡ 0 = rw q at e in
      let p = id_put_lem d a long (told kept t.head t.first len integer magnitude) given t refl (number_element d t k j' e') few o.held in
      rw (q, c)
      (ids {xs = Scalar t ∷ xs} d (record { count = refl; few = rw (ids_room d) few; held = p.held; item = λ f. absurd (false≢true f) }) (awaits_kept AnUpdate (kept_update w (item_at w) (in_ids d).top p.agree) refl u))
  element_arrives i more (part p h u) = absurd (true≢false (sym i ∙ part_no_list p))
  element_arrives i more (fields f p o n u) = absurd (not_plain _ (o.item refl) (fields_element f))
  element_arrives i more (field f p h c few l n u) = absurd (true≢false (sym i ∙ field_no_list f))
