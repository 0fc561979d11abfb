-- A list or an object that is judged is closed: what it holds is stored, and it stands in what is around it.
use Prim.Native.Nat.{ℕ, suc, ◌≤◌}
use mathlib.Core.Path.{◌≡◌, refl}
use mathlib.Core.Bool.{Bool, true, false, false≢true}
use mathlib.Core.List.{List, ◌∷◌}
use lib.ListN.{length}
use Rattle.json_rule.specs.Tree.{Json, Array, Object, no_item, no_member}
use Rattle.json_rule.specs.Shapes.{Kind, AnUpdate, Shape}
use Rattle.json_judge.specs.Sending.{Held, Holding, items_before, members_before, closing}
use Rattle.json_members.specs.Spots.{row_at, around_at}
use Rattle.json_members.specs.Model.{Told}
use Rattle.json_store.specs.Puts.{Store, store, is_silent, put_done_in}
use Rattle.json_stands.proofs.Marked.{is_marked}
use Rattle.json_stands.proofs.Open.{Ids, snapshot_ids, schema_ids, spec_ids, Part, snapshot, schema, order, spec, Fields, schema_fields, order_fields, spec_fields}
use Rattle.json_gather.proofs.Owners.{Hand, off}
use Rattle.json_gather.proofs.Claims.{ListHeld, ListStored, Complete, UpdateMember, StoredIn}
use Rattle.json_gather.proofs.Holds.{AllHeld, members, awaits_kept, value_held}
use Rattle.json_gather.proofs.Changes.{agree_self}
use Rattle.json_gather.proofs.Values.{mine, put_hand, Long}
use Rattle.json_gather.proofs.Elements.{ElementPut, field_put, sort_field_put, partition_field_put, of_ids, of_fields, list_put}
use Rattle.json_gather.proofs.Inside.{kept_beside, kept_update, kept_part, field_there}
use Rattle.json_gather.proofs.Gathers.{Gathers, nothing, updates, update, ids, part, fields, field}
use Rattle.json_gather.proofs.Names.{field_room}

-- ---- where they stand

ids_around : {w : ℕ} {each : Shape} → Ids w each → around_at w ≡ 2
unfolding around_at
ids_around snapshot_ids = refl
ids_around schema_ids = refl
ids_around spec_ids = refl

part_around : {w : ℕ} {kind : Kind} → Part w kind → around_at w ≡ 2
unfolding around_at
part_around snapshot = refl
part_around schema = refl
part_around order = refl
part_around spec = refl

fields_around : {w v room x : ℕ} {each kind : Kind} → Fields w room x each kind → Part v kind → around_at w ≡ v
unfolding around_at
fields_around schema_fields schema = refl
fields_around order_fields order = refl
fields_around spec_fields spec = refl

field_around : {w room x : ℕ} {each kind : Kind} → Fields w room x each kind → around_at x ≡ w
unfolding around_at
field_around schema_fields = refl
field_around order_fields = refl
field_around spec_fields = refl

around_outside : (around_at 0 ≡ 0) × (around_at 1 ≡ 0) × (around_at 2 ≡ 1)
unfolding around_at
around_outside = (refl, refl, refl)

-- ---- what is stored of them

ids_stored : {w : ℕ} {each : Shape} → Ids w each → (b : Hand) (x : Json) → ListStored b w x → UpdateMember b w x
unfolding row_at
ids_stored snapshot_ids b x l = l
ids_stored schema_ids b x l = l
ids_stored spec_ids b x l = l

fields_stored : {w room x : ℕ} {each kind : Kind} → Fields w room x each kind → (b : Hand) (y : Json) → ListStored b w y → StoredIn kind b w y
unfolding row_at
fields_stored schema_fields b y l = l
fields_stored order_fields b y l = l
fields_stored spec_fields b y l = l

part_silent : {w : ℕ} {kind : Kind} → Part w kind → (o : Told) (items : ℕ) (given : Bool) (s : Store) → put_done_in w o items given s ≡ s
unfolding put_done_in is_silent
part_silent snapshot o items given s = refl
part_silent schema o items given s = refl
part_silent order o items given s = refl
part_silent spec o items given s = refl

part_held : {w : ℕ} {kind : Kind} → Part w kind → (a : Hand) (place : ℕ) (hs : List Held) → AllHeld kind a hs → Complete kind a.marks → UpdateMember a w (Object place (members_before hs no_member) true)
unfolding row_at
part_held snapshot a place hs x c = record { held = x.each; complete = c }
part_held schema a place hs x c = record { held = x.each; complete = c }
part_held order a place hs x c = record { held = x.each; complete = c }
part_held spec a place hs x c = record { held = x.each; complete = c }

element_put : {w room x : ℕ} {each kind : Kind} → Fields w room x each kind → (a : Hand) → Long a → (o : Told) (given : Bool) (place : ℕ) (hs : List Held) → AllHeld each a hs → Complete each a.marks → given ≡ is_marked a.marks 55
    → (xs : List Json) → suc (length xs) ≤ room → ListHeld a w xs → ElementPut a (put_hand x o (suc (length xs)) given a) w x xs (Object place (members_before hs no_member) true)
element_put schema_fields a long o given place hs h c m xs few l = field_put a long o given place hs h c few l
element_put order_fields a long o given place hs h c m xs few l = sort_field_put a long o given place hs h c few l
element_put spec_fields a long o given place hs h c m xs few l = partition_field_put a long o given place hs h c m few l

-- what is closed has all that it must have
pub record Closable (a : Hand) (w : ℕ) : Type 0 where
  pub of_part : (kind : Kind) → Part w kind → Complete kind a.marks
  pub of_field : (list room : ℕ) (each kind : Kind) → Fields list room w each kind → Complete each a.marks

module _ (a : Hand) (long : Long a) (o : Told) (items : ℕ) (given : Bool) (marked : given ≡ is_marked a.marks 55) where
  pub closes : {w wanted wanted' : ℕ} {asks : Bool} {js : List Holding} → Closable a w → Gathers a items false asks wanted w js → Gathers (put_hand w o items given a) items false false wanted' (around_at w) (closing js)
  closes c (nothing g) = rw around_outside.0 (nothing (λ e. absurd (false≢true e)))
  closes c (updates g) = rw around_outside.1 (nothing (λ e. absurd (false≢true e)))
  closes c (update (members h)) = rw around_outside.2 (updates (λ e. absurd (false≢true e)))
  closes {w} c (ids {p = place} {xs = xs} i l u) =
      let x = Array place (items_before xs no_item) true in
      let q = list_put (of_ids i) a long o given place l.few l.held in
      rw (ids_around i, l.count)
      (update (members (value_held x (kept_beside AnUpdate w u.a_member q.agree) refl (ids_stored i (put_hand w o (length xs) given a) x q.stored) u)))
  closes {w} c (part {kind = kind} p (members {place = place} {hs = hs} h) u) =
      let x = Object place (members_before hs no_member) true in
      rw (part_around p, part_silent p o items given (store a.numbers a.texts))
      (update (members (value_held x (kept_beside AnUpdate w u.a_member (agree_self (off (mine w)) a)) refl (part_held p a place hs h (c.of_part kind p)) u)))
  closes {w} c (fields {v = v} {p = place} {kind = kind} {xs = xs} f p l n u) =
      let x = Array place (items_before xs no_item) true in
      let q = list_put (of_fields f) a long o given place l.few l.held in
      let d = field_there f p in
      rw (fields_around f p, l.count)
      (part p (members (value_held x (kept_beside kind w n.a_member q.agree) refl (fields_stored f (put_hand w o (length xs) given a) x q.stored) n))
      (awaits_kept AnUpdate (kept_update v w d.list.top q.agree) refl u))
  closes {w} c (field {w = list} {v = v} {room = room} {each = each} {kind = kind} {xs = xs} f p (members {place = place} {hs = hs} h) k few l n u) =
      let x = Object place (members_before hs no_member) true in
      let q = element_put f a long o given place hs h (c.of_field list room each kind f) marked xs few l in
      let d = field_there f p in
      rw (field_around f, k)
      (fields {xs = x ∷ xs} f p (record { count = refl; few = rw (field_room f) few; held = q.held; item = λ e. absurd (false≢true e) })
      (awaits_kept kind (kept_part p list w d.mid q.agree) refl n)
      (awaits_kept AnUpdate (kept_update v w d.top.top q.agree) refl u))
