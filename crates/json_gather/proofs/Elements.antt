-- An element of a list, when it is closed, and a list that is closed: what is stored, and what stays.
use Prim.Native.Nat.{ℕ, suc, ◌+◌, ◌-◌, ◌*◌, ◌%◌, ◌≤◌, ◌<◌}
use mathlib.Core.Path.{◌≡◌, refl, ap, ◌∙◌}
use mathlib.Core.Bool.{Bool, true, false, cond}
use mathlib.Core.List.{List, ◌∷◌}
use mathlib.Core.Option.{none, some}
use native.Mathlib.Omega.{arith}
use borrow.Author.Tests.{eq-eqb}
use lib.Dec.{eqb}
use lib.ListN.{length}
use lib.Seq.{sets}
use Rattle.json_rule.specs.Lexemes.{Lexeme, minus}
use Rattle.json_rule.specs.Tree.{Json, Scalar, Array, Object, no_item, no_member}
use Rattle.json_rule.specs.Members.{members_in}
use Rattle.json_rule.specs.Records.{field_of, sort_field_of, partition_field_of, field_offer, partition_offer}
use Rattle.json_rule.specs.Shapes.{Kind, AField, ASortField, APartitionField, Shape}
use Rattle.json_judge.specs.Sending.{Held, items_before, members_before}
use Rattle.json_members.specs.Spots.{item_at}
use Rattle.json_members.specs.Model.{Told}
use Rattle.json_store.specs.Numbers.{put_number, magnitude_at, negative_at, number_at, narrow_at, copied}
use Rattle.json_store.specs.Puts.{Store, store, part, field_bytes, partition_bytes, last_of, ids_at, put_id, put_field, put_sort_field, put_partition_id, put_partition, is_silent, put_done_in}
use Rattle.json_store.specs.Made.{sort_field_in, partition_id_in}
use Rattle.json_store.proofs.Kept.{put_length, magnitude_put, negative_put, magnitude_other, negative_other}
use Rattle.json_store.proofs.Stores.{part_length, part_before, part_same}
use Rattle.json_stands.proofs.Marked.{is_marked}
use Rattle.json_stands.proofs.Open.{Ids, snapshot_ids, schema_ids, spec_ids, Fields, schema_fields, order_fields, spec_fields}
use Rattle.json_gather.proofs.Owners.{owner_of, Hand, Agree, off}
use Rattle.json_gather.proofs.Claims.{NumberStored, ElementHeld, id, field, sort_field, partition_field, ListHeld, no_element, element, room_at, ListStored, Complete}
use Rattle.json_gather.proofs.Keeping.{owner_below, owner_ids, owner_sorts, owner_partitions, number_kept, list_held_kept}
use Rattle.json_gather.proofs.Holds.{AllHeld}
use Rattle.json_gather.proofs.Changes.{with_numbers, with_texts, agree_then, put_agrees, sets_agree}
use Rattle.json_gather.proofs.Right.{RightNumber}
use Rattle.json_gather.proofs.Values.{mine, put_hand, Long, number_stored}
use Rattle.json_gather.proofs.Fields.{field_offered, sort_source, sort_direction, sort_nulls, partition_id, partition_offered}

-- an element is stored behind the others, and all else stays
pub record ElementPut (a b : Hand) (list item : ℕ) (xs : List Json) (x : Json) : Type 0 where
  pub agree : Agree (off (mine item)) a b
  pub held : ListHeld b list (x ∷ xs)

-- ---- ids

last_of_lem : (n : ℕ) → n < 16 → (suc n - 1) % 16 ≡ n
last_of_lem n h = omega arith

id_done : {w : ℕ} {each : Shape} (n : ℕ) (t : Told) (given : Bool) (s : Store) → Ids w each → n < 16
    → put_done_in (item_at w) t (suc n) given s ≡ store (put_number (ids_at (item_at w) + n) (eqb t.head minus) t.magnitude s.numbers) s.texts
unfolding put_done_in is_silent put_id last_of item_at
id_done n t given s snapshot_ids h = rw (last_of_lem n h)
id_done n t given s schema_ids h = rw (last_of_lem n h)
id_done n t given s spec_ids h = rw (last_of_lem n h)

pub id_is : {a : Hand} {v i : ℕ} {each : Shape} {x : Json} → Ids v each → ElementHeld a v i x → NumberStored a.numbers (ids_at (item_at v) + i) each x
id_is snapshot_ids (id snapshot_ids s) = s
id_is schema_ids (id schema_ids s) = s
id_is spec_ids (id spec_ids s) = s

ids_below : {w : ℕ} {each : Shape} → Ids w each → (n : ℕ) → n < 16 → ids_at (item_at w) + n < 152
unfolding item_at ids_at
ids_below snapshot_ids n h = omega arith
ids_below schema_ids n h = omega arith
ids_below spec_ids n h = omega arith

item_self : {w : ℕ} {each : Shape} → Ids w each → off (mine (item_at w)) (item_at w) ≡ false
unfolding item_at
item_self snapshot_ids = refl
item_self schema_ids = refl
item_self spec_ids = refl

module _ {w : ℕ} {each : Shape} (i : Ids w each) (a : Hand) (negative : Bool) (m : ℕ) where
  abbrev id_put : ℕ → Hand
  id_put n = with_numbers (put_number (ids_at (item_at w) + n) negative m a.numbers) a

  id_before : (n : ℕ) {xs : List Json} → length xs ≤ n → ListHeld a w xs → ListHeld (id_put n) w xs
  id_before n h no_element = no_element
  id_before n h (element {xs = xs} e l) =
      let apart : ids_at (item_at w) + length xs ≡ ids_at (item_at w) + n → ⊥ = λ q. omega arith in
      element
      (id i (number_kept (magnitude_other (ids_at (item_at w) + n) negative m a.numbers (ids_at (item_at w) + length xs) apart) (negative_other (ids_at (item_at w) + n) negative m a.numbers (ids_at (item_at w) + length xs) apart) (id_is i e)))
      (id_before n (omega arith) l)

module _ {w : ℕ} {each : Shape} (i : Ids w each) (a : Hand) (long : Long a) (o : Told) (given : Bool) (t : Lexeme) (heads : o.head ≡ t.head) (n : RightNumber each o.magnitude t) {xs : List Json} (few : length xs < 16) (l : ListHeld a w xs) where
  pub id_put_lem : ElementPut a (put_hand (item_at w) o (suc (length xs)) given a) w (item_at w) xs (Scalar t)
  id_put_lem =
      rw (id_done (length xs) o given (store a.numbers a.texts) i few, heads)
      (record {
        agree = put_agrees (off (mine (item_at w))) a (ids_at (item_at w) + length xs) (eqb t.head minus) o.magnitude (rw (owner_ids (length xs) i few) (item_self i));
        held = element (id i (number_stored a.numbers (ids_at (item_at w) + length xs) each o.magnitude t (ids_below i (length xs) few) long.numbers n)) (id_before i a (eqb t.head minus) o.magnitude (length xs) (omega arith) l);
      })

-- ---- fields of a schema

last_of_fields : (n : ℕ) → n < 32 → (suc n - 1) % 32 ≡ n
last_of_fields n h = omega arith

field_done : (n : ℕ) (t : Told) (given : Bool) (s : Store) → n < 32 → put_done_in 39 t (suc n) given s ≡ store s.numbers (sets s.texts (179 + n * 38) (field_bytes s))
unfolding put_done_in is_silent put_field last_of
field_done n t given s h = rw (last_of_fields n h)

field_size : (s : Store) → length (field_bytes s) ≡ 38
field_size s = ap (λ (n : ℕ). suc (suc (suc (suc (suc n))))) (part_length 146 33 s.texts)

field_is : {a : Hand} {i : ℕ} {x : Json} → ElementHeld a 38 i x → part (179 + i * 38) 38 a.texts ≡ field_offer (field_of (members_in x))
field_is (field e) = e
field_is {a = a} {i = i} (id {each = each} x11 _) = elim x11 [ ]

module _ (a : Hand) (bytes : List ℕ) where
  field_before : (n : ℕ) {xs : List Json} → length xs ≤ n → ListHeld a 38 xs → ListHeld (with_texts (sets a.texts (179 + n * 38) bytes) a) 38 xs
  field_before n h no_element = no_element
  field_before n h (element {xs = xs} e l) = element (field (part_before a.texts (179 + n * 38) bytes (179 + length xs * 38) 38 (omega arith) ∙ field_is e)) (field_before n (omega arith) l)

module _ (a : Hand) (long : Long a) (o : Told) (given : Bool) (place : ℕ) (hs : List Held) (held : AllHeld AField a hs) (complete : Complete AField a.marks) {xs : List Json} (few : length xs < 32) (l : ListHeld a 38 xs) where
  pub field_put : ElementPut a (put_hand 39 o (suc (length xs)) given a) 38 39 xs (Object place (members_before hs no_member) true)
  field_put =
      let s = store a.numbers a.texts in
      rw (field_done (length xs) o given s few)
      (record {
        agree = sets_agree (off (mine 39)) a 39 (length xs * 38) (field_bytes s) refl (rw (field_size s) (omega arith)) refl;
        held =
            element
            (field (part_same a.texts (179 + length xs * 38) (field_bytes s) 38 (rw (field_size s) (omega (arith, long.texts))) (field_size s) ∙ field_offered a hs held complete))
            (field_before a (field_bytes s) (length xs) (omega arith) l);
      })

-- ---- fields of a sort order

last_of_eight : (n : ℕ) → n < 8 → (suc n - 1) % 8 ≡ n
last_of_eight n h = omega arith

-- the three numbers, one after the other
module _ (numbers : List ℕ) (n : ℕ) where
  abbrev sorted1 : List ℕ
  sorted1 = copied 48 (112 + n * 3) numbers

  abbrev sorted2 : List ℕ
  sorted2 = copied 49 (112 + n * 3 + 1) sorted1

  abbrev sorted3 : List ℕ
  sorted3 = copied 50 (112 + n * 3 + 2) sorted2

sort_done : (n : ℕ) (t : Told) (given : Bool) (s : Store) → n < 8 → put_done_in 46 t (suc n) given s ≡ store (sorted3 s.numbers n) s.texts
unfolding put_done_in is_silent put_sort_field last_of
sort_done n t given s h = rw (last_of_eight n h)

-- a number that is copied to another place
module _ (numbers : List ℕ) (from to : ℕ) (h : to < 152) (long : length numbers ≡ 304) where
  copied_magnitude : magnitude_at (copied from to numbers) to ≡ magnitude_at numbers from
  copied_magnitude = magnitude_put to (negative_at numbers from) (magnitude_at numbers from) numbers h long

  copied_negative : negative_at (copied from to numbers) to ≡ negative_at numbers from
  copied_negative = negative_put to (negative_at numbers from) (magnitude_at numbers from) numbers h long

  copied_number : number_at (copied from to numbers) to ≡ number_at numbers from
  unfolding number_at
  copied_number = rw (copied_magnitude, copied_negative)

copied_long : (numbers : List ℕ) (from to : ℕ) → length (copied from to numbers) ≡ length numbers
copied_long numbers from to = put_length to (negative_at numbers from) (magnitude_at numbers from) numbers

other_magnitude : (numbers : List ℕ) (from to i : ℕ) → (i ≡ to → ⊥) → magnitude_at (copied from to numbers) i ≡ magnitude_at numbers i
other_magnitude numbers from to i n = magnitude_other to (negative_at numbers from) (magnitude_at numbers from) numbers i n

other_number : (numbers : List ℕ) (from to i : ℕ) → (i ≡ to → ⊥) → number_at (copied from to numbers) i ≡ number_at numbers i
unfolding number_at
other_number numbers from to i n =
    rw (magnitude_other to (negative_at numbers from) (magnitude_at numbers from) numbers i n, negative_other to (negative_at numbers from) (magnitude_at numbers from) numbers i n)

sort_is : {a : Hand} {i : ℕ} {x : Json} → ElementHeld a 45 i x → sort_field_in a.numbers i ≡ sort_field_of (members_in x)
sort_is (sort_field e) = e
sort_is {a = a} {i = i} (id {each = each} x11 _) = elim x11 [ ]

module _ (numbers : List ℕ) (long : length numbers ≡ 304) (n : ℕ) (few : n < 8) where
  sorted_source : number_at (sorted3 numbers n) (112 + n * 3) ≡ number_at numbers 48
  sorted_source =
      other_number (sorted2 numbers n) 50 (112 + n * 3 + 2) (112 + n * 3) (λ e. omega arith)
      ∙ (other_number (sorted1 numbers n) 49 (112 + n * 3 + 1) (112 + n * 3) (λ e. omega arith) ∙ copied_number numbers 48 (112 + n * 3) (omega arith) long)

  sorted_direction : magnitude_at (sorted3 numbers n) (112 + n * 3 + 1) ≡ magnitude_at numbers 49
  sorted_direction =
      other_magnitude (sorted2 numbers n) 50 (112 + n * 3 + 2) (112 + n * 3 + 1) (λ e. omega arith)
      ∙ (copied_magnitude (sorted1 numbers n) 49 (112 + n * 3 + 1) (omega arith) (copied_long numbers 48 (112 + n * 3) ∙ long) ∙ other_magnitude numbers 48 (112 + n * 3) 49 (λ e. omega arith))

  sorted_nulls : magnitude_at (sorted3 numbers n) (112 + n * 3 + 2) ≡ magnitude_at numbers 50
  sorted_nulls =
      copied_magnitude (sorted2 numbers n) 50 (112 + n * 3 + 2) (omega arith) (copied_long (sorted1 numbers n) 49 (112 + n * 3 + 1) ∙ (copied_long numbers 48 (112 + n * 3) ∙ long))
      ∙ (other_magnitude (sorted1 numbers n) 49 (112 + n * 3 + 1) 50 (λ e. omega arith) ∙ other_magnitude numbers 48 (112 + n * 3) 50 (λ e. omega arith))

  sorted_before : (i : ℕ) → i < n → sort_field_in (sorted3 numbers n) i ≡ sort_field_in numbers i
  unfolding sort_field_in
  sorted_before i h =
      rw (
        other_number (sorted2 numbers n) 50 (112 + n * 3 + 2) (112 + i * 3) (λ e. omega arith),
        other_number (sorted1 numbers n) 49 (112 + n * 3 + 1) (112 + i * 3) (λ e. omega arith),
        other_number numbers 48 (112 + n * 3) (112 + i * 3) (λ e. omega arith),
        other_magnitude (sorted2 numbers n) 50 (112 + n * 3 + 2) (112 + i * 3 + 1) (λ e. omega arith),
        other_magnitude (sorted1 numbers n) 49 (112 + n * 3 + 1) (112 + i * 3 + 1) (λ e. omega arith),
        other_magnitude numbers 48 (112 + n * 3) (112 + i * 3 + 1) (λ e. omega arith),
        other_magnitude (sorted2 numbers n) 50 (112 + n * 3 + 2) (112 + i * 3 + 2) (λ e. omega arith),
        other_magnitude (sorted1 numbers n) 49 (112 + n * 3 + 1) (112 + i * 3 + 2) (λ e. omega arith),
        other_magnitude numbers 48 (112 + n * 3) (112 + i * 3 + 2) (λ e. omega arith),
      )

module _ (a : Hand) (long : Long a) (n : ℕ) (few : n < 8) where
  sort_before : {xs : List Json} → length xs ≤ n → ListHeld a 45 xs → ListHeld (with_numbers (sorted3 a.numbers n) a) 45 xs
  sort_before h no_element = no_element
  sort_before h (element {xs = xs} e l) = element (sort_field (sorted_before a.numbers long.numbers n few (length xs) (omega arith) ∙ sort_is e)) (sort_before (omega arith) l)

  sort_owner : (k : ℕ) → k < 24 → off (mine 46) (owner_of (112 + k)) ≡ false
  sort_owner k h = rw (owner_sorts k h)

  sort_agrees : Agree (off (mine 46)) a (with_numbers (sorted3 a.numbers n) a)
  sort_agrees =
      let p = off (mine 46) in
      let one = sorted1 a.numbers n in
      let two = sorted2 a.numbers n in
      let s1 : 112 + n * 3 + 1 ≡ 112 + (n * 3 + 1) = omega arith in
      let s2 : 112 + n * 3 + 2 ≡ 112 + (n * 3 + 2) = omega arith in
      agree_then p (put_agrees p a (112 + n * 3) (negative_at a.numbers 48) (magnitude_at a.numbers 48) (sort_owner (n * 3) (omega arith)))
      (agree_then p (put_agrees p (with_numbers one a) (112 + n * 3 + 1) (negative_at one 49) (magnitude_at one 49) (rw s1 (sort_owner (n * 3 + 1) (omega arith))))
      (put_agrees p (with_numbers two a) (112 + n * 3 + 2) (negative_at two 50) (magnitude_at two 50) (rw s2 (sort_owner (n * 3 + 2) (omega arith)))))

module _ (a : Hand) (long : Long a) (o : Told) (given : Bool) (place : ℕ) (hs : List Held) (held : AllHeld ASortField a hs) (complete : Complete ASortField a.marks) {xs : List Json} (few : length xs < 8) (l : ListHeld a 45 xs) where
  sort_made : sort_field_in (sorted3 a.numbers (length xs)) (length xs) ≡ sort_field_of (members_before hs no_member)
  unfolding sort_field_in
  sort_made =
      let n = length xs in
      rw (sorted_source a.numbers long.numbers n few, sorted_direction a.numbers long.numbers n few, sorted_nulls a.numbers long.numbers n few, sort_source a hs held complete, sort_direction a hs held complete, sort_nulls a hs held complete)

  pub sort_field_put : ElementPut a (put_hand 46 o (suc (length xs)) given a) 45 46 xs (Object place (members_before hs no_member) true)
  sort_field_put =
      rw (sort_done (length xs) o given (store a.numbers a.texts) few)
      (record { agree = sort_agrees a long (length xs) few; held = element (sort_field sort_made) (sort_before a long (length xs) few (omega arith) l) })

-- ---- fields of a partition spec

partition_done : (n : ℕ) (t : Told) (given : Bool) (s : Store) → n < 8
    → put_done_in 53 t (suc n) given s ≡ store (put_number (144 + n) false (cond given 1 0) (copied 55 (136 + n) s.numbers)) (sets s.texts (1395 + n * 42) (partition_bytes s))
unfolding put_done_in is_silent put_partition put_partition_id last_of
partition_done n t given s h = rw (last_of_eight n h)

partition_size : (s : Store) → length (partition_bytes s) ≡ 42
partition_size s = ap (λ (n : ℕ). suc (suc (suc (suc (suc (suc (suc (suc (suc n))))))))) (part_length 146 33 s.texts)

record PartitionIs (a : Hand) (i : ℕ) (x : Json) : Type 0 where
  id_said : partition_id_in a.numbers i ≡ (partition_field_of (members_in x)).id
  bytes_said : part (1395 + i * 42) 42 a.texts ≡ partition_offer (partition_field_of (members_in x))

partition_is : {a : Hand} {i : ℕ} {x : Json} → ElementHeld a 52 i x → PartitionIs a i x
partition_is (partition_field e t) = record { id_said = e; bytes_said = t }
partition_is {a = a} {i = i} (id {each = each} x11 _) = elim x11 [ ]

module _ (a : Hand) (long : Long a) (given : Bool) (n : ℕ) (few : n < 8) (bytes : List ℕ) where
  abbrev ids_put : List ℕ
  ids_put = put_number (144 + n) false (cond given 1 0) (copied 55 (136 + n) a.numbers)

  abbrev partition_put : Hand
  partition_put = record { kind = a.kind; marks = a.marks; numbers = ids_put; texts = sets a.texts (1395 + n * 42) bytes }

  other_narrow : (i : ℕ) → (i ≡ 136 + n → ⊥) → (i ≡ 144 + n → ⊥) → narrow_at ids_put i ≡ narrow_at a.numbers i
  unfolding number_at
  other_narrow i e f =
      let one = copied 55 (136 + n) a.numbers in
      rw (magnitude_other (144 + n) false (cond given 1 0) one i f, negative_other (144 + n) false (cond given 1 0) one i f, other_magnitude a.numbers 55 (136 + n) i e, negative_other (136 + n) (negative_at a.numbers 55) (magnitude_at a.numbers 55) a.numbers i e)

  ids_before : (i : ℕ) → i < n → partition_id_in ids_put i ≡ partition_id_in a.numbers i
  unfolding partition_id_in
  ids_before i h =
      let one = copied 55 (136 + n) a.numbers in
      rw (magnitude_other (144 + n) false (cond given 1 0) one (144 + i) (λ e. omega arith), other_magnitude a.numbers 55 (136 + n) (144 + i) (λ e. omega arith), other_narrow (136 + i) (λ e. omega arith) (λ e. omega arith))

  sign : (b : Bool) → eqb (cond b 1 0) 1 ≡ b
  sign true = refl
  sign false = refl

  id_made : partition_id_in ids_put n ≡ cond given (some (narrow_at a.numbers 55)) none
  unfolding partition_id_in number_at
  id_made =
      let one = copied 55 (136 + n) a.numbers in
      let l : length one ≡ 304 = copied_long a.numbers 55 (136 + n) ∙ long.numbers in
      rw (magnitude_put (144 + n) false (cond given 1 0) one (omega arith) l, sign given, magnitude_other (144 + n) false (cond given 1 0) one (136 + n) (λ e. omega arith), negative_other (144 + n) false (cond given 1 0) one (136 + n) (λ e. omega arith), copied_magnitude a.numbers 55 (136 + n) (omega arith) long.numbers, copied_negative a.numbers 55 (136 + n) (omega arith) long.numbers)

  partition_before : {xs : List Json} → length xs ≤ n → ListHeld a 52 xs → ListHeld partition_put 52 xs
  partition_before h no_element = no_element
  partition_before h (element {xs = xs} e l) =
      element
      (partition_field (ids_before (length xs) (omega arith) ∙ (partition_is e).id_said) (part_before a.texts (1395 + n * 42) bytes (1395 + length xs * 42) 42 (omega arith) ∙ (partition_is e).bytes_said))
      (partition_before (omega arith) l)

  partition_agrees : length bytes ≡ 42 → Agree (off (mine 53)) a partition_put
  partition_agrees z =
      let p = off (mine 53) in
      let one = copied 55 (136 + n) a.numbers in
      let s1 : 144 + n ≡ 136 + (8 + n) = omega arith in
      agree_then p (put_agrees p a (136 + n) (negative_at a.numbers 55) (magnitude_at a.numbers 55) (rw (owner_partitions n)))
      (agree_then p (put_agrees p (with_numbers one a) (144 + n) false (cond given 1 0) (rw (s1, owner_partitions (8 + n))))
      (sets_agree p (with_numbers ids_put a) 53 (n * 42) bytes refl (rw z (omega arith)) refl))

module _ (a : Hand) (long : Long a) (o : Told) (given : Bool) (place : ℕ) (hs : List Held) (held : AllHeld APartitionField a hs) (complete : Complete APartitionField a.marks) (marked : given ≡ is_marked a.marks 55) {xs : List Json} (few : length xs < 8) (l : ListHeld a 52 xs) where
  pub partition_field_put : ElementPut a (put_hand 53 o (suc (length xs)) given a) 52 53 xs (Object place (members_before hs no_member) true)
  partition_field_put =
      let s = store a.numbers a.texts in
      let n = length xs in
      rw (partition_done n o given s few)
      (record {
        agree = partition_agrees a long given n few (partition_bytes s) (partition_size s);
        held =
            element
            (partition_field (id_made a long given n few (partition_bytes s) ∙ (ap (λ (b : Bool). cond b (some (narrow_at a.numbers 55)) none) marked ∙ partition_id a hs held complete))
            (part_same a.texts (1395 + n * 42) (partition_bytes s) 42 (rw (partition_size s) (omega (arith, long.texts))) (partition_size s) ∙ partition_offered a hs held complete))
            (partition_before a long given n few (partition_bytes s) (omega arith) l);
      })

-- ---- a list that is closed

-- one of ids, or one of fields
pub data IsList : ℕ → Type 0 where
  of_ids : {w : ℕ} {each : Shape} → Ids w each → IsList w
  of_fields : {w room x : ℕ} {each kind : Kind} → Fields w room x each kind → IsList w

count_done : {w : ℕ} → IsList w → (t : Told) (items : ℕ) (given : Bool) (s : Store) → put_done_in w t items given s ≡ store (put_number w false items s.numbers) s.texts
unfolding put_done_in is_silent
count_done (of_ids snapshot_ids) t items given s = refl
count_done (of_ids schema_ids) t items given s = refl
count_done (of_ids spec_ids) t items given s = refl
count_done (of_fields schema_fields) t items given s = refl
count_done (of_fields order_fields) t items given s = refl
count_done (of_fields spec_fields) t items given s = refl

list_below : {w : ℕ} → IsList w → w < 58
list_below (of_ids snapshot_ids) = omega arith
list_below (of_ids schema_ids) = omega arith
list_below (of_ids spec_ids) = omega arith
list_below (of_fields schema_fields) = omega arith
list_below (of_fields order_fields) = omega arith
list_below (of_fields spec_fields) = omega arith

item_apart : {w : ℕ} → IsList w → off (mine w) (item_at w) ≡ true
unfolding item_at
item_apart (of_ids snapshot_ids) = refl
item_apart (of_ids schema_ids) = refl
item_apart (of_ids spec_ids) = refl
item_apart (of_fields schema_fields) = refl
item_apart (of_fields order_fields) = refl
item_apart (of_fields spec_fields) = refl

pub record ListPut (a b : Hand) (w : ℕ) (x : Json) : Type 0 where
  pub agree : Agree (off (mine w)) a b
  pub stored : ListStored b w x

module _ {w : ℕ} (i : IsList w) (a : Hand) (long : Long a) (o : Told) (given : Bool) (place : ℕ) {xs : List Json} (few : length xs ≤ room_at w) (l : ListHeld a w xs) where
  pub list_put : ListPut a (put_hand w o (length xs) given a) w (Array place (items_before xs no_item) true)
  list_put =
      let h = list_below i in
      let g = put_agrees (off (mine w)) a w false (length xs) (rw (owner_below w (omega arith), eq-eqb w w refl)) in
      rw (count_done i o (length xs) given (store a.numbers a.texts))
      (record {
        agree = g;
        stored =
            record {
              elements = xs;
              is = refl;
              few = few;
              kept = magnitude_put w false (length xs) a.numbers (omega arith) long.numbers;
              held = list_held_kept (off (mine w)) g (item_apart i) few l;
            };
      })
