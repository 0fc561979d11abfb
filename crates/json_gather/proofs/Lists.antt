-- A list that is stored, as the update is made of it: its numbers, its records, and the bytes that they offer.
use Prim.Native.Nat.{ℕ, zero, suc, ◌+◌, ◌*◌, ◌-◌, ◌≤◌, ◌<◌}
use native.Mathlib.Nat.{add-zero, zero-add, add-suc, suc-add, zero-mul, suc-mul}
use mathlib.Core.Path.{◌≡◌, refl, sym, ap, ◌∙◌}
use mathlib.Core.List.{List, [], ◌∷◌, ◌++◌, map, append-nil, append_assoc}
use mathlib.Core.Option.{Option}
use native.Mathlib.Omega.{arith}
use borrow.Author.Tests.{le-leb, ltb-true, ltb-false}
use borrow.Table.Steps.{cases}
use lib.Dec.{ltb}
use lib.IntN.{ℤ, pos}
use lib.ListN.{length, get_or, length-append, get_or-append}
use lib.Seq.{ext_get_or, get_or-append-add}
use Rattle.rules.specs.Words.{or_else}
use Rattle.rules.specs.Register.{PartitionField}
use Rattle.json_rule.specs.Tree.{Json, Items, no_item, item, Members}
use Rattle.json_rule.specs.Members.{number_in, items_in, members_in}
use Rattle.json_rule.specs.Records.{numbers_of, records_of, field_of, sort_field_of, partition_field_of, field_offer, partition_offer, all_bytes}
use Rattle.json_judge.specs.Sending.{items_before}
use Rattle.json_members.specs.Spots.{row_at, item_at}
use Rattle.json_store.specs.Numbers.{magnitude_at, number_at, narrow_at, count_at}
use Rattle.json_store.specs.Puts.{part, ids_at}
use Rattle.json_store.specs.Made.{counted_up, each, partition_id_in, sort_field_in, snapshot_ids_in, schema_ids_in, spec_ids_in}
use Rattle.json_store.specs.Stored.{FieldsHeld, PartitionsHeld}
use Rattle.json_store.proofs.Stores.{part_length, part_at}
use Rattle.json_stands.proofs.Open.{snapshot_ids, schema_ids, spec_ids}
use Rattle.json_gather.proofs.Owners.{Hand}
use Rattle.json_gather.proofs.Claims.{id, field, sort_field, partition_field, ListHeld, no_element, element, ListStored}
use Rattle.json_gather.proofs.Widths.{wide_stored, narrow_stored}
use Rattle.json_gather.proofs.Elements.{id_is}

-- ---- in their order

-- so many are counted, and one more
counted_more : (i n : ℕ) → counted_up i (suc n) ≡ counted_up i n ++ ((i + n) ∷ [])
counted_more i zero = ap (λ (k : ℕ). k ∷ []) (sym (add-zero i))
counted_more i (suc n) = ap (λ (l : List ℕ). i ∷ l) (counted_more (suc i) n ∙ ap (λ (k : ℕ). counted_up (suc i) n ++ (k ∷ [])) (suc-add i n ∙ sym (add-suc i n)))

module _ {A : Type 0} where
  -- of elements, the last first
  abbrev listed : (Json → A) → List Json → List A
  listed f [] = []
  listed f (x ∷ xs) = listed f xs ++ (f x ∷ [])

  listed_length : (f : Json → A) (xs : List Json) → length (listed f xs) ≡ length xs
  listed_length f [] = refl
  listed_length f (x ∷ xs) = length-append (listed f xs) (f x ∷ []) ∙ (ap (λ (n : ℕ). n + 1) (listed_length f xs) ∙ plus_one (length xs))
    where
      plus_one : (n : ℕ) → n + 1 ≡ suc n
      plus_one n = omega arith

  map_append : (f : ℕ → A) (l m : List ℕ) → map f (l ++ m) ≡ map f l ++ map f m
  map_append f [] m = refl
  map_append f (x ∷ l) m = ap (λ (r : List A). f x ∷ r) (map_append f l m)

  each_more : (f : ℕ → A) (n : ℕ) → each f (suc n) ≡ each f n ++ (f n ∷ [])
  each_more f n = ap (map f) (counted_more 0 n) ∙ (map_append f (counted_up 0 n) ((0 + n) ∷ []) ∙ ap (λ (k : ℕ). map f (counted_up 0 n) ++ (f k ∷ [])) (zero-add n))

  -- what is read by the place of an element is what the element says
  data Says (f : ℕ → A) (g : Json → A) : List Json → Type 0 where
    none_said : Says f g []
    also_said : {x : Json} {xs : List Json} → f (length xs) ≡ g x → Says f g xs → Says f g (x ∷ xs)

  each_says : (f : ℕ → A) (g : Json → A) {xs : List Json} → Says f g xs → each f (length xs) ≡ listed g xs
  each_says f g none_said = refl
  each_says f g (also_said {x = x} {xs = xs} e s) = each_more f (length xs) ∙ (ap (λ (l : List A). l ++ (f (length xs) ∷ [])) (each_says f g s) ∙ ap (λ (y : A). listed g xs ++ (y ∷ [])) e)

  records_listed : (make : Members → A) (xs : List Json) (ys : Items) → records_of make (items_before xs ys) ≡ listed (λ x. make (members_in x)) xs ++ records_of make ys
  records_listed make [] ys = refl
  records_listed make (x ∷ xs) ys = records_listed make xs (item x ys) ∙ sym (append_assoc (listed (λ x. make (members_in x)) xs) (make (members_in x) ∷ []) (records_of make ys))

  records_are : (make : Members → A) (xs : List Json) → records_of make (items_before xs no_item) ≡ listed (λ x. make (members_in x)) xs
  records_are make xs = records_listed make xs no_item ∙ append-nil (listed (λ x. make (members_in x)) xs)

  bytes_append : (f : A → List ℕ) (l : List A) (y : A) → all_bytes f (l ++ (y ∷ [])) ≡ all_bytes f l ++ f y
  bytes_append f [] y = append-nil (f y)
  bytes_append f (x ∷ l) y = ap (λ (r : List ℕ). f x ++ r) (bytes_append f l y) ∙ sym (append_assoc (f x) (all_bytes f l) (f y))

map_listed : {A B : Type 0} (h : A → B) (g : Json → A) (xs : List Json) → map h (listed g xs) ≡ listed (λ x. h (g x)) xs
map_listed h g [] = refl
map_listed h g (x ∷ xs) = map_snoc (listed g xs) (g x) ∙ ap (λ l. l ++ (h (g x) ∷ [])) (map_listed h g xs)
  where
    map_snoc : (l : List _) (y : _) → map h (l ++ (y ∷ [])) ≡ map h l ++ (h y ∷ [])
    map_snoc [] y = refl
    map_snoc (z ∷ l) y = ap (λ r. h z ∷ r) (map_snoc l y)

abbrev said_number : Json → ℤ
said_number x = or_else (number_in x) (pos 0)

numbers_listed : (xs : List Json) (ys : Items) → numbers_of (items_before xs ys) ≡ listed said_number xs ++ numbers_of ys
numbers_listed [] ys = refl
numbers_listed (x ∷ xs) ys = numbers_listed xs (item x ys) ∙ sym (append_assoc (listed said_number xs) (said_number x ∷ []) (numbers_of ys))

numbers_are : (xs : List Json) → numbers_of (items_before xs no_item) ≡ listed said_number xs
numbers_are xs = numbers_listed xs no_item ∙ append-nil (listed said_number xs)

-- ---- how many

count_is : (room v : ℕ) (numbers : List ℕ) (n : ℕ) → magnitude_at numbers v ≡ n → n ≤ room → count_at room numbers v ≡ n
unfolding count_at
count_is room v numbers n e h = rw (e, le-leb n room h)

-- ---- ids

wide_says : {a : Hand} {xs : List Json} → ListHeld a 8 xs → Says (λ i. number_at a.numbers (64 + i)) said_number xs
unfolding item_at ids_at
wide_says no_element = none_said
wide_says (element {x = x} e l) = also_said (sym (ap (λ (z : Option ℤ). or_else z (pos 0)) (wide_stored (id_is snapshot_ids e)))) (wide_says l)

schema_says : {a : Hand} {xs : List Json} → ListHeld a 18 xs → Says (λ i. narrow_at a.numbers (80 + i)) said_number xs
unfolding item_at ids_at
schema_says no_element = none_said
schema_says (element {x = x} e l) = also_said (sym (ap (λ (z : Option ℤ). or_else z (pos 0)) (narrow_stored (id_is schema_ids e)))) (schema_says l)

spec_says : {a : Hand} {xs : List Json} → ListHeld a 23 xs → Says (λ i. narrow_at a.numbers (96 + i)) said_number xs
unfolding item_at ids_at
spec_says no_element = none_said
spec_says (element {x = x} e l) = also_said (sym (ap (λ (z : Option ℤ). or_else z (pos 0)) (narrow_stored (id_is spec_ids e)))) (spec_says l)

module _ {a : Hand} {x : Json} where
  -- read so many by their places
  read_so : (room v : ℕ) (f : ℕ → ℤ) (l : ListStored a v x) → length l.elements ≤ room → Says f said_number l.elements → each f (count_at room a.numbers v) ≡ numbers_of (items_in x)
  read_so room v f l h s =
      ap (each f) (count_is room v a.numbers (length l.elements) l.kept h)
      ∙ (each_says f said_number s ∙ sym (ap numbers_of l.is ∙ numbers_are l.elements))

  pub snapshot_ids_made : ListStored a 8 x → snapshot_ids_in a.numbers ≡ numbers_of (items_in x)
  unfolding snapshot_ids_in row_at
  snapshot_ids_made l = read_so 16 8 (λ i. number_at a.numbers (64 + i)) l l.few (wide_says l.held)

  pub schema_ids_made : ListStored a 18 x → schema_ids_in a.numbers ≡ numbers_of (items_in x)
  unfolding schema_ids_in row_at
  schema_ids_made l = read_so 16 18 (λ i. narrow_at a.numbers (80 + i)) l l.few (schema_says l.held)

  pub spec_ids_made : ListStored a 23 x → spec_ids_in a.numbers ≡ numbers_of (items_in x)
  unfolding spec_ids_in row_at
  spec_ids_made l = read_so 16 23 (λ i. narrow_at a.numbers (96 + i)) l l.few (spec_says l.held)

-- ---- records

sort_says : {a : Hand} {xs : List Json} → ListHeld a 45 xs → Says (sort_field_in a.numbers) (λ x. sort_field_of (members_in x)) xs
sort_says no_element = none_said
sort_says (element (sort_field e) l) = also_said e (sort_says l)
sort_says {a = a} (element {xs = xs} (id x12 _) l) = elim x12 [ ]

partition_says : {a : Hand} {xs : List Json} → ListHeld a 52 xs → Says (partition_id_in a.numbers) (λ x. (partition_field_of (members_in x)).id) xs
partition_says no_element = none_said
partition_says (element (partition_field e b) l) = also_said e (partition_says l)
partition_says {a = a} (element {xs = xs} (id x12 _) l) = elim x12 [ ]

-- two stretches that follow each other
part_append : (p m n : ℕ) (l : List ℕ) → part p (m + n) l ≡ part p m l ++ part (p + m) n l
part_append p m n l =
    ext_get_or 0 (part p (m + n) l) (part p m l ++ part (p + m) n l)
    (part_length p (m + n) l ∙ sym (length-append (part p m l) (part (p + m) n l) ∙ both))
    (λ i h. let h' : i < m + n = rw (part_length p (m + n) l) at h in
    part_at p (m + n) l i h'
    ∙ sym
    (cases (ltb i m)
    (λ t. get_or-append (part p m l) (part (p + m) n l) 0 i (rw (part_length p m l) (ltb-true i m t)) ∙ part_at p m l i (ltb-true i m t))
    (λ f. let k = ltb-false i m f in behind i h' k)))
  where
    both : length (part p m l) + length (part (p + m) n l) ≡ m + n
    both = omega (arith, part_length p m l, part_length (p + m) n l)

    behind : (i : ℕ) → i < m + n → m ≤ i → get_or (part p m l ++ part (p + m) n l) i 0 ≡ get_or l (p + i) 0
    behind i h k =
        let e : i ≡ length (part p m l) + (i - m) = omega (arith, part_length p m l) in
        let q : p + m + (i - m) ≡ p + i = omega arith in
        ap (λ (x : ℕ). get_or (part p m l ++ part (p + m) n l) x 0) e
        ∙ (get_or-append-add (part p m l) (part (p + m) n l) (i - m) 0
        ∙ (part_at (p + m) n l (i - m) (omega arith) ∙ ap (λ (x : ℕ). get_or l x 0) q))

no_part : (p : ℕ) (l : List ℕ) → part p 0 l ≡ []
no_part p l = ext_get_or 0 (part p 0 l) [] (part_length p 0 l) (λ i h. absurd (omega (arith, part_length p 0 l)))

-- the bytes of one after the other
bytes_listed : {A : Type 0} (offer : A → List ℕ) (make : Json → A) (texts : List ℕ) (at size : ℕ) (xs : List Json) → Says (λ i. part (at + i * size) size texts) (λ x. offer (make x)) xs
    → part at (length xs * size) texts ≡ all_bytes offer (listed make xs)
bytes_listed offer make texts at size [] none_said = rw (zero-mul size) (no_part at texts)
bytes_listed offer make texts at size (x ∷ xs) (also_said e s) =
    ap (λ (n : ℕ). part at n texts) (suc-mul (length xs) size)
    ∙ (part_append at (length xs * size) size texts
    ∙ (ap (λ (l : List ℕ). l ++ part (at + length xs * size) size texts) (bytes_listed offer make texts at size xs s)
    ∙ (ap (λ (l : List ℕ). all_bytes offer (listed make xs) ++ l) e ∙ sym (bytes_append offer (listed make xs) (make x)))))

field_bytes_say : {a : Hand} {xs : List Json} → ListHeld a 38 xs → Says (λ i. part (179 + i * 38) 38 a.texts) (λ x. field_offer (field_of (members_in x))) xs
field_bytes_say no_element = none_said
field_bytes_say (element (field e) l) = also_said e (field_bytes_say l)
field_bytes_say {a = a} (element {xs = xs} (id x12 _) l) = elim x12 [ ]

partition_bytes_say : {a : Hand} {xs : List Json} → ListHeld a 52 xs → Says (λ i. part (1395 + i * 42) 42 a.texts) (λ x. partition_offer (partition_field_of (members_in x))) xs
partition_bytes_say no_element = none_said
partition_bytes_say (element (partition_field e b) l) = also_said b (partition_bytes_say l)
partition_bytes_say {a = a} (element {xs = xs} (id x12 _) l) = elim x12 [ ]

module _ {a : Hand} {x : Json} where
  fields_are : {A : Type 0} (make : Members → A) (v : ℕ) (l : ListStored a v x) → records_of make (items_in x) ≡ listed (λ y. make (members_in y)) l.elements
  fields_are make v l = ap (records_of make) l.is ∙ records_are make l.elements

  pub fields_made : ListStored a 38 x → FieldsHeld a.numbers a.texts x
  unfolding row_at
  fields_made l =
      let n = count_is 32 38 a.numbers (length l.elements) l.kept l.few in
      let r = fields_are field_of 38 l in
      record {
        count = n ∙ sym (ap length r ∙ listed_length (λ y. field_of (members_in y)) l.elements);
        offer =
            ap (λ (k : ℕ). part 179 (k * 38) a.texts) n
            ∙ (bytes_listed field_offer (λ y. field_of (members_in y)) a.texts 179 38 l.elements (field_bytes_say l.held) ∙ ap (all_bytes field_offer) (sym r));
      }

  pub sorts_made : ListStored a 45 x → each (sort_field_in a.numbers) (count_at 8 a.numbers 45) ≡ records_of sort_field_of (items_in x)
  unfolding row_at
  sorts_made l =
      ap (each (sort_field_in a.numbers)) (count_is 8 45 a.numbers (length l.elements) l.kept l.few)
      ∙ (each_says (sort_field_in a.numbers) (λ y. sort_field_of (members_in y)) (sort_says l.held) ∙ sym (fields_are sort_field_of 45 l))

  pub partitions_made : ListStored a 52 x → PartitionsHeld a.numbers a.texts x
  unfolding row_at
  partitions_made l =
      let n = count_is 8 52 a.numbers (length l.elements) l.kept l.few in
      let r = fields_are partition_field_of 52 l in
      record {
        ids =
            ap (each (partition_id_in a.numbers)) n
            ∙ (each_says (partition_id_in a.numbers) (λ y. (partition_field_of (members_in y)).id) (partition_says l.held)
            ∙ sym (ap (map (λ (f : PartitionField). f.id)) r ∙ map_listed (λ (f : PartitionField). f.id) (λ y. partition_field_of (members_in y)) l.elements));
        offer =
            ap (λ (k : ℕ). part 1395 (k * 42) a.texts) n
            ∙ (bytes_listed partition_offer (λ y. partition_field_of (members_in y)) a.texts 1395 42 l.elements (partition_bytes_say l.held) ∙ ap (all_bytes partition_offer) (sym r));
      }
