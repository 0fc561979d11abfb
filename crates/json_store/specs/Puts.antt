-- What a right value, a closed list or a closed field leaves behind.
use Rattle.std.specs.Prelude.{ℕ, zero, suc, ◌+◌, ◌-◌, ◌*◌, ◌%◌, Bool, true, false, cond, List, [], ◌∷◌, ◌++◌, eqb, get_or, take, drop, replicate, length}
use Rattle.std.proofs.lemmas.List.Edits.{sets}
use Rattle.json_rule.specs.Lexemes.{quote, minus}
use Rattle.json_rule.specs.Records.{four_bytes}
use Rattle.json_members.specs.Kept.{front}
use Rattle.json_members.specs.Words.{number_of, ref_words, type_words, direction_words, null_words}
use Rattle.json_members.specs.Transforms.{transform_in}
use Rattle.json_members.specs.Uuids.{uuid_byte}
use Rattle.json_members.specs.Slots.{seen_in}
use Rattle.json_members.specs.Model.{Told}
use Rattle.json_store.specs.Places.{buckets_at, snapshot_ids_at, schema_ids_at, spec_ids_at, sorts_at, partition_ids_at, given_at, uuid_at, location_at, ref_name_at, field_name_at, fields_at, partitions_at}
use Rattle.json_store.specs.Numbers.{put_number, low_at, byte_at, copied}

-- what is held: the numbers, and the texts
pub record Store : Type 0 where
  pub numbers : List ℕ
  pub texts : List ℕ

abbrev pub store : List ℕ → List ℕ → Store
store numbers texts = record { numbers = numbers; texts = texts }

-- ---- texts

-- so many bytes from a place on; 0 where there is none
abbrev pub part : ℕ → ℕ → List ℕ → List ℕ
part place n l = front n (drop place l)

-- bytes, and zeros behind them up to a capacity
abbrev pub filled : ℕ → List ℕ → List ℕ
filled room bs = take room (bs ++ replicate room 0)

-- a text's length and its bytes, from a place on
unfoldable pub put_text : ℕ → ℕ → List ℕ → ℕ → List ℕ → List ℕ
put_text place room kept len texts = sets texts place ((len % 256) ∷ filled room (front len kept))

-- so many of the bytes of a uuid, from one on
abbrev pub uuid_bytes : List ℕ → ℕ → ℕ → List ℕ
uuid_bytes kept i zero = []
uuid_bytes kept i (suc n) = uuid_byte kept i ∷ uuid_bytes kept (suc i) n

unfoldable pub put_uuid : List ℕ → List ℕ → List ℕ
put_uuid kept texts = sets texts uuid_at (uuid_bytes kept 0 16)

-- ---- values

unfoldable pub put_transform : List ℕ → ℕ → List ℕ → List ℕ
put_transform kept len numbers = put_number buckets_at false (transform_in (front len kept)).buckets (put_number 57 false (transform_in (front len kept)).kind numbers)

-- a word, as the number that a record has for it
unfoldable pub put_word : ℕ → List ℕ → ℕ → List ℕ → List ℕ
put_word spot kept len numbers =
    cond (eqb spot 10) (put_number spot false (number_of 0 ref_words (front len kept)) numbers)
    (cond (eqb spot 43) (put_number spot false (number_of 0 type_words (front len kept)) numbers)
    (cond (eqb spot 49) (put_number spot false (number_of 2 direction_words (front len kept)) numbers)
    (cond (eqb spot 50) (put_number spot false (number_of 2 null_words (front len kept)) numbers)
    (cond (eqb spot 57) (put_transform kept len numbers)
    numbers))))

-- a text at its spot
unfoldable pub put_string : ℕ → List ℕ → ℕ → Store → Store
put_string spot kept len s =
    cond (eqb spot 4) (store s.numbers (put_uuid kept s.texts))
    (cond (eqb spot 6) (store s.numbers (put_text location_at 96 kept len s.texts))
    (cond (eqb spot 9) (store s.numbers (put_text ref_name_at 32 kept len s.texts))
    (cond (eqb spot 41) (store s.numbers (put_text field_name_at 32 kept len s.texts))
    (cond (eqb spot 56) (store s.numbers (put_text field_name_at 32 kept len s.texts))
    (store (put_word spot kept len s.numbers) s.texts)))))

-- a right value at its spot
unfoldable pub put_value : ℕ → List ℕ → ℕ → ℕ → ℕ → Store → Store
put_value spot kept head len magnitude s =
    cond (eqb head quote) (put_string spot kept len s) (store (put_number spot (eqb head minus) magnitude s.numbers) s.texts)

-- ---- elements and fields

-- the place of the last of so many
unfoldable pub last_of : ℕ → ℕ
last_of count = count - 1

-- where the elements of a list of ids stand, by the spot of an element
unfoldable pub ids_at : ℕ → ℕ
ids_at item = cond (eqb item 24) snapshot_ids_at (cond (eqb item 25) schema_ids_at spec_ids_at)

unfoldable pub put_id : ℕ → ℕ → Bool → ℕ → List ℕ → List ℕ
put_id item i negative magnitude numbers = put_number (ids_at item + i % 16) negative magnitude numbers

-- a field of a schema, in the bytes in which it is offered: its id, its type, its name
abbrev pub field_bytes : Store → List ℕ
field_bytes s = four_bytes (low_at s.numbers 40) ++ (byte_at s.numbers 43 ∷ []) ++ part field_name_at 33 s.texts

unfoldable pub put_field : ℕ → Store → Store
put_field i s = store s.numbers (sets s.texts (fields_at + i % 32 * 38) (field_bytes s))

unfoldable pub put_sort_field : ℕ → List ℕ → List ℕ
put_sort_field i numbers = copied 50 (sorts_at + i % 8 * 3 + 2) (copied 49 (sorts_at + i % 8 * 3 + 1) (copied 48 (sorts_at + i % 8 * 3) numbers))

-- a field of a partition spec: its source, its transform, the number of its buckets, its name
abbrev pub partition_bytes : Store → List ℕ
partition_bytes s = four_bytes (low_at s.numbers 54) ++ (byte_at s.numbers 57 ∷ []) ++ four_bytes (low_at s.numbers buckets_at) ++ part field_name_at 33 s.texts

-- its id, and whether it is given
unfoldable pub put_partition_id : Bool → ℕ → List ℕ → List ℕ
put_partition_id given i numbers = put_number (given_at + i % 8) false (cond given 1 0) (copied 55 (partition_ids_at + i % 8) numbers)

unfoldable pub put_partition : Bool → ℕ → Store → Store
put_partition given i s = store (put_partition_id given i s.numbers) (sets s.texts (partitions_at + i % 8 * 42) (partition_bytes s))

-- ---- what is done: a right value, or a list or an object that was closed, by its spot

-- a list that has so many elements
abbrev pub put_count : ℕ → ℕ → Store → Store
put_count list items s = store (put_number list false items s.numbers) s.texts

-- the last element of a list of ids
abbrev pub put_last : ℕ → ℕ → Told → Store → Store
put_last item items t s = store (put_id item (last_of items) (eqb t.head minus) t.magnitude s.numbers) s.texts

-- of these nothing is held: what is passed over, the list, an update, and the records in it
unfoldable pub is_silent : ℕ → Bool
is_silent done =
    cond (eqb done 0) true
    (cond (eqb done 1) true
    (cond (eqb done 2) true
    (cond (eqb done 7) true
    (cond (eqb done 15) true
    (cond (eqb done 19) true
    (eqb done 21))))))

-- where the innermost list has so many elements, and the id of a partition field was seen or not
unfoldable pub put_done_in : ℕ → Told → ℕ → Bool → Store → Store
put_done_in done t items given s =
    cond (is_silent done) s
    (cond (eqb done 8) (put_count done items s)
    (cond (eqb done 18) (put_count done items s)
    (cond (eqb done 23) (put_count done items s)
    (cond (eqb done 38) (put_count done items s)
    (cond (eqb done 45) (put_count done items s)
    (cond (eqb done 52) (put_count done items s)
    (cond (eqb done 24) (put_last done items t s)
    (cond (eqb done 25) (put_last done items t s)
    (cond (eqb done 26) (put_last done items t s)
    (cond (eqb done 39) (put_field (last_of items) s)
    (cond (eqb done 46) (store (put_sort_field (last_of items) s.numbers) s.texts)
    (cond (eqb done 53) (put_partition given (last_of items) s)
    (put_value done t.kept t.head t.len t.magnitude s)))))))))))))

-- in the slots of the judge behind it
abbrev pub put_done : ℕ → Told → List ℕ → Store → Store
put_done done t slots s = put_done_in done t (get_or slots 14 0) (seen_in slots 55) s
