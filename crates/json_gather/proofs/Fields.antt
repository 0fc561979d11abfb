-- A field that is closed: its members are there, and what is stored of them is what it offers.
use Prim.Native.Nat.{ℕ, ◌+◌, ◌*◌, ◌%◌, ◌/◌, ◌<◌, ◌^◌}
use mathlib.Core.Path.{◌≡◌, refl, sym, ap, ◌∙◌}
use mathlib.Core.Bool.{Bool, true, false, cond, true≢false}
use mathlib.Core.List.{List, [], ◌∷◌, ◌++◌}
use mathlib.Core.Option.{Option, none, some}
use native.Mathlib.Omega.{arith}
use borrow.Table.Steps.{cases}
use lib.Dec.{eqb}
use lib.IntN.{ℤ, pos}
use Rattle.rules.specs.Words.{any, same_bytes, or_else}
use Rattle.rules.specs.Partitions.{identity, year, month, day}
use Rattle.rules.specs.WellFormed.{long, timestamp}
use Rattle.json_rule.specs.Letters.{bytes}
use Rattle.json_rule.specs.Tree.{Json, Members, no_member}
use Rattle.json_rule.specs.Members.{is_one_of, value_of, text_in, number_in, text_by}
use Rattle.json_rule.specs.Records.{field_of, sort_field_of, partition_field_of, four_bytes, number_bytes, name_bytes, field_offer, partition_offer, transform_of, buckets_of, natural_of}
use Rattle.json_rule.specs.Shapes.{AField, ASortField, APartitionField, i32}
use Rattle.json_judge.specs.Sending.{Held, members_before}
use Rattle.json_members.specs.Words.{Entry, entry, number_of}
use Rattle.json_members.specs.Spots.{row_at, name_at}
use Rattle.json_store.specs.Numbers.{narrow_at, low_at, byte_at, low_bits}
use Rattle.json_store.specs.Puts.{Store, store, part, field_bytes, partition_bytes}
use Rattle.json_stands.proofs.Marked.{is_marked}
use Rattle.json_stands.proofs.Members.{is_member}
use Rattle.json_gather.proofs.Owners.{Hand}
use Rattle.json_gather.proofs.Claims.{NumberStored, TextStored, WordStored, words_at, no_word_at, TransformStored, HeldAs, PartMember, Complete}
use Rattle.json_gather.proofs.Footprints.{of_all}
use Rattle.json_gather.proofs.Holds.{held_at, AllHeld}
use Rattle.json_gather.proofs.Widths.{narrow_stored, low_stored}

-- ---- a member that is there

pub record There (stored : ℕ → Json → Type 0) (m : ℕ) (o : Option Json) : Type 0 where
  pub value : Json
  pub is : o ≡ some value
  pub held : stored m value

pub there : (stored : ℕ → Json → Type 0) (marks : List ℕ) (m : ℕ) (o : Option Json) → is_marked marks m ≡ true → HeldAs stored marks m o → There stored m o
there stored marks m none e h = absurd (true≢false (sym e ∙ h))
there stored marks m (some x) e h = record { value = x; is = refl; held = h.1 }

-- ---- what it says

-- of a value that is there: its number, its text
abbrev pub number_among : Option Json → Option ℤ
number_among none = none
number_among (some x) = number_in x

abbrev pub text_among : Option Json → List ℕ
text_among none = []
text_among (some x) = or_else (text_in x) []

pub number_among_lem : {x : Json} {z : ℤ} (o : Option Json) → o ≡ some x → number_in x ≡ some z → number_among o ≡ some z
number_among_lem o i e = ap number_among i ∙ e

pub text_among_lem : {x : Json} {text : List ℕ} (o : Option Json) → o ≡ some x → text_in x ≡ some text → text_among o ≡ text
text_among_lem o i e = ap text_among i ∙ ap (λ (y : Option (List ℕ)). or_else y []) e

-- the same by a name
pub number_is : (name : List ℕ) (ms : Members) → (elim (value_of name ms) as (λ _. Option ℤ) [ none ↦ none | some x ↦ number_in x ]) ≡ number_among (value_of name ms)
number_is name ms = go (value_of name ms)
  where
    go : (o : Option Json) → (elim o as (λ _. Option ℤ) [ none ↦ none | some x ↦ number_in x ]) ≡ number_among o
    go none = refl
    go (some x) = refl

pub text_is_lem : (name : List ℕ) (ms : Members) → (elim (value_of name ms) as (λ _. List ℕ) [ none ↦ [] | some x ↦ or_else (text_in x) [] ]) ≡ text_among (value_of name ms)
text_is_lem name ms = go (value_of name ms)
  where
    go : (o : Option Json) → (elim o as (λ _. List ℕ) [ none ↦ [] | some x ↦ or_else (text_in x) [] ]) ≡ text_among o
    go none = refl
    go (some x) = refl

-- one word of two, which has a byte
module _ (other a b : ℕ) (one two : List ℕ) where
  two_words : (text : List ℕ) → is_one_of (one ∷ two ∷ []) text ≡ true → number_of other (entry one a ∷ entry two b ∷ []) text ≡ cond (same_bytes text one) a b
  unfolding number_of
  two_words text e =
      cases (same_bytes text one)
      (λ t. rw t)
      (λ f. cases (same_bytes text two) (λ t. rw (f, t)) (λ g. absurd (true≢false (sym (rw (f, g) at e)))))

  of_byte : (c : Bool) → a < 256 → b < 256 → cond c a b % 256 ≡ cond c a b
  of_byte true h g = omega arith
  of_byte false h g = omega arith

  pub word_byte : {numbers : List ℕ} {v : ℕ} {x : Json} (w : WordStored numbers v (one ∷ two ∷ []) x) (o : Option Json) → o ≡ some x → words_at v ≡ entry one a ∷ entry two b ∷ [] → no_word_at v ≡ other → a < 256 → b < 256
      → byte_at numbers v ≡ cond (same_bytes (text_among o) one) a b
  word_byte {numbers} {v} w o i e n h g =
      ap (λ (m : ℕ). m % 256) (w.kept ∙ (ap (λ (es : List Entry). number_of (no_word_at v) es w.text) e ∙ (ap (λ (m : ℕ). number_of m (entry one a ∷ entry two b ∷ []) w.text) n ∙ two_words w.text w.among)))
      ∙ (of_byte (same_bytes w.text one) h g ∙ ap (λ (l : List ℕ). cond (same_bytes l one) a b) (sym (text_among_lem o i w.said)))

-- ---- the bytes of a field

-- what is above 2^32 is in none of the four lowest bytes
module _ (k r : ℕ) where
  abbrev more : ℕ
  more = 4294967296 * k + r

  first_byte : more % 256 ≡ r % 256
  first_byte = omega arith

  second_byte : more / 256 % 256 ≡ r / 256 % 256
  second_byte =
      let e : more / 256 ≡ 16777216 * k + r / 256 = omega arith in
      rw e (omega arith)

  third_byte : more / 65536 % 256 ≡ r / 65536 % 256
  third_byte =
      let e : more / 65536 ≡ 65536 * k + r / 65536 = omega arith in
      rw e (omega arith)

  fourth_byte : more / 16777216 % 256 ≡ r / 16777216 % 256
  fourth_byte =
      let e : more / 16777216 ≡ 256 * k + r / 16777216 = omega arith in
      rw e (omega arith)

  four_more : four_bytes more ≡ four_bytes r
  four_more = rw (first_byte, second_byte, third_byte, fourth_byte)

four_low : (n : ℕ) → four_bytes (n % 2 ^ 32) ≡ four_bytes n
four_low n =
    let e : 4294967296 * (n / 4294967296) + n % 4294967296 ≡ n = omega arith in
    sym (four_more (n / 4294967296) (n % 4294967296)) ∙ ap four_bytes e

module _ (a : Hand) (hs : List Held) where
  abbrev ms : Members
  ms = members_before hs no_member

  abbrev s : Store
  s = store a.numbers a.texts

  -- a number of 32 bits, as four bytes
  low_said : (m : ℕ) {x : Json} → held_at m hs ≡ some x → NumberStored a.numbers m i32 x → four_bytes (low_at a.numbers m) ≡ number_bytes (or_else (number_among (held_at m hs)) (pos 0))
  low_said m i n = low_stored n ∙ ap number_bytes (sym (ap (λ (z : Option ℤ). or_else z (pos 0)) (number_among_lem (held_at m hs) i n.said)))

  -- a name
  name_said_lem : (m : ℕ) {x : Json} → held_at m hs ≡ some x → TextStored a.texts 58 x → part 146 33 a.texts ≡ name_bytes (text_among (held_at m hs))
  name_said_lem m i n = n.kept ∙ ap name_bytes (sym (text_among_lem (held_at m hs) i n.said))

  -- ---- of a schema

  module _ (held : AllHeld AField a hs) (complete : Complete AField a.marks) where
    in_field_lem : (m : ℕ) → any (eqb m) (40 ∷ 41 ∷ 42 ∷ 43 ∷ []) ≡ true → is_member AField m ≡ true → There (PartMember a) m (held_at m hs)
    in_field_lem m e i = there (PartMember a) a.marks m (held_at m hs) (of_all (is_marked a.marks) (40 ∷ 41 ∷ 42 ∷ 43 ∷ []) m e complete.required) (held.each m i)

    pub field_offered : field_bytes s ≡ field_offer (field_of ms)
    unfolding row_at
    field_offered =
        let i = in_field_lem 40 refl refl in
        let n = in_field_lem 41 refl refl in
        let w = in_field_lem 43 refl refl in
        ap (λ (l : List ℕ). l ++ (byte_at a.numbers 43 ∷ []) ++ part 146 33 a.texts) (low_said 40 i.is i.held ∙ ap (λ (z : Option ℤ). number_bytes (or_else z (pos 0))) (sym (number_is (name_at 40) ms)))
        ∙ (ap (λ (b : ℕ). number_bytes (field_of ms).id ++ (b ∷ []) ++ part 146 33 a.texts)
        (word_byte 0 long timestamp (bytes "long") (bytes "timestamp") (w.held.word refl) (held_at 43 hs) w.is refl refl (omega arith) (omega arith) ∙ ap (λ (l : List ℕ). cond (same_bytes l (bytes "long")) long timestamp) (sym (text_is_lem (name_at 43) ms)))
        ∙ ap (λ (l : List ℕ). number_bytes (field_of ms).id ++ ((field_of ms).field_type ∷ []) ++ l) (name_said_lem 41 n.is n.held ∙ ap name_bytes (sym (text_is_lem (name_at 41) ms))))

  -- ---- of a sort order

  module _ (held : AllHeld ASortField a hs) (complete : Complete ASortField a.marks) where
    in_sort : (m : ℕ) → any (eqb m) (47 ∷ 48 ∷ 49 ∷ 50 ∷ []) ≡ true → is_member ASortField m ≡ true → There (PartMember a) m (held_at m hs)
    in_sort m e i = there (PartMember a) a.marks m (held_at m hs) (of_all (is_marked a.marks) (47 ∷ 48 ∷ 49 ∷ 50 ∷ []) m e complete.required) (held.each m i)

    pub sort_source : narrow_at a.numbers 48 ≡ (sort_field_of ms).source
    unfolding row_at
    sort_source =
        let i = in_sort 48 refl refl in
        sym (ap (λ (z : Option ℤ). or_else z (pos 0)) (number_is (name_at 48) ms ∙ number_among_lem (held_at 48 hs) i.is (narrow_stored i.held)))

    pub sort_direction : byte_at a.numbers 49 ≡ (sort_field_of ms).direction
    unfolding row_at
    sort_direction =
        let w = in_sort 49 refl refl in
        word_byte 2 0 1 (bytes "asc") (bytes "desc") (w.held.word refl) (held_at 49 hs) w.is refl refl (omega arith) (omega arith) ∙ ap (λ (l : List ℕ). cond (same_bytes l (bytes "asc")) 0 1) (sym (text_is_lem (name_at 49) ms))

    pub sort_nulls : byte_at a.numbers 50 ≡ (sort_field_of ms).nulls
    unfolding row_at
    sort_nulls =
        let w = in_sort 50 refl refl in
        word_byte 2 0 1 (bytes "nulls-first") (bytes "nulls-last") (w.held.word refl) (held_at 50 hs) w.is refl refl (omega arith) (omega arith) ∙ ap (λ (l : List ℕ). cond (same_bytes l (bytes "nulls-first")) 0 1) (sym (text_is_lem (name_at 50) ms))

  -- ---- of a partition spec

  module _ (held : AllHeld APartitionField a hs) (complete : Complete APartitionField a.marks) where
    in_partition : (m : ℕ) → any (eqb m) (54 ∷ 56 ∷ 57 ∷ []) ≡ true → is_member APartitionField m ≡ true → There (PartMember a) m (held_at m hs)
    in_partition m e i = there (PartMember a) a.marks m (held_at m hs) (of_all (is_marked a.marks) (54 ∷ 56 ∷ 57 ∷ []) m e complete.required) (held.each m i)

    -- its id, if it is given
    pub partition_id : cond (is_marked a.marks 55) (some (narrow_at a.numbers 55)) none ≡ (partition_field_of ms).id
    unfolding row_at
    partition_id = by_value (held_at 55 hs) refl (held.each 55 refl) ∙ sym (number_is (name_at 55) ms)
      where
        by_value : (o : Option Json) → held_at 55 hs ≡ o → HeldAs (PartMember a) a.marks 55 o → cond (is_marked a.marks 55) (some (narrow_at a.numbers 55)) none ≡ number_among o
        by_value none e h = rw h
        by_value (some x) e h = rw h.0 (sym (narrow_stored h.1))

    transform_byte : (text : List ℕ) → transform_of text % 256 ≡ transform_of text
    transform_byte text =
        cases (same_bytes text (bytes "identity")) (λ t. rw t)
        (λ f1. cases (same_bytes text (bytes "year")) (λ t. rw (f1, t))
        (λ f2. cases (same_bytes text (bytes "month")) (λ t. rw (f1, f2, t))
        (λ f3. cases (same_bytes text (bytes "day")) (λ t. rw (f1, f2, f3, t)) (λ f4. rw (f1, f2, f3, f4)))))

    buckets_low : (t : TransformStored a.numbers (in_partition 57 refl refl).value) → four_bytes (low_at a.numbers 63) ≡ number_bytes (buckets_of t.text)
    unfolding low_bits
    buckets_low t = rw (t.sign, t.buckets) (four_low (natural_of (buckets_of t.text)))

    pub partition_offered : partition_bytes s ≡ partition_offer (partition_field_of ms)
    unfolding row_at
    partition_offered =
        let i = in_partition 54 refl refl in
        let n = in_partition 56 refl refl in
        let w = in_partition 57 refl refl in
        let t : TransformStored a.numbers w.value = w.held in
        let text : t.text ≡ text_by "transform" ms = sym (text_is_lem (name_at 57) ms ∙ text_among_lem (held_at 57 hs) w.is t.said) in
        ap (λ (l : List ℕ). l ++ (byte_at a.numbers 57 ∷ []) ++ four_bytes (low_at a.numbers 63) ++ part 146 33 a.texts) (low_said 54 i.is i.held ∙ ap (λ (z : Option ℤ). number_bytes (or_else z (pos 0))) (sym (number_is (name_at 54) ms)))
        ∙ (ap (λ (b : ℕ). number_bytes (partition_field_of ms).source ++ (b ∷ []) ++ four_bytes (low_at a.numbers 63) ++ part 146 33 a.texts) (ap (λ (k : ℕ). k % 256) t.kind ∙ (transform_byte t.text ∙ ap transform_of text))
        ∙ (ap (λ (l : List ℕ). number_bytes (partition_field_of ms).source ++ ((partition_field_of ms).transform ∷ []) ++ l ++ part 146 33 a.texts) (buckets_low t ∙ ap (λ (l : List ℕ). number_bytes (buckets_of l)) text)
        ∙ ap (λ (l : List ℕ). number_bytes (partition_field_of ms).source ++ ((partition_field_of ms).transform ∷ []) ++ number_bytes (partition_field_of ms).buckets ++ l) (name_said_lem 56 n.is n.held ∙ ap name_bytes (sym (text_is_lem (name_at 56) ms)))))
