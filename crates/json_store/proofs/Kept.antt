-- What a put leaves as it was: how long the numbers and the texts are, and every other number; and what stands where it was put.
use Prim.Native.Nat.{ℕ, ◌+◌, ◌*◌, ◌%◌, ◌<◌}
use mathlib.Core.Path.{◌≡◌, refl, ap, ◌∙◌}
use mathlib.Core.Bool.{Bool, true, false, cond}
use mathlib.Core.List.{List, ◌∷◌}
use native.Mathlib.Omega.{arith}
use borrow.Author.Tests.{lt-ltb, ltb-true}
use borrow.Table.Steps.{cases}
use lib.Dec.{eqb, ltb}
use lib.ListN.{length, set, length-set}
use lib.Seq.{length-sets, get_or-set_same, get_or-set_other}
use Rattle.json_members.specs.Kept.{front}
use Rattle.json_members.specs.Model.{Told}
use Rattle.json_store.specs.Numbers.{put_number, magnitude_at, negative_at}
use Rattle.json_store.specs.Puts.{Store, store, filled, uuid_bytes, field_bytes, partition_bytes, last_of, put_text, put_uuid, put_transform, put_word, put_string, put_value, put_id, put_field, put_sort_field, put_partition_id, put_partition, is_silent, put_done_in, put_done}

-- ---- one number

pub put_length : (i : ℕ) (negative : Bool) (m : ℕ) (numbers : List ℕ) → length (put_number i negative m numbers) ≡ length numbers
unfolding put_number
put_length i negative m numbers = cases (ltb i 152) (λ t. rw (t, length-set (set numbers i m) (152 + i) (cond negative 1 0), length-set numbers i m)) (λ f. rw f)

module _ (i : ℕ) (negative : Bool) (m : ℕ) (numbers : List ℕ) where
  pub magnitude_put : i < 152 → length numbers ≡ 304 → magnitude_at (put_number i negative m numbers) i ≡ m
  unfolding put_number magnitude_at
  magnitude_put h long =
      rw (lt-ltb i 152 h)
      (get_or-set_other (set numbers i m) (152 + i) i (cond negative 1 0) 0 (λ e. omega arith) ∙ get_or-set_same numbers i m 0 (omega arith))

  sign : (b : Bool) → eqb (cond b 1 0) 1 ≡ b
  sign true = refl
  sign false = refl

  pub negative_put : i < 152 → length numbers ≡ 304 → negative_at (put_number i negative m numbers) i ≡ negative
  unfolding put_number negative_at
  negative_put h long =
      rw (lt-ltb i 152 h)
      (ap (λ (x : ℕ). eqb x 1) (get_or-set_same (set numbers i m) (152 + i) (cond negative 1 0) 0 (omega (arith, length-set numbers i m))) ∙ sign negative)

  pub magnitude_other : (j : ℕ) → (j ≡ i → ⊥) → magnitude_at (put_number i negative m numbers) j ≡ magnitude_at numbers j
  unfolding put_number magnitude_at
  magnitude_other j n =
      cases (ltb j 152)
      (λ t. rw t
      (cases (ltb i 152)
      (λ u. rw u (get_or-set_other (set numbers i m) (152 + i) j (cond negative 1 0) 0 (λ e. omega (arith, ltb-true j 152 t)) ∙ get_or-set_other numbers i j m 0 n))
      (λ u. rw u)))
      (λ t. rw t)

  pub negative_other : (j : ℕ) → (j ≡ i → ⊥) → negative_at (put_number i negative m numbers) j ≡ negative_at numbers j
  unfolding put_number negative_at
  negative_other j n =
      cases (ltb j 152)
      (λ t. rw t
      (cases (ltb i 152)
      (λ u. rw u
      (ap (λ (x : ℕ). eqb x 1)
      (get_or-set_other (set numbers i m) (152 + i) (152 + j) (cond negative 1 0) 0 (λ e. n (omega arith)) ∙ get_or-set_other numbers i (152 + j) m 0 (λ e. omega (arith, ltb-true i 152 u)))))
      (λ u. rw u)))
      (λ t. rw t)

-- ---- how long they are

pub put_text_length : (place room : ℕ) (kept : List ℕ) (len : ℕ) (texts : List ℕ) → length (put_text place room kept len texts) ≡ length texts
unfolding put_text
put_text_length place room kept len texts = length-sets texts place ((len % 256) ∷ filled room (front len kept))

pub put_uuid_length : (kept texts : List ℕ) → length (put_uuid kept texts) ≡ length texts
unfolding put_uuid
put_uuid_length kept texts = length-sets texts 0 (uuid_bytes kept 0 16)

pub put_word_length : (spot : ℕ) (kept : List ℕ) (len : ℕ) (numbers : List ℕ) → length (put_word spot kept len numbers) ≡ length numbers
unfolding put_word put_transform
put_word_length spot kept len numbers =
    cases (eqb spot 10) (λ t. rw t (put_length spot false _ numbers))
    (λ a. rw a (cases (eqb spot 43) (λ t. rw t (put_length spot false _ numbers))
    (λ b. rw b (cases (eqb spot 49) (λ t. rw t (put_length spot false _ numbers))
    (λ d. rw d (cases (eqb spot 50) (λ t. rw t (put_length spot false _ numbers))
    (λ e. rw e (cases (eqb spot 57) (λ t. rw t (put_length 63 false _ _ ∙ put_length 57 false _ numbers))
    (λ f. rw f)))))))))

-- as long as before
pub record Long (s u : Store) : Type 0 where
  pub numbers : length s.numbers ≡ length u.numbers
  pub texts : length s.texts ≡ length u.texts

abbrev long : (s u : Store) → length s.numbers ≡ length u.numbers → length s.texts ≡ length u.texts → Long s u
long s u n t = record { numbers = n; texts = t }

pub put_string_long : (spot : ℕ) (kept : List ℕ) (len : ℕ) (s : Store) → Long (put_string spot kept len s) s
unfolding put_string
put_string_long spot kept len s =
    cases (eqb spot 4) (λ t. rw t (long _ s refl (put_uuid_length kept s.texts)))
    (λ a. rw a (cases (eqb spot 6) (λ t. rw t (long _ s refl (put_text_length 16 96 kept len s.texts)))
    (λ b. rw b (cases (eqb spot 9) (λ t. rw t (long _ s refl (put_text_length 113 32 kept len s.texts)))
    (λ d. rw d (cases (eqb spot 41) (λ t. rw t (long _ s refl (put_text_length 146 32 kept len s.texts)))
    (λ e. rw e (cases (eqb spot 56) (λ t. rw t (long _ s refl (put_text_length 146 32 kept len s.texts)))
    (λ f. rw f (long _ s (put_word_length spot kept len s.numbers) refl))))))))))

pub put_value_long : (spot : ℕ) (kept : List ℕ) (head len magnitude : ℕ) (s : Store) → Long (put_value spot kept head len magnitude s) s
unfolding put_value
put_value_long spot kept head len magnitude s =
    cases (eqb head 34) (λ t. rw t (put_string_long spot kept len s)) (λ f. rw f (long _ s (put_length spot _ magnitude s.numbers) refl))

pub put_field_long : (i : ℕ) (s : Store) → Long (put_field i s) s
unfolding put_field
put_field_long i s = long _ s refl (length-sets s.texts (179 + i % 32 * 38) (field_bytes s))

pub put_sort_field_length : (i : ℕ) (numbers : List ℕ) → length (put_sort_field i numbers) ≡ length numbers
unfolding put_sort_field
put_sort_field_length i numbers = put_length _ _ _ _ ∙ put_length _ _ _ _ ∙ put_length _ _ _ numbers

pub put_partition_id_length : (given : Bool) (i : ℕ) (numbers : List ℕ) → length (put_partition_id given i numbers) ≡ length numbers
unfolding put_partition_id
put_partition_id_length given i numbers = put_length _ _ _ _ ∙ put_length _ _ _ numbers

pub put_partition_long : (given : Bool) (i : ℕ) (s : Store) → Long (put_partition given i s) s
unfolding put_partition
put_partition_long given i s = long _ s (put_partition_id_length given i s.numbers) (length-sets s.texts (1395 + i % 8 * 42) (partition_bytes s))

pub put_id_length : (item i : ℕ) (negative : Bool) (m : ℕ) (numbers : List ℕ) → length (put_id item i negative m numbers) ≡ length numbers
unfolding put_id
put_id_length item i negative m numbers = put_length _ negative m numbers

pub put_done_in_long : (done : ℕ) (t : Told) (items : ℕ) (given : Bool) (s : Store) → Long (put_done_in done t items given s) s
unfolding put_done_in
put_done_in_long done t items given s =
    cases (is_silent done) (λ e. rw e (long s s refl refl))
    (λ n0. rw n0 (cases (eqb done 8) (λ e. rw e count)
    (λ n1. rw n1 (cases (eqb done 18) (λ e. rw e count)
    (λ n2. rw n2 (cases (eqb done 23) (λ e. rw e count)
    (λ n3. rw n3 (cases (eqb done 38) (λ e. rw e count)
    (λ n4. rw n4 (cases (eqb done 45) (λ e. rw e count)
    (λ n5. rw n5 (cases (eqb done 52) (λ e. rw e count)
    (λ n6. rw n6 (cases (eqb done 24) (λ e. rw e last)
    (λ n7. rw n7 (cases (eqb done 25) (λ e. rw e last)
    (λ n8. rw n8 (cases (eqb done 26) (λ e. rw e last)
    (λ n9. rw n9 (cases (eqb done 39) (λ e. rw e (put_field_long _ s))
    (λ m0. rw m0 (cases (eqb done 46) (λ e. rw e (long _ s (put_sort_field_length _ s.numbers) refl))
    (λ m1. rw m1 (cases (eqb done 53) (λ e. rw e (put_partition_long given _ s))
    (λ m2. rw m2 (put_value_long done t.kept t.head t.len t.magnitude s))))))))))))))))))))))))))
  where
    count : Long (store (put_number done false items s.numbers) s.texts) s
    count = long _ s (put_length done false items s.numbers) refl

    last : Long (store (put_id done (last_of items) (eqb t.head 45) t.magnitude s.numbers) s.texts) s
    last = long _ s (put_id_length done _ _ t.magnitude s.numbers) refl

pub put_done_long : (done : ℕ) (t : Told) (slots : List ℕ) (s : Store) → Long (put_done done t slots s) s
put_done_long done t slots s = put_done_in_long done t _ _ s
