-- A value that is right is stored at its spot, and all else stays.
use Prim.Native.Nat.{ℕ, zero, suc, ◌+◌, ◌-◌, ◌%◌, ◌≤◌, ◌<◌}
use mathlib.Core.Path.{◌≡◌, refl, sym, ap, ◌∙◌}
use mathlib.Core.Bool.{Bool, true, false, ◌||◌, true≢false}
use mathlib.Core.List.{List, [], ◌∷◌, ◌++◌}
use mathlib.Core.Option.{Option, some}
use native.Mathlib.Omega.{arith}
use borrow.Author.Tests.{eqb-true, eqb-false, eq-eqb, leb-true}
use borrow.Table.Steps.{cases}
use lib.Dec.{eqb, leb, ltb}
use lib.IntN.{ℤ}
use lib.ListN.{length, take, replicate, length-append, length-replicate}
use lib.Seq.{take-append-add}
use Rattle.rules.specs.Words.{all, any, or_else}
use Rattle.rules.proofs.Checks.{neither}
use Rattle.json_rule.specs.Lexemes.{Lexeme, quote, minus}
use Rattle.json_rule.specs.Tree.{Json, Scalar}
use Rattle.json_rule.specs.Members.{is_one_of}
use Rattle.json_rule.specs.Records.{uuid_of, natural_of, transform_of, buckets_of}
use Rattle.json_rule.specs.Shapes.{Kind, Shape, Anything, TextUpTo, OneOf, NumberIn, No, AUuid, ATransform, ListUpTo, ARecord}
use Rattle.json_rule.specs.Defects.{is_uuid, is_transform, is_anything}
use Rattle.json_machine.proofs.Slots.{First}
use Rattle.json_members.specs.Kept.{front, LexemeKept}
use Rattle.json_members.specs.Spots.{row_at, shape_at}
use Rattle.json_members.specs.Words.{Entry, number_of}
use Rattle.json_members.specs.Transforms.{no_transform, transform_in}
use Rattle.json_members.specs.Faults.{Judged, fault_of}
use Rattle.json_members.specs.Model.{Told, told}
use Rattle.json_members.specs.declared.bucket.Transform.{Transform}
use Rattle.json_members.proofs.Cases.{done, ◌&◌, by_keys, all_below_lem}
use Rattle.json_members.proofs.Kept.{kept_told}
use Rattle.json_members.proofs.Words.{none_longer}
use Rattle.json_members.proofs.Transforms.{transform_short}
use Rattle.json_members.proofs.Uuids.{uuid_length}
use Rattle.json_store.specs.Numbers.{put_number}
use Rattle.json_store.specs.Puts.{Store, store, filled, put_text, uuid_bytes, put_uuid, put_transform, put_word, put_string, put_value, is_silent, put_done_in}
use Rattle.json_store.proofs.Kept.{put_length, magnitude_put, negative_put, magnitude_other}
use Rattle.json_store.proofs.Stores.{part_same}
use Rattle.json_store.proofs.Uuids.{uuid_bytes_length, uuid_bytes_lem}
use Rattle.json_gather.proofs.Owners.{owner_of, text_owner, text_at, text_size, Hand, hand, Agree, off}
use Rattle.json_gather.proofs.Claims.{NumberStored, TextStored, word_spots, words_at, no_word_at, WordStored, ShapeStored}
use Rattle.json_gather.proofs.Keeping.{owner_below, owner_buckets}
use Rattle.json_gather.proofs.Changes.{with_numbers, agree_self, agree_then, put_agrees, sets_agree}
use Rattle.json_gather.proofs.Right.{RightText, short_right, word_right, uuid_right, transform_right, kept_length, kept_whole, RightNumber, number_right}

-- ---- what is put

-- what a value at a spot writes
abbrev pub mine : ℕ → ℕ → Bool
mine v o = eqb o v || eqb o (text_owner v)

abbrev pub put_hand : ℕ → Told → ℕ → Bool → Hand → Hand
put_hand spot t items given a = hand a.kind a.marks (put_done_in spot t items given (store a.numbers a.texts))

-- how long the numbers and the texts are
pub record Long (a : Hand) : Type 0 where
  pub numbers : length a.numbers ≡ 304
  pub texts : length a.texts ≡ 1731

-- the value is stored, and all else stays
pub record Put (r : Kind → Json → Type 0) (a b : Hand) (v : ℕ) (x : Json) : Type 0 where
  pub agree : Agree (off (mine v)) a b
  pub stored : ShapeStored b r v x (shape_at v)

-- what is no value: what is passed over, lists, records, elements
abbrev pub unplain : List ℕ
unplain = 0 ∷ 1 ∷ 2 ∷ 7 ∷ 15 ∷ 19 ∷ 21 ∷ 8 ∷ 18 ∷ 23 ∷ 38 ∷ 45 ∷ 52 ∷ 24 ∷ 25 ∷ 26 ∷ 39 ∷ 46 ∷ 53 ∷ []

plain_done : (v : ℕ) (t : Told) (items : ℕ) (given : Bool) (s : Store) → any (eqb v) unplain ≡ false → put_done_in v t items given s ≡ put_value v t.kept t.head t.len t.magnitude s
unfolding put_done_in is_silent
plain_done v t items given s n =
    let n0 = neither (eqb v 0) _ n in
    let n1 = neither (eqb v 1) _ n0.1 in
    let n2 = neither (eqb v 2) _ n1.1 in
    let n3 = neither (eqb v 7) _ n2.1 in
    let n4 = neither (eqb v 15) _ n3.1 in
    let n5 = neither (eqb v 19) _ n4.1 in
    let n6 = neither (eqb v 21) _ n5.1 in
    let n7 = neither (eqb v 8) _ n6.1 in
    let n8 = neither (eqb v 18) _ n7.1 in
    let n9 = neither (eqb v 23) _ n8.1 in
    let m0 = neither (eqb v 38) _ n9.1 in
    let m1 = neither (eqb v 45) _ m0.1 in
    let m2 = neither (eqb v 52) _ m1.1 in
    let m3 = neither (eqb v 24) _ m2.1 in
    let m4 = neither (eqb v 25) _ m3.1 in
    let m5 = neither (eqb v 26) _ m4.1 in
    let m6 = neither (eqb v 39) _ m5.1 in
    let m7 = neither (eqb v 46) _ m6.1 in
    let m8 = neither (eqb v 53) _ m7.1 in
    rw (n0.0, n1.0, n2.0, n3.0, n4.0, n5.0, n6.0, n7.0, n8.0, n9.0, m0.0, m1.0, m2.0, m3.0, m4.0, m5.0, m6.0, m7.0, m8.0)

-- ---- numbers

-- a number of a shape, at any place
pub number_stored : (numbers : List ℕ) (i : ℕ) (shape : Shape) (magnitude : ℕ) (t : Lexeme) → i < 152 → length numbers ≡ 304 → RightNumber shape magnitude t → NumberStored (put_number i (eqb t.head minus) magnitude numbers) i shape (Scalar t)
number_stored numbers i shape magnitude t h long n =
    let m = magnitude_put i (eqb t.head minus) magnitude numbers h long in
    let s = negative_put i (eqb t.head minus) magnitude numbers h long in
    record { said = rw (m, s) n.said; fits = rw (m, s) n.fits }

-- its own spot
mine_self : (v : ℕ) → off (mine v) v ≡ false
mine_self v = rw (eq-eqb v v refl)

own_false : (v : ℕ) → v < 63 → off (mine v) (owner_of v) ≡ false
own_false v h = rw (owner_below v h) (mine_self v)

-- ---- texts

filled_is : (room : ℕ) (bs : List ℕ) → length bs ≤ room → filled room bs ≡ bs ++ replicate (room - length bs) 0
filled_is room bs h =
    let e : room ≡ length bs + (room - length bs) = omega arith in
    ap (λ (n : ℕ). take n (bs ++ replicate room 0)) e
    ∙ (take-append-add bs (replicate room 0) (room - length bs) ∙ ap (λ (l : List ℕ). bs ++ l) (zeros (room - length bs) room (omega arith)))
  where
    zeros : (k n : ℕ) → k ≤ n → ◌≡◌ {A = List ℕ} (take k (replicate n 0)) (replicate k 0)
    zeros zero n h = refl
    zeros (suc k) zero h = absurd (omega arith)
    zeros (suc k) (suc n) h = ap (λ (l : List ℕ). 0 ∷ l) (zeros k n (omega arith))

module _ (texts : List ℕ) (long : length texts ≡ 1731) (o room : ℕ) (size : text_size o ≡ suc room) (few : room ≤ 96) (ends : text_at o + text_size o ≤ 1731) {kept : List ℕ} {len : ℕ} {t : Lexeme} (r : RightText kept len (λ text. leb (length text) room) t) where
  short : length r.text ≤ room
  short = leb-true (length r.text) room r.passes

  abbrev bytes_put : List ℕ
  bytes_put = (len % 256) ∷ filled room (front len kept)

  abbrev bytes_meant : List ℕ
  bytes_meant = length r.text ∷ r.text ++ replicate (room - length r.text) 0

  bytes_so : bytes_put ≡ bytes_meant
  bytes_so =
      let h = short in
      let l : len ≡ length r.text = kept_length r.first (omega arith) in
      let m : len % 256 ≡ length r.text = omega arith in
      rw (m, kept_whole r.first (omega arith), filled_is room r.text h)

  pub text_size_lem : length bytes_put ≡ text_size o
  text_size_lem =
      let h = short in
      ap length bytes_so ∙ (ap suc (length-append r.text (replicate (room - length r.text) 0) ∙ (ap (λ (n : ℕ). length r.text + n) (length-replicate (room - length r.text) 0) ∙ together h)) ∙ sym size)
    where
      together : length r.text ≤ room → length r.text + (room - length r.text) ≡ room
      together h = omega arith

  pub text_stored : TextStored (put_text (text_at o) room kept len texts) o (Scalar t)
  unfolding put_text
  text_stored =
      let h = short in
      let z : text_size o - 1 ≡ room = omega arith in
      record {
        text = r.text;
        said = r.said;
        fits = omega arith;
        kept = part_same texts (text_at o) bytes_put (text_size o) (omega (arith, text_size_lem)) text_size_lem ∙ (bytes_so ∙ ap (λ (n : ℕ). length r.text ∷ r.text ++ replicate (n - length r.text) 0) (sym z));
      }

-- ---- words and forms

no_transform_lem : (l : List ℕ) → is_transform l ≡ false → transform_in l ≡ no_transform
unfolding transform_in
no_transform_lem l e = rw e

-- what is told of a text that is kept is told of the text
module _ {kept : List ℕ} {len : ℕ} {text : List ℕ} (f : First kept len text) where
  word_kept : (other : ℕ) (es : List Entry) → all (λ (e : Entry). ltb (length e.word) 97) es ≡ true → number_of other es (front len kept) ≡ number_of other es text
  word_kept other es short = kept_told kept len (number_of other es) other (λ l h. none_longer other es l short h) (some text) f

  transform_kept : transform_in (front len kept) ≡ transform_in text
  transform_kept = kept_told kept len transform_in no_transform (λ l h. no_transform_lem l (transform_short l h)) (some text) f

transform_is : (text : List ℕ) → is_transform text ≡ true → transform_in text ≡ record { kind = transform_of text; buckets = natural_of (buckets_of text) }
unfolding transform_in
transform_is text e = rw e

uuid_kept : {kept : List ℕ} {len : ℕ} {t : Lexeme} (r : RightText kept len is_uuid t) → uuid_bytes kept 0 16 ≡ uuid_of r.text
uuid_kept {kept} {len} r =
    let l : length r.text ≡ 36 = long in
    let n : len ≡ 36 = kept_length r.first (omega arith) ∙ l in
    let w : front 36 kept ≡ r.text = rw n at (kept_whole r.first (omega arith)) in
    uuid_bytes_lem kept (rw w r.passes) ∙ ap uuid_of w
  where
    long : length r.text ≡ 36
    long = cases (eqb (length r.text) 36) (λ e. eqb-true (length r.text) 36 e) (λ f. absurd (true≢false (sym r.passes ∙ uuid_length r.text (eqb-false (length r.text) 36 f))))

-- ---- each spot

abbrev is_number_shape : Shape → Bool
is_number_shape Anything = false
is_number_shape (TextUpTo room) = false
is_number_shape (OneOf words) = false
is_number_shape (NumberIn least most) = true
is_number_shape No = false
is_number_shape AUuid = false
is_number_shape ATransform = false
is_number_shape (ListUpTo room each) = false
is_number_shape (ARecord kind) = false

module _ (r : Kind → Json → Type 0) (a : Hand) (long : Long a) (t : Lexeme) {kept : List ℕ} {len : ℕ} {integer : Bool} {magnitude : ℕ} (k : LexemeKept kept len integer magnitude t) where
  abbrev value_put : ℕ → Hand
  value_put v = hand a.kind a.marks (put_value v kept t.head len magnitude (store a.numbers a.texts))

  abbrev string_put : ℕ → Hand
  string_put v = hand a.kind a.marks (put_string v kept len (store a.numbers a.texts))

  of_string : (v : ℕ) → eqb t.head quote ≡ true → Put r a (string_put v) v (Scalar t) → Put r a (value_put v) v (Scalar t)
  unfolding put_value
  of_string v q p = rw q p

  uuid_put : fault_of AUuid t ≡ 0 → Put r a (value_put 4) 4 (Scalar t)
  unfolding put_string put_uuid row_at
  uuid_put e =
      let u = uuid_right t k e in
      of_string 4 u.quoted
      (record {
        agree = sets_agree (off (mine 4)) a 4 0 (uuid_bytes kept 0 16) refl (rw (uuid_bytes_length kept 0 16) (omega arith)) refl;
        stored = part_same a.texts 0 (uuid_bytes kept 0 16) 16 (rw (uuid_bytes_length kept 0 16) (omega (arith, long.texts))) (uuid_bytes_length kept 0 16) ∙ (uuid_kept u ∙ sym (ap (λ (x : Option (List ℕ)). uuid_of (or_else x [])) u.said));
      })

  location_put : fault_of (TextUpTo 96) t ≡ 0 → Put r a (value_put 6) 6 (Scalar t)
  unfolding put_string put_text row_at
  location_put e =
      let u = short_right t k 96 e in
      of_string 6 u.quoted
      (record {
        agree = sets_agree (off (mine 6)) a 6 0 ((len % 256) ∷ filled 96 (front len kept)) refl (rw (text_size_lem a.texts long.texts 6 96 refl (omega arith) (omega arith) u) (omega arith)) refl;
        stored = text_stored a.texts long.texts 6 96 refl (omega arith) (omega arith) u;
      })

  ref_name_put : fault_of (TextUpTo 32) t ≡ 0 → Put r a (value_put 9) 9 (Scalar t)
  unfolding put_string put_text row_at
  ref_name_put e =
      let u = short_right t k 32 e in
      of_string 9 u.quoted
      (record {
        agree = sets_agree (off (mine 9)) a 9 0 ((len % 256) ∷ filled 32 (front len kept)) refl (rw (text_size_lem a.texts long.texts 9 32 refl (omega arith) (omega arith) u) (omega arith)) refl;
        stored = text_stored a.texts long.texts 9 32 refl (omega arith) (omega arith) u;
      })

  field_name_put : (v : ℕ) → any (eqb v) (41 ∷ 56 ∷ []) ≡ true → fault_of (TextUpTo 32) t ≡ 0 → Put r a (value_put v) v (Scalar t)
  unfolding put_string put_text row_at
  field_name_put v is e =
      let u = short_right t k 32 e in
      by_keys (λ x. any (eqb x) (41 ∷ 56 ∷ []) ≡ true → Put r a (value_put x) x (Scalar t)) (41 ∷ 56 ∷ []) v
      ((λ _. of_string 41 u.quoted (record { agree = sets_agree (off (mine 41)) a 58 0 ((len % 256) ∷ filled 32 (front len kept)) refl (fits u) refl; stored = text_stored a.texts long.texts 58 32 refl (omega arith) (omega arith) u }))
      & (λ _. of_string 56 u.quoted (record { agree = sets_agree (off (mine 56)) a 58 0 ((len % 256) ∷ filled 32 (front len kept)) refl (fits u) refl; stored = text_stored a.texts long.texts 58 32 refl (omega arith) (omega arith) u }))
      & done)
      (λ n i. absurd (true≢false (sym i ∙ n))) is
    where
      fits : RightText kept len (λ text. leb (length text) 32) t → 0 + length ((len % 256) ∷ filled 32 (front len kept)) ≤ 33
      fits u = omega (arith, text_size_lem a.texts long.texts 58 32 refl (omega arith) (omega arith) u)

  -- a word that is held as a number
  word_stored : (v : ℕ) (words : List (List ℕ)) → v < 63 → all (λ (e : Entry). ltb (length e.word) 97) (words_at v) ≡ true → (u : RightText kept len (is_one_of words) t)
      → WordStored (put_number v false (number_of (no_word_at v) (words_at v) (front len kept)) a.numbers) v words (Scalar t)
  word_stored v words h short u =
      record {
        text = u.text;
        said = u.said;
        among = u.passes;
        kept = magnitude_put v false (number_of (no_word_at v) (words_at v) (front len kept)) a.numbers (omega arith) long.numbers ∙ word_kept u.first (no_word_at v) (words_at v) short;
      }

  abbrev word_put : ℕ → Hand
  word_put v = with_numbers (put_number v false (number_of (no_word_at v) (words_at v) (front len kept)) a.numbers) a

  word_agrees : (v : ℕ) → v < 63 → Agree (off (mine v)) a (word_put v)
  word_agrees v h = put_agrees (off (mine v)) a v false (number_of (no_word_at v) (words_at v) (front len kept)) (own_false v h)

  word_put_lem : (v : ℕ) → any (eqb v) word_spots ≡ true → fault_of (shape_at v) t ≡ 0 → Put r a (value_put v) v (Scalar t)
  unfolding put_string put_word row_at
  word_put_lem v is e =
      by_keys (λ x. any (eqb x) word_spots ≡ true → fault_of (shape_at x) t ≡ 0 → Put r a (value_put x) x (Scalar t)) word_spots v
      ((λ _ e. let u = word_right t k _ e in of_string 10 u.quoted (record { agree = word_agrees 10 (omega arith); stored = record { word = λ _. word_stored 10 _ (omega arith) refl u; acts = λ z. absurd (omega arith) } }))
      & (λ _ e. let u = word_right t k _ e in of_string 43 u.quoted (record { agree = word_agrees 43 (omega arith); stored = record { word = λ _. word_stored 43 _ (omega arith) refl u; acts = λ z. absurd (omega arith) } }))
      & (λ _ e. let u = word_right t k _ e in of_string 49 u.quoted (record { agree = word_agrees 49 (omega arith); stored = record { word = λ _. word_stored 49 _ (omega arith) refl u; acts = λ z. absurd (omega arith) } }))
      & (λ _ e. let u = word_right t k _ e in of_string 50 u.quoted (record { agree = word_agrees 50 (omega arith); stored = record { word = λ _. word_stored 50 _ (omega arith) refl u; acts = λ z. absurd (omega arith) } }))
      & done)
      (λ n i _. absurd (true≢false (sym i ∙ n))) is e

  -- one that says nothing
  known_put : (v : ℕ) → any (eqb v) (36 ∷ 47 ∷ []) ≡ true → fault_of (shape_at v) t ≡ 0 → Put r a (value_put v) v (Scalar t)
  unfolding put_string put_word row_at
  known_put v is e =
      by_keys (λ x. any (eqb x) (36 ∷ 47 ∷ []) ≡ true → fault_of (shape_at x) t ≡ 0 → Put r a (value_put x) x (Scalar t)) (36 ∷ 47 ∷ []) v
      ((λ _ e. let u = word_right t k _ e in of_string 36 u.quoted (record { agree = agree_self (off (mine 36)) a; stored = record { word = λ f. absurd (true≢false (sym f)); acts = λ z. absurd (omega arith) } }))
      & (λ _ e. let u = word_right t k _ e in of_string 47 u.quoted (record { agree = agree_self (off (mine 47)) a; stored = record { word = λ f. absurd (true≢false (sym f)); acts = λ z. absurd (omega arith) } }))
      & done)
      (λ n i _. absurd (true≢false (sym i ∙ n))) is e

  -- `false`
  no_put : Put r a (value_put 42) 42 (Scalar t)
  unfolding put_value put_string put_word row_at
  no_put =
      cases (eqb t.head quote)
      (λ q. rw q (record { agree = agree_self (off (mine 42)) a; stored = tt }))
      (λ q. rw q (record { agree = put_agrees (off (mine 42)) a 42 (eqb t.head minus) magnitude (own_false 42 (omega arith)); stored = tt }))

  transform_put : fault_of ATransform t ≡ 0 → Put r a (value_put 57) 57 (Scalar t)
  unfolding put_string put_word put_transform row_at
  transform_put e =
      let u = transform_right t k e in
      let w : transform_in (front len kept) ≡ record { kind = transform_of u.text; buckets = natural_of (buckets_of u.text) } = transform_kept u.first ∙ transform_is u.text u.passes in
      let made = transform_in (front len kept) in
      let one = put_number 57 false made.kind a.numbers in
      let n : length one ≡ 304 = put_length 57 false made.kind a.numbers ∙ long.numbers in
      of_string 57 u.quoted
      (record {
        agree = agree_then (off (mine 57)) (put_agrees (off (mine 57)) a 57 false made.kind (own_false 57 (omega arith))) (put_agrees (off (mine 57)) (with_numbers one a) 63 false made.buckets (rw owner_buckets));
        stored =
            record {
              text = u.text;
              said = u.said;
              formed = u.passes;
              kind = magnitude_other 63 false made.buckets one 57 (λ z. omega arith) ∙ (magnitude_put 57 false made.kind a.numbers (omega arith) long.numbers ∙ ap (λ (x : Transform). x.kind) w);
              buckets = magnitude_put 63 false made.buckets one (omega arith) n ∙ ap (λ (x : Transform). x.buckets) w;
              sign = negative_put 63 false made.buckets one (omega arith) n;
            };
      })

  number_put : (v : ℕ) (least most : ℤ) → v < 58 → Judged v → shape_at v ≡ NumberIn least most → fault_of (shape_at v) t ≡ 0 → Put r a (value_put v) v (Scalar t)
  unfolding put_value
  number_put v least most h j s e =
      let n = number_right t k v least most j s e in
      rw n.unquoted
      (record {
        agree = put_agrees (off (mine v)) a v (eqb t.head minus) magnitude (own_false v (omega arith));
        stored = rw s (number_stored a.numbers v (NumberIn least most) magnitude t (omega arith) long.numbers n);
      })

  -- ---- by the spot

  abbrev other_keys : List ℕ
  other_keys = 4 ∷ 6 ∷ 9 ∷ 41 ∷ 56 ∷ 10 ∷ 43 ∷ 49 ∷ 50 ∷ 36 ∷ 47 ∷ 42 ∷ 57 ∷ []

  value_put_lem : (v : ℕ) → v < 58 → any (eqb v) unplain ≡ false → Judged v → fault_of (shape_at v) t ≡ 0 → Put r a (value_put v) v (Scalar t)
  unfolding row_at
  value_put_lem v =
      by_keys (λ x. x < 58 → any (eqb x) unplain ≡ false → Judged x → fault_of (shape_at x) t ≡ 0 → Put r a (value_put x) x (Scalar t)) other_keys v
      ((λ _ _ _ e. uuid_put e)
      & (λ _ _ _ e. location_put e)
      & (λ _ _ _ e. ref_name_put e)
      & (λ _ _ _ e. field_name_put 41 refl e)
      & (λ _ _ _ e. field_name_put 56 refl e)
      & (λ _ _ _ e. word_put_lem 10 refl e)
      & (λ _ _ _ e. word_put_lem 43 refl e)
      & (λ _ _ _ e. word_put_lem 49 refl e)
      & (λ _ _ _ e. word_put_lem 50 refl e)
      & (λ _ _ _ e. known_put 36 refl e)
      & (λ _ _ _ e. known_put 47 refl e)
      & (λ _ _ _ e. no_put)
      & (λ _ _ _ e. transform_put e)
      & done)
      (λ n h u j e. by_shape h j e (shape_at v) refl (all_below_lem 58 (λ x. any (eqb x) other_keys || (any (eqb x) unplain || (eqb x 3 || (is_anything (shape_at x) || is_number_shape (shape_at x))))) refl v h) n u)
    where
      by_shape : v < 58 → Judged v → fault_of (shape_at v) t ≡ 0 → (s : Shape) → shape_at v ≡ s → any (eqb v) other_keys || (any (eqb v) unplain || (eqb v 3 || (is_anything (shape_at v) || is_number_shape (shape_at v)))) ≡ true
          → any (eqb v) other_keys ≡ false → any (eqb v) unplain ≡ false → Put r a (value_put v) v (Scalar t)
      by_shape h j e s q all n u = from_shape s q (rw (n, u, j.other, j.something) at all)
        where
          from_shape : (s : Shape) → shape_at v ≡ s → is_number_shape (shape_at v) ≡ true → Put r a (value_put v) v (Scalar t)
          from_shape Anything q i = absurd (true≢false (sym i ∙ ap is_number_shape q))
          from_shape (TextUpTo room) q i = absurd (true≢false (sym i ∙ ap is_number_shape q))
          from_shape (OneOf words) q i = absurd (true≢false (sym i ∙ ap is_number_shape q))
          from_shape (NumberIn least most) q i = number_put v least most h j q e
          from_shape No q i = absurd (true≢false (sym i ∙ ap is_number_shape q))
          from_shape AUuid q i = absurd (true≢false (sym i ∙ ap is_number_shape q))
          from_shape ATransform q i = absurd (true≢false (sym i ∙ ap is_number_shape q))
          from_shape (ListUpTo room each) q i = absurd (true≢false (sym i ∙ ap is_number_shape q))
          from_shape (ARecord kind) q i = absurd (true≢false (sym i ∙ ap is_number_shape q))

  pub scalar_put : (v first items : ℕ) (given : Bool) → v < 58 → any (eqb v) unplain ≡ false → Judged v → fault_of (shape_at v) t ≡ 0
      → Put r a (put_hand v (told kept t.head first len integer magnitude) items given a) v (Scalar t)
  scalar_put v first items given h n j e = rw (plain_done v (told kept t.head first len integer magnitude) items given (store a.numbers a.texts) n) (value_put_lem v h n j e)
