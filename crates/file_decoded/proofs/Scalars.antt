-- Numbers, texts and words of a record, as they are read from their cells and the bytes of the file: they are what its members say.
use Prim.Native.Nat.{ℕ, suc, ◌-◌, ◌<◌}
use native.Mathlib.Omega.{arith}
use native.Mathlib.Nat.{add-zero}
use mathlib.Core.Path.{◌≡◌, refl, sym, ap, ◌∙◌}
use mathlib.Core.Bool.{Bool, true, false, cond, ◌&&◌, false≢true}
use mathlib.Core.List.{List, [], ◌∷◌}
use mathlib.Core.Option.{Option, none, some}
use borrow.Table.Steps.{cases}
use borrow.Author.Tests.{lt-ltb, le-leb}
use lib.Dec.{eqb, leb}
use lib.IntN.{ℤ, pos, negsuc}
use lib.ListN.{get_or, length, replicate}
use lib.Signed.{le_z}
use Rattle.rules.specs.Words.{is_some, or_else, some_with, all, same_bytes}
use Rattle.rules.specs.Capacities.{text_room}
use Rattle.rules.proofs.Checks.{and_left, and_right, by_either}
use Rattle.rules.proofs.Orders.{names_told_lem}
use Rattle.json_rule.specs.Lexemes.{Lexeme}
use Rattle.json_rule.specs.Values.{text_of, whole_number_of}
use Rattle.json_rule.specs.Tree.{Json, Scalar, Array, Object, Members}
use Rattle.json_rule.specs.Members.{is_one_of, value_of, number_in, text_in}
use Rattle.json_rule.specs.Records.{natural_of, uuid_of}
use Rattle.json_rule.specs.Shapes.{Shape, i64, NumberIn, TextUpTo, OneOf, AUuid, ATransform}
use Rattle.json_rule.specs.Defects.{unless, is_uuid, is_transform, is_anything, is_number_in, scalar_defects, text_defects, stands_at, not_published}
use Rattle.json_tokens.specs.Tokens.{lexemes_at}
use Rattle.file_rule.specs.Tables.{Single, IdOrNull}
use Rattle.file_rule.specs.FileDefects.{defects}
use Rattle.file_cells.specs.Cells.{size_of}
use Rattle.file_cells.specs.Filled.{magnitude_of}
use Rattle.file_holds.specs.Holds.{Holds}
use Rattle.file_holds.specs.Lexemes.{Every}
use Rattle.file_holds.proofs.Right.{impossible, passed}
use Rattle.file_records.specs.Decoded.{is_there, place_of, head_of, natural_at, number_at, maybe_at, maybe_narrow_at, text_at, uuid_at}
use Rattle.file_decoded.proofs.Values.{fits64, signed_number, narrow_number, natural_number, null_is_none, uuid_room, transform_room}
use Rattle.file_decoded.proofs.Reading.{Sound, Reading, missing, present}

-- ---- by name

abbrev number_of : Option Json → Option ℤ
number_of o = elim o [ none ↦ none | some x ↦ number_in x ]

abbrev text_is : Option Json → List ℕ
text_is o = elim o [ none ↦ [] | some x ↦ or_else (text_in x) [] ]

abbrev pub number_named : List ℕ → Members → Option ℤ
number_named name ms = number_of (value_of name ms)

abbrev pub text_named : List ℕ → Members → List ℕ
text_named name ms = text_is (value_of name ms)

-- ---- texts with which nothing is wrong

pub room_of : (room place : ℕ) (t : Lexeme) → scalar_defects (TextUpTo room) place t ≡ [] → (l : List ℕ) × (text_of t ≡ some l) × (leb (length l) room ≡ true)
room_of room place t d = go (text_of t) d
  where
    go : (o : Option (List ℕ)) → text_defects room place o ≡ [] → (l : List ℕ) × (o ≡ some l) × (leb (length l) room ≡ true)
    go none d = absurd (impossible d)
    go (some l) d = (l, refl, passed (leb (length l) room) place 29 d)

some_text : (test : List ℕ → Bool) (place : ℕ) (t : Lexeme) → unless (some_with test (text_of t)) place not_published ≡ [] → (l : List ℕ) × (text_of t ≡ some l) × (test l ≡ true)
some_text test place t d = go (text_of t) (passed (some_with test (text_of t)) place not_published d)
  where
    go : (o : Option (List ℕ)) → some_with test o ≡ true → (l : List ℕ) × (o ≡ some l) × (test l ≡ true)
    go none d = absurd (false≢true d)
    go (some l) d = (l, refl, d)

-- what is one of some words is not longer than they may be
short_word : (words : List (List ℕ)) (l : List ℕ) → all (λ w. leb (length w) text_room) words ≡ true → is_one_of words l ≡ true → leb (length l) text_room ≡ true
short_word [] l a e = absurd (false≢true e)
short_word (w ∷ words) l a e =
    by_either (same_bytes l w) (is_one_of words l)
    (λ s. rw (names_told_lem.equal l w s) (and_left (leb (length w) text_room) (all (λ w. leb (length w) text_room) words) a))
    (λ s. short_word words l (and_right (leb (length w) text_room) (all (λ w. leb (length w) text_room) words) a) s)
    e

word_of : (words : List (List ℕ)) (place : ℕ) (t : Lexeme) → all (λ w. leb (length w) text_room) words ≡ true → scalar_defects (OneOf words) place t ≡ [] → (l : List ℕ) × (text_of t ≡ some l) × (leb (length l) text_room ≡ true)
word_of words place t a d = let q = some_text (is_one_of words) place t d in (q.0, q.1, short_word words q.0 a q.2)

uuid_of_lem : (place : ℕ) (t : Lexeme) → scalar_defects AUuid place t ≡ [] → (l : List ℕ) × (text_of t ≡ some l) × (is_uuid l ≡ true)
uuid_of_lem place t d = some_text is_uuid place t d

transform_of_lem : (place : ℕ) (t : Lexeme) → scalar_defects ATransform place t ≡ [] → (l : List ℕ) × (text_of t ≡ some l) × (is_transform l ≡ true)
transform_of_lem place t d = some_text is_transform place t d

module _ (version : ℕ) (bs cells : List ℕ) where
  -- ---- one value

  -- a lexeme whose place and magnitude are in the cells
  pub record Said (t : Lexeme) (at : ℕ) : Type 0 where
    pub there : is_there cells at ≡ true
    pub head : head_of bs cells at ≡ t.head
    pub size : get_or cells (suc at) 0 ≡ magnitude_of t
    pub others : List Lexeme
    pub again : lexemes_at bs (place_of cells at) ≡ t ∷ others
    pub whole : t.whole ≡ true

  pub said : (t : Lexeme) (at : ℕ) → get_or cells at 0 ≡ suc t.first → Sound version bs cells t → (is_there cells at ≡ true) × (head_of bs cells at ≡ t.head) × (place_of cells at ≡ t.first)
  unfolding is_there place_of head_of
  said t at e f =
      let p : suc t.first - 1 ≡ t.first = omega arith in
      (rw (e, lt-ltb 0 (suc t.first) (omega arith)), rw (e, p) f.1.head, rw (e, p))

  not_there : (at : ℕ) → get_or cells at 0 ≡ 0 → is_there cells at ≡ false
  unfolding is_there
  not_there at e = rw e

  -- a value that is no list and no object
  pub data SingleReading (shape : Shape) (name : List ℕ) (at : ℕ) (ms : Members) : Type 0 where
    nothing : value_of name ms ≡ none → is_there cells at ≡ false → SingleReading shape name at ms
    something : (t : Lexeme) (place : ℕ) → value_of name ms ≡ some (Scalar t) → Said t at → scalar_defects shape place t ≡ [] → SingleReading shape name at ms

  said_of : (t : Lexeme) (spot at : ℕ) → Holds version spot at (Scalar t) cells → eqb spot 0 ≡ false → Every (Sound version bs cells) (Scalar t) → Said t at
  unfolding Holds Every
  said_of t spot at h n f =
      let q = said t at (h n).0 f in
      record { there = q.0; head = q.1; size = (h n).1; others = f.1.others; again = ap (lexemes_at bs) q.2 ∙ f.1.again; whole = f.0 }

  pub single : (shape : Shape) (name : List ℕ) (spot at : ℕ) (ms : Members) → is_anything shape ≡ false → eqb spot 0 ≡ false → Reading version bs cells (Single shape) name spot at ms → SingleReading shape name at ms
  unfolding defects size_of
  single shape name spot at ms a n (missing e z) =
      let l : 0 < size_of (Single shape) = rw a (omega arith) in
      nothing e (not_there at (rw add-zero at (z 0 l)))
  single shape name spot at ms a n (present (Scalar t) schema of_schema e h d c f) = something t (stands_at of_schema schema t.first) e (said_of t spot at h n f) d
  single shape name spot at ms a n (present (Array place xs closed) schema of_schema e h d c f) = absurd (impossible (rw a at d))
  single shape name spot at ms a n (present (Object place ms' closed) schema of_schema e h d c f) = absurd (impossible (rw a at d))

  -- ---- numbers

  number_of_lem : (least most : ℤ) (place : ℕ) (t : Lexeme) → scalar_defects (NumberIn least most) place t ≡ [] → (z : ℤ) × (whole_number_of t ≡ some z) × ((le_z least z && le_z z most) ≡ true)
  number_of_lem least most place t d = go (whole_number_of t) refl (passed (is_number_in least most t) place not_published d)
    where
      go : (o : Option ℤ) → whole_number_of t ≡ o → some_with (λ n. le_z least n && le_z n most) o ≡ true → (z : ℤ) × (whole_number_of t ≡ some z) × ((le_z least z && le_z z most) ≡ true)
      go none e h = absurd (false≢true h)
      go (some z) e h = (z, e, h)

  -- what is there
  pub there_so : (shape : Shape) (name : List ℕ) (at : ℕ) (ms : Members) → SingleReading shape name at ms → is_there cells at ≡ is_some (value_of name ms)
  there_so shape name at ms (nothing e f) = rw (e, f)
  there_so shape name at ms (something t place e s d) = rw (e, s.there)

  module _ (least most : ℤ) (name : List ℕ) (at : ℕ) (ms : Members) where
    -- of 64 bits
    pub number_read : ((z : ℤ) → (le_z least z && le_z z most) ≡ true → fits64 z ≡ true) → SingleReading (NumberIn least most) name at ms → maybe_at bs cells at ≡ number_named name ms
    unfolding maybe_at number_at
    number_read w (nothing e f) = rw f (sym (ap number_of e))
    number_read w (something t place e s d) =
        let q = number_of_lem least most place t d in
        rw (s.there, s.head, s.size, signed_number t q.0 q.1 (w q.0 q.2)) (sym (ap number_of e ∙ q.1))

    -- of 32 bits
    pub narrow_read : ((z : ℤ) → (le_z least z && le_z z most) ≡ true → (le_z (negsuc 2147483647) z && le_z z (pos 2147483647)) ≡ true) → SingleReading (NumberIn least most) name at ms
        → maybe_narrow_at bs cells at ≡ number_named name ms
    unfolding maybe_narrow_at number_at
    narrow_read w (nothing e f) = rw f (sym (ap number_of e))
    narrow_read w (something t place e s d) =
        let q = number_of_lem least most place t d in
        let n = narrow_number q.0 (w q.0 q.2) in
        rw (s.there, s.head, s.size, signed_number t q.0 q.1 n.1, n.0) (sym (ap number_of e ∙ q.1))

    -- not below 0
    pub natural_read : ((z : ℤ) → (le_z least z && le_z z most) ≡ true → (le_z (pos 0) z && le_z z (pos 18446744073709551615)) ≡ true) → SingleReading (NumberIn least most) name at ms
        → (number_named name ms ≡ none → is_there cells at ≡ false) × ((z : ℤ) → number_named name ms ≡ some z → (is_there cells at ≡ true) × (natural_at cells at ≡ natural_of z))
    unfolding natural_at
    natural_read w (nothing e f) = ((λ n. f), (λ z g. let b : none ≡ some z = sym (ap number_of e) ∙ g in (cc, cc)))
    natural_read w (something t place e s d) =
        let q = number_of_lem least most place t d in (
          (λ n. let b : some q.0 ≡ none = sym (ap number_of e ∙ q.1) ∙ n in cc),
          (λ z g. let b : some q.0 ≡ some z = sym (ap number_of e ∙ q.1) ∙ g in
              let y : q.0 ≡ z = cc in
              (s.there, rw (s.there, s.size) (natural_number t q.0 q.1 (w q.0 q.2) ∙ ap natural_of y))),
        )

  -- ---- texts

  pub text_found_lem : (room at : ℕ) (t : Lexeme) (others : List Lexeme) (l : List ℕ) → is_there cells at ≡ true → lexemes_at bs (place_of cells at) ≡ t ∷ others → t.whole ≡ true → text_of t ≡ some l → leb (length l) room ≡ true
      → text_at bs cells room at ≡ l
  unfolding text_at
  text_found_lem room at t others l i a w e h = rw (i, a, e, w, h)

  text_held : (room at : ℕ) (t : Lexeme) (l : List ℕ) → Said t at → text_of t ≡ some l → leb (length l) room ≡ true → text_at bs cells room at ≡ l
  text_held room at t l s e h = text_found_lem room at t s.others l s.there s.again s.whole e h

  text_missing : (room at : ℕ) → is_there cells at ≡ false → text_at bs cells room at ≡ []
  unfolding text_at
  text_missing room at e = rw (e, le-leb 0 room (omega arith))

  -- where every text of a shape has room
  text_by_lem : (shape : Shape) (room : ℕ) (name : List ℕ) (at : ℕ) (ms : Members)
      → ((t : Lexeme) (place : ℕ) → scalar_defects shape place t ≡ [] → (l : List ℕ) × (text_of t ≡ some l) × (leb (length l) room ≡ true))
      → SingleReading shape name at ms → text_at bs cells room at ≡ text_named name ms
  text_by_lem shape room name at ms w (nothing e f) = text_missing room at f ∙ sym (ap text_is e)
  text_by_lem shape room name at ms w (something t place e s d) = let q = w t place d in text_held room at t q.0 s q.1 q.2 ∙ sym (ap text_is e ∙ ap (λ (o : Option (List ℕ)). or_else o []) q.1)

  pub text_read_lem : (room : ℕ) (name : List ℕ) (at : ℕ) (ms : Members) → SingleReading (TextUpTo room) name at ms → text_at bs cells room at ≡ text_named name ms
  text_read_lem room name at ms = text_by_lem (TextUpTo room) room name at ms (λ t place d. room_of room place t d)

  -- one of some words, each of which has room
  pub word_read : (words : List (List ℕ)) (name : List ℕ) (at : ℕ) (ms : Members) → all (λ w. leb (length w) text_room) words ≡ true → SingleReading (OneOf words) name at ms → text_at bs cells text_room at ≡ text_named name ms
  word_read words name at ms a = text_by_lem (OneOf words) text_room name at ms (λ t place d. word_of words place t a d)

  -- a uuid, or zeros
  pub uuid_read : (name : List ℕ) (at : ℕ) (ms : Members) → SingleReading AUuid name at ms → uuid_at bs cells at ≡ cond (is_some (value_of name ms)) (uuid_of (text_named name ms)) (replicate 16 0)
  unfolding uuid_at is_uuid
  uuid_read name at ms (nothing e f) = rw (text_missing text_room at f) (sym (ap (λ (o : Option Json). cond (is_some o) (uuid_of (text_is o)) (replicate 16 0)) e))
  uuid_read name at ms (something t place e s d) =
      let q = uuid_of_lem place t d in
      let n : text_named name ms ≡ q.0 = ap text_is e ∙ ap (λ (o : Option (List ℕ)). or_else o []) q.1 in
      rw (text_held text_room at t q.0 s q.1 (uuid_room q.0 q.2), q.2) (sym (ap (λ (o : Option Json). cond (is_some o) (uuid_of (text_is o)) (replicate 16 0)) e ∙ ap (λ (o : Option (List ℕ)). uuid_of (or_else o [])) q.1))

  -- a transform that is there
  pub transform_read : (name : List ℕ) (at : ℕ) (ms : Members) → is_some (value_of name ms) ≡ true → SingleReading ATransform name at ms → (text_at bs cells text_room at ≡ text_named name ms) × (is_transform (text_named name ms) ≡ true)
  transform_read name at ms i (nothing e f) = absurd (false≢true (rw e at i))
  transform_read name at ms i (something t place e s d) =
      let q = transform_of_lem place t d in
      let n : text_named name ms ≡ q.0 = ap text_is e ∙ ap (λ (o : Option (List ℕ)). or_else o []) q.1 in
      (text_held text_room at t q.0 s q.1 (transform_room q.0 q.2) ∙ sym n, ap is_transform n ∙ q.2)

  -- ---- a number or `null`

  pub current_read : (name : List ℕ) (spot at : ℕ) (ms : Members) → eqb spot 0 ≡ false → Reading version bs cells IdOrNull name spot at ms → cond (eqb (head_of bs cells at) 110) none (maybe_at bs cells at) ≡ number_named name ms
  unfolding defects size_of maybe_at
  current_read name spot at ms n (missing e z) =
      let f : is_there cells at ≡ false = not_there at (rw add-zero at (z 0 (omega arith))) in
      rw f (either (eqb (head_of bs cells at) 110) ∙ sym (ap number_of e))
    where
      either : (b : Bool) → ◌≡◌ {A = Option ℤ} (cond b none none) none
      either true = refl
      either false = refl
  current_read name spot at ms n (present (Scalar t) schema of_schema e h d c f) =
      let s : Said t at = said_of t spot at h n f in
      cases (eqb t.head 110)
      (λ b. rw (s.head, b) (sym (ap number_of e ∙ null_is_none t b)))
      (λ b. let l : scalar_defects i64 (stands_at of_schema schema t.first) t ≡ [] = rw b at d in
      rw (s.head, b) (number_read (negsuc 9223372036854775807) (pos 9223372036854775807) name at ms (λ z w. w) (something t (stands_at of_schema schema t.first) e s l)))
  current_read name spot at ms n (present (Array place xs closed) schema of_schema e h d c f) = absurd (impossible d)
  current_read name spot at ms n (present (Object place ms' closed) schema of_schema e h d c f) = absurd (impossible d)
