-- What is known of a lexeme that is right at its spot: what it says, and that what is kept of it is all of it.
use Prim.Native.Nat.{ℕ, ◌≤◌, ◌^◌}
use mathlib.Core.Path.{◌≡◌, refl, sym, ap, ◌∙◌}
use mathlib.Core.Bool.{Bool, true, false, cond, ◌&&◌, ◌||◌, true≢false}
use mathlib.Core.List.{List, []}
use mathlib.Core.Option.{Option, none, some}
use native.Mathlib.Omega.{arith}
use borrow.Author.Tests.{ne_eqb, le-leb, lt-leb}
use borrow.Table.Steps.{cases}
use lib.Dec.{eqb, leb, ltb}
use lib.IntN.{ℤ}
use lib.ListN.{length}
use Rattle.rules.specs.Words.{some_with}
use Rattle.rules.proofs.Checks.{and_left, and_right, neither}
use Rattle.json_rule.specs.Lexemes.{Lexeme, quote, minus, is_digit}
use Rattle.json_rule.specs.Values.{text_of, whole_number_of}
use Rattle.json_rule.specs.Tree.{over_capacity}
use Rattle.json_rule.specs.Members.{is_one_of}
use Rattle.json_rule.specs.Shapes.{Shape, TextUpTo, OneOf, NumberIn, AUuid, ATransform}
use Rattle.json_rule.specs.Defects.{not_published, unless, text_defects, is_uuid, is_transform, is_number_in}
use Rattle.json_machine.proofs.Slots.{First}
use Rattle.json_machine.proofs.Numbers.{signed_by}
use Rattle.json_members.specs.Kept.{front, TextKept, LexemeKept, NumberKept}
use Rattle.json_members.specs.Spots.{shape_at}
use Rattle.json_members.specs.Widths.{width_of, has_number}
use Rattle.json_members.specs.Faults.{Judged, fault_of, number_in}
use Rattle.json_members.proofs.Faults.{number_fault}
use Rattle.json_members.proofs.Kept.{kept_told}
use Rattle.json_members.proofs.Fronts.{front_length}
use Rattle.json_members.proofs.Uuids.{fits}
use Rattle.json_gather.proofs.Claims.{exact}

-- ---- a test that holds where nothing is wrong

holds_then : (b : Bool) (n : ℕ) → (n ≡ 0 → ⊥) → number_in (unless b 0 n) ≡ 0 → b ≡ true
holds_then true n z e = refl
holds_then false n z e = absurd (z e)

not_zero : not_published ≡ 0 → ⊥
not_zero e = omega arith

over_zero : over_capacity ≡ 0 → ⊥
over_zero e = omega arith

-- the test of the texts that a shape takes
abbrev fitting : ℕ → List ℕ → Bool
fitting room text = leb (length text) room

text_passes : (room : ℕ) (x : Option (List ℕ)) → number_in (text_defects room 0 x) ≡ 0 → some_with (fitting room) x ≡ true
text_passes room none e = absurd (not_zero e)
text_passes room (some text) e = holds_then (fitting room text) over_capacity over_zero e

-- ---- a text

-- a text that passes a test, whose first bytes are kept
pub record RightText (kept : List ℕ) (len : ℕ) (test : List ℕ → Bool) (t : Lexeme) : Type 0 where
  pub quoted : eqb t.head quote ≡ true
  pub text : List ℕ
  pub said : text_of t ≡ some text
  pub passes : test text ≡ true
  pub first : First kept len text

module _ (t : Lexeme) {kept : List ℕ} {len : ℕ} {integer : Bool} {magnitude : ℕ} (k : LexemeKept kept len integer magnitude t) where
  text_quoted : (x : Option (List ℕ)) (test : List ℕ → Bool) → text_of t ≡ x → some_with test x ≡ true → eqb t.head quote ≡ true
  unfolding text_of
  text_quoted x test e h =
      cases (eqb t.head quote) (λ q. q)
      (λ q. let z : x ≡ none = sym e ∙ rw q in absurd (true≢false (sym h ∙ rw z)))

  right_text : (test : List ℕ → Bool) (x : Option (List ℕ)) → text_of t ≡ x → some_with test x ≡ true → RightText kept len test t
  right_text test none e h = absurd (true≢false (sym h))
  right_text test (some text) e h =
      let q = text_quoted (some text) test e h in
      let f : TextKept kept len (some text) = rw e at (k.text q) in
      record { quoted = q; text = text; said = e; passes = h; first = f }

  pub short_right : (room : ℕ) → fault_of (TextUpTo room) t ≡ 0 → RightText kept len (λ text. leb (length text) room) t
  unfolding fault_of
  short_right room e = right_text (fitting room) (text_of t) refl (text_passes room (text_of t) e)

  pub word_right : (words : List (List ℕ)) → fault_of (OneOf words) t ≡ 0 → RightText kept len (is_one_of words) t
  unfolding fault_of
  word_right words e = right_text (is_one_of words) (text_of t) refl (holds_then (some_with (is_one_of words) (text_of t)) not_published not_zero e)

  pub uuid_right : fault_of AUuid t ≡ 0 → RightText kept len is_uuid t
  unfolding fault_of
  uuid_right e = right_text is_uuid (text_of t) refl (holds_then (some_with is_uuid (text_of t)) not_published not_zero e)

  pub transform_right : fault_of ATransform t ≡ 0 → RightText kept len is_transform t
  unfolding fault_of
  transform_right e = right_text is_transform (text_of t) refl (holds_then (some_with is_transform (text_of t)) not_published not_zero e)

-- one that is short enough is kept whole
module _ {kept : List ℕ} {len : ℕ} {text : List ℕ} (f : First kept len text) (h : length text ≤ 96) where
  abbrev or_nothing : List ℕ → List ℕ
  or_nothing l = cond (leb (length l) 96) l []

  pub kept_length : len ≡ length text
  kept_length = omega (arith, f.count)

  pub kept_whole : front len kept ≡ text
  kept_whole =
      let e = kept_told kept len or_nothing [] (λ l g. rw (long l g)) (some text) f in
      let a : or_nothing (front len kept) ≡ front len kept = rw (front_length len kept, le-leb len 96 (omega (arith, f.count))) in
      let b : or_nothing text ≡ text = rw (le-leb (length text) 96 h) in
      sym a ∙ (e ∙ b)
    where
      long : (l : List ℕ) → 97 ≤ length l → leb (length l) 96 ≡ false
      long l g = lt-leb (length l) 96 (omega arith)

-- ---- a number

-- a number of a shape, with its sign and its magnitude
pub record RightNumber (shape : Shape) (magnitude : ℕ) (t : Lexeme) : Type 0 where
  pub unquoted : eqb t.head quote ≡ false
  pub said : whole_number_of t ≡ some (exact (eqb t.head minus) magnitude)
  pub fits : has_number (width_of shape) (eqb t.head minus) magnitude ≡ true

exact_by : (b : Bool) (n : ℕ) → exact b n ≡ cond b (exact true n) (exact false n)
exact_by true n = refl
exact_by false n = refl

-- a number that is kept whole
number_said : {t : Lexeme} {integer : Bool} {magnitude : ℕ} (n : NumberKept integer magnitude t) → integer ≡ true → whole_number_of t ≡ some (exact (eqb t.head minus) magnitude)
number_said {t} {integer} {magnitude} n whole =
    let w : n.is_whole ≡ true = and_left n.is_whole (ltb n.value (2 ^ 64)) (sym n.told ∙ whole) in
    n.number ∙ (ap (λ (b : Bool). cond b (some (signed_by t.head n.value)) none) w ∙ ap some (ap (signed_by t.head) (sym (n.is whole)) ∙ sym (exact_by (eqb t.head minus) magnitude)))

module _ (t : Lexeme) {kept : List ℕ} {len : ℕ} {integer : Bool} {magnitude : ℕ} (k : LexemeKept kept len integer magnitude t) where
  begins_so : eqb t.head minus || is_digit t.head ≡ true → eqb t.head quote ≡ false
  unfolding is_digit
  begins_so d = ne_eqb t.head quote (λ e. true≢false (sym d ∙ rw e))

  is_number : (least most : ℤ) → is_number_in least most t ≡ true → eqb t.head minus || is_digit t.head ≡ true
  unfolding whole_number_of
  is_number least most e =
      cases (eqb t.head minus || is_digit t.head) (λ d. d)
      (λ n. let z = neither (eqb t.head minus) (is_digit t.head) n in
      absurd (true≢false (sym e ∙ rw (z.0, z.1))))

  pub number_right : (v : ℕ) (least most : ℤ) → Judged v → shape_at v ≡ NumberIn least most → fault_of (shape_at v) t ≡ 0 → RightNumber (NumberIn least most) magnitude t
  unfolding fault_of
  number_right v least most j s e =
      let i : is_number_in least most t ≡ true = holds_then (is_number_in least most t) not_published not_zero (rw s at e) in
      let d = is_number least most i in
      let n = k.number d in
      let both : integer && has_number (width_of (shape_at v)) (eqb t.head minus) magnitude ≡ true
      = right (integer && has_number (width_of (shape_at v)) (eqb t.head minus) magnitude) (number_fault v integer (eqb t.head minus) magnitude t j refl d n ∙ e) in
      let whole : integer ≡ true = and_left integer (has_number (width_of (shape_at v)) (eqb t.head minus) magnitude) both in
      record {
        unquoted = begins_so d;
        said = number_said n whole;
        fits = rw s at (and_right integer (has_number (width_of (shape_at v)) (eqb t.head minus) magnitude) both);
      }
    where
      right : (b : Bool) → cond b 0 not_published ≡ 0 → b ≡ true
      right true e = refl
      right false e = absurd (not_zero e)
