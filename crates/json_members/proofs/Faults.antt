-- What is wrong with a value, by its first byte: a text, a number, or a word.
use Prim.Native.Nat.{ℕ, ◌≤◌}
use mathlib.Core.Path.{◌≡◌, refl, sym, ap, ◌∙◌}
use mathlib.Core.Bool.{Bool, true, false, cond, ◌&&◌, ◌||◌, true≢false}
use mathlib.Core.List.{List, [], ◌∷◌}
use mathlib.Core.Option.{Option, none, some}
use native.Mathlib.Omega.{arith}
use borrow.Author.Tests.{eqb-true, eq-eqb, ne_eqb}
use borrow.Table.Steps.{cases}
use lib.Dec.{eqb, leb, ltb}
use lib.ListN.{length}
use Rattle.rules.specs.Words.{all, some_with}
use Rattle.json_rule.specs.Lexemes.{Lexeme, quote, minus, is_digit}
use Rattle.json_rule.specs.Values.{text_of, whole_number_of}
use Rattle.json_rule.specs.Tree.{Defect, over_capacity}
use Rattle.json_rule.specs.Members.{is_one_of}
use Rattle.json_rule.specs.Shapes.{Shape, Anything, TextUpTo, OneOf, NumberIn, No, AUuid, ATransform, ListUpTo, ARecord}
use Rattle.json_rule.specs.Defects.{not_published, refused_at, unless, is_uuid, is_transform, is_number_in, is_no, text_defects, is_anything, scalar_defects}
use Rattle.json_machine.specs.Digest.{lone_length}
use Rattle.json_members.specs.Kept.{front, TextKept, NumberKept, LexemeKept}
use Rattle.json_members.specs.Spots.{row_at, shape_at}
use Rattle.json_members.specs.Widths.{width_of, has_number}
use Rattle.json_members.specs.Faults.{Judged, number_in, fault_of, is_formed, text_fault, is_formed_at, form_fault_at, text_fault_at, fault_at}
use Rattle.json_members.proofs.Cases.{is_key}
use Rattle.json_members.proofs.Tables.{only_spots, every_spot}
use Rattle.json_members.proofs.Words.{longer}
use Rattle.json_members.proofs.Widths.{are_fair, number_in_lem}
use Rattle.json_members.proofs.Kept.{kept_told, length_told}
use Rattle.json_members.proofs.Uuids.{uuid_length}
use Rattle.json_members.proofs.Transforms.{transform_short}

-- ---- the one defect that a value may have

-- what is refused is the number that is told
abbrev At : ℕ → List Defect → List Defect → Type 0
At place ds first = ds ≡ cond (eqb (number_in first) 0) [] (refused_at place (number_in first))

unless_told : (holds : Bool) (place : ℕ) → At place (unless holds place not_published) (unless holds 0 not_published)
unless_told true place = refl
unless_told false place = refl

text_told : (room place : ℕ) (x : Option (List ℕ)) → At place (text_defects room place x) (text_defects room 0 x)
text_told room place none = refl
text_told room place (some text) = cases (leb (length text) room) (λ t. rw t) (λ f. rw f)

pub fault_told : (shape : Shape) (place : ℕ) (t : Lexeme) → scalar_defects shape place t ≡ cond (eqb (fault_of shape t) 0) [] (refused_at place (fault_of shape t))
unfolding fault_of
fault_told Anything place t = refl
fault_told (TextUpTo room) place t = text_told room place (text_of t)
fault_told (OneOf words) place t = unless_told (some_with (is_one_of words) (text_of t)) place
fault_told (NumberIn least most) place t = unless_told (is_number_in least most t) place
fault_told No place t = unless_told (is_no t) place
fault_told AUuid place t = unless_told (some_with is_uuid (text_of t)) place
fault_told ATransform place t = unless_told (some_with is_transform (text_of t)) place
fault_told (ListUpTo room each) place t = refl
fault_told (ARecord kind) place t = refl

unless_number : (holds : Bool) → number_in (unless holds 0 not_published) ≡ cond holds 0 not_published
unless_number true = refl
unless_number false = refl

-- ---- a text

text_number : (room : ℕ) (x : Option (List ℕ)) → number_in (text_defects room 0 x) ≡ text_fault (TextUpTo room) x
text_number room none = refl
text_number room (some text) = cases (leb (length text) room) (λ t. rw t) (λ f. rw f)

module _ (t : Lexeme) (q : t.head ≡ quote) where
  no_number_lem : whole_number_of t ≡ none
  unfolding is_digit whole_number_of
  no_number_lem = rw q

  no_word : is_no t ≡ false
  no_word = rw q

  pub text_fault_lem : (shape : Shape) → fault_of shape t ≡ text_fault shape (text_of t)
  unfolding fault_of
  text_fault_lem Anything = refl
  text_fault_lem (TextUpTo room) = text_number room (text_of t)
  text_fault_lem (OneOf words) = unless_number (some_with (is_one_of words) (text_of t))
  text_fault_lem (NumberIn least most) = rw no_number_lem
  text_fault_lem No = rw no_word
  text_fault_lem AUuid = unless_number (some_with is_uuid (text_of t))
  text_fault_lem ATransform = unless_number (some_with is_transform (text_of t))
  text_fault_lem (ListUpTo room each) = refl
  text_fault_lem (ARecord kind) = refl

-- ---- a number or a word

-- what is no text is right where a number fits, or where it is `false`
abbrev pub plain_right : Shape → Lexeme → Bool
plain_right Anything t = false
plain_right (TextUpTo room) t = false
plain_right (OneOf words) t = false
plain_right (NumberIn least most) t = is_number_in least most t
plain_right No t = is_no t
plain_right AUuid t = false
plain_right ATransform t = false
plain_right (ListUpTo room each) t = false
plain_right (ARecord kind) t = false

no_text_lem : (t : Lexeme) → (t.head ≡ quote → ⊥) → text_of t ≡ none
unfolding text_of
no_text_lem t n = rw (ne_eqb t.head quote n)

pub plain_fault : (shape : Shape) (t : Lexeme) → (t.head ≡ quote → ⊥) → is_anything shape ≡ false → fault_of shape t ≡ cond (plain_right shape t) 0 not_published
unfolding fault_of
plain_fault Anything t n a = absurd (true≢false a)
plain_fault (TextUpTo room) t n a = rw (no_text_lem t n)
plain_fault (OneOf words) t n a = rw (no_text_lem t n)
plain_fault (NumberIn least most) t n a = unless_number (is_number_in least most t)
plain_fault No t n a = unless_number (is_no t)
plain_fault AUuid t n a = rw (no_text_lem t n)
plain_fault ATransform t n a = rw (no_text_lem t n)
plain_fault (ListUpTo room each) t n a = refl
plain_fault (ARecord kind) t n a = refl

-- ---- texts of words and forms

-- all words of a shape are shorter than what is kept
abbrev is_short : Shape → Bool
is_short Anything = true
is_short (TextUpTo room) = true
is_short (OneOf words) = all (λ w. ltb (length w) 97) words
is_short (NumberIn least most) = true
is_short No = true
is_short AUuid = true
is_short ATransform = true
is_short (ListUpTo room each) = true
is_short (ARecord kind) = true

formed_short : (shape : Shape) (text : List ℕ) → is_short shape ≡ true → 97 ≤ length text → is_formed shape text ≡ false
formed_short Anything text s h = refl
formed_short (TextUpTo room) text s h = refl
formed_short (OneOf words) text s h = longer words text s h
formed_short (NumberIn least most) text s h = refl
formed_short No text s h = refl
formed_short AUuid text s h = uuid_length text (λ e. omega arith)
formed_short ATransform text s h = transform_short text h
formed_short (ListUpTo room each) text s h = refl
formed_short (ARecord kind) text s h = refl

short_spot : (spot : ℕ) → is_short (shape_at spot) ≡ true
unfolding row_at
short_spot spot = every_spot is_short spot refl refl

-- one word alone
pub or_none : (a : Bool) → a || false ≡ a
or_none true = refl
or_none false = refl

-- a shape that a text may be right for by its words or its form
abbrev pub may_form : Shape → Bool
may_form Anything = false
may_form (TextUpTo room) = false
may_form (OneOf []) = false
may_form (OneOf (w ∷ ws)) = true
may_form (NumberIn least most) = false
may_form No = false
may_form AUuid = true
may_form ATransform = true
may_form (ListUpTo room each) = false
may_form (ARecord kind) = false

pub not_formed_lem : (shape : Shape) (text : List ℕ) → may_form shape ≡ false → is_formed shape text ≡ false
not_formed_lem Anything text n = refl
not_formed_lem (TextUpTo room) text n = refl
not_formed_lem (OneOf []) text n = refl
not_formed_lem (OneOf (w ∷ ws)) text n = absurd (true≢false n)
not_formed_lem (NumberIn least most) text n = refl
not_formed_lem No text n = refl
not_formed_lem AUuid text n = absurd (true≢false n)
not_formed_lem ATransform text n = absurd (true≢false n)
not_formed_lem (ListUpTo room each) text n = refl
not_formed_lem (ARecord kind) text n = refl

-- ---- numbers

abbrev is_fair : Shape → Bool
is_fair Anything = true
is_fair (TextUpTo room) = true
is_fair (OneOf words) = true
is_fair (NumberIn least most) = are_fair least most
is_fair No = true
is_fair AUuid = true
is_fair ATransform = true
is_fair (ListUpTo room each) = true
is_fair (ARecord kind) = true

fair_spot : (spot : ℕ) → is_fair (shape_at spot) ≡ true
unfolding row_at
fair_spot spot = every_spot is_fair spot refl refl

and_none : (a : Bool) → a && false ≡ false
and_none true = refl
and_none false = refl

and_all_lem : (a : Bool) → a && true ≡ a
and_all_lem true = refl
and_all_lem false = refl

number_right : (shape : Shape) (integer : Bool) (magnitude : ℕ) (t : Lexeme) → is_fair shape ≡ true → is_no t ≡ false → NumberKept integer magnitude t → integer && has_number (width_of shape) (eqb t.head minus) magnitude ≡ plain_right shape t
number_right Anything integer magnitude t fair n k = and_none integer
number_right (TextUpTo room) integer magnitude t fair n k = and_none integer
number_right (OneOf words) integer magnitude t fair n k = and_none integer
number_right (NumberIn least most) integer magnitude t fair n k = number_in_lem least most t fair integer magnitude k
number_right No integer magnitude t fair n k = and_none integer ∙ sym n
number_right AUuid integer magnitude t fair n k = and_none integer
number_right ATransform integer magnitude t fair n k = and_none integer
number_right (ListUpTo room each) integer magnitude t fair n k = and_none integer
number_right (ARecord kind) integer magnitude t fair n k = and_none integer

-- the first byte of a number begins neither a text nor `false`
module _ (t : Lexeme) (d : eqb t.head minus || is_digit t.head ≡ true) where
  begins_number_lem : (b : ℕ) → eqb b minus || is_digit b ≡ false → t.head ≡ b → ⊥
  begins_number_lem b n e = true≢false (sym d ∙ rw e n)

  not_quote : t.head ≡ quote → ⊥
  unfolding is_digit
  not_quote e = begins_number_lem quote refl e

  not_word : is_no t ≡ false
  unfolding is_digit
  not_word = ne_eqb t.head 102 (λ e. begins_number_lem 102 refl e)

-- a number at a spot
pub number_fault : (spot : ℕ) (integer negative : Bool) (magnitude : ℕ) (t : Lexeme) → Judged spot → eqb t.head minus ≡ negative → eqb t.head minus || is_digit t.head ≡ true → NumberKept integer magnitude t → cond (integer && has_number (width_of (shape_at spot)) negative magnitude) 0 not_published ≡ fault_of (shape_at spot) t
number_fault spot integer negative magnitude t j e d k =
    ap (λ (b : Bool). cond b 0 not_published)
    (ap (λ (b : Bool). integer && has_number (width_of (shape_at spot)) b magnitude) (sym e) ∙ number_right (shape_at spot) integer magnitude t (fair_spot spot) (not_word t d) k)
    ∙ sym (plain_fault (shape_at spot) t (not_quote t d) j.something)

-- ---- words

abbrev is_no_shape : Shape → Bool
is_no_shape Anything = false
is_no_shape (TextUpTo room) = false
is_no_shape (OneOf words) = false
is_no_shape (NumberIn least most) = false
is_no_shape No = true
is_no_shape AUuid = false
is_no_shape ATransform = false
is_no_shape (ListUpTo room each) = false
is_no_shape (ARecord kind) = false

word_right : (shape : Shape) (t : Lexeme) → whole_number_of t ≡ none → plain_right shape t ≡ is_no_shape shape && is_no t
word_right Anything t n = refl
word_right (TextUpTo room) t n = refl
word_right (OneOf words) t n = refl
word_right (NumberIn least most) t n = rw n
word_right No t n = refl
word_right AUuid t n = refl
word_right ATransform t n = refl
word_right (ListUpTo room each) t n = refl
word_right (ARecord kind) t n = refl

-- one spot wants `false`
no_spot : (spot : ℕ) → eqb spot 42 ≡ is_no_shape (shape_at spot)
unfolding row_at
no_spot spot =
    cases (eqb spot 42)
    (λ e. rw (eqb-true spot 42 e))
    (λ f. rw f (sym (only_spots is_no_shape ((42 ∷ []) ∷ []) spot refl refl (rw f))))

not_numeral : (t : Lexeme) → eqb t.head minus ≡ false → is_digit t.head ≡ false → whole_number_of t ≡ none
unfolding whole_number_of
not_numeral t m d = rw (m, d)

module _ (spot head : ℕ) (t : Lexeme) (j : Judged spot) (is : t.head ≡ head) (q : head ≡ quote → ⊥) (m : head ≡ minus → ⊥) (d : is_digit head ≡ false) where
  word_at : cond (eqb spot 42 && is_no t) 0 not_published ≡ fault_of (shape_at spot) t
  word_at =
      let n = not_numeral t (ne_eqb t.head minus (λ e. m (sym is ∙ e))) (ap is_digit is ∙ d) in
      ap (λ (b : Bool). cond b 0 not_published) (ap (λ (b : Bool). b && is_no t) (no_spot spot) ∙ sym (word_right (shape_at spot) t n))
      ∙ sym (plain_fault (shape_at spot) t (λ e. q (sym is ∙ e)) j.something)

  pub false_fault : head ≡ 102 → cond (eqb spot 42) 0 not_published ≡ fault_of (shape_at spot) t
  false_fault e = ap (λ (b : Bool). cond b 0 not_published) (sym (and_all_lem (eqb spot 42)) ∙ ap (λ (b : Bool). eqb spot 42 && b) (sym (eq-eqb t.head 102 (is ∙ e)))) ∙ word_at

  pub word_fault : (head ≡ 102 → ⊥) → not_published ≡ fault_of (shape_at spot) t
  word_fault n = ap (λ (b : Bool). cond b 0 not_published) (sym (and_none (eqb spot 42)) ∙ ap (λ (b : Bool). eqb spot 42 && b) (sym (ne_eqb t.head 102 (λ e. n (sym is ∙ e))))) ∙ word_at

-- ---- texts at a spot

-- a text without bytes is wrong everywhere
lone_fault : (shape : Shape) → is_anything shape ≡ false → not_published ≡ text_fault shape none
lone_fault Anything a = absurd (true≢false a)
lone_fault (TextUpTo room) a = refl
lone_fault (OneOf words) a = refl
lone_fault (NumberIn least most) a = refl
lone_fault No a = refl
lone_fault AUuid a = refl
lone_fault ATransform a = refl
lone_fault (ListUpTo room each) a = refl
lone_fault (ARecord kind) a = refl

abbrev is_room : Shape → Bool
is_room Anything = false
is_room (TextUpTo room) = true
is_room (OneOf words) = false
is_room (NumberIn least most) = false
is_room No = false
is_room AUuid = false
is_room ATransform = false
is_room (ListUpTo room each) = false
is_room (ARecord kind) = false

formed_fault : (shape : Shape) (text : List ℕ) → is_anything shape ≡ false → is_room shape ≡ false → cond (is_formed shape text) 0 not_published ≡ text_fault shape (some text)
formed_fault Anything text a r = absurd (true≢false a)
formed_fault (TextUpTo room) text a r = absurd (true≢false r)
formed_fault (OneOf words) text a r = refl
formed_fault (NumberIn least most) text a r = refl
formed_fault No text a r = refl
formed_fault AUuid text a r = refl
formed_fault ATransform text a r = refl
formed_fault (ListUpTo room each) text a r = refl
formed_fault (ARecord kind) text a r = refl

no_room : (spot : ℕ) → is_key ((6 ∷ []) ∷ (9 ∷ 41 ∷ 56 ∷ []) ∷ []) spot ≡ false → is_room (shape_at spot) ≡ false
unfolding row_at
no_room spot m = only_spots is_room ((6 ∷ []) ∷ (9 ∷ 41 ∷ 56 ∷ []) ∷ []) spot refl refl m

module _ (spot : ℕ) (kept : List ℕ) (len : ℕ) (j : Judged spot) where
  pub lone_at : len ≡ lone_length → (x : Option (List ℕ)) → TextKept kept len x → not_published ≡ text_fault (shape_at spot) x
  lone_at e none k = lone_fault (shape_at spot) j.something
  lone_at e (some text) k = absurd (omega (arith, k.count))

  module _ (n : len ≡ lone_length → ⊥) where
    pub length_at : (room : ℕ) → shape_at spot ≡ TextUpTo room → room ≤ 96 → (x : Option (List ℕ)) → TextKept kept len x → cond (leb len room) 0 over_capacity ≡ text_fault (shape_at spot) x
    length_at room e h none k = absurd (n k)
    length_at room e h (some text) k = rw (e, length_told kept len text room k h)

    pub formed_at : is_key ((6 ∷ []) ∷ (9 ∷ 41 ∷ 56 ∷ []) ∷ []) spot ≡ false → (x : Option (List ℕ)) → TextKept kept len x → cond (is_formed (shape_at spot) (front len kept)) 0 not_published ≡ text_fault (shape_at spot) x
    formed_at m none k = absurd (n k)
    formed_at m (some text) k =
        ap (λ (b : Bool). cond b 0 not_published) (kept_told kept len (is_formed (shape_at spot)) false (λ l h. formed_short (shape_at spot) l (short_spot spot) h) (some text) k)
        ∙ formed_fault (shape_at spot) text j.something (no_room spot m)

-- ---- what is told of what is kept

neither : (a b : Bool) → a || b ≡ false → (a ≡ false) × (b ≡ false)
neither true b e = absurd (true≢false e)
neither false b e = (refl, e)

-- where no length is asked, it is by the words or the form
pub formed_else : (spot : ℕ) (kept : List ℕ) (len : ℕ) → is_key ((6 ∷ []) ∷ (9 ∷ 41 ∷ 56 ∷ []) ∷ []) spot ≡ false → cond (is_formed_at spot (front len kept)) 0 not_published ≡ form_fault_at spot kept len
unfolding form_fault_at
formed_else spot kept len n =
    let a = neither (eqb spot 6 || false) _ n in
    let b = neither (eqb spot 9 || (eqb spot 41 || (eqb spot 56 || false))) false a.1 in
    let c = neither (eqb spot 9) _ b.0 in
    let d = neither (eqb spot 41) _ c.1 in
    rw ((neither (eqb spot 6) false a.0).0, c.0, d.0, (neither (eqb spot 56) false d.1).0)

module _ (spot : ℕ) (kept : List ℕ) (len : ℕ) (j : Judged spot) where
  form_fault : (len ≡ lone_length → ⊥) → (x : Option (List ℕ)) → TextKept kept len x → form_fault_at spot kept len ≡ text_fault (shape_at spot) x
  unfolding form_fault_at row_at
  form_fault n x k =
      cases (eqb spot 6)
      (λ e. rw e (length_at spot kept len j n 96 (ap shape_at (eqb-true spot 6 e)) (omega arith) x k))
      (λ a. cases (eqb spot 9)
      (λ e. rw (a, e) (length_at spot kept len j n 32 (ap shape_at (eqb-true spot 9 e)) (omega arith) x k))
      (λ b. cases (eqb spot 41)
      (λ e. rw (a, b, e) (length_at spot kept len j n 32 (ap shape_at (eqb-true spot 41 e)) (omega arith) x k))
      (λ c. cases (eqb spot 56)
      (λ e. rw (a, b, c, e) (length_at spot kept len j n 32 (ap shape_at (eqb-true spot 56 e)) (omega arith) x k))
      (λ d. rw (a, b, c, d, j.other) (formed_at spot kept len j n (rw (a, b, c, d)) x k)))))

  text_fault_at_lem : (x : Option (List ℕ)) → TextKept kept len x → text_fault_at spot kept len ≡ text_fault (shape_at spot) x
  text_fault_at_lem x k =
      cases (eqb len lone_length)
      (λ e. rw e (lone_at spot kept len j (eqb-true len lone_length e) x k))
      (λ n. rw n (form_fault (λ e. true≢false (sym (eq-eqb len lone_length e) ∙ n)) x k))

-- what is told is what the rule says of the lexeme
pub fault_at_lem : (spot : ℕ) (kept : List ℕ) (len : ℕ) (integer : Bool) (magnitude : ℕ) (t : Lexeme) → Judged spot → LexemeKept kept len integer magnitude t → fault_at spot kept t.head len integer magnitude ≡ fault_of (shape_at spot) t
unfolding fault_at
fault_at_lem spot kept len integer magnitude t j k =
    cases (eqb t.head quote)
    (λ q. rw q (text_fault_at_lem spot kept len j (text_of t) (k.text q) ∙ sym (text_fault_lem t (eqb-true t.head quote q) (shape_at spot))))
    (λ q. cases (eqb t.head minus)
    (λ m. rw (q, m) (number_fault spot integer true magnitude t j m (rw m) (k.number (rw m))))
    (λ m. cases (is_digit t.head)
    (λ d. rw (q, m, d) (number_fault spot integer false magnitude t j m (rw (m, d)) (k.number (rw (m, d)))))
    (λ d. cases (eqb t.head 102)
    (λ w. rw (q, m, d, w) (false_fault spot t.head t j refl (not_at q) (not_at m) d (eqb-true t.head 102 w)))
    (λ w. rw (q, m, d, w) (word_fault spot t.head t j refl (not_at q) (not_at m) d (not_at w))))))
  where
    not_at : {b : ℕ} → eqb t.head b ≡ false → t.head ≡ b → ⊥
    not_at {b} n e = true≢false (sym (eq-eqb t.head b e) ∙ n)
