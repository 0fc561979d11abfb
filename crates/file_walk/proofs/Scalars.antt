-- What is said and held of a value that is no list and no object, by what is kept of its lexeme.
use Prim.Native.Nat.{ℕ, zero, suc, ◌+◌, ◌^◌, ◌≤◌, ◌<◌}
use native.Mathlib.Omega.{arith}
use mathlib.Core.Path.{◌≡◌, refl, sym, ap, ap₂, ◌∙◌}
use mathlib.Core.Bool.{Bool, true, false, cond}
use mathlib.Core.List.{List, ◌∷◌}
use mathlib.Core.Option.{Option, none, some}
use lib.Dec.{eqb, ltb, leb}
use lib.IntN.{ℤ}
use lib.ListN.{length, set}
use native.Mathlib.Numerals.{add-one}
use borrow.Table.Steps.{cases}
use Rattle.rules.specs.Words.{some_with}
use Rattle.rules.proofs.Checks.{neither, both}
use Rattle.json_rule.specs.Lexemes.{Lexeme, minus, is_digit}
use Rattle.json_rule.specs.Values.{text_of, whole_number_of}
use Rattle.json_rule.specs.Shapes.{Shape, Anything, TextUpTo, OneOf, NumberIn, No, AUuid, ATransform, ListUpTo, ARecord, i64}
use Rattle.json_rule.specs.Tree.{Defect, over_capacity, is_scalar, Scalar, Whole, Missing}
use Rattle.json_rule.specs.Members.{is_one_of}
use Rattle.json_rule.specs.Defects.{stands_at, unless, not_published, text_defects, scalar_defects, is_number_in, is_no, is_uuid, is_transform, least}
use Rattle.json_machine.proofs.Numbers.{signed_by}
use Rattle.json_members.specs.Kept.{LexemeKept, NumberKept}
use Rattle.json_members.specs.Faults.{number_in}
use Rattle.file_rule.specs.Tables.{FileShape, Single, IdOrNull, Several, ByName, OfKind}
use Rattle.file_rule.specs.FileDefects.{single_defects, is_null, defects}
use Rattle.file_cells.specs.Filled.{magnitude, magnitude_of, put_value, filled}
use Rattle.file_cells.specs.Wants.{shape_of, stands_at_schema}
use Rattle.file_members.specs.Faults.{single_fault}
use Rattle.json_judge.specs.Refusal.{sooner}
use Rattle.json_tokens.specs.Tokens.{lexemes_at, TokenAt}
use Rattle.json_tokens.specs.declared.token.Token.{Token}
use Rattle.file_walk.specs.declared.seat.Seat.{Seat}
use Rattle.file_walk.specs.Seats.{refusal_of, said_by, refused, counting, stopped}
use Rattle.file_walk.specs.Walked.{FaultSaid, begins_number, size_kept, stands_alone, Kept, ScalarHeld, scalar_from, ScalarRead}
use Rattle.file_walk.proofs.Said.{said_refused}
use Rattle.file_walk.proofs.Tokens.{by_state}

-- ---- one defect at most, whose place is the given one

unless_said : (b : Bool) (place number : ℕ) → eqb number 0 ≡ false → least (unless b place number) ≡ refusal_of (number_in (unless b 0 number)) place
unless_said true place number h = refl
unless_said false place number h = rw h

text_said : (room place : ℕ) (o : Option (List ℕ)) → least (text_defects room place o) ≡ refusal_of (number_in (text_defects room 0 o)) place
text_said room place none = refl
text_said room place (some bs) = unless_said (leb (length bs) room) place over_capacity refl

scalar_said : (shape : Shape) (place : ℕ) (t : Lexeme) → least (scalar_defects shape place t) ≡ refusal_of (number_in (scalar_defects shape 0 t)) place
scalar_said Anything place t = refl
scalar_said (TextUpTo room) place t = text_said room place (text_of t)
scalar_said (OneOf words) place t = unless_said (some_with (is_one_of words) (text_of t)) place not_published refl
scalar_said (NumberIn low high) place t = unless_said (is_number_in low high t) place not_published refl
scalar_said No place t = unless_said (is_no t) place not_published refl
scalar_said AUuid place t = unless_said (some_with is_uuid (text_of t)) place not_published refl
scalar_said ATransform place t = unless_said (some_with is_transform (text_of t)) place not_published refl
scalar_said (ListUpTo room shape) place t = refl
scalar_said (ARecord kind) place t = refl

pub single_said : (shape : FileShape) (place : ℕ) (t : Lexeme) → least (single_defects shape place t) ≡ refusal_of (number_in (single_defects shape 0 t)) place
single_said (Single shape) place t = scalar_said shape place t
single_said IdOrNull place t = cases (is_null t) (λ e. rw e) (λ e. rw e (scalar_said i64 place t))
single_said (Several room each) place t = refl
single_said (ByName room each) place t = refl
single_said (OfKind kind) place t = refl

-- ---- the magnitude

magnitude_signed : (head v : ℕ) → magnitude (signed_by head v) ≡ v
magnitude_signed head zero = cases (eqb head minus) (λ e. rw e) (λ e. rw e)
magnitude_signed head (suc v) = cases (eqb head minus) (λ e. rw e) (λ e. rw e)

abbrev size_in : Option ℤ → ℕ
size_in none = 0
size_in (some z) = cond (ltb (magnitude z) (2 ^ 64)) (magnitude z) 0

by_number : (t : Lexeme) (o : Option ℤ) → whole_number_of t ≡ o → magnitude_of t ≡ size_in o
unfolding magnitude_of
by_number t o e = go (whole_number_of t) ∙ ap size_in e
  where
    go : (x : Option ℤ) → (elim x as (λ y. ℕ) [ none ↦ 0 | some z ↦ cond (ltb (magnitude z) (2 ^ 64)) (magnitude z) 0 ]) ≡ size_in x
    go none = refl
    go (some z) = refl

number_size : (integer : Bool) (m : ℕ) (t : Lexeme) → NumberKept integer m t → magnitude_of t ≡ cond integer m 0
number_size integer m t k =
    by_number t (cond k.is_whole (some (signed_by t.head k.value)) none) k.number
    ∙ cases k.is_whole
    (λ w. cases (ltb k.value (2 ^ 64))
    (λ f.
    let i : integer ≡ true = k.told ∙ both w f in
    rw (w, magnitude_signed t.head k.value, f, i) (sym (k.is i)))
    (λ f.
    let i : integer ≡ false = k.told ∙ rw (w, f) in
    rw (w, magnitude_signed t.head k.value, f, i)))
    (λ w.
    let i : integer ≡ false = k.told ∙ rw w in
    rw (w, i))

none_whole : (t : Lexeme) → begins_number t.head ≡ false → whole_number_of t ≡ none
unfolding whole_number_of
none_whole t e = let n = neither (eqb t.head minus) (is_digit t.head) e in rw (n.0, n.1)

no_number_lem : (t : Lexeme) → begins_number t.head ≡ false → magnitude_of t ≡ 0
no_number_lem t e = by_number t none (none_whole t e)

pub size_is : (kept : List ℕ) (len : ℕ) (integer : Bool) (m : ℕ) (t : Lexeme) → LexemeKept kept len integer m t → magnitude_of t ≡ size_kept t.head integer m
size_is kept len integer m t k =
    cases (begins_number t.head) (λ e. rw e (number_size integer m t (k.number e))) (λ e. rw e (no_number_lem t e))

-- ---- by the token

pub alone : (t : Lexeme) → is_scalar t ≡ stands_alone t.head
unfolding is_scalar stands_alone
alone t =
    cases (eqb t.head 34) (λ a. rw a)
    (λ a. rw a (cases (eqb t.head 45) (λ b. rw b)
    (λ b. rw b (cases (is_digit t.head) (λ c. rw c)
    (λ c. rw c (cases (eqb t.head 116) (λ d. rw d)
    (λ d. rw d (cases (eqb t.head 102) (λ e. rw e) (λ e. rw e)))))))))

picks : {X : Type 0} (a w : Bool) (x y z : X) → a ≡ true → w ≡ true → cond a (cond w x y) z ≡ x
picks a w x y z p q = rw (p, q)

passes : {X : Type 0} (a : Bool) (x z : X) → a ≡ false → cond a x z ≡ z
passes a x z p = rw p

module _ (len : ℕ) (us ts : List Lexeme) (l : Lexeme) (e : us ≡ l ∷ ts) where
  whole_scalar : is_scalar l ≡ true → l.whole ≡ true → scalar_from len us ≡ Whole (Scalar l) ts
  whole_scalar a w = ap (scalar_from len) e ∙ picks (is_scalar l) l.whole (Whole (Scalar l) ts) (Missing (record { place = l.stop; number = 27 })) (Missing (record { place = l.first; number = 27 })) a w

  no_scalar : is_scalar l ≡ false → scalar_from len us ≡ Missing (record { place = l.first; number = 27 })
  no_scalar a = ap (scalar_from len) e ∙ passes (is_scalar l) _ (Missing (record { place = l.first; number = 27 })) a

module _ (bs slots : List ℕ) (want schema base : ℕ) (t : Token) (seat : Seat) (cells : List ℕ) (n : TokenAt bs seat.from t slots) (fit : seat.from ≤ length bs) where
  -- nothing could be read
  stops : (place : ℕ) (r : Seat) → r ≡ counting 0 (stopped 27 place 2 seat) → scalar_from (length bs) (lexemes_at bs seat.from) ≡ Missing (record { place = place; number = 27 })
      → ScalarRead bs want schema base seat cells r cells
  stops place r e f =
      record {
        is = λ version. rw (e, f, said_refused 27 place seat);
        later = λ s. absurd (omega (arith, ap (λ (x : Seat). x.state) e));
        onward = omega (arith, ap (λ (x : Seat). x.from) e);
        fits = omega (arith, ap (λ (x : Seat). x.from) e);
      }

  pub stops_none : (r : Seat) → t.state ≡ 0 → r ≡ counting 0 (stopped 27 (length bs) 2 seat) → ScalarRead bs want schema base seat cells r cells
  stops_none r s e = stops (length bs) r e (rw (n.at_end s))

  pub stops_broken : (r : Seat) → t.state ≡ 2 → r ≡ counting 0 (stopped 27 t.stop 2 seat) → ScalarRead bs want schema base seat cells r cells
  stops_broken r s e = let b = n.broken s in stops t.stop r e (rw (b.is, b.is_scalar, b.is_broken, b.stop))

  whole_state_lem : (t.state ≡ 0 → ⊥) → (t.state ≡ 2 → ⊥) → t.state ≡ 1
  whole_state_lem f g = by_state bs seat.from t slots n (λ e. absurd (f e)) (λ e. e) (λ e. absurd (g e))

  pub stops_whole : (r : Seat) → (t.state ≡ 0 → ⊥) → (t.state ≡ 2 → ⊥) → stands_alone t.head ≡ false → r ≡ counting 0 (stopped 27 t.first 2 seat) → ScalarRead bs want schema base seat cells r cells
  stops_whole r f g s e =
      let w = n.whole (whole_state_lem f g) in
      stops t.first r e
      (no_scalar (length bs) _ _ w.lexeme w.is (alone w.lexeme ∙ (ap stands_alone (sym w.head) ∙ s)) ∙ ap (λ (p : ℕ). Missing (record { place = p; number = 27 })) (sym w.first))

  pub whole_bounds : (t.state ≡ 0 → ⊥) → (t.state ≡ 2 → ⊥) → t.first < t.after
  whole_bounds f g = (n.whole (whole_state_lem f g)).beyond

  pub reads : (r : Seat) (after : List ℕ) → (t.state ≡ 0 → ⊥) → (t.state ≡ 2 → ⊥) → stands_alone t.head ≡ true → ScalarHeld slots want schema base t seat cells r after
      → ScalarRead bs want schema base seat cells r after
  unfolding defects filled
  reads r after f g s h =
      let w = n.whole (whole_state_lem f g) in
      let a : is_scalar w.lexeme ≡ true = alone w.lexeme ∙ (ap stands_alone (sym w.head) ∙ s) in
      let k : Kept slots t = record { lexeme = w.lexeme; kept = w.kept; scalar = a; head = w.head; first = w.first } in
      record {
        is = λ version. rw (whole_scalar (length bs) _ _ w.lexeme w.is a w.is_whole, h.said k, h.cells_are k, h.state, h.from, h.count);
        later = λ e. omega (arith, h.from, w.later, w.beyond);
        onward = omega (arith, h.from, w.later, w.beyond);
        fits = omega (arith, h.from, w.fits);
      }

-- what is judged and held
module _ (slots : List ℕ) (want schema base : ℕ) (t : Token) (seat : Seat) (cells : List ℕ) where
  pub held : (fault place size : ℕ) (s : Seat) (after : List ℕ) → FaultSaid slots want t fault → place ≡ stands_at (stands_at_schema want) schema t.first → s ≡ refused fault place seat
      → after ≡ cond (eqb want 0) cells (set (set cells base (t.first + 1)) (suc base) (size_kept t.head t.integer t.magnitude))
      → ScalarHeld slots want schema base t seat cells (record { from = t.after; number = s.number; place = s.place; state = 0; count = 0; spot = s.spot }) after
  unfolding put_value single_fault
  held fault place size s after f p e a =
      record {
        from = refl;
        state = refl;
        count = refl;
        said = λ k.
            ap said_by e
            ∙ (said_refused fault place seat
            ∙ ap (λ (d : Option Defect). sooner (said_by seat) d)
            (ap₂ refusal_of (f k) (p ∙ ap (stands_at (stands_at_schema want) schema) k.first) ∙ sym (single_said (shape_of want) (stands_at (stands_at_schema want) schema k.lexeme.first) k.lexeme)));
        cells_are = λ k. rw (a, add-one t.first, size_is slots t.len t.integer t.magnitude k.lexeme k.kept, k.first, k.head);
      }
