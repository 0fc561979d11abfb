-- The version of a file, one lexeme after the other: what is answered to a name, to its colon, its value and the comma behind.
use Prim.Native.Nat.{ℕ, suc}
use mathlib.Core.Path.{◌≡◌, refl, sym, ap, ◌∙◌}
use mathlib.Core.Bool.{Bool, true, false, cond}
use mathlib.Core.List.{List, [], ◌∷◌}
use mathlib.Core.Option.{Option, none, some}
use lib.Dec.{eqb}
use lib.IntN.{ℤ}
use lib.ListN.{length}
use borrow.Table.Steps.{cases}
use borrow.Author.Tests.{eqb-true}
use Rattle.json_rule.specs.Lexemes.{Lexeme, quote, lexemes}
use Rattle.json_rule.specs.Values.{whole_number_of}
use Rattle.json_rule.specs.Tree.{Defect, Json, Scalar, Array, Object, Members, no_member, bare_name, member, Value, Whole, Cut, Missing, Listed, Closed, Open, Named, ClosedBy, OpenBy, is_byte, text, Text, text_of_value, name, after_name, next_member, more_members, first_member, first_item, with_member, array_at, object_at_lem, bracketed, scalar, stop_at, broken_at, is_scalar}
use Rattle.json_rule.specs.Members.{value_of, is_named, number_in, members_in}
use Rattle.json_descent.specs.Descent.{value_from, items_from, members_from}
use Rattle.json_descent.proofs.Laws.{value_none, value_one, members_one, text_from_lem}
use Rattle.file_rule.specs.FileDefects.{version_of, known_version}
use Rattle.file_rule.specs.Import.{said_by}
use Rattle.file_import.specs.Versions.{members_read, version_from, version_number, version_in, version_next, version_behind, version_name, version_by, version_at_start}

-- ---- members by themselves

abbrev said_in : Option Json → ℕ
said_in none = 0
said_in (some x) = version_number (number_in x)

by_number : (o : Option ℤ) → elim o [ none ↦ 0 | some n ↦ known_version n ] ≡ version_number o
by_number none = refl
by_number (some n) = refl

by_value : (o : Option Json) → elim o [ none ↦ 0 | some x ↦ elim (number_in x) [ none ↦ 0 | some n ↦ known_version n ] ] ≡ said_in o
by_value none = refl
by_value (some x) = by_number (number_in x)

version_said_lem : (ms : Members) → version_of ms ≡ said_in (value_of version_name ms)
unfolding version_of
version_said_lem ms = by_value (value_of version_name ms)

member_said : (t : Lexeme) (x : Json) (ms : Members) → version_of (member t x ms) ≡ cond (is_named version_name t) (version_number (number_in x)) (version_of ms)
member_said t x ms =
    version_said_lem (member t x ms)
    ∙ cases (is_named version_name t)
    (λ e. ap (λ (b : Bool). said_in (cond b (some x) (value_of version_name ms))) e ∙ sym (ap (λ (b : Bool). cond b (version_number (number_in x)) (version_of ms)) e))
    (λ e. ap (λ (b : Bool). said_in (cond b (some x) (value_of version_name ms))) e ∙ sym (version_said_lem ms) ∙ sym (ap (λ (b : Bool). cond b (version_number (number_in x)) (version_of ms)) e))

-- ---- the value behind a name

with_said : (t : Lexeme) (x : Json) (n : Named) → version_of (members_read (with_member t x n)) ≡ cond (is_named version_name t) (version_number (number_in x)) (version_of (members_read n))
with_said t x (ClosedBy ms ts) = member_said t x ms
with_said t x (OpenBy ms stop) = member_said t x ms

nothing : (b : Bool) → ◌≡◌ {A = ℕ} 0 (cond b 0 0)
nothing true = refl
nothing false = refl

module _ (len : ℕ) where
  abbrev again : List Lexeme → Named
  again ws = members_from len 1 ws

  more_said : (ts : List Lexeme) → version_of (members_read (more_members len again ts)) ≡ version_next len ts
  unfolding version_from
  more_said [] = version_said_lem no_member
  more_said (c ∷ ts) =
      cases (is_byte 44 c) (λ e. rw e refl)
      (λ e. rw e (cases (is_byte 125 c) (λ d. rw d (version_said_lem no_member)) (λ d. rw d (version_said_lem no_member))))

  next_said : (t : Lexeme) (v : Value) → version_of (members_read (next_member len t again v)) ≡ version_by len t v
  next_said t (Whole x ts) = with_said t x (more_members len again ts) ∙ ap (λ (n : ℕ). cond (is_named version_name t) (version_number (number_in x)) n) (more_said ts)
  next_said t (Cut x stop) = member_said t x no_member ∙ ap (λ (n : ℕ). cond (is_named version_name t) (version_number (number_in x)) n) (version_said_lem no_member)
  next_said t (Missing stop) = version_said_lem (bare_name t) ∙ nothing (is_named version_name t)

  abbrev behind_name : Lexeme → List Lexeme → Named
  behind_name t us = after_name len t (λ vs. next_member len t again (value_from len 1 vs)) us

  from_one : (ts : List Lexeme) → version_from len ts ≡ version_of (members_read (name len behind_name ts))
  unfolding version_from
  from_one ts = ap (λ (n : Named). version_of (members_read n)) (members_one len 1 ts)

  -- no name, or none that is whole
  pub no_version : version_from len [] ≡ 0
  no_version = from_one [] ∙ version_said_lem no_member

  pub no_name_lem : (t : Lexeme) (ts : List Lexeme) → is_byte quote t ≡ false → version_from len (t ∷ ts) ≡ 0
  no_name_lem t ts e = from_one (t ∷ ts) ∙ ap (λ (b : Bool). version_of (members_read (cond b (cond t.whole (behind_name t ts) (OpenBy no_member (broken_at len t))) (OpenBy no_member (stop_at len (t ∷ ts)))))) e ∙ version_said_lem no_member

  pub broken_name : (t : Lexeme) (ts : List Lexeme) → t.whole ≡ false → version_from len (t ∷ ts) ≡ 0
  broken_name t ts e =
      from_one (t ∷ ts)
      ∙ ap (λ (b : Bool). version_of (members_read (cond (is_byte quote t) (cond b (behind_name t ts) (OpenBy no_member (broken_at len t))) (OpenBy no_member (stop_at len (t ∷ ts)))))) e
      ∙ cases (is_byte quote t) (λ d. rw d (version_said_lem no_member)) (λ d. rw d (version_said_lem no_member))

  module _ (t : Lexeme) (ts : List Lexeme) (q : is_byte quote t ≡ true) (w : t.whole ≡ true) where
    at_name : version_from len (t ∷ ts) ≡ version_of (members_read (behind_name t ts))
    at_name =
        from_one (t ∷ ts)
        ∙ ap (λ (b : Bool). version_of (members_read (cond b (cond t.whole (behind_name t ts) (OpenBy no_member (broken_at len t))) (OpenBy no_member (stop_at len (t ∷ ts)))))) q
        ∙ ap (λ (b : Bool). version_of (members_read (cond b (behind_name t ts) (OpenBy no_member (broken_at len t))))) w

  pub no_more : (t : Lexeme) → is_byte quote t ≡ true → t.whole ≡ true → version_from len (t ∷ []) ≡ 0
  no_more t q w = at_name t [] q w ∙ version_said_lem (bare_name t)

  pub no_colon : (t c : Lexeme) (ts : List Lexeme) → is_byte quote t ≡ true → t.whole ≡ true → is_byte 58 c ≡ false → version_from len (t ∷ c ∷ ts) ≡ 0
  no_colon t c ts q w e =
      at_name t (c ∷ ts) q w
      ∙ ap (λ (b : Bool). version_of (members_read (cond b (next_member len t again (value_from len 1 ts)) (OpenBy (bare_name t) (stop_at len (c ∷ ts)))))) e
      ∙ version_said_lem (bare_name t)

  pub a_member : (t c : Lexeme) (ts : List Lexeme) → is_byte quote t ≡ true → t.whole ≡ true → is_byte 58 c ≡ true → version_from len (t ∷ c ∷ ts) ≡ version_by len t (value_from len 1 ts)
  a_member t c ts q w e =
      at_name t (c ∷ ts) q w
      ∙ ap (λ (b : Bool). version_of (members_read (cond b (next_member len t again (value_from len 1 ts)) (OpenBy (bare_name t) (stop_at len (c ∷ ts)))))) e
      ∙ next_said t (value_from len 1 ts)

-- ---- what a value says

array_none : (first : ℕ) (l : Listed) → version_in (array_at first l) ≡ 0
array_none first (Closed xs ts) = refl
array_none first (Open xs stop) = refl

object_none : (first : ℕ) (n : Named) → version_in (object_at_lem first n) ≡ 0
object_none first (ClosedBy ms ts) = refl
object_none first (OpenBy ms stop) = refl

module _ (len : ℕ) where
  pub value_end_lem : version_in (value_from len 1 []) ≡ 0
  value_end_lem = ap version_in (value_none len 1)

  abbrev one_of : Lexeme → List Lexeme → Bool → Bool → Value
  one_of t ts list object =
      cond list (bracketed len 1 t (array_at t.first (first_item len (λ us. items_from len 2 us) ts)))
      (cond object (bracketed len 1 t (object_at_lem t.first (first_member len (λ us. members_from len 2 us) ts)))
      (scalar len t ts))

  -- a list or an object says none
  pub value_list : (t : Lexeme) (ts : List Lexeme) → is_byte 91 t ≡ true → version_in (value_from len 1 (t ∷ ts)) ≡ 0
  value_list t ts e = ap version_in (value_one len 1 t ts) ∙ ap (λ (b : Bool). version_in (one_of t ts b (is_byte 123 t))) e ∙ array_none t.first (first_item len (λ us. items_from len 2 us) ts)

  pub value_object : (t : Lexeme) (ts : List Lexeme) → is_byte 91 t ≡ false → is_byte 123 t ≡ true → version_in (value_from len 1 (t ∷ ts)) ≡ 0
  value_object t ts e f =
      ap version_in (value_one len 1 t ts)
      ∙ ap (λ (b : Bool). version_in (one_of t ts b (is_byte 123 t))) e
      ∙ ap (λ (b : Bool). version_in (one_of t ts false b)) f
      ∙ object_none t.first (first_member len (λ us. members_from len 2 us) ts)

  module _ (t : Lexeme) (ts : List Lexeme) (e : is_byte 91 t ≡ false) (f : is_byte 123 t ≡ false) where
    at_scalar : version_in (value_from len 1 (t ∷ ts)) ≡ version_in (scalar len t ts)
    at_scalar = ap version_in (value_one len 1 t ts) ∙ ap (λ (b : Bool). version_in (one_of t ts b (is_byte 123 t))) e ∙ ap (λ (b : Bool). version_in (one_of t ts false b)) f

    -- a whole text, number or word by its number, and nothing else
    pub value_scalar : is_scalar t ≡ true → t.whole ≡ true → version_in (value_from len 1 (t ∷ ts)) ≡ version_number (whole_number_of t)
    value_scalar s w =
        at_scalar
        ∙ ap (λ (b : Bool). version_in (cond b (cond t.whole (Whole (Scalar t) ts) (Missing (broken_at len t))) (Missing (stop_at len (t ∷ ts))))) s
        ∙ ap (λ (b : Bool). version_in (cond b (Whole (Scalar t) ts) (Missing (broken_at len t)))) w

    pub value_other : is_scalar t ≡ false → version_in (value_from len 1 (t ∷ ts)) ≡ 0
    value_other s = at_scalar ∙ ap (λ (b : Bool). version_in (cond b (cond t.whole (Whole (Scalar t) ts) (Missing (broken_at len t))) (Missing (stop_at len (t ∷ ts))))) s

    pub value_broken : t.whole ≡ false → version_in (value_from len 1 (t ∷ ts)) ≡ 0
    value_broken w =
        at_scalar
        ∙ ap (λ (b : Bool). version_in (cond (is_scalar t) (cond b (Whole (Scalar t) ts) (Missing (broken_at len t))) (Missing (stop_at len (t ∷ ts))))) w
        ∙ cases (is_scalar t) (λ d. rw d refl) (λ d. rw d refl)

-- ---- the beginning of the file

object_members : (first len : ℕ) (n : Named) → version_of (said_by (text_of_value len (object_at_lem first n)).tree) ≡ version_of (members_read n)
object_members first len (ClosedBy ms []) = refl
object_members first len (ClosedBy ms (t ∷ ts)) = refl
object_members first len (OpenBy ms stop) = refl

array_members : (first len : ℕ) (l : Listed) → version_of (said_by (text_of_value len (array_at first l)).tree) ≡ 0
array_members first len (Closed xs []) = version_said_lem no_member
array_members first len (Closed xs (t ∷ ts)) = version_said_lem no_member
array_members first len (Open xs stop) = version_said_lem no_member

scalar_members : (len : ℕ) (t : Lexeme) (ts : List Lexeme) → version_of (said_by (text_of_value len (scalar len t ts)).tree) ≡ 0
scalar_members len t [] = cases (is_scalar t) (λ e. rw e (cases t.whole (λ w. rw w (version_said_lem no_member)) (λ w. rw w (version_said_lem no_member)))) (λ e. rw e (version_said_lem no_member))
scalar_members len t (u ∷ us) = cases (is_scalar t) (λ e. rw e (cases t.whole (λ w. rw w (version_said_lem no_member)) (λ w. rw w (version_said_lem no_member)))) (λ e. rw e (version_said_lem no_member))

-- `}` at once is no name either
first_version : (len : ℕ) (ts : List Lexeme) → version_of (members_read (first_member len (λ us. members_from len 1 us) ts)) ≡ version_from len ts
unfolding version_from
first_version len [] = refl
first_version len (t ∷ ts) =
    cases (is_byte 125 t)
    (λ e. rw e (version_said_lem no_member ∙ sym (no_name_lem len t ts (ap (λ (n : ℕ). eqb n quote) (eqb-true t.head 125 e)))))
    (λ e. rw e refl)

start_said : (len : ℕ) (ts : List Lexeme) → version_of (said_by (text_of_value len (value_from len 0 ts)).tree) ≡ version_at_start len ts
start_said len [] = ap (λ (v : Value). version_of (said_by (text_of_value len v).tree)) (value_none len 0) ∙ version_said_lem no_member
start_said len (t ∷ ts) =
    ap (λ (v : Value). version_of (said_by (text_of_value len v).tree)) (value_one len 0 t ts)
    ∙ cases (is_byte 91 t)
    (λ e. rw (e, eq_other t e) (array_members t.first len (first_item len (λ us. items_from len 1 us) ts)))
    (λ e. cases (is_byte 123 t)
    (λ f. rw (e, f) (object_members t.first len (first_member len (λ us. members_from len 1 us) ts) ∙ first_version len ts))
    (λ f. rw (e, f) (scalar_members len t ts)))
  where
    eq_other : (u : Lexeme) → is_byte 91 u ≡ true → is_byte 123 u ≡ false
    eq_other u d = ap (λ (n : ℕ). eqb n 123) (eqb-true u.head 91 d)

pub text_version : (bs : List ℕ) → version_of (said_by (text bs).tree) ≡ version_at_start (length bs) (lexemes (length bs) 0 bs)
text_version bs = ap (λ (x : Text). version_of (said_by x.tree)) (text_from_lem bs) ∙ start_said (length bs) (lexemes (length bs) 0 bs)
