-- What it says that a text is accepted: nothing is wrong with it (`accepted_faultless`), so every value is of the shape that its name has (`member_fits`).
use Prim.Native.Nat.{ℕ, ◌≤◌, ◌<◌}
use native.Mathlib.Omega.{arith}
use mathlib.Core.Path.{◌≡◌, refl, sym, ap}
use mathlib.Core.Bool.{Bool, true, false, cond, not, ◌&&◌, ◌||◌, true≢false}
use mathlib.Core.List.{List, [], ◌∷◌, ◌++◌, cons≢nil}
use mathlib.Core.Option.{Option, none, some}
use lib.Dec.{eqb, ltb, leb}
use lib.IntN.{ℤ}
use lib.ListN.{length}
use lib.Signed.{le_z}
use borrow.Author.Tests.{ltb-true, leb-true, eqb-true}
use Rattle.rules.specs.Words.{is_some, or_else, if_some, some_with, all, same_bytes}
use Rattle.rules.specs.Replies.{accepted}
use Rattle.rules.proofs.Checks.{by_test, by_option, both, and_left, and_right, by_either}
use Rattle.rules.proofs.Orders.{names_told_lem}
use Rattle.rules.proofs.Tables.{all_append, all_then}
use Rattle.json_rule.specs.Lexemes.{Lexeme, lexemes}
use Rattle.json_rule.specs.Values.{text_of}
use Rattle.json_rule.specs.Tree.{Defect, over_capacity, Json, Scalar, Array, Object, Items, no_item, item, Members, no_member, bare_name, member, text}
use Rattle.json_rule.specs.Members.{is_one_of, names_of, value_of, text_in, number_in, items_in, members_in}
use Rattle.json_rule.specs.Records.{Sent, updates_from, offers_of}
use Rattle.json_rule.specs.Shapes.{Kind, AnUpdate, ASnapshot, ASchema, AField, AnOrder, ASortField, ASpec, APartitionField, Shape, Anything, TextUpTo, OneOf, NumberIn, No, AUuid, ATransform, ListUpTo, ARecord, Row, Action, rows_of, update_list}
use Rattle.json_rule.specs.Defects.{not_published, unless, scalar_defects, text_defects, is_number_in, is_no, is_uuid, is_transform, row_named, row_of, name_defects, with_name, is_foreign, foreign_name, foreign_names, foreign_defects, action_of, needed_names, missing_defects, count_of, schema_place, stands_at, listing_of, kind_of, is_anything, defects, item_defects, member_defects, is_sooner, least, tree_defects, stop_defects, text_defects_by}
use Rattle.json_rule.specs.Reading.{Reading, list_of, answered, reading}
use Rattle.json_rule.proofs.Walk.{Want, AValue, Turn, Goes, Stops, turn, onward, walk, turn_says, end_says, text_walk}

-- ---- the defects of a tree are 28 or 29

abbrev pub is_of_tree : Defect → Bool
is_of_tree d = eqb d.number not_published || eqb d.number over_capacity

abbrev pub OfTree : List Defect → Type 0
OfTree ds = all is_of_tree ds ≡ true

both_numbers : (ds es : List Defect) → OfTree ds → OfTree es → OfTree (ds ++ es)
both_numbers ds es p q = all_append is_of_tree ds es p q

unless_number : (b : Bool) (place number : ℕ) → is_of_tree (record { place = place; number = number }) ≡ true → OfTree (unless b place number)
unless_number true place number p = refl
unless_number false place number p = both p refl

text_numbers : (room place : ℕ) (bs : Option (List ℕ)) → OfTree (text_defects room place bs)
text_numbers room place none = refl
text_numbers room place (some bs) = unless_number (leb (length bs) room) place 29 refl

scalar_numbers : (shape : Shape) (place : ℕ) (t : Lexeme) → OfTree (scalar_defects shape place t)
scalar_numbers Anything place t = refl
scalar_numbers (TextUpTo room) place t = text_numbers room place (text_of t)
scalar_numbers (OneOf words) place t = unless_number (some_with (is_one_of words) (text_of t)) place not_published refl
scalar_numbers (NumberIn low high) place t = unless_number (is_number_in low high t) place not_published refl
scalar_numbers No place t = unless_number (is_no t) place not_published refl
scalar_numbers AUuid place t = unless_number (some_with is_uuid (text_of t)) place not_published refl
scalar_numbers ATransform place t = unless_number (some_with is_transform (text_of t)) place not_published refl
scalar_numbers (ListUpTo room shape) place t = refl
scalar_numbers (ARecord kind) place t = refl

foreign_number : (a : Action) (t : Lexeme) → OfTree (foreign_name a t)
foreign_number a t = unless_number (not (some_with (is_foreign a) (text_of t))) t.first not_published refl

foreign_numbers : (a : Action) (ms : Members) → OfTree (foreign_names a ms)
foreign_numbers a no_member = refl
foreign_numbers a (bare_name t) = foreign_number a t
foreign_numbers a (member t x ms) = both_numbers (foreign_name a t) (foreign_names a ms) (foreign_number a t) (foreign_numbers a ms)

kind_numbers : (kind : Kind) (ms : Members) → OfTree (foreign_defects kind ms)
kind_numbers AnUpdate ms = by_option OfTree (action_of ms) (λ e. refl) (λ a e. foreign_numbers a ms)
kind_numbers ASnapshot ms = refl
kind_numbers ASchema ms = refl
kind_numbers AField ms = refl
kind_numbers AnOrder ms = refl
kind_numbers ASortField ms = refl
kind_numbers ASpec ms = refl
kind_numbers APartitionField ms = refl

missing_number : (kind : Kind) (place : ℕ) (ms : Members) (closed : Bool) → OfTree (missing_defects kind place ms closed)
missing_number kind place ms closed = unless_number (not closed || all (is_one_of (names_of ms)) (needed_names kind ms)) place not_published refl

name_number_lem : (t : Lexeme) (row : Option Row) → OfTree (name_defects t row)
name_number_lem t row = unless_number (is_some row) t.first not_published refl

-- what is said of a name, of its value where it has a row, and of the others
named_numbers : (ns ds : List Defect) (row : Option Row) (inner : Row → List Defect) → OfTree ns → ((r : Row) → OfTree (inner r)) → OfTree ds
    → OfTree (ns ++ elim row [ none ↦ [] | some r ↦ inner r ] ++ ds)
named_numbers ns ds none inner p f q = both_numbers (ns ++ []) ds (both_numbers ns [] p refl) q
named_numbers ns ds (some r) inner p f q = both_numbers (ns ++ inner r) ds (both_numbers ns (inner r) p (f r)) q

mutual
  unfolding defects

  numbers : (schema : ℕ) (of_schema : Bool) (shape : Shape) (x : Json) → OfTree (defects schema of_schema shape x)
  numbers schema of_schema shape (Scalar t) = scalar_numbers shape (stands_at of_schema schema t.first) t
  numbers schema of_schema shape (Array place xs closed) =
      by_option OfTree (listing_of shape) (λ e. unless_number (is_anything shape) (stands_at of_schema schema place) not_published refl)
      (λ l e. both_numbers (unless (leb (count_of xs) l.room) place 29) (item_defects schema l.each xs) (unless_number (leb (count_of xs) l.room) place 29 refl) (item_numbers schema l.each xs))
  numbers schema of_schema shape (Object place ms closed) =
      by_option OfTree (kind_of shape) (λ e. unless_number (is_anything shape) (stands_at of_schema schema place) not_published refl)
      (λ kind e. both_numbers (member_defects (schema_place kind place schema) (rows_of kind) [] ms ++ foreign_defects kind ms) (missing_defects kind place ms closed)
      (both_numbers (member_defects (schema_place kind place schema) (rows_of kind) [] ms) (foreign_defects kind ms) (member_numbers (schema_place kind place schema) (rows_of kind) [] ms) (kind_numbers kind ms))
      (missing_number kind place ms closed))

  item_numbers : (schema : ℕ) (shape : Shape) (xs : Items) → OfTree (item_defects schema shape xs)
  item_numbers schema shape no_item = refl
  item_numbers schema shape (item x xs) = both_numbers (defects schema false shape x) (item_defects schema shape xs) (numbers schema false shape x) (item_numbers schema shape xs)

  member_numbers : (schema : ℕ) (rows : List Row) (seen : List (List ℕ)) (ms : Members) → OfTree (member_defects schema rows seen ms)
  member_numbers schema rows seen no_member = refl
  member_numbers schema rows seen (bare_name t) = name_number_lem t (row_of rows seen (text_of t))
  member_numbers schema rows seen (member t x ms) =
      named_numbers (name_defects t (row_of rows seen (text_of t))) (member_defects schema rows (with_name seen (text_of t)) ms) (row_of rows seen (text_of t)) (λ r. defects schema r.of_schema r.shape x)
      (name_number_lem t (row_of rows seen (text_of t)))
      (λ r. numbers schema r.of_schema r.shape x)
      (member_numbers schema rows (with_name seen (text_of t)) ms)

pub tree_numbers : (shape : Shape) (tree : Option Json) → OfTree (tree_defects shape tree)
tree_numbers shape none = refl
tree_numbers shape (some x) = numbers 0 false shape x

-- ---- the walk stops with 27 or 29, and no refusal has the number of an accepted text

abbrev is_refusal : Defect → Bool
is_refusal d = ltb accepted d.number

abbrev TurnRefuses : Turn → Type 0
TurnRefuses (Goes want around) = Unit {0}
TurnRefuses (Stops d) = is_refusal d ≡ true

onward_refuses : (k : Want → List Bool → Option Defect) → ((want : Want) (around : List Bool) → if_some is_refusal (k want around) ≡ true)
    → (u : Turn) → TurnRefuses u → if_some is_refusal (onward k u) ≡ true
onward_refuses k h (Goes want around) p = h want around
onward_refuses k h (Stops d) p = p

walk_refuses : (len : ℕ) (want : Want) (around : List Bool) (ts : List Lexeme) → if_some is_refusal (walk len want around ts) ≡ true
walk_refuses len want around [] = end_says (λ o. if_some is_refusal o ≡ true) len refl refl want
walk_refuses len want around (t ∷ ts) = onward_refuses (λ w o. walk len w o ts) (λ w o. walk_refuses len w o ts) (turn want around t) (turn_says TurnRefuses t (λ _ _. tt) refl refl (λ _. refl) want around)

-- ---- an accepted text

abbrev Refusals : List Defect → Type 0
Refusals ds = all is_refusal ds ≡ true

of_tree_refuses : (d : Defect) → is_of_tree d ≡ true → is_refusal d ≡ true
of_tree_refuses d h = by_either (eqb d.number not_published) (eqb d.number over_capacity) (λ e. rw (eqb-true d.number not_published e)) (λ e. rw (eqb-true d.number over_capacity e)) h

stop_refusals : (stop : Option Defect) → if_some is_refusal stop ≡ true → Refusals (stop_defects stop)
stop_refusals none p = refl
stop_refusals (some d) p = both p refl

least_refusal : (ds : List Defect) → Refusals ds → if_some is_refusal (least ds) ≡ true
least_refusal [] p = refl
least_refusal (d ∷ ds) p = go (least ds) (least_refusal ds (and_right (is_refusal d) (all is_refusal ds) p))
  where
    go : (o : Option Defect) → if_some is_refusal o ≡ true → if_some is_refusal (elim o [ none ↦ some d | some e ↦ cond (is_sooner e d) (some e) (some d) ]) ≡ true
    go none q = and_left (is_refusal d) (all is_refusal ds) p
    go (some e) q = by_test (λ o. if_some is_refusal o ≡ true) (is_sooner e d) (λ _. q) (λ _. and_left (is_refusal d) (all is_refusal ds) p)

-- nothing is least only of nothing
least_none : (ds : List Defect) → least ds ≡ none → ds ≡ []
least_none [] e = refl
least_none (d ∷ ds) e = go (least ds) e
  where
    go : (o : Option Defect) → ◌≡◌ {A = Option Defect} (elim o [ none ↦ some d | some e ↦ cond (is_sooner e d) (some e) (some d) ]) none → d ∷ ds ≡ []
    go none e = absurd (true≢false (ap is_some e))
    go (some f) e = by_test (λ o. o ≡ none → d ∷ ds ≡ []) (is_sooner f d) (λ _ q. absurd (true≢false (ap is_some q))) (λ _ q. absurd (true≢false (ap is_some q))) e

-- both of two lists are empty
pub empty_parts : {A : Type 0} (xs ys : List A) → xs ++ ys ≡ [] → (xs ≡ []) × (ys ≡ [])
empty_parts [] ys e = (refl, e)
empty_parts (x ∷ xs) ys e = absurd (cons≢nil e)

-- what is answered where nothing is wrong
answered_none : (l : List Sent) (o : Option Defect) → if_some is_refusal o ≡ true → (answered l o).number ≡ accepted → (o ≡ none) × (answered l o ≡ record { number = accepted; place = 0; updates = updates_from 0 l; offers = offers_of l })
answered_none l none p e = (refl, refl)
answered_none l (some d) p e = absurd (let h : 0 < d.number = ltb-true accepted d.number p in omega arith)

-- an accepted text: nothing is wrong with it, and its list is answered
pub record Accepted (bs : List ℕ) : Type 0 where
  pub faultless : tree_defects update_list (text bs).tree ≡ []
  pub updates : (reading bs).updates ≡ updates_from 0 (list_of (text bs).tree)
  pub offers : (reading bs).offers ≡ offers_of (list_of (text bs).tree)

pub accepted_faultless : (bs : List ℕ) → (reading bs).number ≡ accepted → Accepted bs
unfolding reading text_defects_by
accepted_faultless bs e =
    let t = text bs in
    let ds = text_defects_by update_list t in
    let p : Refusals ds = all_append is_refusal (tree_defects update_list t.tree) (stop_defects t.stop) (all_then is_of_tree is_refusal of_tree_refuses (tree_defects update_list t.tree) (tree_numbers update_list t.tree)) (stop_refusals t.stop (rw text_walk (walk_refuses (length bs) AValue [] (lexemes (length bs) 0 bs)))) in
    let h = answered_none (list_of t.tree) (least ds) (least_refusal ds p) e in
    record {
      faultless = (empty_parts (tree_defects update_list t.tree) (stop_defects t.stop) (least_none ds h.0)).0;
      updates = ap (λ (r : Reading). r.updates) h.1;
      offers = ap (λ (r : Reading). r.offers) h.1;
    }

-- ---- values of which nothing is wrong

unless_holds : (b : Bool) (place number : ℕ) → unless b place number ≡ [] → b ≡ true
unless_holds true place number e = refl
unless_holds false place number e = absurd (cons≢nil e)

-- an object where a record is to be: nothing is wrong with its members
pub record_fits : (schema : ℕ) (of_schema : Bool) (kind : Kind) (x : Json) → defects schema of_schema (ARecord kind) x ≡ [] → (around : ℕ) × (member_defects around (rows_of kind) [] (members_in x) ≡ [])
unfolding defects
record_fits schema of_schema kind (Scalar t) e = absurd (cons≢nil e)
record_fits schema of_schema kind (Array place xs closed) e = absurd (cons≢nil e)
record_fits schema of_schema kind (Object place ms closed) e =
    let inner = member_defects (schema_place kind place schema) (rows_of kind) [] ms in
    (schema_place kind place schema, (empty_parts inner (foreign_defects kind ms) (empty_parts (inner ++ foreign_defects kind ms) (missing_defects kind place ms closed) e).0).0)

-- a list where one is to be: it is not too long, and nothing is wrong with its items
pub list_fits : (schema : ℕ) (of_schema : Bool) (room : ℕ) (each : Shape) (x : Json) → defects schema of_schema (ListUpTo room each) x ≡ []
    → (count_of (items_in x) ≤ room) × (item_defects schema each (items_in x) ≡ [])
unfolding defects
list_fits schema of_schema room each (Scalar t) e = absurd (cons≢nil e)
list_fits schema of_schema room each (Array place xs closed) e =
    let h = empty_parts (unless (leb (count_of xs) room) place 29) (item_defects schema each xs) e in
    (leb-true (count_of xs) room (unless_holds (leb (count_of xs) room) place 29 h.0), h.1)
list_fits schema of_schema room each (Object place ms closed) e = absurd (cons≢nil e)

-- a text where one is to be: it is not too long
pub text_fits : (schema : ℕ) (of_schema : Bool) (room : ℕ) (x : Json) → defects schema of_schema (TextUpTo room) x ≡ [] → length (or_else (text_in x) []) ≤ room
unfolding defects
text_fits schema of_schema room (Scalar t) e = go (text_of t) e
  where
    go : (o : Option (List ℕ)) → text_defects room (stands_at of_schema schema t.first) o ≡ [] → length (or_else o []) ≤ room
    go none e = absurd (cons≢nil e)
    go (some bs) e = leb-true (length bs) room (unless_holds (leb (length bs) room) (stands_at of_schema schema t.first) 29 e)
text_fits schema of_schema room (Array place xs closed) e = absurd (cons≢nil e)
text_fits schema of_schema room (Object place ms closed) e = absurd (cons≢nil e)

-- a number where one is to be: it is there, between its bounds
pub number_fits : (schema : ℕ) (of_schema : Bool) (low high : ℤ) (x : Json) → defects schema of_schema (NumberIn low high) x ≡ []
    → some_with (λ n. le_z low n && le_z n high) (number_in x) ≡ true
unfolding defects
number_fits schema of_schema low high (Scalar t) e = unless_holds (is_number_in low high t) (stands_at of_schema schema t.first) not_published e
number_fits schema of_schema low high (Array place xs closed) e = absurd (cons≢nil e)
number_fits schema of_schema low high (Object place ms closed) e = absurd (cons≢nil e)

-- a transform where one is to be
pub transform_fits : (schema : ℕ) (of_schema : Bool) (x : Json) → defects schema of_schema ATransform x ≡ [] → some_with is_transform (text_in x) ≡ true
unfolding defects
transform_fits schema of_schema (Scalar t) e = unless_holds (some_with is_transform (text_of t)) (stands_at of_schema schema t.first) not_published e
transform_fits schema of_schema (Array place xs closed) e = absurd (cons≢nil e)
transform_fits schema of_schema (Object place ms closed) e = absurd (cons≢nil e)

-- the value of a member, of which nothing is wrong by its name's row
pub member_fits : (schema : ℕ) (rows : List Row) (name : List ℕ) (r : Row) → row_named name rows ≡ some r
    → (seen : List (List ℕ)) (ms : Members) → is_one_of seen name ≡ false → member_defects schema rows seen ms ≡ []
    → (x : Json) → value_of name ms ≡ some x → defects schema r.of_schema r.shape x ≡ []
unfolding defects
member_fits schema rows name r q seen no_member n e x v = absurd (true≢false (ap is_some (sym v)))
member_fits schema rows name r q seen (bare_name t) n e x v = absurd (true≢false (ap is_some (sym v)))
member_fits schema rows name r q seen (member t y ms) n e x v = go (text_of t) e v (λ later m f w. member_fits schema rows name r q later ms m f x w)
  where
    inner : Option Row → List Defect
    inner row = elim row [ none ↦ [] | some r ↦ defects schema r.of_schema r.shape y ]

    -- the name is this one, so its row is this one, and its value is what was asked for
    here : (word : List ℕ) → same_bytes name word ≡ true → inner (row_of rows seen (some word)) ≡ [] → some y ≡ some x → defects schema r.of_schema r.shape x ≡ []
    here word s f w =
        let k : name ≡ word = names_told_lem.equal name word s in
        let row : row_of rows seen (some name) ≡ some r = rw (n, q) in
        let value : y ≡ x = cc in
        rw (← value) (rw row at (rw (← k) at f))

    go : (o : Option (List ℕ)) → name_defects t (row_of rows seen o) ++ inner (row_of rows seen o) ++ member_defects schema rows (with_name seen o) ms ≡ []
        → cond (some_with (same_bytes name) o) (some y) (value_of name ms) ≡ some x
        → ((later : List (List ℕ)) → is_one_of later name ≡ false → member_defects schema rows later ms ≡ [] → value_of name ms ≡ some x → defects schema r.of_schema r.shape x ≡ [])
        → defects schema r.of_schema r.shape x ≡ []
    go none f w rest = rest seen n (empty_parts (name_defects t none ++ inner none) (member_defects schema rows seen ms) f).1 w
    go (some word) f w rest =
        let front = name_defects t (row_of rows seen (some word)) in
        let h = empty_parts (front ++ inner (row_of rows seen (some word))) (member_defects schema rows (word ∷ seen) ms) f in
        by_test (λ o. o ≡ some x → defects schema r.of_schema r.shape x ≡ []) (same_bytes name word)
        (λ s. here word s (empty_parts front (inner (row_of rows seen (some word))) h.0).1)
        (λ s. rest (word ∷ seen) (rw (s, n)) h.1)
        w
