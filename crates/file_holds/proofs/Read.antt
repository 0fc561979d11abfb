-- What is read from lexemes: every lexeme in the tree is one of them and whole, and a tree that was read to its end is closed.
use Prim.Native.Nat.{ℕ, zero, suc, ◌+◌, ◌*◌}
use native.Mathlib.Omega.{arith}
use mathlib.Core.Path.{◌≡◌, refl, subst}
use mathlib.Core.Bool.{true}
use mathlib.Core.List.{List, [], ◌∷◌}
use mathlib.Core.Option.{none, some}
use lib.Dec.{leb}
use lib.ListN.{length}
use Rattle.rules.proofs.Checks.{both, by_test}
use Rattle.json_rule.specs.Lexemes.{Lexeme, quote, lexemes}
use Rattle.json_rule.specs.Tree.{deepest, is_scalar, is_byte, Json, Value, Whole, Cut, Missing, Listed, Closed, Open, Named, ClosedBy, OpenBy, array_at, object_at_lem, with_item, with_member, scalar, first_item, more_items, next_item, first_member, more_members, next_member, after_name, name, value, items, members, Text, text_of_value, text}
use Rattle.json_judge.proofs.Follow.{is_closed, are_closed, are_all}
use Rattle.file_holds.specs.Lexemes.{Each, Every, EveryItem, EveryMember}

-- in a tree a lexeme is whole
abbrev pub WholeAnd : (Lexeme → Type 0) → Lexeme → Type 0
WholeAnd P t = (t.whole ≡ true) × P t

module _ (P : Lexeme → Type 0) (len : ℕ) where
  abbrev pub OfValue : Value → Type 0
  OfValue (Whole x us) = Every (WholeAnd P) x × (is_closed x ≡ true) × Each P us
  OfValue (Cut x stop) = Every (WholeAnd P) x
  OfValue (Missing stop) = Unit {0}

  abbrev OfListed : Listed → Type 0
  OfListed (Closed xs us) = EveryItem (WholeAnd P) xs × (are_closed xs ≡ true) × Each P us
  OfListed (Open xs stop) = EveryItem (WholeAnd P) xs

  abbrev OfNamed : Named → Type 0
  OfNamed (ClosedBy ms us) = EveryMember (WholeAnd P) ms × (are_all ms ≡ true) × Each P us
  OfNamed (OpenBy ms stop) = EveryMember (WholeAnd P) ms

  -- ---- values

  array_read : (place : ℕ) (l : Listed) → OfListed l → OfValue (array_at place l)
  unfolding Every is_closed
  array_read place (Closed xs us) h = h
  array_read place (Open xs stop) h = h

  object_read : (place : ℕ) (l : Named) → OfNamed l → OfValue (object_at_lem place l)
  unfolding Every is_closed
  object_read place (ClosedBy ms us) h = h
  object_read place (OpenBy ms stop) h = h

  scalar_read : (t : Lexeme) (ts : List Lexeme) → P t → Each P ts → OfValue (scalar len t ts)
  unfolding Every is_closed
  scalar_read t ts p h = by_test OfValue (is_scalar t) (λ a. by_test OfValue t.whole (λ w. ((w, p), refl, h)) (λ w. tt)) (λ a. tt)

  -- ---- lists

  first_item_read : (again : List Lexeme → Listed) (ts : List Lexeme) → Each P ts → OfListed (again ts) → OfListed (first_item len again ts)
  unfolding Every is_closed
  first_item_read again [] e h = h
  first_item_read again (t ∷ ts) e h = by_test OfListed (is_byte 93 t) (λ b. (tt, refl, e.1)) (λ b. h)

  more_items_read : (again : List Lexeme → Listed) (us : List Lexeme) → Each P us → ((vs : List Lexeme) → Each P vs → OfListed (again vs)) → OfListed (more_items len again us)
  unfolding Every is_closed
  more_items_read again [] e h = tt
  more_items_read again (t ∷ vs) e h = by_test OfListed (is_byte 44 t) (λ b. h vs e.1) (λ b. by_test OfListed (is_byte 93 t) (λ c. (tt, refl, e.1)) (λ c. tt))

  with_item_read : (x : Json) (l : Listed) → Every (WholeAnd P) x → is_closed x ≡ true → OfListed l → OfListed (with_item x l)
  unfolding Every is_closed
  with_item_read x (Closed xs us) v c h = ((v, h.0), both c h.1, h.2)
  with_item_read x (Open xs stop) v c h = (v, h)

  next_item_read : (again : List Lexeme → Listed) (v : Value) → OfValue v → ((vs : List Lexeme) → Each P vs → OfListed (again vs)) → OfListed (next_item len again v)
  unfolding Every is_closed
  next_item_read again (Whole x us) v h = with_item_read x (more_items len again us) v.0 v.1 (more_items_read again us v.2 h)
  next_item_read again (Cut x stop) v h = (v, tt)
  next_item_read again (Missing stop) v h = tt

  -- ---- objects

  first_member_read : (again : List Lexeme → Named) (ts : List Lexeme) → Each P ts → OfNamed (again ts) → OfNamed (first_member len again ts)
  unfolding Every is_closed
  first_member_read again [] e h = h
  first_member_read again (t ∷ ts) e h = by_test OfNamed (is_byte 125 t) (λ b. (tt, refl, e.1)) (λ b. h)

  more_members_read : (again : List Lexeme → Named) (us : List Lexeme) → Each P us → ((vs : List Lexeme) → Each P vs → OfNamed (again vs)) → OfNamed (more_members len again us)
  unfolding Every is_closed
  more_members_read again [] e h = tt
  more_members_read again (t ∷ vs) e h = by_test OfNamed (is_byte 44 t) (λ b. h vs e.1) (λ b. by_test OfNamed (is_byte 125 t) (λ c. (tt, refl, e.1)) (λ c. tt))

  with_member_read : (t : Lexeme) (x : Json) (l : Named) → WholeAnd P t → Every (WholeAnd P) x → is_closed x ≡ true → OfNamed l → OfNamed (with_member t x l)
  unfolding Every is_closed
  with_member_read t x (ClosedBy ms us) n v c h = ((n, v, h.0), both c h.1, h.2)
  with_member_read t x (OpenBy ms stop) n v c h = (n, v, h)

  next_member_read : (t : Lexeme) (again : List Lexeme → Named) (v : Value) → WholeAnd P t → OfValue v → ((vs : List Lexeme) → Each P vs → OfNamed (again vs)) → OfNamed (next_member len t again v)
  unfolding Every is_closed
  next_member_read t again (Whole x us) n v h = with_member_read t x (more_members len again us) n v.0 v.1 (more_members_read again us v.2 h)
  next_member_read t again (Cut x stop) n v h = (n, v, tt)
  next_member_read t again (Missing stop) n v h = n

  after_name_read : (t : Lexeme) (again : List Lexeme → Named) (us : List Lexeme) → WholeAnd P t → Each P us → ((vs : List Lexeme) → Each P vs → OfNamed (again vs)) → OfNamed (after_name len t again us)
  unfolding Every
  after_name_read t again [] n e h = n
  after_name_read t again (c ∷ us) n e h = by_test OfNamed (is_byte 58 c) (λ b. h us e.1) (λ b. n)

  name_read : (again : Lexeme → List Lexeme → Named) (ts : List Lexeme) → Each P ts → ((t : Lexeme) (us : List Lexeme) → WholeAnd P t → Each P us → OfNamed (again t us)) → OfNamed (name len again ts)
  unfolding Every
  name_read again [] e h = tt
  name_read again (t ∷ us) e h = by_test OfNamed (is_byte quote t) (λ b. by_test OfNamed t.whole (λ w. h t us (w, e.0) e.1) (λ w. tt)) (λ b. tt)

  -- ---- all of them

  mutual
    unfolding value Every

    pub value_read : (n depth : ℕ) (ts : List Lexeme) → Each P ts → OfValue (value len n depth ts)
    value_read zero depth ts e = tt
    value_read (suc n) depth [] e = tt
    value_read (suc n) depth (t ∷ ts) e =
        by_test OfValue (is_byte 91 t)
        (λ b. by_test OfValue (leb deepest depth) (λ d. tt) (λ d. array_read t.first (first_item len (λ us. items len n (suc depth) us) ts) (first_item_read (λ us. items len n (suc depth) us) ts e.1 (items_read n (suc depth) ts e.1))))
        (λ b. by_test OfValue (is_byte 123 t)
        (λ c. by_test OfValue (leb deepest depth) (λ d. tt) (λ d. object_read t.first (first_member len (λ us. members len n (suc depth) us) ts) (first_member_read (λ us. members len n (suc depth) us) ts e.1 (members_read_lem n (suc depth) ts e.1))))
        (λ c. scalar_read t ts e.0 e.1))

    items_read : (n depth : ℕ) (ts : List Lexeme) → Each P ts → OfListed (items len n depth ts)
    items_read zero depth ts e = tt
    items_read (suc n) depth ts e = next_item_read (λ us. items len n depth us) (value len n depth ts) (value_read n depth ts e) (λ vs h. items_read n depth vs h)

    members_read_lem : (n depth : ℕ) (ts : List Lexeme) → Each P ts → OfNamed (members len n depth ts)
    members_read_lem zero depth ts e = tt
    members_read_lem (suc n) depth ts e =
        name_read _ ts e
        (λ t us w h. after_name_read t _ us w h
        (λ vs k. next_member_read t (λ ws. members len n depth ws) (value len n depth vs) w (value_read n depth vs k) (λ ws l. members_read_lem n depth ws l)))

  -- ---- a text

  abbrev OfText : Text → Type 0
  OfText t = (x : Json) → t.tree ≡ some x → Every (WholeAnd P) x × (t.stop ≡ none → is_closed x ≡ true)

  of_text : (v : Value) → OfValue v → OfText (text_of_value len v)
  of_text (Whole x []) h y e = let f : x ≡ y = cc in (subst (Every (WholeAnd P)) f h.0, λ s. subst (λ (z : Json). is_closed z ≡ true) f h.1)
  of_text (Whole x (t ∷ ts)) h y e = let f : x ≡ y = cc in (subst (Every (WholeAnd P)) f h.0, λ s. cc)
  of_text (Cut x stop) h y e = let f : x ≡ y = cc in (subst (Every (WholeAnd P)) f h, λ s. cc)
  of_text (Missing stop) h y e = absurd (let z : ◌≡◌ {A = ℕ} 0 1 = cc in omega arith)

-- every lexeme in the tree of a text is one of the text's; and the tree is closed where reading does not stop
pub text_read_lem : (P : Lexeme → Type 0) (bs : List ℕ) → Each P (lexemes (length bs) 0 bs) → (x : Json) → (text bs).tree ≡ some x → Every (WholeAnd P) x × ((text bs).stop ≡ none → is_closed x ≡ true)
unfolding text
text_read_lem P bs h =
    of_text P (length bs) (value (length bs) (2 * length (lexemes (length bs) 0 bs) + 1) 0 (lexemes (length bs) 0 bs))
    (value_read P (length bs) (2 * length (lexemes (length bs) 0 bs) + 1) 0 (lexemes (length bs) 0 bs) h)
