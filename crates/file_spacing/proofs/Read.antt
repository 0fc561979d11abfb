-- From lexemes at other places the same tree is read at those places, and reading stops at the same lexeme.
use Prim.Native.Nat.{ℕ, zero, suc, ◌+◌, ◌*◌}
use mathlib.Core.Path.{◌≡◌, refl, ap, ◌∙◌}
use mathlib.Core.Bool.{Bool, true, false, cond}
use mathlib.Core.List.{List, [], ◌∷◌, map}
use mathlib.Core.Option
use lib.Dec.{leb}
use lib.ListN.{length}
use Rattle.json_rule.specs.Lexemes.{Lexeme, quote}
use Rattle.json_rule.specs.Tree.{not_json, deepest, Json, no_item, no_member, Value, Whole, Cut, Missing, Listed, Closed, Open, Named, ClosedBy, OpenBy, array_at, object_at_lem, with_item, with_member, is_scalar, is_byte, stop_at, scalar, bracketed, first_item, more_items, next_item, first_member, more_members, next_member, after_name, name, value, items, members, Text, text_of_value, text_of_lexemes}
use Rattle.file_spacing.specs.Places.{moved_lexeme, moved, moved_items, moved_members, moved_defect}

module _ (f : ℕ → ℕ) where
  abbrev pub moved_lexemes : List Lexeme → List Lexeme
  moved_lexemes ts = map (moved_lexeme f) ts

  abbrev pub moved_value : Value → Value
  moved_value (Whole x us) = Whole (moved f x) (moved_lexemes us)
  moved_value (Cut x stop) = Cut (moved f x) (moved_defect f stop)
  moved_value (Missing stop) = Missing (moved_defect f stop)

  abbrev moved_listed : Listed → Listed
  moved_listed (Closed xs us) = Closed (moved_items f xs) (moved_lexemes us)
  moved_listed (Open xs stop) = Open (moved_items f xs) (moved_defect f stop)

  abbrev moved_named : Named → Named
  moved_named (ClosedBy ms us) = ClosedBy (moved_members f ms) (moved_lexemes us)
  moved_named (OpenBy ms stop) = OpenBy (moved_members f ms) (moved_defect f stop)

  -- both choices at other places
  either : {A : Type 0} (g : A → A) (b : Bool) {x y : A} {u v : A} → u ≡ g x → v ≡ g y → cond b u v ≡ g (cond b x y)
  either g true e d = e
  either g false e d = d

  -- a lexeme that is whole, or where it breaks off
  broken : {A : Type 0} (g : A → A) (make : ℕ → A) → ((n : ℕ) → make (f n) ≡ g (make n)) → (b : Bool) (stop : ℕ) {x u : A} → u ≡ g x → cond b u (make (cond b stop (f stop))) ≡ g (cond b x (make stop))
  broken g make h true stop e = e
  broken g make h false stop e = h stop

  array_moved : (place : ℕ) (l : Listed) → array_at (f place) (moved_listed l) ≡ moved_value (array_at place l)
  unfolding moved
  array_moved place (Closed xs us) = refl
  array_moved place (Open xs stop) = refl

  object_moved : (place : ℕ) (l : Named) → object_at_lem (f place) (moved_named l) ≡ moved_value (object_at_lem place l)
  unfolding moved
  object_moved place (ClosedBy ms us) = refl
  object_moved place (OpenBy ms stop) = refl

  with_item_moved : (x : Json) (l : Listed) → with_item (moved f x) (moved_listed l) ≡ moved_listed (with_item x l)
  unfolding moved
  with_item_moved x (Closed xs us) = refl
  with_item_moved x (Open xs stop) = refl

  with_member_moved : (t : Lexeme) (x : Json) (l : Named) → with_member (moved_lexeme f t) (moved f x) (moved_named l) ≡ moved_named (with_member t x l)
  unfolding moved
  with_member_moved t x (ClosedBy ms us) = refl
  with_member_moved t x (OpenBy ms stop) = refl

  module _ (len : ℕ) where
    scalar_moved : (t : Lexeme) (ts : List Lexeme) → scalar (f len) (moved_lexeme f t) (moved_lexemes ts) ≡ moved_value (scalar len t ts)
    unfolding moved is_scalar
    scalar_moved t ts =
        either moved_value (is_scalar t) (broken moved_value (λ n. Missing (record { place = n; number = not_json })) (λ n. refl) t.whole t.stop refl) refl

    bracketed_moved : (depth : ℕ) (t : Lexeme) (v w : Value) → w ≡ moved_value v → bracketed (f len) depth (moved_lexeme f t) w ≡ moved_value (bracketed len depth t v)
    bracketed_moved depth t v w e = either moved_value (leb deepest depth) refl e

    -- ---- lists

    first_item_moved : (g h : List Lexeme → Listed) (ts : List Lexeme) → h (moved_lexemes ts) ≡ moved_listed (g ts) → first_item (f len) h (moved_lexemes ts) ≡ moved_listed (first_item len g ts)
    unfolding moved
    first_item_moved g h [] e = e
    first_item_moved g h (t ∷ ts) e = either moved_listed (is_byte 93 t) refl e

    more_items_moved : (g h : List Lexeme → Listed) → ((vs : List Lexeme) → h (moved_lexemes vs) ≡ moved_listed (g vs)) → (us : List Lexeme)
        → more_items (f len) h (moved_lexemes us) ≡ moved_listed (more_items len g us)
    unfolding moved
    more_items_moved g h e [] = refl
    more_items_moved g h e (t ∷ us) = either moved_listed (is_byte 44 t) (e us) (either moved_listed (is_byte 93 t) refl refl)

    next_item_moved : (g h : List Lexeme → Listed) → ((vs : List Lexeme) → h (moved_lexemes vs) ≡ moved_listed (g vs)) → (v : Value) → next_item (f len) h (moved_value v) ≡ moved_listed (next_item len g v)
    unfolding moved
    next_item_moved g h e (Whole x us) = ap (λ (l : Listed). with_item (moved f x) l) (more_items_moved g h e us) ∙ with_item_moved x (more_items len g us)
    next_item_moved g h e (Cut x stop) = refl
    next_item_moved g h e (Missing stop) = refl

    -- ---- objects

    first_member_moved : (g h : List Lexeme → Named) (ts : List Lexeme) → h (moved_lexemes ts) ≡ moved_named (g ts) → first_member (f len) h (moved_lexemes ts) ≡ moved_named (first_member len g ts)
    unfolding moved
    first_member_moved g h [] e = e
    first_member_moved g h (t ∷ ts) e = either moved_named (is_byte 125 t) refl e

    more_members_moved : (g h : List Lexeme → Named) → ((vs : List Lexeme) → h (moved_lexemes vs) ≡ moved_named (g vs)) → (us : List Lexeme)
        → more_members (f len) h (moved_lexemes us) ≡ moved_named (more_members len g us)
    unfolding moved
    more_members_moved g h e [] = refl
    more_members_moved g h e (t ∷ us) = either moved_named (is_byte 44 t) (e us) (either moved_named (is_byte 125 t) refl refl)

    next_member_moved : (t : Lexeme) (g h : List Lexeme → Named) → ((vs : List Lexeme) → h (moved_lexemes vs) ≡ moved_named (g vs)) → (v : Value)
        → next_member (f len) (moved_lexeme f t) h (moved_value v) ≡ moved_named (next_member len t g v)
    unfolding moved
    next_member_moved t g h e (Whole x us) = ap (λ (l : Named). with_member (moved_lexeme f t) (moved f x) l) (more_members_moved g h e us) ∙ with_member_moved t x (more_members len g us)
    next_member_moved t g h e (Cut x stop) = refl
    next_member_moved t g h e (Missing stop) = refl

    after_name_moved : (t : Lexeme) (g h : List Lexeme → Named) → ((vs : List Lexeme) → h (moved_lexemes vs) ≡ moved_named (g vs)) → (us : List Lexeme)
        → after_name (f len) (moved_lexeme f t) h (moved_lexemes us) ≡ moved_named (after_name len t g us)
    unfolding moved
    after_name_moved t g h e [] = refl
    after_name_moved t g h e (c ∷ us) = either moved_named (is_byte 58 c) (e us) refl

    name_moved : (g h : Lexeme → List Lexeme → Named) → ((t : Lexeme) (us : List Lexeme) → h (moved_lexeme f t) (moved_lexemes us) ≡ moved_named (g t us)) → (ts : List Lexeme)
        → name (f len) h (moved_lexemes ts) ≡ moved_named (name len g ts)
    unfolding moved
    name_moved g h e [] = refl
    name_moved g h e (t ∷ us) = either moved_named (is_byte quote t) (broken moved_named (λ n. OpenBy no_member (record { place = n; number = not_json })) (λ n. refl) t.whole t.stop (e t us)) refl

    -- ---- all of them

    no_items : (ts : List Lexeme) → Open no_item (stop_at (f len) (moved_lexemes ts)) ≡ moved_listed (Open no_item (stop_at len ts))
    unfolding moved
    no_items [] = refl
    no_items (t ∷ ts) = refl

    no_members : (ts : List Lexeme) → OpenBy no_member (stop_at (f len) (moved_lexemes ts)) ≡ moved_named (OpenBy no_member (stop_at len ts))
    unfolding moved
    no_members [] = refl
    no_members (t ∷ ts) = refl

    mutual
      unfolding value

      pub value_moved : (n depth : ℕ) (ts : List Lexeme) → value (f len) n depth (moved_lexemes ts) ≡ moved_value (value len n depth ts)
      value_moved zero depth [] = refl
      value_moved zero depth (t ∷ ts) = refl
      value_moved (suc n) depth [] = refl
      value_moved (suc n) depth (t ∷ ts) =
          either moved_value (is_byte 91 t)
          (bracketed_moved depth t (array_at t.first (first_item len (λ us. items len n (suc depth) us) ts)) (array_at (f t.first) (first_item (f len) (λ us. items (f len) n (suc depth) us) (moved_lexemes ts)))
          (ap (array_at (f t.first)) (first_item_moved (λ us. items len n (suc depth) us) (λ us. items (f len) n (suc depth) us) ts (items_moved n (suc depth) ts)) ∙ array_moved t.first (first_item len (λ us. items len n (suc depth) us) ts)))
          (either moved_value (is_byte 123 t)
          (bracketed_moved depth t (object_at_lem t.first (first_member len (λ us. members len n (suc depth) us) ts)) (object_at_lem (f t.first) (first_member (f len) (λ us. members (f len) n (suc depth) us) (moved_lexemes ts)))
          (ap (object_at_lem (f t.first)) (first_member_moved (λ us. members len n (suc depth) us) (λ us. members (f len) n (suc depth) us) ts (members_moved n (suc depth) ts)) ∙ object_moved t.first (first_member len (λ us. members len n (suc depth) us) ts)))
          (scalar_moved t ts))

      items_moved : (n depth : ℕ) (ts : List Lexeme) → items (f len) n depth (moved_lexemes ts) ≡ moved_listed (items len n depth ts)
      items_moved zero depth ts = no_items ts
      items_moved (suc n) depth ts =
          ap (λ (v : Value). next_item (f len) (λ us. items (f len) n depth us) v) (value_moved n depth ts)
          ∙ next_item_moved (λ us. items len n depth us) (λ us. items (f len) n depth us) (λ vs. items_moved n depth vs) (value len n depth ts)

      members_moved : (n depth : ℕ) (ts : List Lexeme) → members (f len) n depth (moved_lexemes ts) ≡ moved_named (members len n depth ts)
      members_moved zero depth ts = no_members ts
      members_moved (suc n) depth ts =
          name_moved (λ t us. after_name len t (λ vs. next_member len t (λ ws. members len n depth ws) (value len n depth vs)) us)
          (λ t us. after_name (f len) t (λ vs. next_member (f len) t (λ ws. members (f len) n depth ws) (value (f len) n depth vs)) us)
          (λ t us. after_name_moved t (λ vs. next_member len t (λ ws. members len n depth ws) (value len n depth vs))
          (λ vs. next_member (f len) (moved_lexeme f t) (λ ws. members (f len) n depth ws) (value (f len) n depth vs))
          (λ vs. ap (λ (v : Value). next_member (f len) (moved_lexeme f t) (λ ws. members (f len) n depth ws) v) (value_moved n depth vs)
          ∙ next_member_moved t (λ ws. members len n depth ws) (λ ws. members (f len) n depth ws) (λ ws. members_moved n depth ws) (value len n depth vs)) us)
          ts

-- ---- a text

abbrev pub moved_text : (ℕ → ℕ) → Text → Text
moved_text f t = record { tree = Option.map (moved f) t.tree; stop = Option.map (moved_defect f) t.stop }

text_of_moved : (f : ℕ → ℕ) (len : ℕ) (v : Value) → text_of_value (f len) (moved_value f v) ≡ moved_text f (text_of_value len v)
text_of_moved f len (Whole x []) = refl
text_of_moved f len (Whole x (t ∷ ts)) = refl
text_of_moved f len (Cut x stop) = refl
text_of_moved f len (Missing stop) = refl

as_many : (f : ℕ → ℕ) (ts : List Lexeme) → length (moved_lexemes f ts) ≡ length ts
as_many f [] = refl
as_many f (t ∷ ts) = ap suc (as_many f ts)

pub text_moved : (f : ℕ → ℕ) (len : ℕ) (ts : List Lexeme) → text_of_lexemes (f len) (moved_lexemes f ts) ≡ moved_text f (text_of_lexemes len ts)
text_moved f len ts =
    ap (λ (n : ℕ). text_of_value (f len) (value (f len) (2 * n + 1) 0 (moved_lexemes f ts))) (as_many f ts)
    ∙ ap (text_of_value (f len)) (value_moved f len (2 * length ts + 1) 0 ts)
    ∙ text_of_moved f len (value len (2 * length ts + 1) 0 ts)
