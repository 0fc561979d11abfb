-- The tree of a text, as far as it can be read: RFC 8259, sections 2 to 5, over lexemes; document 02, request (vi): "27 not JSON, at the first byte that cannot
-- continue, or the length", and 29 "nested past 16, at its first byte".
use Rattle.std.specs.Prelude.{ℕ, zero, suc, ◌+◌, ◌*◌, Bool, true, false, cond, ◌&&◌, ◌||◌, List, [], ◌∷◌, eqb, leb, length}
use Rattle.std.proofs.Math.Option.{Option, none, some}
use Rattle.json_rule.specs.Lexemes.{Lexeme, quote, minus, is_digit, lexemes}

-- a place and a number
pub record Defect : Type 0 where
  pub place : ℕ
  pub number : ℕ

abbrev pub not_json : ℕ
not_json = 27

abbrev pub over_capacity : ℕ
over_capacity = 29

-- "nested past 16"
abbrev pub deepest : ℕ
deepest = 16

-- Lists and objects have the place of their first byte, and whether they were closed. A name may stand without its value where the text stops.
mutual
  pub data Json : Type 0 where
    Scalar : Lexeme → Json
    Array : ℕ → Items → Bool → Json
    Object : ℕ → Members → Bool → Json

  pub data Items : Type 0 where
    no_item : Items
    item : Json → Items → Items

  pub data Members : Type 0 where
    no_member : Members
    bare_name : Lexeme → Members
    member : Lexeme → Json → Members → Members

-- a value and what follows it; a value as far as it goes, and where reading stops; no value, and where
pub data Value : Type 0 where
  Whole : Json → List Lexeme → Value
  Cut : Json → Defect → Value
  Missing : Defect → Value

-- the same of what stands between brackets
pub data Listed : Type 0 where
  Closed : Items → List Lexeme → Listed
  Open : Items → Defect → Listed

pub data Named : Type 0 where
  ClosedBy : Members → List Lexeme → Named
  OpenBy : Members → Defect → Named

abbrev pub array_at : ℕ → Listed → Value
array_at first (Closed xs ts) = Whole (Array first xs true) ts
array_at first (Open xs stop) = Cut (Array first xs false) stop

abbrev pub object_at_lem : ℕ → Named → Value
object_at_lem first (ClosedBy ms ts) = Whole (Object first ms true) ts
object_at_lem first (OpenBy ms stop) = Cut (Object first ms false) stop

abbrev pub with_item : Json → Listed → Listed
with_item x (Closed xs ts) = Closed (item x xs) ts
with_item x (Open xs stop) = Open (item x xs) stop

abbrev pub with_member : Lexeme → Json → Named → Named
with_member t x (ClosedBy ms ts) = ClosedBy (member t x ms) ts
with_member t x (OpenBy ms stop) = OpenBy (member t x ms) stop

-- a string, a number or a literal name
unfoldable pub is_scalar : Lexeme → Bool
is_scalar t = eqb t.head quote || eqb t.head minus || is_digit t.head || eqb t.head 116 || eqb t.head 102 || eqb t.head 110

-- the lexeme is this byte
abbrev pub is_byte : ℕ → Lexeme → Bool
is_byte b t = eqb t.head b

module _ (len : ℕ) where
  -- where a lexeme cannot stand, or there is none
  abbrev pub stop_at : List Lexeme → Defect
  stop_at [] = record { place = len; number = not_json }
  stop_at (t ∷ ts) = record { place = t.first; number = not_json }

  -- where a lexeme breaks off that could stand there
  abbrev pub broken_at : Lexeme → Defect
  broken_at t = record { place = t.stop; number = not_json }

  abbrev pub scalar : Lexeme → List Lexeme → Value
  scalar t ts = cond (is_scalar t) (cond t.whole (Whole (Scalar t) ts) (Missing (broken_at t))) (Missing (stop_at (t ∷ ts)))

  -- the 17th open bracket
  abbrev pub bracketed : ℕ → Lexeme → Value → Value
  bracketed depth t inside = cond (leb deepest depth) (Missing (record { place = t.first; number = over_capacity })) inside

  -- `]` at once, or an item
  abbrev pub first_item : (List Lexeme → Listed) → List Lexeme → Listed
  first_item again [] = again []
  first_item again (t ∷ ts) = cond (is_byte 93 t) (Closed no_item ts) (again (t ∷ ts))

  -- `,` and one more, or `]`
  abbrev pub more_items : (List Lexeme → Listed) → List Lexeme → Listed
  more_items again [] = Open no_item (stop_at [])
  more_items again (t ∷ ts) = cond (is_byte 44 t) (again ts) (cond (is_byte 93 t) (Closed no_item ts) (Open no_item (stop_at (t ∷ ts))))

  abbrev pub next_item : (List Lexeme → Listed) → Value → Listed
  next_item again (Whole x ts) = with_item x (more_items again ts)
  next_item again (Cut x stop) = Open (item x no_item) stop
  next_item again (Missing stop) = Open no_item stop

  -- `}` at once, or a member
  abbrev pub first_member : (List Lexeme → Named) → List Lexeme → Named
  first_member again [] = again []
  first_member again (t ∷ ts) = cond (is_byte 125 t) (ClosedBy no_member ts) (again (t ∷ ts))

  -- `,` and one more, or `}`
  abbrev pub more_members : (List Lexeme → Named) → List Lexeme → Named
  more_members again [] = OpenBy no_member (stop_at [])
  more_members again (t ∷ ts) = cond (is_byte 44 t) (again ts) (cond (is_byte 125 t) (ClosedBy no_member ts) (OpenBy no_member (stop_at (t ∷ ts))))

  abbrev pub next_member : Lexeme → (List Lexeme → Named) → Value → Named
  next_member t again (Whole x ts) = with_member t x (more_members again ts)
  next_member t again (Cut x stop) = OpenBy (member t x no_member) stop
  next_member t again (Missing stop) = OpenBy (bare_name t) stop

  -- `:` behind a name
  abbrev pub after_name : Lexeme → (List Lexeme → Named) → List Lexeme → Named
  after_name t again [] = OpenBy (bare_name t) (stop_at [])
  after_name t again (c ∷ ts) = cond (is_byte 58 c) (again ts) (OpenBy (bare_name t) (stop_at (c ∷ ts)))

  abbrev pub name : (Lexeme → List Lexeme → Named) → List Lexeme → Named
  name again [] = OpenBy no_member (stop_at [])
  name again (t ∷ ts) = cond (is_byte quote t) (cond t.whole (again t ts) (OpenBy no_member (broken_at t))) (OpenBy no_member (stop_at (t ∷ ts)))

  -- inside so many open brackets
  unfoldable mutual
    -- value = false / null / true / object / array / number / string
    pub value : ℕ → ℕ → List Lexeme → Value
    value zero depth ts = Missing (stop_at ts)
    value (suc steps) depth [] = Missing (stop_at [])
    value (suc steps) depth (t ∷ ts) =
        cond (is_byte 91 t) (bracketed depth t (array_at t.first (first_item (λ us. items steps (suc depth) us) ts)))
        (cond (is_byte 123 t) (bracketed depth t (object_at_lem t.first (first_member (λ us. members steps (suc depth) us) ts)))
        (scalar t ts))

    -- array = begin-array [ value *( value-separator value ) ] end-array
    pub items : ℕ → ℕ → List Lexeme → Listed
    items zero depth ts = Open no_item (stop_at ts)
    items (suc steps) depth ts = next_item (λ us. items steps depth us) (value steps depth ts)

    -- object = begin-object [ member *( value-separator member ) ] end-object; member = string name-separator value
    pub members : ℕ → ℕ → List Lexeme → Named
    members zero depth ts = OpenBy no_member (stop_at ts)
    members (suc steps) depth ts =
        name (λ t us. after_name t (λ vs. next_member t (λ ws. members steps depth ws) (value steps depth vs)) us) ts

-- what was read of a text, if anything, and where reading stops, if it does
pub record Text : Type 0 where
  pub tree : Option Json
  pub stop : Option Defect

-- JSON-text = ws value ws
abbrev pub text_of_value : ℕ → Value → Text
text_of_value len (Whole x []) = record { tree = some x; stop = none }
text_of_value len (Whole x (t ∷ ts)) = record { tree = some x; stop = some (stop_at len (t ∷ ts)) }
text_of_value len (Cut x stop) = record { tree = some x; stop = some stop }
text_of_value len (Missing stop) = record { tree = none; stop = some stop }

-- a lexeme is taken in two steps at most
abbrev pub text_of_lexemes : ℕ → List Lexeme → Text
text_of_lexemes len ts = text_of_value len (value len (2 * length ts + 1) 0 ts)

unfoldable pub text : List ℕ → Text
text bs = text_of_lexemes (length bs) (lexemes (length bs) 0 bs)
