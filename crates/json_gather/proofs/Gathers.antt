-- What is at hand against what is held as trees, by the innermost list or object that is judged.
use Prim.Native.Nat.{ℕ, suc, ◌≤◌}
use mathlib.Core.Path.{◌≡◌, refl, sym, ◌∙◌}
use mathlib.Core.Bool.{Bool, true, false, not, ◌||◌, true≢false}
use mathlib.Core.List.{List, [], ◌∷◌}
use lib.Dec.{eqb}
use lib.ListN.{length}
use Rattle.rules.specs.Words.{is_some}
use Rattle.json_rule.specs.Lexemes.{Lexeme}
use Rattle.json_rule.specs.Tree.{Json}
use Rattle.json_rule.specs.Shapes.{Kind, AnUpdate, Shape}
use Rattle.json_rule.specs.Defects.{listing_of}
use Rattle.json_judge.specs.Sending.{Held, Holding, HoldsItems, HoldsName}
use Rattle.json_members.specs.Spots.{row_at, shape_at, item_at}
use Rattle.json_stands.proofs.Open.{Ids, Part, snapshot, schema, order, spec, Fields, schema_fields, order_fields, spec_fields}
use Rattle.json_gather.proofs.Owners.{Hand}
use Rattle.json_gather.proofs.Claims.{ListHeld, room_at}
use Rattle.json_gather.proofs.Holds.{Awaits, Holds}

-- an open list: how many elements it has, and, where a value is asked for, that it is one more
pub record OpenItems (a : Hand) (w items : ℕ) (asks : Bool) (wanted : ℕ) (xs : List Json) : Type 0 where
  pub count : items ≡ length xs
  pub few : length xs ≤ room_at w
  pub held : ListHeld a w xs
  pub item : asks ≡ true → wanted ≡ item_at w

-- Whether the innermost object waits for a value, whether one is asked for, and which is wanted; the spot of the innermost one, and what is held, the inner first.
pub data Gathers (a : Hand) (items : ℕ) (waits asks : Bool) (wanted : ℕ) : ℕ → List Holding → Type 0 where
  nothing : (asks ≡ true → wanted ≡ 1) → Gathers a items waits asks wanted 0 []
  updates : {p : ℕ} {xs : List Json} → (asks ≡ true → wanted ≡ 2) → Gathers a items waits asks wanted 1 (HoldsItems p xs ∷ [])
  update : {p : ℕ} {xs : List Json} {u : Holding} → Holds AnUpdate a waits wanted u → Gathers a items waits asks wanted 2 (u ∷ HoldsItems p xs ∷ [])
  ids : {w p q r : ℕ} {each : Shape} {xs ys : List Json} {us : List Held} {t : Lexeme} → Ids w each → OpenItems a w items asks wanted xs → Awaits AnUpdate a w us t
      → Gathers a items waits asks wanted w (HoldsItems p xs ∷ HoldsName q us t ∷ HoldsItems r ys ∷ [])
  part : {w q r : ℕ} {kind : Kind} {ys : List Json} {us : List Held} {t : Lexeme} {h : Holding} → Part w kind → Holds kind a waits wanted h → Awaits AnUpdate a w us t
      → Gathers a items waits asks wanted w (h ∷ HoldsName q us t ∷ HoldsItems r ys ∷ [])
  fields : {w v room x p q r z : ℕ} {each kind : Kind} {xs ys : List Json} {ps us : List Held} {t n : Lexeme} → Fields w room x each kind → Part v kind → OpenItems a w items asks wanted xs → Awaits kind a w ps n → Awaits AnUpdate a v us t
      → Gathers a items waits asks wanted w (HoldsItems p xs ∷ HoldsName z ps n ∷ HoldsName q us t ∷ HoldsItems r ys ∷ [])
  field : {w v room x p q r z : ℕ} {each kind : Kind} {xs ys : List Json} {ps us : List Held} {t n : Lexeme} {h : Holding} → Fields w room x each kind → Part v kind → Holds each a waits wanted h → items ≡ suc (length xs) → suc (length xs) ≤ room
      → ListHeld a w xs → Awaits kind a w ps n → Awaits AnUpdate a v us t
      → Gathers a items waits asks wanted x (h ∷ HoldsItems p xs ∷ HoldsName z ps n ∷ HoldsName q us t ∷ HoldsItems r ys ∷ [])

-- so many holdings of what is passed over, and those around them
pub data Above : ℕ → List Holding → List Holding → Type 0 where
  here : {hs : List Holding} → Above 0 hs hs
  more : {q : ℕ} {h : Holding} {hs js : List Holding} → Above q hs js → Above (suc q) (h ∷ hs) js

-- ---- by what may come next, and by how many are passed over

-- a value is awaited in an object; one is asked for
abbrev pub is_waiting : ℕ → ℕ → Bool
is_waiting expect passed = not (eqb passed 0) || (eqb expect 0 || eqb expect 4)

abbrev pub is_asking : ℕ → ℕ → Bool
is_asking expect passed = is_waiting expect passed || eqb expect 1

-- ---- a list

pub part_no_list : {w : ℕ} {kind : Kind} → Part w kind → is_some (listing_of (shape_at w)) ≡ false
unfolding row_at
part_no_list snapshot = refl
part_no_list schema = refl
part_no_list order = refl
part_no_list spec = refl

pub field_no_list : {w room x : ℕ} {each kind : Kind} → Fields w room x each kind → is_some (listing_of (shape_at x)) ≡ false
unfolding row_at
field_no_list schema_fields = refl
field_no_list order_fields = refl
field_no_list spec_fields = refl

pub update_no_list : is_some (listing_of (shape_at 2)) ≡ false
unfolding row_at
update_no_list = refl

pub nothing_no_list : is_some (listing_of (shape_at 0)) ≡ false
unfolding row_at
nothing_no_list = refl

module _ {a : Hand} {items : ℕ} {waits asks : Bool} {wanted : ℕ} where
  -- an element is what is asked for
  pub list_item : {w : ℕ} {js : List Holding} → is_some (listing_of (shape_at w)) ≡ true → asks ≡ true → Gathers a items waits asks wanted w js → wanted ≡ item_at w
  unfolding item_at
  list_item i e (nothing g) = absurd (true≢false (sym i ∙ nothing_no_list))
  list_item i e (updates g) = g e
  list_item i e (update h) = absurd (true≢false (sym i ∙ update_no_list))
  list_item i e (ids t o u) = o.item e
  list_item i e (part t h u) = absurd (true≢false (sym i ∙ part_no_list t))
  list_item i e (fields f t o p u) = o.item e
  list_item i e (field f t h c k l p u) = absurd (true≢false (sym i ∙ field_no_list f))

  -- in a list nothing else turns on what comes next
  pub as_list : {w : ℕ} {js : List Holding} (waits' asks' : Bool) (wanted' : ℕ) → is_some (listing_of (shape_at w)) ≡ true → (asks' ≡ true → wanted' ≡ item_at w) → Gathers a items waits asks wanted w js → Gathers a items waits' asks' wanted' w js
  unfolding item_at
  as_list waits' asks' wanted' i e (nothing g) = absurd (true≢false (sym i ∙ nothing_no_list))
  as_list waits' asks' wanted' i e (updates g) = updates e
  as_list waits' asks' wanted' i e (update h) = absurd (true≢false (sym i ∙ update_no_list))
  as_list waits' asks' wanted' i e (ids t o u) = ids t (record { count = o.count; few = o.few; held = o.held; item = e }) u
  as_list waits' asks' wanted' i e (part t h u) = absurd (true≢false (sym i ∙ part_no_list t))
  as_list waits' asks' wanted' i e (fields f t o p u) = fields f t (record { count = o.count; few = o.few; held = o.held; item = e }) p u
  as_list waits' asks' wanted' i e (field f t h c k l p u) = absurd (true≢false (sym i ∙ field_no_list f))
