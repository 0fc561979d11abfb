-- What is wrong with a tree, by the tables: document 02, request (vi), 28 and 29, each "at the first byte of that name, value or object"; "the earliest offset
-- wins, the lower number on a tie". All defects are gathered, of as much as was read.
use Rattle.std.specs.Prelude.{ℕ, zero, suc, ◌+◌, Bool, true, false, cond, not, ◌&&◌, ◌||◌, List, [], ◌∷◌, ◌++◌, map, eqb, leb, ltb, ℤ, length, take, drop}
use Rattle.std.proofs.Math.Option.{Option, none, some}
use Rattle.std.specs.Int.Signed.{le_z}
use Rattle.rules.specs.Words.{is_some, some_with, all, any, keep, first, is_empty, same_bytes, collect}
use Rattle.json_rule.specs.Letters.{bytes}
use Rattle.json_rule.specs.Lexemes.{Lexeme, is_digit, is_hex}
use Rattle.json_rule.specs.Values.{text_of, whole_number_of, digits_value}
use Rattle.json_rule.specs.Tree.{Defect, over_capacity, Json, Scalar, Array, Object, Items, no_item, item, Members, no_member, bare_name, member, Text}
use Rattle.json_rule.specs.Members.{is_one_of, names_of, value_of, text_in}
use Rattle.json_rule.specs.Shapes.{Kind, AnUpdate, ASnapshot, ASchema, AField, AnOrder, ASortField, ASpec, APartitionField, Shape, Anything, TextUpTo, OneOf, NumberIn, No, AUuid, ATransform, ListUpTo, ARecord, Row, Action, actions, action_name, rows_of}

abbrev pub not_published : ℕ
not_published = 28

abbrev pub refused_at : ℕ → ℕ → List Defect
refused_at place number = record { place = place; number = number } ∷ []

-- a number at a place, where a test fails
abbrev pub unless : Bool → ℕ → ℕ → List Defect
unless holds place number = cond holds [] (refused_at place number)

-- ---- values that are no list and no object

-- so many hexadecimal digits, a hyphen, and the next group
abbrev pub hex_groups : List ℕ → List ℕ → Bool
hex_groups [] bs = is_empty bs
hex_groups (n ∷ []) bs = eqb (length bs) n && all is_hex bs
hex_groups (n ∷ m ∷ ns) bs = eqb (length (take n bs)) n && all is_hex (take n bs) && same_bytes (take 1 (drop n bs)) (bytes "-") && hex_groups (m ∷ ns) (drop (suc n) bs)

unfoldable pub is_uuid : List ℕ → Bool
is_uuid bs = hex_groups (8 ∷ 4 ∷ 4 ∷ 4 ∷ 12 ∷ []) bs

abbrev pub plain_transforms : List (List ℕ)
plain_transforms = bytes "identity" ∷ bytes "year" ∷ bytes "month" ∷ bytes "day" ∷ []

abbrev pub bucket_start : List ℕ
bucket_start = bytes "bucket["

-- the digits of `bucket[N]`; of another text what stands in their place
abbrev pub bucket_digits : List ℕ → List ℕ
bucket_digits bs = keep is_digit (drop (length bucket_start) bs)

-- `bucket[N]`, N a whole number without a leading zero, at most the largest of 32 bits
unfoldable pub is_bucket : List ℕ → Bool
is_bucket bs =
    same_bytes bs (bucket_start ++ bucket_digits bs ++ bytes "]")
    && leb 1 (length (bucket_digits bs))
    && (eqb (length (bucket_digits bs)) 1 || not (same_bytes (take 1 (bucket_digits bs)) (bytes "0")))
    && leb (digits_value 0 (bucket_digits bs)) 2147483647

unfoldable pub is_transform : List ℕ → Bool
is_transform bs = is_one_of plain_transforms bs || is_bucket bs

abbrev pub is_number_in : ℤ → ℤ → Lexeme → Bool
is_number_in least most t = some_with (λ n. le_z least n && le_z n most) (whole_number_of t)

-- `false`
abbrev pub is_no : Lexeme → Bool
is_no t = eqb t.head 102

-- a text without UTF-8 is 28, and one over its capacity 29
abbrev pub text_defects : ℕ → ℕ → Option (List ℕ) → List Defect
text_defects room place none = refused_at place not_published
text_defects room place (some bs) = unless (leb (length bs) room) place over_capacity

-- of a scalar whose defect stands at a place
abbrev pub scalar_defects : Shape → ℕ → Lexeme → List Defect
scalar_defects Anything place t = []
scalar_defects (TextUpTo room) place t = text_defects room place (text_of t)
scalar_defects (OneOf words) place t = unless (some_with (is_one_of words) (text_of t)) place not_published
scalar_defects (NumberIn least most) place t = unless (is_number_in least most t) place not_published
scalar_defects No place t = unless (is_no t) place not_published
scalar_defects AUuid place t = unless (some_with is_uuid (text_of t)) place not_published
scalar_defects ATransform place t = unless (some_with is_transform (text_of t)) place not_published
scalar_defects (ListUpTo room shape) place t = refused_at place not_published
scalar_defects (ARecord kind) place t = refused_at place not_published

-- ---- names

abbrev pub row_named : List ℕ → List Row → Option Row
row_named name rows = first (λ (r : Row). same_bytes r.name name) rows

-- the row of a name that is known and was not there before
abbrev pub row_of : List Row → List (List ℕ) → Option (List ℕ) → Option Row
row_of rows seen none = none
row_of rows seen (some name) = cond (is_one_of seen name) none (row_named name rows)

-- "an unknown or repeated member"
abbrev pub name_defects : Lexeme → Option Row → List Defect
name_defects t row = unless (is_some row) t.first not_published

abbrev pub with_name : List (List ℕ) → Option (List ℕ) → List (List ℕ)
with_name seen none = seen
with_name seen (some name) = name ∷ seen

-- ---- the action of an update

-- the action that is listed under a word
abbrev pub listed_action : Option (List ℕ) → Option Action
listed_action none = none
listed_action (some word) = first (λ (a : Action). same_bytes a.word word) actions

-- the listed action that the first member `action` names
unfoldable pub action_of : Members → Option Action
action_of ms = elim (value_of action_name ms) [ none ↦ none | some x ↦ listed_action (text_in x) ]

-- a name that is published, but not beside this action
abbrev pub is_foreign : Action → List ℕ → Bool
is_foreign a name = is_some (row_named name (rows_of AnUpdate)) && not (is_some (row_named name a.rows)) && not (same_bytes name action_name)

abbrev pub foreign_name : Action → Lexeme → List Defect
foreign_name a t = unless (not (some_with (is_foreign a) (text_of t))) t.first not_published

abbrev pub foreign_names : Action → Members → List Defect
foreign_names a no_member = []
foreign_names a (bare_name t) = foreign_name a t
foreign_names a (member t x ms) = foreign_name a t ++ foreign_names a ms

-- "an unknown member": once the action is known, those of other actions are
abbrev pub foreign_defects : Kind → Members → List Defect
foreign_defects AnUpdate ms = elim (action_of ms) [ none ↦ [] | some a ↦ foreign_names a ms ]
foreign_defects ASnapshot ms = []
foreign_defects ASchema ms = []
foreign_defects AField ms = []
foreign_defects AnOrder ms = []
foreign_defects ASortField ms = []
foreign_defects ASpec ms = []
foreign_defects APartitionField ms = []

-- ---- missing members

abbrev pub required_names : List Row → List (List ℕ)
required_names rows = map (λ (r : Row). r.name) (keep (λ (r : Row). r.is_required) rows)

-- both of two, or neither
abbrev pub both_or_neither : List (List ℕ) → List ℕ → List ℕ → List (List ℕ)
both_or_neither names a b = cond (is_one_of names a || is_one_of names b) (a ∷ b ∷ []) []

-- The names that an object has to have. Of an update: its action, and what that requires; of a snapshot also both halves of a row range, or neither.
abbrev pub needed_names : Kind → Members → List (List ℕ)
needed_names AnUpdate ms = action_name ∷ elim (action_of ms) [ none ↦ [] | some a ↦ required_names a.rows ]
needed_names ASnapshot ms = required_names (rows_of ASnapshot) ++ both_or_neither (names_of ms) (bytes "first-row-id") (bytes "added-rows")
needed_names ASchema ms = required_names (rows_of ASchema)
needed_names AField ms = required_names (rows_of AField)
needed_names AnOrder ms = required_names (rows_of AnOrder)
needed_names ASortField ms = required_names (rows_of ASortField)
needed_names ASpec ms = required_names (rows_of ASpec)
needed_names APartitionField ms = required_names (rows_of APartitionField)

-- "one missing from a closed object"
abbrev pub missing_defects : Kind → ℕ → Members → Bool → List Defect
missing_defects kind place ms closed = unless (not closed || all (is_one_of (names_of ms)) (needed_names kind ms)) place not_published

-- ---- lists and objects

abbrev pub count_of : Items → ℕ
count_of no_item = 0
count_of (item x xs) = suc (count_of xs)

-- the place of the schema in which a record stands: its own, where it is one
abbrev pub schema_place : Kind → ℕ → ℕ → ℕ
schema_place AnUpdate place outer = outer
schema_place ASnapshot place outer = outer
schema_place ASchema place outer = place
schema_place AField place outer = outer
schema_place AnOrder place outer = outer
schema_place ASortField place outer = outer
schema_place ASpec place outer = outer
schema_place APartitionField place outer = outer

-- where a defect of a member's value stands that is found at a place
abbrev pub stands_at : Bool → ℕ → ℕ → ℕ
stands_at of_schema schema place = cond of_schema schema place

-- a list: how many it may have, and what each is to be
pub record Listing : Type 0 where
  pub room : ℕ
  pub each : Shape

abbrev pub listing_of : Shape → Option Listing
listing_of Anything = none
listing_of (TextUpTo room) = none
listing_of (OneOf words) = none
listing_of (NumberIn least most) = none
listing_of No = none
listing_of AUuid = none
listing_of ATransform = none
listing_of (ListUpTo room each) = some (record { room = room; each = each })
listing_of (ARecord kind) = none

abbrev pub kind_of : Shape → Option Kind
kind_of Anything = none
kind_of (TextUpTo room) = none
kind_of (OneOf words) = none
kind_of (NumberIn least most) = none
kind_of No = none
kind_of AUuid = none
kind_of ATransform = none
kind_of (ListUpTo room each) = none
kind_of (ARecord kind) = some kind

abbrev pub is_anything : Shape → Bool
is_anything Anything = true
is_anything (TextUpTo room) = false
is_anything (OneOf words) = false
is_anything (NumberIn least most) = false
is_anything No = false
is_anything AUuid = false
is_anything ATransform = false
is_anything (ListUpTo room each) = false
is_anything (ARecord kind) = false

-- a list or an object stands where something else is to be; not where anything may
abbrev pub misplaced : Shape → ℕ → List Defect
misplaced shape place = unless (is_anything shape) place not_published

-- The first number is the place of the schema around, the flag says that a defect of the value itself stands there.
unfoldable mutual
  pub defects : ℕ → Bool → Shape → Json → List Defect
  defects schema of_schema shape (Scalar t) = scalar_defects shape (stands_at of_schema schema t.first) t
  defects schema of_schema shape (Array place xs closed) = elim (listing_of shape) [
    | none ↦ misplaced shape (stands_at of_schema schema place)
    | some l ↦ unless (leb (count_of xs) l.room) place over_capacity ++ item_defects schema l.each xs
  ]
  defects schema of_schema shape (Object place ms closed) = elim (kind_of shape) [
    | none ↦ misplaced shape (stands_at of_schema schema place)
    | some kind ↦ member_defects (schema_place kind place schema) (rows_of kind) [] ms ++ foreign_defects kind ms ++ missing_defects kind place ms closed
  ]

  pub item_defects : ℕ → Shape → Items → List Defect
  item_defects schema shape no_item = []
  item_defects schema shape (item x xs) = defects schema false shape x ++ item_defects schema shape xs

  pub member_defects : ℕ → List Row → List (List ℕ) → Members → List Defect
  member_defects schema rows seen no_member = []
  member_defects schema rows seen (bare_name t) = name_defects t (row_of rows seen (text_of t))
  member_defects schema rows seen (member t x ms) =
      name_defects t (row_of rows seen (text_of t))
      ++ elim (row_of rows seen (text_of t)) [ none ↦ [] | some r ↦ defects schema r.of_schema r.shape x ]
      ++ member_defects schema rows (with_name seen (text_of t)) ms

-- ---- the least

abbrev pub is_sooner : Defect → Defect → Bool
is_sooner a b = ltb a.place b.place || (eqb a.place b.place && ltb a.number b.number)

-- "the earliest offset wins, the lower number on a tie"
abbrev pub least : List Defect → Option Defect
least [] = none
least (d ∷ ds) = elim (least ds) [ none ↦ some d | some e ↦ cond (is_sooner e d) (some e) (some d) ]

abbrev pub tree_defects : Shape → Option Json → List Defect
tree_defects shape none = []
tree_defects shape (some x) = defects 0 false shape x

abbrev pub stop_defects : Option Defect → List Defect
stop_defects none = []
stop_defects (some d) = d ∷ []

-- all that is wrong with a text that is to have a shape
unfoldable pub text_defects_by : Shape → Text → List Defect
text_defects_by shape t = tree_defects shape t.tree ++ stop_defects t.stop
