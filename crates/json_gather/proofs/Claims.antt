-- What is stored of a value that was closed, by its spot: a number, a text, a word, an element of a list, a list, a record.
use Prim.Native.Nat.{ℕ, ◌+◌, ◌*◌, ◌-◌, ◌%◌, ◌≤◌, ◌<◌}
use mathlib.Core.Path.{◌≡◌}
use mathlib.Core.Bool.{Bool, true, false, cond}
use mathlib.Core.List.{List, [], ◌∷◌, ◌++◌}
use mathlib.Core.Option.{Option, none, some}
use lib.Dec.{eqb}
use lib.IntN.{ℤ, pos}
use lib.ListN.{length, replicate}
use Rattle.rules.specs.Words.{all, any, is_some}
use Rattle.json_rule.specs.Values.{negative}
use Rattle.json_rule.specs.Tree.{Json, no_item}
use Rattle.json_rule.specs.Members.{is_one_of, value_of, text_in, number_in, items_in, members_in}
use Rattle.json_rule.specs.Records.{natural_of, uuid_of, transform_of, buckets_of, field_of, sort_field_of, partition_field_of, field_offer, partition_offer}
use Rattle.json_rule.specs.Shapes.{Kind, ASnapshot, AnUpdate, ASchema, AField, AnOrder, ASortField, ASpec, APartitionField, Shape, Anything, TextUpTo, OneOf, NumberIn, No, AUuid, ATransform, ListUpTo, ARecord}
use Rattle.json_rule.specs.Defects.{is_transform, listing_of}
use Rattle.json_judge.specs.Sending.{items_before}
use Rattle.json_members.specs.Words.{Entry, number_of, ref_words, type_words, direction_words, null_words}
use Rattle.json_members.specs.Rows.{action_at}
use Rattle.json_members.specs.Widths.{width_of, has_number}
use Rattle.json_members.specs.Spots.{shape_at, name_at, required_of, item_at, room_in}
use Rattle.json_store.specs.Places.{buckets_at, fields_at, partitions_at}
use Rattle.json_store.specs.Numbers.{magnitude_at, negative_at}
use Rattle.json_store.specs.Puts.{part, ids_at}
use Rattle.json_store.specs.Made.{sort_field_in, partition_id_in}
use Rattle.json_store.specs.Stored.{said_text}
use Rattle.json_stands.proofs.Marked.{is_marked}
use Rattle.json_stands.proofs.Members.{is_member}
use Rattle.json_stands.proofs.Open.{Ids}
use Rattle.json_gather.proofs.Owners.{text_owner, text_at, text_size, Hand}

-- ---- values that are no list and no object

-- a magnitude with its sign
abbrev pub exact : Bool → ℕ → ℤ
exact true n = negative n
exact false n = pos n

-- a number of a shape, among the numbers
pub record NumberStored (numbers : List ℕ) (i : ℕ) (shape : Shape) (x : Json) : Type 0 where
  pub said : number_in x ≡ some (exact (negative_at numbers i) (magnitude_at numbers i))
  pub fits : has_number (width_of shape) (negative_at numbers i) (magnitude_at numbers i) ≡ true

-- a text, its length in front and zeros behind it
pub record TextStored (texts : List ℕ) (o : ℕ) (x : Json) : Type 0 where
  pub text : List ℕ
  pub said : text_in x ≡ some text
  pub fits : length text < text_size o
  pub kept : part (text_at o) (text_size o) texts ≡ length text ∷ text ++ replicate (text_size o - 1 - length text) 0

-- the words that are held as numbers
abbrev pub word_spots : List ℕ
word_spots = 10 ∷ 43 ∷ 49 ∷ 50 ∷ []

abbrev pub words_at : ℕ → List Entry
words_at v = cond (eqb v 10) ref_words (cond (eqb v 43) type_words (cond (eqb v 49) direction_words null_words))

abbrev pub no_word_at : ℕ → ℕ
no_word_at v = cond (eqb v 10) 0 (cond (eqb v 43) 0 2)

pub record WordStored (numbers : List ℕ) (v : ℕ) (words : List (List ℕ)) (x : Json) : Type 0 where
  pub text : List ℕ
  pub said : text_in x ≡ some text
  pub among : is_one_of words text ≡ true
  pub kept : magnitude_at numbers v ≡ number_of (no_word_at v) (words_at v) text

-- such a word, or the action, which says the kind
pub record WordHeld (a : Hand) (v : ℕ) (words : List (List ℕ)) (x : Json) : Type 0 where
  pub word : any (eqb v) word_spots ≡ true → WordStored a.numbers v words x
  pub acts : v ≡ 3 → is_some (action_at (a.kind % 256)) ≡ true

pub record TransformStored (numbers : List ℕ) (x : Json) : Type 0 where
  pub text : List ℕ
  pub said : text_in x ≡ some text
  pub formed : is_transform text ≡ true
  pub kind : magnitude_at numbers 57 ≡ transform_of text
  pub buckets : magnitude_at numbers buckets_at ≡ natural_of (buckets_of text)
  pub sign : negative_at numbers buckets_at ≡ false

-- ---- elements and lists

-- an element of a list, by the spot of the list and its place in it
pub data ElementHeld (a : Hand) : ℕ → ℕ → Json → Type 0 where
  id : {v i : ℕ} {each : Shape} {x : Json} → Ids v each → NumberStored a.numbers (ids_at (item_at v) + i) each x → ElementHeld a v i x
  field : {i : ℕ} {x : Json} → part (fields_at + i * 38) 38 a.texts ≡ field_offer (field_of (members_in x)) → ElementHeld a 38 i x
  sort_field : {i : ℕ} {x : Json} → sort_field_in a.numbers i ≡ sort_field_of (members_in x) → ElementHeld a 45 i x
  partition_field : {i : ℕ} {x : Json} → partition_id_in a.numbers i ≡ (partition_field_of (members_in x)).id → part (partitions_at + i * 42) 42 a.texts ≡ partition_offer (partition_field_of (members_in x))
      → ElementHeld a 52 i x

-- the elements so far, the last first
pub data ListHeld (a : Hand) (v : ℕ) : List Json → Type 0 where
  no_element : ListHeld a v []
  element : {x : Json} {xs : List Json} → ElementHeld a v (length xs) x → ListHeld a v xs → ListHeld a v (x ∷ xs)

abbrev pub room_at : ℕ → ℕ
room_at v = room_in (listing_of (shape_at v))

-- a list that was closed
pub record ListStored (a : Hand) (v : ℕ) (x : Json) : Type 0 where
  pub elements : List Json
  pub is : items_in x ≡ items_before elements no_item
  pub few : length elements ≤ room_at v
  pub kept : magnitude_at a.numbers v ≡ length elements
  pub held : ListHeld a v elements

-- ---- by the shape of a spot

module _ (a : Hand) (recordStored : Kind → Json → Type 0) (v : ℕ) (x : Json) where
  abbrev pub ShapeStored : Shape → Type 0
  ShapeStored Anything = Unit
  ShapeStored (TextUpTo room) = TextStored a.texts (text_owner v) x
  ShapeStored (OneOf words) = WordHeld a v words x
  ShapeStored (NumberIn least most) = NumberStored a.numbers v (NumberIn least most) x
  ShapeStored No = Unit
  ShapeStored AUuid = part (text_at 4) (text_size 4) a.texts ≡ uuid_of (said_text x)
  ShapeStored ATransform = TransformStored a.numbers x
  ShapeStored (ListUpTo room each) = ListStored a v x
  ShapeStored (ARecord kind) = recordStored kind x

-- ---- members

-- a member that is there was seen, and its value is stored
abbrev pub HeldAs : (ℕ → Json → Type 0) → List ℕ → ℕ → Option Json → Type 0
HeldAs Stored marks m none = is_marked marks m ≡ false
HeldAs Stored marks m (some x) = (is_marked marks m ≡ true) × Stored m x

abbrev pub nothing_asked : Kind → Json → Type 0
nothing_asked kind x = Unit

-- a member of a record or of a field
abbrev pub PartMember : Hand → ℕ → Json → Type 0
PartMember a v x = ShapeStored a nothing_asked v x (shape_at v)

-- nothing is missing
pub record Complete (kind : Kind) (marks : List ℕ) : Type 0 where
  pub required : all (is_marked marks) (required_of kind) ≡ true
  pub halves : kind ≡ ASnapshot → is_marked marks 31 ≡ is_marked marks 32

-- a record that was closed
pub record PartStored (a : Hand) (kind : Kind) (x : Json) : Type 0 where
  pub held : (m : ℕ) → is_member kind m ≡ true → HeldAs (PartMember a) a.marks m (value_of (name_at m) (members_in x))
  pub complete : Complete kind a.marks

-- a member of an update
abbrev pub UpdateMember : Hand → ℕ → Json → Type 0
UpdateMember a v x = ShapeStored a (PartStored a) v x (shape_at v)

-- a member of an object of a kind
abbrev pub StoredIn : Kind → Hand → ℕ → Json → Type 0
StoredIn AnUpdate a = UpdateMember a
StoredIn ASnapshot a = PartMember a
StoredIn ASchema a = PartMember a
StoredIn AField a = PartMember a
StoredIn AnOrder a = PartMember a
StoredIn ASortField a = PartMember a
StoredIn ASpec a = PartMember a
StoredIn APartitionField a = PartMember a
