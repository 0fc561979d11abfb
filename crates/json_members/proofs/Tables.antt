-- The rule's tables are made of the spots.
use Prim.Native.Nat.{ℕ, ◌≤◌}
use mathlib.Core.Path.{◌≡◌, refl, sym, ap, ◌∙◌}
use mathlib.Core.Bool.{Bool, true, false, not, cond, ◌||◌, true≢false}
use mathlib.Core.List.{List, [], ◌∷◌, ◌++◌, map}
use mathlib.Core.Option.{Option, none, some}
use borrow.Author.Tests.{eqb-true, leb-true, leb-false}
use borrow.Table.Steps.{cases}
use lib.Dec.{eqb, leb}
use lib.ListN.{get_or-eq_default}
use Rattle.rules.specs.Words.{is_some, same_bytes}
use Rattle.json_rule.specs.Shapes.{Kind, AnUpdate, ASnapshot, ASchema, AField, AnOrder, ASortField, ASpec, APartitionField, Shape, OneOf, Row, rows_of}
use Rattle.json_rule.specs.Defects.{Listing, listing_of, kind_of, is_anything}
use Rattle.json_members.specs.Words.{Entry, entry, number_of}
use Rattle.json_members.specs.Spots.{unnamed, spots, row_at, shape_at, name_at, spots_of, later_spots, ref_spots, names_of, members_of, member_named, items, item_at, room_in, value_at}
use Rattle.json_members.proofs.Cases.{is_key, beside_other, all_below, all_below_lem, only_keys, done, ◌&◌, by_keys}

pub rows_are : (kind : Kind) → rows_of kind ≡ map row_at (spots_of kind)
unfolding row_at
rows_are AnUpdate = refl
rows_are ASnapshot = refl
rows_are ASchema = refl
rows_are AField = refl
rows_are AnOrder = refl
rows_are ASortField = refl
rows_are ASpec = refl
rows_are APartitionField = refl

-- ---- shapes

-- how many spots there are
abbrev pub spot_count : ℕ
spot_count = 58

past_spots : (x : ℕ) → spot_count ≤ x → row_at x ≡ unnamed (OneOf [])
unfolding row_at
past_spots x h = get_or-eq_default spots (unnamed (OneOf [])) h

-- a test of rows that holds at these spots alone
pub only_rows : (test : Row → Bool) (arms : List (List ℕ)) (x : ℕ) → test (unnamed (OneOf [])) ≡ false → all_below spot_count (λ k. is_key arms k || not (test (row_at k))) ≡ true → is_key arms x ≡ false → test (row_at x) ≡ false
only_rows test arms x e a = only_keys (λ k. test (row_at k)) spot_count arms a (λ y h. ap test (past_spots y h) ∙ e) x

-- the same of shapes
pub only_spots : (test : Shape → Bool) (arms : List (List ℕ)) (x : ℕ) → test (OneOf []) ≡ false → all_below spot_count (λ k. is_key arms k || not (test (shape_at k))) ≡ true → is_key arms x ≡ false → test (shape_at x) ≡ false
only_spots test arms x e a = only_keys (λ k. test (shape_at k)) spot_count arms a (λ y h. ap (λ (r : Row). test r.shape) (past_spots y h) ∙ e) x

-- a test that the shape of each spot passes
pub every_spot : (test : Shape → Bool) (x : ℕ) → test (OneOf []) ≡ true → all_below spot_count (λ k. test (shape_at k)) ≡ true → test (shape_at x) ≡ true
every_spot test x e a =
    cases (leb spot_count x)
    (λ t. ap (λ (r : Row). test r.shape) (past_spots x (leb-true spot_count x t)) ∙ e)
    (λ f. all_below_lem spot_count (λ k. test (shape_at k)) a x (leb-false spot_count x f))

pub not_there : {A : Type 0} (o : Option A) → is_some o ≡ false → o ≡ none
not_there none e = refl
not_there (some a) e = absurd (true≢false e)

-- ---- lists

abbrev pub list_arms : List (List ℕ)
list_arms = (1 ∷ 8 ∷ 18 ∷ 23 ∷ 38 ∷ 45 ∷ 52 ∷ []) ∷ []

-- a list, by the spot of its elements
abbrev pub listing_at : ℕ → Option Listing
listing_at spot = cond (eqb (item_at spot) 0) none (some (record { room = room_in (listing_of (shape_at spot)); each = shape_at (item_at spot) }))

pub listing_at_lem : (spot : ℕ) → listing_of (shape_at spot) ≡ listing_at spot
unfolding row_at item_at
listing_at_lem spot =
    by_keys (λ x. listing_of (shape_at x) ≡ listing_at x) (1 ∷ 8 ∷ 18 ∷ 23 ∷ 38 ∷ 45 ∷ 52 ∷ []) spot
    (refl & refl & refl & refl & refl & refl & refl & done)
    (λ n. not_there (listing_of (shape_at spot)) (only_spots (λ s. is_some (listing_of s)) list_arms spot refl refl (rw n)) ∙ sym (rw (beside_other 0 items list_arms spot refl (rw n))))

-- a list is what has elements
pub is_list_at : (spot : ℕ) → not (eqb (item_at spot) 0) ≡ is_some (listing_of (shape_at spot))
is_list_at spot = rw (listing_at_lem spot) (cases (eqb (item_at spot) 0) (λ t. rw t) (λ f. rw f))

-- ---- values

-- a member that is not passed over is its own value; 0 is what is passed over
pub value_here : (member : ℕ) → is_key ((33 ∷ []) ∷ (34 ∷ []) ∷ (35 ∷ []) ∷ []) member ≡ false → member ≡ value_at member
unfolding row_at value_at
value_here member n =
    cases (eqb member 0)
    (λ z. rw (eqb-true member 0 z))
    (λ z. rw (only_spots is_anything ((0 ∷ []) ∷ (33 ∷ []) ∷ (34 ∷ []) ∷ (35 ∷ []) ∷ []) member refl refl (rw z n)))

-- ---- names

-- what stands a second time is found before
module _ (other : ℕ) (text : List ℕ) (e : Entry) (es : List Entry) where
  past : (ms : List Entry) → same_bytes text e.word ≡ false → number_of other (ms ++ es) text ≡ number_of other (ms ++ e ∷ es) text
  unfolding number_of
  past [] f = rw f
  past (m ∷ ms) f = ap (cond (same_bytes text m.word) m.number) (past ms f)

  twice : (ps ms : List Entry) → number_of other (ps ++ e ∷ ms ++ es) text ≡ number_of other (ps ++ e ∷ ms ++ e ∷ es) text
  unfolding number_of
  twice [] ms = cases (same_bytes text e.word) (λ t. rw t) (λ f. rw f (past ms f))
  twice (p ∷ ps) ms = ap (cond (same_bytes text p.word) p.number) (twice ps ms)

pub ref_name_once : (text : List ℕ) → number_of 0 (names_of (3 ∷ 4 ∷ 5 ∷ 6 ∷ 7 ∷ 8 ∷ ref_spots)) text ≡ number_of 0 (names_of (spots_of AnUpdate)) text
ref_name_once text = twice 0 text (entry (name_at 9) 9) (names_of later_spots) (names_of (3 ∷ 4 ∷ 5 ∷ 6 ∷ 7 ∷ 8 ∷ [])) (names_of (10 ∷ 11 ∷ 12 ∷ 13 ∷ 14 ∷ []))

-- what is no record has no members
pub no_members : (object : ℕ) (text : List ℕ) → is_key ((2 ∷ []) ∷ (7 ∷ []) ∷ (15 ∷ []) ∷ (39 ∷ []) ∷ (19 ∷ []) ∷ (46 ∷ []) ∷ (21 ∷ []) ∷ (53 ∷ []) ∷ []) object ≡ false → 0 ≡ member_named object text
unfolding row_at number_of member_named
no_members object text n = sym (ap (λ (k : Option Kind). number_of 0 (names_of (members_of k)) text) (not_there (kind_of (shape_at object)) (only_spots (λ s. is_some (kind_of s)) ((2 ∷ []) ∷ (7 ∷ []) ∷ (15 ∷ []) ∷ (39 ∷ []) ∷ (19 ∷ []) ∷ (46 ∷ []) ∷ (21 ∷ []) ∷ (53 ∷ []) ∷ []) object refl refl n)))
