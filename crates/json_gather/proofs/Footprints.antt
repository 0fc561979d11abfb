-- On what the value of a member rests, by the kind of its object; and that it stays stored where that stays.
use Prim.Native.Nat.{ℕ, ◌<◌}
use mathlib.Core.Path.{◌≡◌, refl, sym, ap, ◌∙◌}
use mathlib.Core.Bool.{Bool, true, false, not, ◌&&◌, ◌||◌, true≢false}
use mathlib.Core.List.{List, [], ◌∷◌}
use mathlib.Core.Option.{Option, none, some}
use borrow.Author.Tests.{eqb-true, eq-eqb, ltb-true}
use borrow.Table.Steps.{cases}
use lib.Dec.{eqb, ltb}
use Rattle.rules.specs.Words.{all, any, is_some}
use Rattle.rules.proofs.Checks.{and_left, and_right}
use Rattle.json_rule.specs.Tree.{Json}
use Rattle.json_rule.specs.Members.{value_of, members_in}
use Rattle.json_rule.specs.Shapes.{Kind, AnUpdate, ASnapshot, ASchema, AField, AnOrder, ASortField, ASpec, APartitionField, Shape, Anything, TextUpTo, OneOf, NumberIn, No, AUuid, ATransform, ListUpTo, ARecord}
use Rattle.json_rule.specs.Defects.{listing_of, kind_of}
use Rattle.json_members.specs.Spots.{row_at, shape_at, name_at, spots_of, required_of, item_at}
use Rattle.json_members.proofs.Cases.{done, ◌&◌, by_keys}
use Rattle.json_members.proofs.Tables.{only_spots}
use Rattle.json_stands.proofs.Marked.{is_marked}
use Rattle.json_stands.proofs.Members.{is_member}
use Rattle.json_stands.proofs.Open.{Part, snapshot, schema, order, spec}
use Rattle.json_gather.proofs.Owners.{text_owner, top_of, mid_of, top_of_mid, Hand, Agree, agree_less}
use Rattle.json_gather.proofs.Claims.{ShapeStored, HeldAs, nothing_asked, PartMember, Complete, PartStored, StoredIn}
use Rattle.json_gather.proofs.Keeping.{shape_kept}

-- ---- what holds of all members holds of one

pub of_all : (p : ℕ → Bool) (ms : List ℕ) (m : ℕ) → any (eqb m) ms ≡ true → all p ms ≡ true → p m ≡ true
of_all p [] m e a = absurd (true≢false (sym e))
of_all p (x ∷ ms) m e a =
    cases (eqb m x)
    (λ t. ap p (eqb-true m x t) ∙ and_left (p x) (all p ms) a)
    (λ f. of_all p ms m (rw f at e) (and_right (p x) (all p ms) a))

-- ---- footprints

-- all within the member of an update; all within that of a record; what a member of a field writes
abbrev pub footprint : Kind → ℕ → ℕ → Bool
footprint AnUpdate m o = eqb (top_of o) m
footprint ASnapshot m o = eqb (mid_of o) m
footprint ASchema m o = eqb (mid_of o) m
footprint AField m o = eqb o m || eqb o (text_owner m)
footprint AnOrder m o = eqb (mid_of o) m
footprint ASortField m o = eqb o m || eqb o (text_owner m)
footprint ASpec m o = eqb (mid_of o) m
footprint APartitionField m o = eqb o m || eqb o (text_owner m)

abbrev is_uuid_shape : Shape → Bool
is_uuid_shape Anything = false
is_uuid_shape (TextUpTo room) = false
is_uuid_shape (OneOf words) = false
is_uuid_shape (NumberIn least most) = false
is_uuid_shape No = false
is_uuid_shape AUuid = true
is_uuid_shape ATransform = false
is_uuid_shape (ListUpTo room each) = false
is_uuid_shape (ARecord kind) = false

abbrev is_transform_shape : Shape → Bool
is_transform_shape Anything = false
is_transform_shape (TextUpTo room) = false
is_transform_shape (OneOf words) = false
is_transform_shape (NumberIn least most) = false
is_transform_shape No = false
is_transform_shape AUuid = false
is_transform_shape ATransform = true
is_transform_shape (ListUpTo room each) = false
is_transform_shape (ARecord kind) = false

-- a value rests on its footprint alone
abbrev rests : Kind → ℕ → Bool
rests kind m =
    ltb m 58
    && (footprint kind m m
    && (footprint kind m (text_owner m)
    && ((not (is_some (listing_of (shape_at m))) || footprint kind m (item_at m))
    && ((not (is_uuid_shape (shape_at m)) || eqb m 4)
    && (not (is_transform_shape (shape_at m)) || eqb m 57)))))

all_rest : (kind : Kind) → all (rests kind) (spots_of kind) ≡ true
unfolding row_at item_at
all_rest AnUpdate = refl
all_rest ASnapshot = refl
all_rest ASchema = refl
all_rest AField = refl
all_rest AnOrder = refl
all_rest ASortField = refl
all_rest ASpec = refl
all_rest APartitionField = refl

pub member_below : (kind : Kind) (m : ℕ) → is_member kind m ≡ true → m < 58
member_below kind m e = ltb-true m 58 (and_left (ltb m 58) _ (of_all (rests kind) (spots_of kind) m e (all_rest kind)))

pub own_footprint : (kind : Kind) (m : ℕ) → is_member kind m ≡ true → footprint kind m m ≡ true
own_footprint kind m e = and_left (footprint kind m m) _ (and_right (ltb m 58) _ (of_all (rests kind) (spots_of kind) m e (all_rest kind)))

only_if : (a b : Bool) → not a || b ≡ true → a ≡ true → b ≡ true
only_if true b h e = h
only_if false b h e = absurd (true≢false (sym e))

module _ (kind : Kind) (m : ℕ) (e : is_member kind m ≡ true) {a b : Hand} (g : Agree (footprint kind m) a b) where
  abbrev below : Bool
  below = ltb m 58

  tests : rests kind m ≡ true
  tests = of_all (rests kind) (spots_of kind) m e (all_rest kind)

  rest_kept : (r s : Kind → Json → Type 0) (x : Json) → ((k : Kind) → shape_at m ≡ ARecord k → r k x → s k x) → ShapeStored a r m x (shape_at m) → ShapeStored b s m x (shape_at m)
  rest_kept r s x k c =
      let t1 = and_right (ltb m 58) _ tests in
      let t2 = and_right (footprint kind m m) _ t1 in
      let t3 = and_right (footprint kind m (text_owner m)) _ t2 in
      let t4 = and_right (not (is_some (listing_of (shape_at m))) || footprint kind m (item_at m)) _ t3 in
      shape_kept (footprint kind m) g r s m x (shape_at m) (ltb-true m 58 (and_left (ltb m 58) _ tests)) (and_left (footprint kind m m) _ t1) (and_left (footprint kind m (text_owner m)) _ t2)
      (λ room each q. only_if (is_some (listing_of (shape_at m))) (footprint kind m (item_at m)) (and_left (not (is_some (listing_of (shape_at m))) || footprint kind m (item_at m)) _ t3) (rw q))
      (λ q. eqb-true m 4 (only_if (is_uuid_shape (shape_at m)) (eqb m 4) (and_left (not (is_uuid_shape (shape_at m)) || eqb m 4) _ t4) (rw q)))
      (λ q. eqb-true m 57 (only_if (is_transform_shape (shape_at m)) (eqb m 57) (and_right (not (is_uuid_shape (shape_at m)) || eqb m 4) _ t4) (rw q)))
      k c

  pub part_member_kept : (x : Json) → PartMember a m x → PartMember b m x
  part_member_kept x c = rest_kept nothing_asked nothing_asked x (λ k q r. r) c

-- ---- records

-- the record that a member of an update is
pub part_of : (m : ℕ) (kind : Kind) → is_member AnUpdate m ≡ true → shape_at m ≡ ARecord kind → Part m kind
unfolding row_at
part_of m kind =
    by_keys (λ x. is_member AnUpdate x ≡ true → shape_at x ≡ ARecord kind → Part x kind) (7 ∷ 15 ∷ 19 ∷ 21 ∷ 2 ∷ 39 ∷ 46 ∷ 53 ∷ []) m
    ((λ _ q. let e : kind ≡ ASnapshot = cc in rw e snapshot)
    & (λ _ q. let e : kind ≡ ASchema = cc in rw e schema)
    & (λ _ q. let e : kind ≡ AnOrder = cc in rw e order)
    & (λ _ q. let e : kind ≡ ASpec = cc in rw e spec)
    & (λ n _. absurd (true≢false (sym n)))
    & (λ n _. absurd (true≢false (sym n)))
    & (λ n _. absurd (true≢false (sym n)))
    & (λ n _. absurd (true≢false (sym n)))
    & done)
    (λ n _ q. absurd (true≢false (sym (ap (λ (s : Shape). is_some (kind_of s)) q) ∙ only_spots (λ s. is_some (kind_of s)) ((7 ∷ 15 ∷ 19 ∷ 21 ∷ 2 ∷ 39 ∷ 46 ∷ 53 ∷ []) ∷ []) m refl refl (rw n))))

-- its members stand within it
part_within : {w : ℕ} {kind : Kind} → Part w kind → all (λ y. eqb (top_of y) w) (spots_of kind) ≡ true
part_within snapshot = refl
part_within schema = refl
part_within order = refl
part_within spec = refl

pub required_within : {w : ℕ} {kind : Kind} → Part w kind → all (is_member kind) (required_of kind) ≡ true
required_within snapshot = refl
required_within schema = refl
required_within order = refl
required_within spec = refl

pub member_top : {w : ℕ} {kind : Kind} → Part w kind → (m : ℕ) → is_member kind m ≡ true → top_of m ≡ w
member_top {w} {kind} t m e = eqb-true (top_of m) w (of_all (λ y. eqb (top_of y) w) (spots_of kind) m e (part_within t))

footprint_part : {w : ℕ} {kind : Kind} → Part w kind → (m o : ℕ) → footprint kind m o ≡ eqb (mid_of o) m
footprint_part snapshot m o = refl
footprint_part schema m o = refl
footprint_part order m o = refl
footprint_part spec m o = refl

pub all_same : (p q : ℕ → Bool) (ms : List ℕ) → ((m : ℕ) → any (eqb m) ms ≡ true → p m ≡ q m) → all p ms ≡ all q ms
all_same p q [] h = refl
all_same p q (m ∷ ms) h = rw (h m (rw (eq-eqb m m refl)), all_same p q ms (λ x e. h x (either (eqb x m) e)))
  where
    either : (a : Bool) {b : Bool} → b ≡ true → a || b ≡ true
    either true e = refl
    either false e = e

module _ {w : ℕ} {kind : Kind} (t : Part w kind) {a b : Hand} (g : Agree (footprint AnUpdate w) a b) where
  mark_kept : (m : ℕ) → is_member kind m ≡ true → is_marked b.marks m ≡ is_marked a.marks m
  mark_kept m e = g.marks m (eq-eqb (top_of m) w (member_top t m e))

  narrower : (m : ℕ) → is_member kind m ≡ true → Agree (footprint kind m) a b
  narrower m e =
      agree_less (footprint AnUpdate w) (footprint kind m)
      (λ o q. let i : mid_of o ≡ m = eqb-true (mid_of o) m (rw (footprint_part t m o) at q) in
      eq-eqb (top_of o) w (sym (top_of_mid o) ∙ (ap top_of i ∙ member_top t m e)))
      g

  held_kept : (m : ℕ) (o : Option Json) → is_member kind m ≡ true → HeldAs (PartMember a) a.marks m o → HeldAs (PartMember b) b.marks m o
  held_kept m none e h = mark_kept m e ∙ h
  held_kept m (some x) e h = (mark_kept m e ∙ h.0, part_member_kept kind m e (narrower m e) x h.1)

  pub complete_kept : Complete kind a.marks → Complete kind b.marks
  complete_kept c =
      record {
        required = all_same (is_marked b.marks) (is_marked a.marks) (required_of kind) (λ m e. mark_kept m (of_all (is_member kind) (required_of kind) m e (required_within t))) ∙ c.required;
        halves = λ q. let i : is_member kind 31 ≡ true = rw q in let j : is_member kind 32 ≡ true = rw q in mark_kept 31 i ∙ (c.halves q ∙ sym (mark_kept 32 j));
      }

  pub part_kept : {x : Json} → PartStored a kind x → PartStored b kind x
  part_kept {x} p = record { held = λ m e. held_kept m (value_of (name_at m) (members_in x)) e (p.held m e); complete = complete_kept p.complete }

-- ---- all

pub stored_kept : (kind : Kind) (m : ℕ) → is_member kind m ≡ true → {a b : Hand} → Agree (footprint kind m) a b → (x : Json) → StoredIn kind a m x → StoredIn kind b m x
stored_kept AnUpdate m e {a} {b} g x c = rest_kept AnUpdate m e g (PartStored a) (PartStored b) x (λ k q p. part_kept (part_of m k e q) g p) c
stored_kept ASnapshot m e g x c = part_member_kept ASnapshot m e g x c
stored_kept ASchema m e g x c = part_member_kept ASchema m e g x c
stored_kept AField m e g x c = part_member_kept AField m e g x c
stored_kept AnOrder m e g x c = part_member_kept AnOrder m e g x c
stored_kept ASortField m e g x c = part_member_kept ASortField m e g x c
stored_kept ASpec m e g x c = part_member_kept ASpec m e g x c
stored_kept APartitionField m e g x c = part_member_kept APartitionField m e g x c
