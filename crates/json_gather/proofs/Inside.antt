-- What is written inside a list or an object leaves the members around it.
use Prim.Native.Nat.{ℕ, ◌<◌}
use mathlib.Core.Path.{◌≡◌, refl, sym, ap, ◌∙◌}
use mathlib.Core.Bool.{Bool, true, false, not, ◌&&◌, ◌||◌, true≢false}
use native.Mathlib.Omega.{arith}
use borrow.Author.Tests.{eqb-true, eqb-false, ne_eqb, not-true}
use borrow.Table.Steps.{cases}
use lib.Dec.{eqb}
use Rattle.rules.specs.Words.{all}
use Rattle.rules.proofs.Checks.{and_left, and_right}
use Rattle.json_rule.specs.Shapes.{Kind, AnUpdate, ASnapshot, ASchema, AField, AnOrder, ASortField, ASpec, APartitionField, Shape}
use Rattle.json_members.specs.Spots.{spots_of, item_at}
use Rattle.json_stands.proofs.Members.{is_member}
use Rattle.json_stands.proofs.Open.{Ids, snapshot_ids, schema_ids, spec_ids, Part, snapshot, schema, order, spec, Fields, schema_fields, order_fields, spec_fields}
use Rattle.json_gather.proofs.Owners.{text_owner, top_of, mid_of, Hand, Agree, agree_less, off}
use Rattle.json_gather.proofs.Footprints.{footprint, of_all, member_below}
use Rattle.json_gather.proofs.Holds.{KeptBut}
use Rattle.json_gather.proofs.Values.{mine}

-- ---- members that rest on nothing of what a spot writes

-- a member rests on nothing that a spot writes
abbrev is_apart : Kind → ℕ → ℕ → Bool
is_apart kind d x = not (footprint kind x d) && not (footprint kind x (text_owner d))

apart_rests : (kind : Kind) (d x o : ℕ) → is_apart kind d x ≡ true → footprint kind x o ≡ true → off (mine d) o ≡ true
apart_rests kind d x o a e =
    let n = not-true (footprint kind x d) (and_left (not (footprint kind x d)) _ a) in
    let m = not-true (footprint kind x (text_owner d)) (and_right (not (footprint kind x d)) _ a) in
    rw (ne_eqb o d (λ q. true≢false (sym e ∙ (ap (footprint kind x) q ∙ n))), ne_eqb o (text_owner d) (λ q. true≢false (sym e ∙ (ap (footprint kind x) q ∙ m))))

pub kept_from : (kind : Kind) (w d : ℕ) {a b : Hand} → ((x : ℕ) → is_member kind x ≡ true → eqb x w ≡ false → is_apart kind d x ≡ true) → Agree (off (mine d)) a b → KeptBut kind w a b
kept_from kind w d h g = record { agree = λ x i n. agree_less (off (mine d)) (footprint kind x) (λ o e. apart_rests kind d x o (h x i n) e) g }

-- ---- beside a member of the same object

abbrev are_beside : Kind → ℕ → ℕ → Bool
are_beside kind v x = eqb x v || is_apart kind v x

all_beside : (kind : Kind) → all (λ v. all (are_beside kind v) (spots_of kind)) (spots_of kind) ≡ true
all_beside AnUpdate = refl
all_beside ASnapshot = refl
all_beside ASchema = refl
all_beside AField = refl
all_beside AnOrder = refl
all_beside ASortField = refl
all_beside ASpec = refl
all_beside APartitionField = refl

pub kept_beside : (kind : Kind) (v : ℕ) {a b : Hand} → is_member kind v ≡ true → Agree (off (mine v)) a b → KeptBut kind v a b
kept_beside kind v i g =
    kept_from kind v v
    (λ x j n. let t = of_all (are_beside kind v) (spots_of kind) x j (of_all (λ y. all (are_beside kind y) (spots_of kind)) (spots_of kind) v i (all_beside kind)) in rw n at t)
    g

-- ---- inside a member

-- what stands inside a member of an update, and inside a member of a record
module _ (w d x : ℕ) (n : eqb x w ≡ false) (below : x < 58) where
  not_there : (o : ℕ) → o ≡ w → eqb o x ≡ false
  not_there o e = ne_eqb o x (λ q. eqb-false x w n (sym q ∙ e))

  name_apart : eqb 58 x ≡ false
  name_apart = ne_eqb 58 x (λ e. omega arith)

  top_text : top_of d ≡ w → eqb (top_of (text_owner d)) x ≡ false
  top_text e = cases (eqb d 41) (λ t. rw t name_apart) (λ f. cases (eqb d 56) (λ t. rw (f, t) name_apart) (λ g. rw (f, g) (not_there (top_of d) e)))

  mid_text : mid_of d ≡ w → eqb (mid_of (text_owner d)) x ≡ false
  mid_text e = cases (eqb d 41) (λ t. rw t name_apart) (λ f. cases (eqb d 56) (λ t. rw (f, t) name_apart) (λ g. rw (f, g) (not_there (mid_of d) e)))

pub kept_update : (w d : ℕ) {a b : Hand} → top_of d ≡ w → Agree (off (mine d)) a b → KeptBut AnUpdate w a b
kept_update w d e g =
    kept_from AnUpdate w d
    (λ x i n. let h = member_below AnUpdate x i in rw (not_there w d x n h (top_of d) e, top_text w d x n h e))
    g

pub kept_part : {v : ℕ} {kind : Kind} → Part v kind → (w d : ℕ) {a b : Hand} → mid_of d ≡ w → Agree (off (mine d)) a b → KeptBut kind w a b
kept_part {kind = kind} t w d e g = kept_from kind w d (λ x i n. apart t x n (member_below kind x i)) g
  where
    by_mid : (x : ℕ) → eqb x w ≡ false → x < 58 → not (eqb (mid_of d) x) && not (eqb (mid_of (text_owner d)) x) ≡ true
    by_mid x n h = rw (not_there w d x n h (mid_of d) e, mid_text w d x n h e)

    apart : {v : ℕ} {kind : Kind} → Part v kind → (x : ℕ) → eqb x w ≡ false → x < 58 → is_apart kind d x ≡ true
    apart snapshot x n h = by_mid x n h
    apart schema x n h = by_mid x n h
    apart order x n h = by_mid x n h
    apart spec x n h = by_mid x n h

-- ---- where the spots of lists, records and fields stand

abbrev is_inside : ℕ → ℕ → Bool
is_inside w m = eqb (top_of m) w && off (mine m) w

part_inside : {w : ℕ} {kind : Kind} → Part w kind → all (is_inside w) (spots_of kind) ≡ true
part_inside snapshot = refl
part_inside schema = refl
part_inside order = refl
part_inside spec = refl

pub record Inside (w m : ℕ) : Type 0 where
  pub top : top_of m ≡ w
  pub other : off (mine m) w ≡ true

inside_is : (w m : ℕ) → is_inside w m ≡ true → Inside w m
inside_is w m e = record { top = eqb-true (top_of m) w (and_left (eqb (top_of m) w) _ e); other = and_right (eqb (top_of m) w) _ e }

pub in_part_lem : {w : ℕ} {kind : Kind} → Part w kind → (m : ℕ) → is_member kind m ≡ true → Inside w m
in_part_lem {w} {kind} t m i = inside_is w m (of_all (is_inside w) (spots_of kind) m i (part_inside t))

pub in_ids : {w : ℕ} {each : Shape} → Ids w each → Inside w (item_at w)
unfolding item_at
in_ids snapshot_ids = record { top = refl; other = refl }
in_ids schema_ids = record { top = refl; other = refl }
in_ids spec_ids = record { top = refl; other = refl }

-- inside the fields of a record: of the update's member, of the record's member, and not where the fields stand
pub record Within (v w x m : ℕ) : Type 0 where
  pub top : Inside v m
  pub mid : mid_of m ≡ w
  pub other : off (mine m) w ≡ true
  pub item : off (mine m) x ≡ true

abbrev is_within : ℕ → ℕ → ℕ → ℕ → Bool
is_within v w x m = is_inside v m && (eqb (mid_of m) w && (off (mine m) w && off (mine m) x))

field_within : {v w room x : ℕ} {each kind : Kind} → Fields w room x each kind → Part v kind → all (is_within v w x) (spots_of each) ≡ true
field_within schema_fields schema = refl
field_within order_fields order = refl
field_within spec_fields spec = refl

pub in_field_lem : {v w room x : ℕ} {each kind : Kind} → Fields w room x each kind → Part v kind → (m : ℕ) → is_member each m ≡ true → Within v w x m
in_field_lem {v} {w} {x = x} {each = each} f p m i =
    let t = of_all (is_within v w x) (spots_of each) m i (field_within f p) in
    let u = and_right (is_inside v m) _ t in
    let z = and_right (eqb (mid_of m) w) _ u in
    record {
      top = inside_is v m (and_left (is_inside v m) _ t);
      mid = eqb-true (mid_of m) w (and_left (eqb (mid_of m) w) _ u);
      other = and_left (off (mine m) w) _ z;
      item = and_right (off (mine m) w) _ z;
    }

-- a field, and the list of them
pub record FieldPlaces (v w x : ℕ) : Type 0 where
  pub top : Inside v x
  pub mid : mid_of x ≡ w
  pub other : off (mine x) w ≡ true
  pub item : item_at w ≡ x
  pub list : Inside v w

pub field_there : {v w room x : ℕ} {each kind : Kind} → Fields w room x each kind → Part v kind → FieldPlaces v w x
unfolding item_at
field_there schema_fields schema = record { top = record { top = refl; other = refl }; mid = refl; other = refl; item = refl; list = record { top = refl; other = refl } }
field_there order_fields order = record { top = record { top = refl; other = refl }; mid = refl; other = refl; item = refl; list = record { top = refl; other = refl } }
field_there spec_fields spec = record { top = record { top = refl; other = refl }; mid = refl; other = refl; item = refl; list = record { top = refl; other = refl } }
