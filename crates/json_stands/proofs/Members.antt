-- The members of an object that were seen, by their marks.
use Prim.Native.Nat.{ℕ, ◌+◌, ◌≤◌, ◌<◌}
use mathlib.Core.Path.{◌≡◌, refl, sym, ap, ◌∙◌}
use mathlib.Core.Bool.{Bool, true, false, cond, ◌&&◌, ◌||◌, beq, true≢false}
use mathlib.Core.List.{List, [], ◌∷◌}
use native.Mathlib.Omega.{arith}
use borrow.Author.Tests.{eqb-true, eqb-false, leb-true, ltb-true}
use borrow.Table.Steps.{cases}
use lib.Dec.{eqb, leb, ltb}
use lib.ListN.{length, set}
use Rattle.rules.specs.Words.{all, any, same_bytes}
use Rattle.rules.proofs.Checks.{and_left, and_right}
use Rattle.json_rule.specs.Members.{is_one_of}
use Rattle.json_rule.specs.Shapes.{Kind, AnUpdate, ASnapshot, ASchema, AField, AnOrder, ASortField, ASpec, APartitionField}
use Rattle.json_judge.specs.Frames.{Seen, names_in}
use Rattle.json_members.specs.Spots.{row_at, name_at, spots_of}
use Rattle.json_stands.proofs.Marked.{is_marked, cleared, set_marked, other_marked, kept_before, now_cleared}

abbrev pub is_member : Kind → ℕ → Bool
is_member kind m = any (eqb m) (spots_of kind)

-- what holds of all members holds of one
among : (p : ℕ → Bool) (ms : List ℕ) (m : ℕ) → any (eqb m) ms ≡ true → all p ms ≡ true → p m ≡ true
among p [] m e a = absurd (true≢false (sym e))
among p (x ∷ ms) m e a =
    cases (eqb m x)
    (λ t. ap p (eqb-true m x t) ∙ and_left (p x) (all p ms) a)
    (λ f. among p ms m (rw f at e) (and_right (p x) (all p ms) a))

-- ---- where the members of a kind stand: from a spot on, so many

abbrev pub first_member : Kind → ℕ
first_member AnUpdate = 3
first_member ASnapshot = 27
first_member ASchema = 36
first_member AField = 40
first_member AnOrder = 44
first_member ASortField = 47
first_member ASpec = 51
first_member APartitionField = 54

abbrev pub member_count : Kind → ℕ
member_count AnUpdate = 21
member_count ASnapshot = 9
member_count ASchema = 3
member_count AField = 4
member_count AnOrder = 2
member_count ASortField = 4
member_count ASpec = 2
member_count APartitionField = 4

abbrev pub members_end : Kind → ℕ
members_end kind = first_member kind + member_count kind

abbrev is_between : Kind → ℕ → Bool
is_between kind m = leb (first_member kind) m && ltb m (members_end kind)

all_between : (kind : Kind) → all (is_between kind) (spots_of kind) ≡ true
all_between AnUpdate = refl
all_between ASnapshot = refl
all_between ASchema = refl
all_between AField = refl
all_between AnOrder = refl
all_between ASortField = refl
all_between ASpec = refl
all_between APartitionField = refl

pub ends_below : (kind : Kind) → members_end kind ≤ 64
ends_below AnUpdate = omega arith
ends_below ASnapshot = omega arith
ends_below ASchema = omega arith
ends_below AField = omega arith
ends_below AnOrder = omega arith
ends_below ASortField = omega arith
ends_below ASpec = omega arith
ends_below APartitionField = omega arith

module _ (kind : Kind) (m : ℕ) (e : is_member kind m ≡ true) where
  pub from_first : first_member kind ≤ m
  from_first = leb-true (first_member kind) m (and_left (leb (first_member kind) m) (ltb m (members_end kind)) (among (is_between kind) (spots_of kind) m e (all_between kind)))

  pub before_end : m < members_end kind
  before_end = ltb-true m (members_end kind) (and_right (leb (first_member kind) m) (ltb m (members_end kind)) (among (is_between kind) (spots_of kind) m e (all_between kind)))

-- ---- their names differ

abbrev told_apart : ℕ → ℕ → Bool
told_apart m x = beq (same_bytes (name_at m) (name_at x)) (eqb m x)

all_apart : (kind : Kind) → all (λ m. all (told_apart m) (spots_of kind)) (spots_of kind) ≡ true
unfolding row_at
all_apart AnUpdate = refl
all_apart ASnapshot = refl
all_apart ASchema = refl
all_apart AField = refl
all_apart AnOrder = refl
all_apart ASortField = refl
all_apart ASpec = refl
all_apart APartitionField = refl

same_flags : (a b : Bool) → beq a b ≡ true → a ≡ b
same_flags true true e = refl
same_flags true false e = absurd (true≢false (sym e))
same_flags false true e = absurd (true≢false (sym e))
same_flags false false e = refl

pub names_apart : (kind : Kind) (m x : ℕ) → is_member kind m ≡ true → is_member kind x ≡ true → same_bytes (name_at m) (name_at x) ≡ eqb m x
names_apart kind m x e g =
    same_flags (same_bytes (name_at m) (name_at x)) (eqb m x)
    (among (told_apart m) (spots_of kind) x g (among (λ y. all (told_apart y) (spots_of kind)) (spots_of kind) m e (all_apart kind)))

-- ---- the marks say which were seen

abbrev pub MarksSay : List ℕ → Kind → List Seen → Type 0
MarksSay marks kind seen = (m : ℕ) → is_member kind m ≡ true → is_marked marks m ≡ is_one_of (names_in seen) (name_at m)

-- none was
pub say_none : (marks : List ℕ) (kind : Kind) → length marks ≡ 64 → MarksSay (cleared (member_count kind) (first_member kind) marks) kind []
say_none marks kind z m e =
    now_cleared (member_count kind) (first_member kind) marks m (from_first kind m e) (before_end kind m e) (rw z (ends_below kind))

-- one more
pub say_more : (marks : List ℕ) (kind : Kind) (seen : List Seen) (x place : ℕ) → length marks ≡ 64 → is_member kind x ≡ true → MarksSay marks kind seen
    → MarksSay (set marks x 1) kind (record { name = name_at x; place = place } ∷ seen)
say_more marks kind seen x place z g s m e =
    let b : x < length marks = rw z (omega (arith, before_end kind x g, ends_below kind)) in
    set_marked marks x m b
    ∙ (ap (λ (y : Bool). cond (eqb m x) true y) (s m e)
    ∙ (either (eqb m x) (is_one_of (names_in seen) (name_at m))
    ∙ ap (λ (y : Bool). y || is_one_of (names_in seen) (name_at m)) (sym (names_apart kind m x e g))))
  where
    either : (a b : Bool) → cond a true b ≡ (a || b)
    either true b = refl
    either false b = refl

-- those of members that stand before
module _ (marks : List ℕ) (kind : Kind) (seen : List Seen) (s : MarksSay marks kind seen) where
  pub say_cleared : (n from : ℕ) → members_end kind ≤ from → MarksSay (cleared n from marks) kind seen
  say_cleared n from h m e = kept_before n from marks m (omega (arith, before_end kind m e)) ∙ s m e

  pub say_others : (x v : ℕ) → members_end kind ≤ x → MarksSay (set marks x v) kind seen
  say_others x v h m e = other_marked marks x v m (λ d. omega (arith, before_end kind m e)) ∙ s m e
