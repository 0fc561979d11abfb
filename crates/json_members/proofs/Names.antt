-- The member that a name is, is the row that the rule finds.
use Prim.Native.Nat.{ℕ}
use mathlib.Core.Path.{◌≡◌, refl, sym, ap, ◌∙◌}
use mathlib.Core.Bool.{Bool, true, false, not, ◌||◌, true≢false}
use mathlib.Core.List.{List, [], ◌∷◌, map}
use mathlib.Core.Option.{Option, none, some}
use borrow.Author.Tests.{eqb-true, eq-eqb, not-true}
use borrow.Table.Steps.{cases}
use lib.Dec.{eqb, ltb}
use lib.ListN.{length}
use Rattle.rules.specs.Words.{all, any, same_bytes}
use Rattle.rules.proofs.Checks.{and_left, and_right}
use Rattle.json_rule.specs.Shapes.{Kind, AnUpdate, ASnapshot, ASchema, AField, AnOrder, ASortField, ASpec, APartitionField, rows_of}
use Rattle.json_rule.specs.Defects.{kind_of, row_named, required_names}
use Rattle.json_members.specs.Kept.{front, TextKept}
use Rattle.json_members.specs.Words.{Entry, number_of}
use Rattle.json_members.specs.Spots.{row_at, shape_at, name_at, spots_of, required_of, names_of, members_of, row_found, member_named}
use Rattle.json_members.proofs.Words.{same_is, same_self, none_longer}
use Rattle.json_members.proofs.Kept.{told_of, kept_told}
use Rattle.json_members.proofs.Tables.{rows_are}

-- ---- tests of each member of a list

pub all_at : (p : ℕ → Bool) (ss : List ℕ) (s : ℕ) → all p ss ≡ true → any (eqb s) ss ≡ true → p s ≡ true
all_at p [] s a i = absurd (true≢false (sym i))
all_at p (r ∷ ss) s a i =
    cases (eqb s r)
    (λ e. ap p (eqb-true s r e) ∙ and_left (p r) (all p ss) a)
    (λ e. all_at p ss s (and_right (p r) (all p ss) a) (rw e at i))

-- the two tests agree
abbrev pub alike : Bool → Bool → Bool
alike true b = b
alike false b = not b

pub alike_is : (a b : Bool) → alike a b ≡ true → a ≡ b
alike_is true b e = sym e
alike_is false b e = sym (not-true b e)

-- ---- names

pub same_turned : (a b : List ℕ) → same_bytes a b ≡ same_bytes b a
same_turned a b =
    cases (same_bytes a b)
    (λ t. rw (same_is a b t, same_self b))
    (λ f. cases (same_bytes b a) (λ t. absurd (true≢false (sym (same_self a) ∙ ap (same_bytes a) (sym (same_is b a t)) ∙ f))) (λ g. rw (f, g)))

no_zero : (kind : Kind) → all (λ s. not (eqb s 0)) (spots_of kind) ≡ true
no_zero AnUpdate = refl
no_zero ASnapshot = refl
no_zero ASchema = refl
no_zero AField = refl
no_zero AnOrder = refl
no_zero ASortField = refl
no_zero ASpec = refl
no_zero APartitionField = refl

row_spots : (text : List ℕ) (ss : List ℕ) → all (λ s. not (eqb s 0)) ss ≡ true → row_named text (map row_at ss) ≡ row_found (number_of 0 (names_of ss) text)
unfolding number_of
row_spots text [] a = refl
row_spots text (s ∷ ss) a =
    cases (same_bytes text (name_at s))
    (λ t. rw (same_turned (name_at s) text, t, not-true (eqb s 0) (and_left (not (eqb s 0)) _ a)))
    (λ f. rw (same_turned (name_at s) text, f) (row_spots text ss (and_right (not (eqb s 0)) _ a)))

pub row_named_lem : (kind : Kind) (text : List ℕ) → row_named text (rows_of kind) ≡ row_found (number_of 0 (names_of (spots_of kind)) text)
row_named_lem kind text = ap (row_named text) (rows_are kind) ∙ row_spots text (spots_of kind) (no_zero kind)

pub member_row : (object : ℕ) (kind : Kind) (text : List ℕ) → kind_of (shape_at object) ≡ some kind → row_named text (rows_of kind) ≡ row_found (member_named object text)
unfolding member_named
member_row object kind text e = row_named_lem kind text ∙ ap (λ (k : Option Kind). row_found (number_of 0 (names_of (members_of k)) text)) (sym e)

-- ---- a name that was found

or_all : (a : Bool) → a || true ≡ true
or_all true = refl
or_all false = refl

pub record Found (ss : List ℕ) (text : List ℕ) (s : ℕ) : Type 0 where
  pub is : text ≡ name_at s
  pub member : any (eqb s) ss ≡ true

pub found : (ss : List ℕ) (text : List ℕ) → eqb (number_of 0 (names_of ss) text) 0 ≡ false → Found ss text (number_of 0 (names_of ss) text)
unfolding number_of
found [] text n = absurd (true≢false n)
found (s ∷ ss) text n =
    cases (same_bytes text (name_at s))
    (λ t. rw t (record { is = same_is text (name_at s) t; member = rw (eq-eqb s s refl) }))
    (λ f. rw f (let g = found ss text (rw f at n) in record { is = g.is; member = rw g.member (or_all (eqb (number_of 0 (names_of ss) text) s)) }))

-- two members of one record have different names
abbrev are_apart : List ℕ → ℕ → Bool
are_apart ss s = all (λ r. alike (same_bytes (name_at s) (name_at r)) (eqb s r)) ss

each_apart : (kind : Kind) → all (are_apart (spots_of kind)) (spots_of kind) ≡ true
unfolding row_at
each_apart AnUpdate = refl
each_apart ASnapshot = refl
each_apart ASchema = refl
each_apart AField = refl
each_apart AnOrder = refl
each_apart ASortField = refl
each_apart ASpec = refl
each_apart APartitionField = refl

pub names_apart : (kind : Kind) (s r : ℕ) → any (eqb s) (spots_of kind) ≡ true → any (eqb r) (spots_of kind) ≡ true → same_bytes (name_at s) (name_at r) ≡ eqb s r
names_apart kind s r i j =
    let others = all_at (are_apart (spots_of kind)) (spots_of kind) s (each_apart kind) i in
    alike_is (same_bytes (name_at s) (name_at r)) (eqb s r) (all_at (λ y. alike (same_bytes (name_at s) (name_at y)) (eqb s y)) (spots_of kind) r others j)

-- ---- what is kept of a name

short_names : (k : Option Kind) → all (λ (e : Entry). ltb (length e.word) 97) (names_of (members_of k)) ≡ true
unfolding row_at
short_names none = refl
short_names (some AnUpdate) = refl
short_names (some ASnapshot) = refl
short_names (some ASchema) = refl
short_names (some AField) = refl
short_names (some AnOrder) = refl
short_names (some ASortField) = refl
short_names (some ASpec) = refl
short_names (some APartitionField) = refl

module _ (object : ℕ) (kept : List ℕ) (len : ℕ) (x : Option (List ℕ)) (k : TextKept kept len x) where
  -- a name without bytes is none
  pub member_kept : member_named object (front len kept) ≡ told_of (member_named object) 0 x
  unfolding member_named
  member_kept =
      kept_told kept len (member_named object) 0
      (λ text h. none_longer 0 (names_of (members_of (kind_of (shape_at object)))) text (short_names (kind_of (shape_at object))) h)
      x k

  pub row_kept : (kind : Kind) → kind_of (shape_at object) ≡ some kind → told_of (λ text. row_named text (rows_of kind)) none x ≡ row_found (member_named object (front len kept))
  row_kept kind e = row_of x ∙ ap row_found (sym member_kept)
    where
      row_of : (x : Option (List ℕ)) → told_of (λ text. row_named text (rows_of kind)) none x ≡ row_found (told_of (member_named object) 0 x)
      row_of none = refl
      row_of (some text) = member_row object kind text e

-- ---- required members

pub required_are : (kind : Kind) → required_names (rows_of kind) ≡ map name_at (required_of kind)
unfolding row_at
required_are AnUpdate = refl
required_are ASnapshot = refl
required_are ASchema = refl
required_are AField = refl
required_are AnOrder = refl
required_are ASortField = refl
required_are ASpec = refl
required_are APartitionField = refl
