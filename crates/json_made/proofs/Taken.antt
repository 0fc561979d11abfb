-- A member that is there or not, and what was stored of it.
use Prim.Native.Nat.{ℕ}
use mathlib.Core.Path.{◌≡◌, refl, sym, ap}
use mathlib.Core.Bool.{Bool, true, false, cond, true≢false}
use mathlib.Core.List.{List, []}
use mathlib.Core.Option.{Option, none, some}
use lib.IntN.{ℤ, pos}
use Rattle.rules.specs.Words.{is_some, or_else}
use Rattle.json_rule.specs.Tree.{Json, Items, no_item, Members, no_member}
use Rattle.json_rule.specs.Members.{number_in, items_in, members_in}
use Rattle.json_rule.specs.Records.{range_of}
use Rattle.json_store.specs.Stored.{said_text}

-- what is read of a member that is there, and where it is not
abbrev pub read_of : {A : Type 0} → A → (Json → A) → Option Json → A
read_of absent read o = elim o [ none ↦ absent | some x ↦ read x ]

-- what holds of every value holds of a member that is there
there_holds : {A : Type 0} (absent : A) (read : Json → A) (P : A → Type 0) (o : Option Json) → is_some o ≡ true → ((x : Json) → o ≡ some x → P (read x)) → P (read_of absent read o)
there_holds absent read P none t h = absurd (true≢false (sym t))
there_holds absent read P (some x) t h = h x refl

-- of a text, a list and an object
pub text_there : (P : List ℕ → Type 0) (o : Option Json) → is_some o ≡ true → ((x : Json) → o ≡ some x → P (said_text x)) → P (read_of [] said_text o)
text_there = there_holds [] said_text

pub items_there : (P : Items → Type 0) (o : Option Json) → is_some o ≡ true → ((x : Json) → o ≡ some x → P (items_in x)) → P (read_of no_item items_in o)
items_there = there_holds no_item items_in

pub members_there : (P : Members → Type 0) (o : Option Json) → is_some o ≡ true → ((x : Json) → o ≡ some x → P (members_in x)) → P (read_of no_member members_in o)
members_there = there_holds no_member members_in

-- ---- numbers

-- a value is this number, where it is there
abbrev pub NumberIs : Option Json → ℤ → Type 0
NumberIs o z = (x : Json) → o ≡ some x → number_in x ≡ some z

-- one that is there
pub number_there : (o : Option Json) (z : ℤ) → is_some o ≡ true → NumberIs o z → read_of none number_in o ≡ some z
number_there o z t h = there_holds none number_in (λ r. r ≡ some z) o t h

pub number_required : (o : Option Json) (z : ℤ) → is_some o ≡ true → NumberIs o z → z ≡ or_else (read_of none number_in o) (pos 0)
number_required o z t h = sym (ap (λ (r : Option ℤ). or_else r (pos 0)) (number_there o z t h))

-- one that may be absent
pub number_maybe : (o : Option Json) (seen : Bool) (z : ℤ) → seen ≡ is_some o → NumberIs o z → cond seen (some z) none ≡ read_of none number_in o
number_maybe none seen z s h = rw s
number_maybe (some x) seen z s h = rw s (sym (h x refl))

-- and is 0 then
pub number_or_zero : (o : Option Json) (seen : Bool) (z : ℤ) → seen ≡ is_some o → NumberIs o z → cond seen z (pos 0) ≡ or_else (read_of none number_in o) (pos 0)
number_or_zero none seen z s h = rw s
number_or_zero (some x) seen z s h = rw (s, h x refl)

-- both halves of a range of rows, or neither
pub range_maybe : (o p : Option Json) (seen : Bool) (first added : ℕ) → seen ≡ is_some o → is_some o ≡ is_some p → NumberIs o (pos first) → NumberIs p (pos added)
    → cond seen (some (record { first = record { 0 = first }; added = added })) none ≡ range_of (read_of none number_in o) (read_of none number_in p)
range_maybe none p seen first added s b h k = rw s
range_maybe (some x) none seen first added s b h k = absurd (true≢false b)
range_maybe (some x) (some y) seen first added s b h k = rw (s, h x refl, k y refl)
