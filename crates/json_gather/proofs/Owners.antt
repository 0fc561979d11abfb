-- To which spot each number and each stretch of the texts belongs; and when two stores, with their marks, agree on what belongs to some spots.
use Prim.Native.Nat.{ℕ, ◌≤◌}
use mathlib.Core.Path.{◌≡◌, refl, ap}
use mathlib.Core.Bool.{Bool, true, false, cond, not}
use mathlib.Core.List.{List}
use native.Mathlib.Omega.{arith}
use borrow.Author.Tests.{eqb-true, ltb-true, ltb-false, le-ltb}
use borrow.Table.Steps.{cases}
use lib.Dec.{eqb, ltb}
use Rattle.json_members.proofs.Cases.{all_below_lem}
use Rattle.json_store.specs.Numbers.{magnitude_at, negative_at}
use Rattle.json_store.specs.Puts.{Store, part}
use Rattle.json_stands.proofs.Marked.{is_marked}

-- ---- what belongs to which spot

-- a number: to its own spot; behind the spots, the number of buckets, the elements of lists of ids, the numbers of sort fields and of partition fields
unfoldable pub owner_of : ℕ → ℕ
owner_of i =
    cond (ltb i 63) i
    (cond (ltb i 64) 57
    (cond (ltb i 80) 24
    (cond (ltb i 96) 25
    (cond (ltb i 112) 26
    (cond (ltb i 136) 46
    53)))))

-- the name of a field, which belongs to two spots
abbrev pub field_name : ℕ
field_name = 58

-- the stretch of the texts that a spot writes
abbrev pub text_owner : ℕ → ℕ
text_owner v = cond (eqb v 41) field_name (cond (eqb v 56) field_name v)

abbrev pub text_at : ℕ → ℕ
text_at o = cond (eqb o 6) 16 (cond (eqb o 9) 113 (cond (eqb o 58) 146 (cond (eqb o 39) 179 (cond (eqb o 53) 1395 0))))

abbrev pub text_size : ℕ → ℕ
text_size o = cond (eqb o 4) 16 (cond (eqb o 6) 97 (cond (eqb o 9) 33 (cond (eqb o 58) 33 (cond (eqb o 39) 1216 (cond (eqb o 53) 336 0)))))

-- ---- spots within others

-- the member of an update within which a spot stands
abbrev pub top_of : ℕ → ℕ
top_of o =
    cond (ltb o 24) o
    (cond (eqb o 24) 8
    (cond (eqb o 25) 18
    (cond (eqb o 26) 23
    (cond (ltb o 36) 7
    (cond (ltb o 44) 15
    (cond (ltb o 51) 19
    (cond (ltb o 58) 21
    o)))))))

-- the member of a record within which it stands
abbrev pub mid_of : ℕ → ℕ
mid_of o =
    cond (ltb o 39) o
    (cond (ltb o 44) 38
    (cond (ltb o 46) o
    (cond (ltb o 51) 45
    (cond (ltb o 53) o
    (cond (ltb o 58) 52
    o)))))

pub top_of_mid : (o : ℕ) → top_of (mid_of o) ≡ top_of o
top_of_mid o =
    cases (ltb o 58)
    (λ t. eqb-true (top_of (mid_of o)) (top_of o) (all_below_lem 58 (λ x. eqb (top_of (mid_of x)) (top_of x)) refl o (ltb-true o 58 t)))
    (λ f. ap top_of (past f))
  where
    past : ltb o 58 ≡ false → mid_of o ≡ o
    past f =
        let h : 58 ≤ o = ltb-false o 58 f in
        rw (le-ltb o 39 (omega arith), le-ltb o 44 (omega arith), le-ltb o 46 (omega arith), le-ltb o 51 (omega arith), le-ltb o 53 (omega arith), f)

-- ---- what is at hand

-- the kind of the update, the members that were seen, and what is held
pub record Hand : Type 0 where
  pub kind : ℕ
  pub marks : List ℕ
  pub numbers : List ℕ
  pub texts : List ℕ

abbrev pub hand : ℕ → List ℕ → Store → Hand
hand kind marks s = record { kind = kind; marks = marks; numbers = s.numbers; texts = s.texts }

-- two agree on what belongs to the spots of a test; the kind belongs to the action
pub record Agree (p : ℕ → Bool) (a b : Hand) : Type 0 where
  pub kind : p 3 ≡ true → b.kind ≡ a.kind
  pub marks : (m : ℕ) → p m ≡ true → is_marked b.marks m ≡ is_marked a.marks m
  pub magnitude : (i : ℕ) → p (owner_of i) ≡ true → magnitude_at b.numbers i ≡ magnitude_at a.numbers i
  pub negative : (i : ℕ) → p (owner_of i) ≡ true → negative_at b.numbers i ≡ negative_at a.numbers i
  pub texts : (o : ℕ) → p o ≡ true → part (text_at o) (text_size o) b.texts ≡ part (text_at o) (text_size o) a.texts

-- on fewer
pub agree_less : (p q : ℕ → Bool) {a b : Hand} → ((o : ℕ) → q o ≡ true → p o ≡ true) → Agree p a b → Agree q a b
agree_less p q h g =
    record {
      kind = λ e. g.kind (h 3 e);
      marks = λ m e. g.marks m (h m e);
      magnitude = λ i e. g.magnitude i (h (owner_of i) e);
      negative = λ i e. g.negative i (h (owner_of i) e);
      texts = λ o e. g.texts o (h o e);
    }

-- on all but these
abbrev pub off : (ℕ → Bool) → ℕ → Bool
off d o = not (d o)
