-- The names before a name: those of their places; and what is refused of a name, by what is kept of it.
use Prim.Native.Nat.{ℕ, zero, suc, ◌+◌, ◌-◌, ◌≤◌, ◌<◌}
use native.Mathlib.Omega.{arith}
use native.Mathlib.Nat.{zero-add, suc-add}
use mathlib.Core.Path.{◌≡◌, refl, sym, ap, ◌∙◌}
use mathlib.Core.Bool.{Bool, true, false, cond, not, ◌&&◌, ◌||◌, true≢false}
use mathlib.Core.List.{List, [], ◌∷◌, ◌++◌}
use mathlib.Core.Option.{Option, none, some}
use lib.Dec.{eqb, leb, ltb}
use lib.ListN.{length, get_or, set, take}
use lib.Seq.{take_all, get_or-set_same, get_or-set_other}
use borrow.Table.Steps.{cases}
use borrow.Author.Tests.{ltb-true, lt-ltb, le-ltb, leb-true, leb-false, eqb-true, ne_eqb}
use Rattle.rules.specs.Words.{same_bytes, some_with}
use Rattle.rules.specs.Capacities.{name_room}
use Rattle.rules.proofs.Checks.{and_left, and_right, or_right, by_either}
use Rattle.primitives.proofs.Bytes.{unequal_lengths}
use Rattle.json_rule.specs.Tree.{Defect, over_capacity}
use Rattle.json_rule.specs.Members.{is_one_of}
use Rattle.json_rule.specs.Defects.{unless, refused_at, not_published, text_defects, with_name, is_sooner, least}
use Rattle.json_machine.specs.Digest.{lone_length}
use Rattle.json_machine.proofs.Slots.{First}
use Rattle.json_members.specs.Kept.{front, TextKept}
use Rattle.json_members.proofs.Kept.{length_told}
use Rattle.json_judge.specs.Refusal.{sooner}
use Rattle.json_judge.proofs.Least.{sooner_commutes, sooner_associates, least_append}
use Rattle.file_rule.specs.FileDefects.{is_repeated}
use Rattle.file_walk.specs.Seats.{refusal_of}
use Rattle.file_walk.specs.Named.{name_at, names_at, is_early, all_short, own_fault}

-- ---- what was refused before a place

pub early_later : (a : Option Defect) (p q : ℕ) → p ≤ q → is_early a p ≡ true → is_early a q ≡ true
early_later none p q h e = absurd (true≢false (sym e))
early_later (some d) p q h e = let k = ltb-true d.place p e in lt-ltb d.place q (omega arith)

no_later : (a b : Defect) → is_sooner a b ≡ true → a.place ≤ b.place
no_later a b =
    by_either (ltb a.place b.place) (eqb a.place b.place && ltb a.number b.number)
    (λ e. let k = ltb-true a.place b.place e in omega arith)
    (λ e. let k = eqb-true a.place b.place (and_left (eqb a.place b.place) (ltb a.number b.number) e) in omega arith)

pub early_more : (a b : Option Defect) (p : ℕ) → is_early a p ≡ true → is_early (sooner a b) p ≡ true
early_more none b p e = absurd (true≢false (sym e))
early_more (some d) none p e = e
early_more (some d) (some c) p e =
    cases (is_sooner c d)
    (λ s. let k = ltb-true d.place p e in let n = no_later c d s in rw s (lt-ltb c.place p (omega arith)))
    (λ s. rw s e)

pub early_with : (a b : Option Defect) (p : ℕ) → is_early b p ≡ true → is_early (sooner a b) p ≡ true
early_with a b p e = rw (sooner_commutes a b) (early_more b a p e)

-- one more refusal from that place on changes nothing
pub early_quiet : (a : Option Defect) (number place : ℕ) → is_early a place ≡ true → sooner a (some (record { place = place; number = number })) ≡ a
early_quiet none number place e = absurd (true≢false (sym e))
early_quiet (some d) number place e =
    let k = ltb-true d.place place e in
    rw (le-ltb place d.place (omega arith), ne_eqb place d.place (λ q. omega arith))

-- ---- the names of places

pub one_more_lem : (seen : List (List ℕ)) (o : Option (List ℕ)) (name : List ℕ) → is_one_of (with_name seen o) name ≡ some_with (same_bytes name) o || is_one_of seen name
one_more_lem seen none name = refl
one_more_lem seen (some text) name = refl

module _ (bs places name : List ℕ) where
  pub names_none : is_one_of (names_at bs places 0) name ≡ false
  unfolding names_at
  names_none = refl

  pub names_miss : (i : ℕ) → is_one_of (names_at bs places i) name ≡ false → some_with (same_bytes name) (name_at bs (get_or places i 0)) ≡ false → is_one_of (names_at bs places (suc i)) name ≡ false
  unfolding names_at
  names_miss i e f = one_more_lem (names_at bs places i) (name_at bs (get_or places i 0)) name ∙ rw (f, e)

  names_hit : (i : ℕ) → some_with (same_bytes name) (name_at bs (get_or places i 0)) ≡ true → is_one_of (names_at bs places (suc i)) name ≡ true
  unfolding names_at
  names_hit i f = one_more_lem (names_at bs places i) (name_at bs (get_or places i 0)) name ∙ rw f

  names_on : (n m : ℕ) → is_one_of (names_at bs places n) name ≡ true → is_one_of (names_at bs places (m + n)) name ≡ true
  unfolding names_at
  names_on n zero e = rw (zero-add n) e
  names_on n (suc m) e =
      rw (suc-add m n)
      (one_more_lem (names_at bs places (m + n)) (name_at bs (get_or places (m + n) 0)) name ∙ or_right (some_with (same_bytes name) (name_at bs (get_or places (m + n) 0))) (names_on n m e))

  pub names_found : (i n : ℕ) → i < n → some_with (same_bytes name) (name_at bs (get_or places i 0)) ≡ true → is_one_of (names_at bs places n) name ≡ true
  names_found i n h f =
      let k : n - suc i + suc i ≡ n = omega arith in
      rw k at (names_on (suc i) (n - suc i) (names_hit i f))

-- with one more place
names_kept : (bs places : List ℕ) (n count v : ℕ) → n ≤ count → names_at bs (set places count v) n ≡ names_at bs places n
unfolding names_at
names_kept bs places zero count v h = refl
names_kept bs places (suc n) count v h = rw (names_kept bs places n count v (omega arith), get_or-set_other places count n v 0 (λ e. omega arith))

pub names_put : (bs places : List ℕ) (count v : ℕ) → count < length places → names_at bs (set places count v) (suc count) ≡ with_name (names_at bs places count) (name_at bs v)
unfolding names_at
names_put bs places count v h = rw (names_kept bs places count count v (omega arith), get_or-set_same places count v 0 h)

-- ---- a name by itself

front_is_take : (n : ℕ) (slots : List ℕ) → n ≤ length slots → front n slots ≡ take n slots
unfolding front
front_is_take zero slots h = refl
front_is_take (suc n) [] h = absurd (omega arith)
front_is_take (suc n) (b ∷ slots) h = ap (λ (l : List ℕ). b ∷ l) (front_is_take n slots (omega arith))

pub front_whole : (kept : List ℕ) (len : ℕ) (text : List ℕ) → First kept len text → length text ≤ 97 → front len kept ≡ text
front_whole kept len text f h = front_is_take len kept (omega (arith, f.count, f.long)) ∙ f.bytes ∙ take_all 97 text h

-- a text that is longer than all of some is none of them
long_new : (seen : List (List ℕ)) (text : List ℕ) → all_short seen ≡ true → leb (length text) name_room ≡ false → is_one_of seen text ≡ false
long_new [] text a h = refl
long_new (w ∷ seen) text a h =
    let short = leb-true (length w) 32 (and_left (leb (length w) 32) (all_short seen) a) in
    let long = leb-false (length text) 32 h in
    rw (unequal_lengths text w (λ e. omega arith)) (long_new seen text (and_right (leb (length w) 32) (all_short seen) a) h)

module _ (said : Option Defect) (place : ℕ) where
  quiet_unless : (b : Bool) (number : ℕ) → is_early said place ≡ true → sooner said (least (unless b place number)) ≡ said
  quiet_unless true number e = refl
  quiet_unless false number e = early_quiet said number place e

  quiet_two : (b : Bool) → is_early said place ≡ true → sooner said (least (refused_at place over_capacity ++ unless b place not_published)) ≡ said
  quiet_two b e =
      rw (least_append (refused_at place over_capacity) (unless b place not_published), ← sooner_associates said (least (refused_at place over_capacity)) (least (unless b place not_published)), early_quiet said 29 place e)
      (quiet_unless b not_published e)

  -- the fault that is told of a name by its length, by whether it is asked for and whether it was there
  abbrev pub fault_by : ℕ → Bool → ℕ
  fault_by len repeated = cond (eqb (own_fault len) 0) (cond (is_early said place) 0 (cond repeated not_published 0)) (own_fault len)

  module _ (seen names : List (List ℕ)) (held : is_early said place ≡ false → seen ≡ names) (short : is_early said place ≡ false → all_short seen ≡ true) (kept : List ℕ) (len : ℕ) where
    short_fault : (text : List ℕ) → First kept len text → leb (length text) name_room ≡ true
        → sooner said (refusal_of (cond (is_early said place) 0 (cond (is_one_of names (front len kept)) not_published 0)) place) ≡ sooner said (least (unless (not (is_one_of seen text)) place not_published))
    short_fault text f h =
        let l = leb-true (length text) 32 h in
        cases (is_early said place)
        (λ e. rw e (sym (quiet_unless (not (is_one_of seen text)) not_published e)))
        (λ e. rw (e, held e, front_whole kept len text f (omega arith)) (cases (is_one_of names text) (λ i. rw i) (λ i. rw i)))

    long_fault : (text : List ℕ) → leb (length text) name_room ≡ false
        → sooner said (some (record { place = place; number = over_capacity })) ≡ sooner said (least (refused_at place over_capacity ++ unless (not (is_one_of seen text)) place not_published))
    long_fault text h =
        cases (is_early said place)
        (λ e. early_quiet said over_capacity place e ∙ sym (quiet_two (not (is_one_of seen text)) e))
        (λ e. rw (long_new seen text (short e) h))

    pub name_fault_lem : (x : Option (List ℕ)) → TextKept kept len x
        → sooner said (refusal_of (fault_by len (is_one_of names (front len kept))) place)
        ≡ sooner said (least (text_defects name_room place x ++ unless (not (is_repeated seen x)) place not_published))
    name_fault_lem none k = rw k
    name_fault_lem (some text) k =
        let l : eqb len lone_length ≡ false = ne_eqb len 98 (λ e. omega (arith, k.count)) in
        cases (leb (length text) name_room)
        (λ h. rw (l, length_told kept len text 32 k (omega arith), h) (short_fault text k h))
        (λ h. rw (l, length_told kept len text 32 k (omega arith), h) (long_fault text h))
