-- What is held when a value begins: with one more element, and with a list or an object begun.
use Prim.Native.Nat.{ℕ}
use mathlib.Core.Path.{◌≡◌, refl, sym, ◌∙◌}
use mathlib.Core.Bool.{Bool, true, false, cond}
use mathlib.Core.List.{List}
use mathlib.Core.Option.{Option}
use native.Mathlib.Numerals.{add-one}
use borrow.Table.Steps.{cases}
use lib.Dec.{eqb, ltb}
use Rattle.rules.specs.Words.{is_some}
use Rattle.json_rule.specs.Tree.{Defect}
use Rattle.json_rule.specs.Defects.{listing_of}
use Rattle.json_judge.specs.Frames.{Frame}
use Rattle.json_members.specs.Refusing.{sooner_in, refusing}
use Rattle.json_members.specs.Spots.{shape_at, room_in}
use Rattle.json_members.specs.Opening.{first_in, count_slot, counting_in, counting}
use Rattle.json_stands.proofs.Laid.{Held, State, Sized, laid, changed}
use Rattle.json_stands.proofs.StandsCounts.{more_updates, more_items, CountsIn}
use Rattle.json_stands.proofs.Same.{same_held}

-- ---- one more element

-- how many elements a list has, and one more
abbrev pub count_in : ℕ → Held → ℕ
count_in w h = cond (eqb w 1) h.updates h.items

abbrev pub one_more : ℕ → Held → Held
one_more w h = cond (eqb w 1) (more_updates h) (more_items h)

-- in a list that has room
abbrev pub counted_at : ℕ → Held → Held
counted_at w h = cond (is_some (listing_of (shape_at w))) (cond (ltb (count_in w h) (room_in (listing_of (shape_at w)))) (one_more w h) h) h

-- where the innermost list or object has a spot, and so many are passed over
abbrev pub counted_held : ℕ → ℕ → Held → Held
counted_held w q h = cond (eqb q 0) (counted_at w h) h

-- the slots are those of a state in which this is held
record Holds (s : State) (h : Held) (slots : List ℕ) : Type 0 where
  number : ℕ
  place : ℕ
  laid_so : slots ≡ laid (changed number place h s)

holds_itself : (s : State) → Holds s s.held (laid s)
holds_itself s = record { number = s.number; place = s.place; laid_so = refl }

refusing_holds : (s : State) (number place : ℕ) → Holds s s.held (refusing number place (laid s))
unfolding refusing
refusing_holds s number place =
    cases (sooner_in (laid s) number place)
    (λ t. rw t (record { number = number; place = place; laid_so = refl }))
    (λ f. rw f (holds_itself s))

module _ (s : State) where
  counting_in_lem : Holds s (cond (ltb (count_in s.within s.held) (room_in (listing_of (shape_at s.within)))) (one_more s.within s.held) s.held) (counting_in s.within (laid s))
  unfolding counting_in count_slot
  counting_in_lem =
      let h = s.held in
      let room = room_in (listing_of (shape_at s.within)) in
      cases (eqb s.within 1)
      (λ e. cases (ltb h.updates room)
      (λ t. rw (e, t, add-one h.updates) (record { number = s.number; place = s.place; laid_so = refl }))
      (λ t. rw (e, t) (refusing_holds s 29 (first_in (laid s) s.within))))
      (λ e. cases (ltb h.items room)
      (λ t. rw (e, t, add-one h.items) (record { number = s.number; place = s.place; laid_so = refl }))
      (λ t. rw (e, t) (refusing_holds s 29 (first_in (laid s) s.within))))

  counting_holds : Holds s (counted_held s.within s.passed s.held) (counting (laid s))
  unfolding counting
  counting_holds =
      cases (eqb s.passed 0)
      (λ t. cases (is_some (listing_of (shape_at s.within)))
      (λ l. rw (t, l) counting_in_lem)
      (λ l. rw (t, l) (holds_itself s)))
      (λ f. rw f (holds_itself s))

-- what holds whatever the counts are still holds
pub counted_keeps : (P : Held → Type 0) (w q : ℕ) (h : Held) → P h → P (more_updates h) → P (more_items h) → P (counted_held w q h)
counted_keeps P w q h x u i =
    by_flag (eqb q 0) (counted_at w h) h
    (by_flag (is_some (listing_of (shape_at w))) (cond (ltb (count_in w h) (room_in (listing_of (shape_at w)))) (one_more w h) h) h
    (by_flag (ltb (count_in w h) (room_in (listing_of (shape_at w)))) (one_more w h) h (by_flag (eqb w 1) (more_updates h) (more_items h) u i) x) x) x
  where
    by_flag : (b : Bool) (y z : Held) → P y → P z → P (cond b y z)
    by_flag true y z p q = p
    by_flag false y z p q = q

pub counted_size : (w q : ℕ) (h : Held) → Sized h.marks h.places → Sized (counted_held w q h).marks (counted_held w q h).places
counted_size w q h z = counted_keeps (λ (x : Held). Sized x.marks x.places) w q h z z z

pub counted_held_lem : (s : State) {f : Frame} {around : List Frame} {r : Option Defect} → Sized s.held.marks s.held.places → (c : CountsIn f around r s) → c.held ≡ counted_held s.within s.passed s.held
counted_held_lem s z c =
    let x = counting_holds s in
    let h = counted_held s.within s.passed s.held in
    same_held (changed c.number c.place c.held s) (changed x.number x.place h s) c.frames.sized (counted_size s.within s.passed s.held z) (sym c.laid_so ∙ x.laid_so)
