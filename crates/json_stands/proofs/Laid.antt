-- The numbers of a judge by name, and the slots that they stand in.
use Prim.Native.Nat.{ℕ, zero, suc, ◌+◌, ◌≤◌, ◌<◌}
use mathlib.Core.Path.{◌≡◌, refl, sym, ap, ◌∙◌}
use mathlib.Core.Bool.{cond}
use mathlib.Core.List.{List, [], ◌∷◌, ◌++◌}
use native.Mathlib.Nat.{zero-add, suc-add}
use native.Mathlib.Omega.{arith}
use borrow.Author.Tests.{lt-ltb, le-leb}
use borrow.Table.Steps.{cases}
use lib.Dec.{leb}
use lib.ListN.{length, get_or, set, length-set, get_or-append}
use lib.Seq.{get_or-append-add, set-append_left}
use Rattle.json_members.specs.Slots.{seen_in, named_in, marking, placing, unmarking, clearing, seeing}
use Rattle.json_stands.proofs.Marked.{is_marked, cleared}

-- Of the open lists and objects: the kind of the update; where each begins; how many elements the lists have; the marks of the members that were seen, and the
-- places of the names of an update's members.
pub record Held : Type 0 where
  pub kind : ℕ
  pub list : ℕ
  pub update : ℕ
  pub part : ℕ
  pub fields : ℕ
  pub field : ℕ
  pub updates : ℕ
  pub items : ℕ
  pub spare : ℕ
  pub marks : List ℕ
  pub places : List ℕ

pub record State : Type 0 where
  pub expect : ℕ
  pub kinds : ℕ
  pub within : ℕ
  pub wanted : ℕ
  pub passed : ℕ
  pub number : ℕ
  pub place : ℕ
  pub held : Held

pub record Sized (marks places : List ℕ) : Type 0 where
  pub marks_all : length marks ≡ 64
  pub places_all : length places ≡ 24

abbrev pub laid : State → List ℕ
laid s =
    s.expect
    ∷ s.kinds
    ∷ s.within
    ∷ s.wanted
    ∷ s.passed
    ∷ s.held.kind
    ∷ s.number
    ∷ s.place
    ∷ s.held.list
    ∷ s.held.update
    ∷ s.held.part
    ∷ s.held.fields
    ∷ s.held.field
    ∷ s.held.updates
    ∷ s.held.items
    ∷ s.held.spare
    ∷ s.held.marks
    ++ s.held.places

-- ---- a state with another number

abbrev pub state : ℕ → ℕ → ℕ → ℕ → ℕ → ℕ → ℕ → Held → State
state expect kinds within wanted passed number place held = record { expect = expect; kinds = kinds; within = within; wanted = wanted; passed = passed; number = number; place = place; held = held }

-- with another refusal, and others open
abbrev pub changed : ℕ → ℕ → Held → State → State
changed number place held s = state s.expect s.kinds s.within s.wanted s.passed number place held

abbrev pub hold : ℕ → ℕ → ℕ → ℕ → ℕ → ℕ → ℕ → ℕ → ℕ → List ℕ → List ℕ → Held
hold kind list update part fields field updates items spare marks places =
    record {
      kind = kind;
      list = list;
      update = update;
      part = part;
      fields = fields;
      field = field;
      updates = updates;
      items = items;
      spare = spare;
      marks = marks;
      places = places;
    }

abbrev pub holding : List ℕ → List ℕ → Held → Held
holding marks places h = hold h.kind h.list h.update h.part h.fields h.field h.updates h.items h.spare marks places

abbrev pub marked : List ℕ → State → State
marked marks s = changed s.number s.place (holding marks s.held.places s.held) s

abbrev pub placed : List ℕ → State → State
placed places s = changed s.number s.place (holding s.held.marks places s.held) s

-- ---- marks and places

set_append_add : (xs ys : List ℕ) (n v : ℕ) → set (xs ++ ys) (length xs + n) v ≡ xs ++ set ys n v
set_append_add [] ys n v = rw (zero-add n)
set_append_add (x ∷ xs) ys n v = rw (suc-add (length xs) n) (ap (λ (l : List ℕ). x ∷ l) (set_append_add xs ys n v))

module _ (s : State) (z : Sized s.held.marks s.held.places) (m : ℕ) where
  -- the first sixteen numbers
  abbrev first : List ℕ
  first = laid (marked [] (placed [] s))

  pub laid_mark : m < 64 → get_or (laid s) (16 + m) 0 ≡ get_or s.held.marks m 0
  laid_mark h =
      get_or-append-add first (s.held.marks ++ s.held.places) m 0 ∙ get_or-append s.held.marks s.held.places 0 m (rw z.marks_all h)

  pub laid_place : get_or (laid s) (80 + m) 0 ≡ get_or s.held.places m 0
  laid_place =
      let e : 80 + m ≡ 16 + (64 + m) = omega arith in
      let k : 64 + m ≡ length s.held.marks + m = rw z.marks_all in
      rw e (get_or-append-add first (s.held.marks ++ s.held.places) (64 + m) 0 ∙ (ap (λ n. get_or (s.held.marks ++ s.held.places) n 0) k ∙ get_or-append-add s.held.marks s.held.places m 0))

  pub laid_set_mark : (v : ℕ) → m < 64 → set (laid s) (16 + m) v ≡ laid (marked (set s.held.marks m v) s)
  laid_set_mark v h =
      set_append_add first (s.held.marks ++ s.held.places) m v ∙ ap (λ l. first ++ l) (set-append_left s.held.marks s.held.places m v (rw z.marks_all h))

  pub laid_set_place : (v : ℕ) → set (laid s) (80 + m) v ≡ laid (placed (set s.held.places m v) s)
  laid_set_place v =
      let e : 80 + m ≡ 16 + (64 + m) = omega arith in
      let k : 64 + m ≡ length s.held.marks + m = rw z.marks_all in
      rw e (set_append_add first (s.held.marks ++ s.held.places) (64 + m) v ∙ (ap (λ n. first ++ set (s.held.marks ++ s.held.places) n v) k ∙ ap (λ l. first ++ l) (set_append_add s.held.marks s.held.places m v)))

  -- ---- what the model reads and writes

  pub seen_laid : m < 64 → seen_in (laid s) m ≡ is_marked s.held.marks m
  unfolding seen_in
  seen_laid h = rw (lt-ltb m 64 h, laid_mark h)

  pub named_laid : m ≤ 23 → named_in (laid s) m ≡ get_or s.held.places m 0
  unfolding named_in
  named_laid h = rw (le-leb m 23 h, laid_place)

module _ (s : State) (z : Sized s.held.marks s.held.places) where
  mark_laid : (m : ℕ) → m < 64 → marking m (laid s) ≡ laid (marked (set s.held.marks m 1) s)
  unfolding marking
  mark_laid m h = rw (lt-ltb m 64 h) (laid_set_mark s z m 1 h)

  unmark_laid : (m : ℕ) → m < 64 → unmarking m (laid s) ≡ laid (marked (set s.held.marks m 0) s)
  unfolding unmarking
  unmark_laid m h = rw (lt-ltb m 64 h) (laid_set_mark s z m 0 h)

  place_laid : (m p : ℕ) → placing m p (laid s) ≡ laid (placed (cond (leb m 23) (set s.held.places m p) s.held.places) s)
  unfolding placing
  place_laid m p = cases (leb m 23) (λ t. rw t (laid_set_place s z m p)) (λ f. rw f)

-- the marks and the places with a name that was seen
abbrev pub seen_held : ℕ → ℕ → Held → Held
seen_held m p h = holding (set h.marks m 1) (cond (leb m 23) (set h.places m p) h.places) h

pub see_laid : (s : State) → Sized s.held.marks s.held.places → (m p : ℕ) → m < 64 → seeing m p (laid s) ≡ laid (changed s.number s.place (seen_held m p s.held) s)
see_laid s z m p h =
    ap (placing m p) (mark_laid s z m h)
    ∙ place_laid (marked (set s.held.marks m 1) s) (record { marks_all = length-set s.held.marks m 1 ∙ z.marks_all; places_all = z.places_all }) m p

pub clear_laid : (n m : ℕ) (s : State) → Sized s.held.marks s.held.places → m + n ≤ 64 → clearing n m (laid s) ≡ laid (marked (cleared n m s.held.marks) s)
unfolding clearing cleared
clear_laid zero m s z h = refl
clear_laid (suc n) m s z h =
    ap (clearing n (suc m)) (unmark_laid s z m (omega arith))
    ∙ clear_laid n (suc m) (marked (set s.held.marks m 0) s) (record { marks_all = length-set s.held.marks m 0 ∙ z.marks_all; places_all = z.places_all }) (omega arith)
