-- What a judge is, said by numbers in slots: what may come next, the open lists and objects, and the least refusal so far.
use Prim.Native.Nat.{ℕ, ◌≤◌, ◌<◌}
use mathlib.Core.Path.{◌≡◌, refl}
use mathlib.Core.Bool.{false}
use mathlib.Core.List.{List, [], ◌∷◌}
use mathlib.Core.Logic.{◌⊎◌, inl}
use mathlib.Core.Option.{Option, none}
use native.Mathlib.Omega.{arith}
use lib.Dec.{eqb}
use lib.ListN.{length, get_or, replicate}
use Rattle.json_rule.specs.Tree.{Defect}
use Rattle.json_rule.specs.Defects.{is_anything}
use Rattle.json_judge.specs.Frames.{Wanted, Frame, ListBracket, ObjectBracket, bracket_of}
use Rattle.json_judge.specs.Course.{Next, AValue, FirstItem, AName, FirstName, AColon, AfterValue, Stopped, start}
use Rattle.json_judge.specs.Judging.{Judge}
use Rattle.json_members.specs.Slots.{start_slots}
use Rattle.json_members.specs.Spots.{row_at, shape_at}
use Rattle.json_stands.proofs.Laid.{Held, State, state, Sized, laid}
use Rattle.json_stands.proofs.Refused.{RefusalIs, accepted}
use Rattle.json_stands.proofs.Bits.{bits}
use Rattle.json_stands.proofs.Open.{Open, nothing, Passed, here}

-- ---- the value that is wanted

abbrev pub wanted_at : ℕ → Wanted
wanted_at v = record { shape = shape_at v; of_schema = (row_at v).of_schema; is_action = eqb v 3 }

-- in which list or object a spot stands, spot by spot
abbrev parents : List ℕ
parents =
    0 ∷ 0 ∷ 1
    -- 3, the members of an update
    ∷ 2 ∷ 2 ∷ 2 ∷ 2 ∷ 2 ∷ 2 ∷ 2 ∷ 2 ∷ 2 ∷ 2 ∷ 2 ∷ 2 ∷ 2 ∷ 2 ∷ 2 ∷ 2 ∷ 2 ∷ 2 ∷ 2 ∷ 2 ∷ 2
    -- 24, the elements of the three lists of ids
    ∷ 8 ∷ 18 ∷ 23
    -- 27, the members of a snapshot
    ∷ 7 ∷ 7 ∷ 7 ∷ 7 ∷ 7 ∷ 7 ∷ 7 ∷ 7 ∷ 7
    -- 36, those of a schema, a field, and its members
    ∷ 15 ∷ 15 ∷ 15 ∷ 38 ∷ 39 ∷ 39 ∷ 39 ∷ 39
    -- 44, the same of a sort order
    ∷ 19 ∷ 19 ∷ 45 ∷ 46 ∷ 46 ∷ 46 ∷ 46
    -- 51, the same of a partition spec
    ∷ 21 ∷ 21 ∷ 52 ∷ 53 ∷ 53 ∷ 53 ∷ 53
    ∷ []

unfoldable pub parent_of : ℕ → ℕ
parent_of v = get_or parents v 0

-- a value that may be anything, or one that stands in the innermost list or object
pub data Waits : ℕ → ℕ → Type 0 where
  anything : {w : ℕ} → Waits 0 w
  within : {v w : ℕ} → v < 58 → is_anything (shape_at v) ≡ false → parent_of v ≡ w → Waits v w

-- ---- what may come next

-- by the number of what is expected, the spot of the value that is wanted, and the spot and the frame of the innermost list or object
pub data NextIs : ℕ → ℕ → ℕ → Frame → Next → Type 0 where
  a_value : {v w : ℕ} {f : Frame} → Waits v w → NextIs 0 v w f (AValue (wanted_at v))
  first_item : {v w : ℕ} {f : Frame} → bracket_of f ≡ ListBracket → Waits v w → NextIs 1 v w f (FirstItem (wanted_at v))
  a_name : {v w : ℕ} {f : Frame} → bracket_of f ≡ ObjectBracket → NextIs 2 v w f AName
  first_name : {v w : ℕ} {f : Frame} → bracket_of f ≡ ObjectBracket → NextIs 3 v w f FirstName
  a_colon : {v w : ℕ} {f : Frame} → Waits v w → NextIs 4 v w f (AColon (wanted_at v))
  after_value : {v w : ℕ} {f : Frame} → NextIs 5 v w f AfterValue
  stopped : {v w : ℕ} {f : Frame} → NextIs 6 v w f Stopped

-- ---- all

-- the open lists and objects: the brackets, the spots of the innermost one and of the value that is wanted, and how many are passed over
pub record Frames (f : Frame) (around : List Frame) (kinds w v q : ℕ) (h : Held) : Type 0 where
  pub judged : List Frame
  pub passing : Passed q (f ∷ around) judged
  pub opened : Open h w judged
  pub sized : Sized h.marks h.places
  pub bit : kinds ≡ bits (f ∷ around)
  pub depth : length around ≤ 16
  pub idle : (q ≡ 0) ⊎ (v ≡ 0)

pub record Stands (next : Next) (f : Frame) (around : List Frame) (r : Option Defect) (s : State) : Type 0 where
  pub nexts : NextIs s.expect s.wanted s.within f next
  pub frames : Frames f around s.kinds s.within s.wanted s.passed s.held
  pub refusal : RefusalIs s.number s.place r

-- the slots are those of a state that stands for the judge
pub record StandsFor (j : Judge) (slots : List ℕ) : Type 0 where
  pub by : State
  pub laid_so : slots ≡ laid by
  pub stands : Stands j.course.next j.course.within j.course.around j.refusal by

-- ---- the start

nothing_held : Held
nothing_held = record { kind = 0; list = 0; update = 0; part = 0; fields = 0; field = 0; updates = 0; items = 0; spare = 0; marks = replicate 64 0; places = replicate 24 0 }

pub start_stands : StandsFor (record { course = start; refusal = none }) start_slots
unfolding nothing_held row_at parent_of
start_stands =
    record {
      by = state 0 1 0 1 0 0 0 nothing_held;
      laid_so = refl;
      stands =
          record {
            nexts = a_value (within {v = 1} {w = 0} (omega arith) refl refl);
            frames = record { judged = _; passing = here; opened = nothing; sized = record { marks_all = refl; places_all = refl }; bit = refl; depth = omega arith; idle = inl refl };
            refusal = accepted;
          };
    }
