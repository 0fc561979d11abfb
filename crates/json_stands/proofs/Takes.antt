-- One whole lexeme behind which nothing is refused: the slots are those of a state that stands for the judge behind it, and what it did is told.
use Prim.Native.Nat.{ℕ}
use mathlib.Core.Path.{◌≡◌, refl, sym, ap, ◌∙◌}
use mathlib.Core.Bool.{Bool, true}
use mathlib.Core.List.{List}
use mathlib.Core.Logic.{inl, inr}
use mathlib.Core.Option.{Option, none}
use borrow.Table.Steps.{cases}
use Rattle.json_rule.specs.Lexemes.{Lexeme}
use Rattle.json_rule.specs.Tree.{Defect}
use Rattle.json_judge.specs.Frames.{Frame}
use Rattle.json_judge.specs.Course.{Next, Happening, closes, on_next, step}
use Rattle.json_judge.specs.Judging.{Judge, take}
use Rattle.json_members.specs.Kept.{LexemeKept}
use Rattle.json_members.specs.Model.{After, after, Told, told, on_expected, taking}
use Rattle.json_stands.proofs.Laid.{Held, State, state, Sized, laid}
use Rattle.json_stands.proofs.Stands.{wanted_at, NextIs, a_value, first_item, a_name, first_name, a_colon, after_value, stopped, Stands, StandsFor}
use Rattle.json_stands.proofs.Nested.{nested, closes_same}
use Rattle.json_stands.proofs.Same.{same_state}
use Rattle.json_stands.proofs.Whole.{whole_stands}
use Rattle.json_stands.proofs.Took.{Took}
use Rattle.json_stands.proofs.Tells.{Tells, Clean, tells_stopped, tells_colon, tells_comma, tells_name, tells_end}
use Rattle.json_stands.proofs.TellsValues.{tells_value}

-- a state stands for a judge
abbrev pub StandsIn : Judge → State → Type 0
StandsIn j s = Stands j.course.next j.course.within j.course.around j.refusal s

pub record Takes (j : Judge) (t : Lexeme) (o : Told) (s : State) : Type 0 where
  pub to : State
  pub done : ℕ
  pub happened : List Happening
  pub taken : taking o (laid s) ≡ after (laid to) done
  pub happens : (step j.course t).happened ≡ happened
  pub sized : Sized to.held.marks to.held.places
  pub stands : StandsIn (take j t) to
  pub took : Took s t j.course.within j.course.around to done happened

module _ (t : Lexeme) (whole : t.whole ≡ true) {kept : List ℕ} {len : ℕ} {integer : Bool} {magnitude : ℕ} (kp : LexemeKept kept len integer magnitude t) where
  abbrev what_is_told : Told
  what_is_told = told kept t.head t.first len integer magnitude

  -- what closes nothing, by what may come next
  module _ (k q n p : ℕ) (h : Held) {f : Frame} {around : List Frame} {r : Option Defect} where
    next_tells : {e v w : ℕ} {next : Next} → NextIs e v w f next → Stands next f around r (state e k w v q n p h) → Clean (on_next next f around t) r
        → Tells (state e k w v q n p h) t f around (on_next next f around t) (on_expected what_is_told (laid (state e k w v q n p h)))
    unfolding on_expected
    next_tells (a_value {v} {w} x) st c = tells_value t (state 0 k w v q n p h) (inl refl) st x whole kp c
    next_tells (first_item {v} {w} b x) st c = tells_value t (state 1 k w v q n p h) (inr refl) st x whole kp c
    next_tells (a_name {v} {w} b) st c = tells_name t (state 2 k w v q n p h) st b kp (inl refl) whole c
    next_tells (first_name {v} {w} b) st c = tells_name t (state 3 k w v q n p h) st b kp (inr refl) whole c
    next_tells (a_colon {v} {w} x) st c = tells_colon t f around r (state 4 k w v q n p h) st.frames.sized (wanted_at v) refl c
    next_tells (after_value {v} {w}) st c = tells_comma t (state 5 k w v q n p h) st refl c
    next_tells (stopped {v} {w}) st c = tells_stopped t f around r (state 6 k w v q n p h) st.frames.sized refl

  step_tells : {j : Judge} {s : State} → StandsIn j s → (take j t).refusal ≡ none → Tells s t j.course.within j.course.around (step j.course t) (taking what_is_told (laid s))
  unfolding step taking
  step_tells {j} {s} st c =
      let fr = st.frames in
      rw (closes_same s.kinds t st.nexts (nested fr.passing fr.opened) fr.bit)
      (cases (closes j.course.next j.course.within t)
      (λ b. rw b (tells_end t s st b (rw b at c)))
      (λ b. rw b (next_tells s.kinds s.passed s.number s.place s.held st.nexts st (rw b at c))))

  pub whole_took : {j : Judge} {s : State} → StandsIn j s → (take j t).refusal ≡ none → Takes j t what_is_told s
  whole_took {j} {s} st c =
      let y = step_tells st c in
      let x : StandsFor (take j t) (taking what_is_told (laid s)).slots = whole_stands t whole kp (record { by = s; laid_so = refl; stands = st }) in
      let e : x.by ≡ y.to = same_state x.by y.to x.stands.frames.sized y.sized (sym x.laid_so ∙ ap (λ (a : After). a.slots) y.taken) in
      record {
        to = y.to;
        done = y.done;
        happened = y.happened;
        taken = y.taken;
        happens = y.happens;
        sized = y.sized;
        stands = rw e at x.stands;
        took = y.took;
      }
