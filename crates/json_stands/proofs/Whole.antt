-- One whole lexeme: the slots stand for the judge behind it.
use Prim.Native.Nat.{ℕ}
use mathlib.Core.Path.{◌≡◌, refl}
use mathlib.Core.Bool.{Bool, true}
use mathlib.Core.List.{List}
use mathlib.Core.Option.{Option}
use borrow.Table.Steps.{cases}
use Rattle.json_rule.specs.Lexemes.{Lexeme}
use Rattle.json_rule.specs.Tree.{Defect}
use Rattle.json_judge.specs.Frames.{Frame}
use Rattle.json_judge.specs.Course.{Next, closes, on_next, step}
use Rattle.json_judge.specs.Judging.{Judge, take}
use Rattle.json_members.specs.Kept.{LexemeKept}
use Rattle.json_members.specs.Model.{Told, told, on_expected, taking}
use Rattle.json_stands.proofs.Laid.{Held, state, laid}
use Rattle.json_stands.proofs.Stands.{NextIs, a_value, first_item, a_name, first_name, a_colon, after_value, stopped, Stands, StandsFor}
use Rattle.json_stands.proofs.Nested.{nested, closes_same}
use Rattle.json_stands.proofs.Reach.{Reaches}
use Rattle.json_stands.proofs.StandsCommas.{colon_reaches, comma_reaches}
use Rattle.json_stands.proofs.StandsValues.{value_reaches}
use Rattle.json_stands.proofs.StandsNames.{name_reaches}
use Rattle.json_stands.proofs.StandsEnds.{end_reaches}

module _ (t : Lexeme) (whole : t.whole ≡ true) {kept : List ℕ} {len : ℕ} {integer : Bool} {magnitude : ℕ} (kp : LexemeKept kept len integer magnitude t) where
  abbrev what_is_told : Told
  what_is_told = told kept t.head t.first len integer magnitude

  -- what closes nothing, by what may come next
  module _ (k q n p : ℕ) (h : Held) {f : Frame} {around : List Frame} {r : Option Defect} where
    next_reaches : {e v w : ℕ} {next : Next} → NextIs e v w f next → Stands next f around r (state e k w v q n p h) → Reaches r (on_next next f around t) (on_expected what_is_told (laid (state e k w v q n p h))).slots
    unfolding on_expected
    next_reaches (a_value {v} {w} x) st = value_reaches (state 0 k w v q n p h) t st x whole kp
    next_reaches (first_item {v} {w} b x) st = value_reaches (state 1 k w v q n p h) t st x whole kp
    next_reaches (a_name {v} {w} b) st = name_reaches t (state 2 k w v q n p h) st b kp whole
    next_reaches (first_name {v} {w} b) st = name_reaches t (state 3 k w v q n p h) st b kp whole
    next_reaches (a_colon {v} {w} x) st = colon_reaches t (state 4 k w v q n p h) refl x st
    next_reaches (after_value {v} {w}) st = comma_reaches t (state 5 k w v q n p h) st
    next_reaches (stopped {v} {w}) st = record { reached = record { by = state 6 k w v q n p h; laid_so = refl; stands = st } }

  pub whole_stands : {j : Judge} {slots : List ℕ} → StandsFor j slots → StandsFor (take j t) (taking what_is_told slots).slots
  unfolding step taking
  whole_stands {j} x =
      let s = x.by in
      let st = x.stands in
      let fr = st.frames in
      rw (x.laid_so, closes_same s.kinds t st.nexts (nested fr.passing fr.opened) fr.bit)
      (cases (closes j.course.next j.course.within t)
      (λ c. rw c (end_reaches t s st c).reached)
      (λ c. rw c (next_reaches s.kinds s.passed s.number s.place s.held st.nexts st).reached))
