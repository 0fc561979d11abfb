-- A list or an object begins, with the state that stands for what follows.
use Prim.Native.Nat.{ℕ, suc, ◌<◌}
use mathlib.Core.Path.{◌≡◌, sym, ap, ◌∙◌}
use mathlib.Core.Bool.{true, false}
use mathlib.Core.List.{List, ◌∷◌}
use mathlib.Core.Option.{Option}
use lib.ListN.{length}
use Rattle.rules.specs.Words.{is_some}
use Rattle.json_rule.specs.Tree.{Defect}
use Rattle.json_rule.specs.Defects.{listing_of, kind_of}
use Rattle.json_judge.specs.Frames.{Frame}
use Rattle.json_judge.specs.Course.{Step, on_list, on_object}
use Rattle.json_members.specs.Nesting.{with_list, with_object}
use Rattle.json_members.specs.Spots.{shape_at, item_at}
use Rattle.json_members.specs.Opening.{counting}
use Rattle.json_members.specs.Model.{on_list as listIn, on_object as objectIn}
use Rattle.json_stands.proofs.Laid.{Held, State, state, Sized, laid}
use Rattle.json_stands.proofs.Refused.{RefusalIs}
use Rattle.json_stands.proofs.Open.{Open}
use Rattle.json_stands.proofs.Stands.{wanted_at, Waits, Frames}
use Rattle.json_stands.proofs.Waiting.{Here, list_here, object_here, none_passed, open_here}
use Rattle.json_stands.proofs.StandsCounts.{counts}
use Rattle.json_stands.proofs.Entered.{enter_list, enter_object}
use Rattle.json_stands.proofs.StandsBrackets.{pass_in, list_reaches, object_reaches}
use Rattle.json_stands.proofs.Reach.{Reaches}
use Rattle.json_stands.proofs.Goes.{StandsAfter}
use Rattle.json_stands.proofs.Same.{same_state}
use Rattle.json_stands.proofs.Holds.{counted_held, counted_size, counted_held_lem}
use Rattle.json_stands.proofs.Begun.{ListBegun, list_begun_lem, ObjectBegun, object_begun_lem}

-- a state whose slots a step leads to is the one that stands for it
pub stands_there : {r : Option Defect} {st : Step} {slots : List ℕ} → Reaches r st slots → (to : State) → slots ≡ laid to → Sized to.held.marks to.held.places → StandsAfter r st to
stands_there x to e z =
    let y = x.reached in
    rw (same_state y.by to y.stands.frames.sized z (sym y.laid_so ∙ e)) at y.stands

-- ---- the states that follow

-- inside a list or an object that is judged
abbrev pub in_judged_list : ℕ → ℕ → Held → State → State
in_judged_list number place held s = state 1 (with_list s.kinds) s.wanted (item_at s.wanted) s.passed number place held

abbrev pub in_judged_object : ℕ → ℕ → Held → State → State
in_judged_object number place held s = state 3 (with_object s.kinds) s.wanted s.wanted s.passed number place held

-- inside one that is passed over
abbrev pub in_passed_list : ℕ → ℕ → Held → State → State
in_passed_list number place held s = state 1 (with_list s.kinds) s.within 0 (suc s.passed) number place held

abbrev pub in_passed_object : ℕ → ℕ → Held → State → State
in_passed_object number place held s = state 3 (with_object s.kinds) s.within 0 (suc s.passed) number place held

-- with the element counted
abbrev pub held_then : State → Held
held_then s = counted_held s.within s.passed s.held

module _ (f : Frame) (around : List Frame) (r : Option Defect) (s : State) (first : ℕ) where
  pub record JudgedList : Type 0 where
    pub number : ℕ
    pub place : ℕ
    pub held : Held
    pub is_list : is_some (listing_of (shape_at s.wanted)) ≡ true
    pub there : Here s.wanted s.within
    pub none_passed : s.passed ≡ 0
    pub opened : Open s.held s.within (f ∷ around)
    pub begun : ListBegun first (held_then s) s.wanted held
    pub laid_so : listIn first (counting (laid s)) ≡ laid (in_judged_list number place held s)
    pub stands : StandsAfter r (on_list (wanted_at s.wanted) f around first) (in_judged_list number place held s)

  pub record PassedList : Type 0 where
    pub number : ℕ
    pub place : ℕ
    pub no_list : is_some (listing_of (shape_at s.wanted)) ≡ false
    pub laid_so : listIn first (counting (laid s)) ≡ laid (in_passed_list number place (held_then s) s)
    pub stands : StandsAfter r (on_list (wanted_at s.wanted) f around first) (in_passed_list number place (held_then s) s)

  pub record JudgedObject : Type 0 where
    pub number : ℕ
    pub place : ℕ
    pub held : Held
    pub is_object : is_some (kind_of (shape_at s.wanted)) ≡ true
    pub there : Here s.wanted s.within
    pub none_passed : s.passed ≡ 0
    pub opened : Open s.held s.within (f ∷ around)
    pub begun : ObjectBegun first (held_then s) s.wanted held
    pub laid_so : objectIn first (counting (laid s)) ≡ laid (in_judged_object number place held s)
    pub stands : StandsAfter r (on_object (wanted_at s.wanted) f around first) (in_judged_object number place held s)

  pub record PassedObject : Type 0 where
    pub number : ℕ
    pub place : ℕ
    pub no_object : is_some (kind_of (shape_at s.wanted)) ≡ false
    pub laid_so : objectIn first (counting (laid s)) ≡ laid (in_passed_object number place (held_then s) s)
    pub stands : StandsAfter r (on_object (wanted_at s.wanted) f around first) (in_passed_object number place (held_then s) s)

module _ (s : State) (first : ℕ) {f : Frame} {around : List Frame} {r : Option Defect} (fr : Frames f around s.kinds s.within s.wanted s.passed s.held) (rf : RefusalIs s.number s.place r) (x : Waits s.wanted s.within) (room : length around < 16) where
  pub judged_list : is_some (listing_of (shape_at s.wanted)) ≡ true → JudgedList f around r s first
  unfolding listIn
  judged_list e =
      let v = s.wanted in
      let c = counts s fr rf in
      let fc = c.frames in
      let t = list_here x e in
      let en = enter_list v first e (open_here t fc.idle fc.passing fc.opened) in
      let l : listIn first (counting (laid s)) ≡ laid (in_judged_list c.number c.place en.held s) = ap (listIn first) c.laid_so ∙ rw e (en.laid_so 1 (with_list s.kinds) s.within s.passed c.number c.place) in
      record {
        number = c.number;
        place = c.place;
        held = en.held;
        is_list = e;
        there = t;
        none_passed = none_passed t.spot fr.idle;
        opened = rw (sym t.parent) (open_here t fr.idle fr.passing fr.opened);
        begun = rw (sym (counted_held_lem s fr.sized c)) (list_begun_lem first fc.sized v e en);
        laid_so = l;
        stands = stands_there (list_reaches s first fr rf x room) (in_judged_list c.number c.place en.held s) l (en.sized fc.sized);
      }

  pub passed_list : is_some (listing_of (shape_at s.wanted)) ≡ false → PassedList f around r s first
  unfolding listIn
  passed_list e =
      let c = counts s fr rf in
      let h = held_then s in
      let p = pass_in (state 1 (with_list s.kinds) s.within s.wanted s.passed c.number c.place c.held) first c.frames c.is x in
      let i : c.held ≡ h = counted_held_lem s fr.sized c in
      let l : listIn first (counting (laid s)) ≡ laid (in_passed_list p.number p.place h s) = ap (listIn first) c.laid_so ∙ (rw e p.laid_so ∙ ap (λ (g : Held). laid (in_passed_list p.number p.place g s)) i) in
      record {
        number = p.number;
        place = p.place;
        no_list = e;
        laid_so = l;
        stands = stands_there (list_reaches s first fr rf x room) (in_passed_list p.number p.place h s) l (counted_size s.within s.passed s.held fr.sized);
      }

  pub judged_object : is_some (kind_of (shape_at s.wanted)) ≡ true → JudgedObject f around r s first
  unfolding objectIn
  judged_object e =
      let v = s.wanted in
      let c = counts s fr rf in
      let fc = c.frames in
      let t = object_here x e in
      let en = enter_object v first e fc.sized (open_here t fc.idle fc.passing fc.opened) in
      let l : objectIn first (counting (laid s)) ≡ laid (in_judged_object c.number c.place en.held s) = ap (objectIn first) c.laid_so ∙ rw e (en.laid_so 3 (with_object s.kinds) s.within s.passed c.number c.place) in
      record {
        number = c.number;
        place = c.place;
        held = en.held;
        is_object = e;
        there = t;
        none_passed = none_passed t.spot fr.idle;
        opened = rw (sym t.parent) (open_here t fr.idle fr.passing fr.opened);
        begun = rw (sym (counted_held_lem s fr.sized c)) (object_begun_lem first fc.sized v e en);
        laid_so = l;
        stands = stands_there (object_reaches s first fr rf x room) (in_judged_object c.number c.place en.held s) l en.sized;
      }

  pub passed_object : is_some (kind_of (shape_at s.wanted)) ≡ false → PassedObject f around r s first
  unfolding objectIn
  passed_object e =
      let c = counts s fr rf in
      let h = held_then s in
      let p = pass_in (state 3 (with_object s.kinds) s.within s.wanted s.passed c.number c.place c.held) first c.frames c.is x in
      let i : c.held ≡ h = counted_held_lem s fr.sized c in
      let l : objectIn first (counting (laid s)) ≡ laid (in_passed_object p.number p.place h s) = ap (objectIn first) c.laid_so ∙ (rw e p.laid_so ∙ ap (λ (g : Held). laid (in_passed_object p.number p.place g s)) i) in
      record {
        number = p.number;
        place = p.place;
        no_object = e;
        laid_so = l;
        stands = stands_there (object_reaches s first fr rf x room) (in_passed_object p.number p.place h s) l (counted_size s.within s.passed s.held fr.sized);
      }
