-- A text, a number or a word stands where a value is wanted: it may be passed over, name the action, or be right or wrong at its spot.
use Prim.Native.Nat.{ℕ}
use mathlib.Core.Path.{◌≡◌, refl, sym, ap, ◌∙◌}
use mathlib.Core.Bool.{Bool, true, false, cond, true≢false}
use mathlib.Core.List.{List, [], ◌∷◌}
use mathlib.Core.Logic.{◌⊎◌}
use mathlib.Core.Option.{Option, none, some}
use native.Mathlib.Omega.{arith}
use borrow.Author.Tests.{eqb-true, eqb-false, eq-eqb, ne_eqb}
use borrow.Table.Steps.{cases}
use lib.Dec.{eqb}
use Rattle.json_rule.specs.Lexemes.{Lexeme, quote}
use Rattle.json_rule.specs.Values.{text_of}
use Rattle.json_rule.specs.Tree.{Defect}
use Rattle.json_rule.specs.Shapes.{Action}
use Rattle.json_rule.specs.Defects.{not_published, is_anything, scalar_defects, listed_action}
use Rattle.json_judge.specs.Refusal.{refusing as withDefects}
use Rattle.json_judge.specs.Frames.{Frame, Bracket, stands, counted, count_said, action_said_by, knowing, known_said}
use Rattle.json_judge.specs.Course.{on_whole}
use Rattle.json_members.specs.Kept.{LexemeKept}
use Rattle.json_members.specs.Spots.{row_at, shape_at}
use Rattle.json_members.specs.Faults.{Judged, fault_of}
use Rattle.json_members.specs.Refusing.{refusing}
use Rattle.json_members.specs.Opening.{refused_in}
use Rattle.json_members.specs.Model.{After, after, Told, told, on_action, knowing as knowingIn, knowing_if, on_fault, on_wanted, behind_value, on_scalar as scalarIn}
use Rattle.json_members.proofs.Faults.{fault_told, fault_at_lem}
use Rattle.json_members.proofs.Actions.{action_fault, no_action}
use Rattle.json_stands.proofs.Laid.{Held, State, state, laid, changed}
use Rattle.json_stands.proofs.Refused.{RefusalIs, refuse_laid}
use Rattle.json_stands.proofs.Bits.{bits, bits_with}
use Rattle.json_stands.proofs.Open.{Open, Passed, here}
use Rattle.json_stands.proofs.Stands.{wanted_at, parent_of, Waits, anything, within, after_value, Frames}
use Rattle.json_stands.proofs.Waiting.{none_passed, open_here, stands_is}
use Rattle.json_stands.proofs.StandsCounts.{CountsIn, counts}
use Rattle.json_stands.proofs.StandsBrackets.{stands_counted}
use Rattle.json_stands.proofs.Reach.{Reaches}
use Rattle.json_stands.proofs.Acting.{KindOf, KindIs, no_kind, some_kind, kind_some, kind_told, acted, act}

-- ---- what it is

-- by the spot that is wanted; what is held before and after, and the spot of what became whole
pub data ScalarIs (v : ℕ) (t : Lexeme) (h : Held) : Held → ℕ → Type 0 where
  passed_over : v ≡ 0 → ScalarIs v t h h 0
  known : {kind : ℕ} {a : Action} → v ≡ 3 → listed_action (text_of t) ≡ some a → KindOf kind a → ScalarIs v t h (acted kind h) 0
  unknown : v ≡ 3 → listed_action (text_of t) ≡ none → (fault_of (shape_at v) t ≡ 0 → ⊥) → ScalarIs v t h h 0
  right : Judged v → fault_of (shape_at v) t ≡ 0 → ScalarIs v t h h v
  wrong : Judged v → (fault_of (shape_at v) t ≡ 0 → ⊥) → ScalarIs v t h h 0

-- behind it
abbrev pub behind : State → State
behind s = state 5 s.kinds s.within s.wanted s.passed s.number s.place s.held

-- the slots are those of a state behind it, and so is the spot
pub record ScalarReaches (s : State) (t : Lexeme) (f : Frame) (around : List Frame) (r : Option Defect) (to : After) : Type 0 where
  pub element : CountsIn f around r (behind s)
  pub number : ℕ
  pub place : ℕ
  pub held : Held
  pub laid_so : to.slots ≡ laid (changed number place held (behind s))
  pub frames : Frames (knowing (action_said_by (eqb s.wanted 3) (text_of t)) (counted f)) around s.kinds s.within s.wanted s.passed held
  pub is : RefusalIs number place (withDefects (known_said (action_said_by (eqb s.wanted 3) (text_of t)) (counted f)) (withDefects (scalar_defects (shape_at s.wanted) (stands (wanted_at s.wanted) f t.first) t) (withDefects (count_said f) r)))
  pub how : ScalarIs s.wanted t element.held held to.done

-- where no action is wanted none is said
not_said : (b : Bool) (x : Option (List ℕ)) → b ≡ false → action_said_by b x ≡ none
not_said b none e = refl
not_said b (some word) e = rw e

said_action : (x : Option (List ℕ)) → action_said_by true x ≡ listed_action x
said_action none = refl
said_action (some word) = refl

module _ (t : Lexeme) {f : Frame} {around : List Frame} {r : Option Defect} where
  -- anything may stand there
  scalar_any_lem : (s : State) → s.wanted ≡ 0 → (c : CountsIn f around r (behind s)) → ScalarReaches s t f around r (after (behind_value (laid s)) 0)
  unfolding row_at
  scalar_any_lem s e c =
      record {
        element = c;
        number = c.number;
        place = c.place;
        held = c.held;
        laid_so = c.laid_so;
        frames = rw (not_said (eqb s.wanted 3) (text_of t) (rw e)) c.frames;
        is = rw (not_said (eqb s.wanted 3) (text_of t) (rw e), e) c.is;
        how = passed_over e;
      }

  -- with the element counted
  abbrev begun : (s : State) → CountsIn f around r (behind s) → State
  begun s c = changed c.number c.place c.held (behind s)

  -- a value that is right
  scalar_right : (s : State) (c : CountsIn f around r (behind s)) → Judged s.wanted → fault_of (shape_at s.wanted) t ≡ 0 → ScalarReaches s t f around r (after (behind_value (laid s)) s.wanted)
  scalar_right s c j e =
      record {
        element = c;
        number = c.number;
        place = c.place;
        held = c.held;
        laid_so = c.laid_so;
        frames = rw (not_said (eqb s.wanted 3) (text_of t) j.other) c.frames;
        is = rw (not_said (eqb s.wanted 3) (text_of t) j.other, fault_told (shape_at s.wanted) (stands (wanted_at s.wanted) f t.first) t, e) c.is;
        how = right j e;
      }

  -- one that is wrong
  scalar_wrong : (s : State) (c : CountsIn f around r (behind s)) → Waits s.wanted s.within → Judged s.wanted → (n : fault_of (shape_at s.wanted) t ≡ 0 → ⊥)
      → ScalarReaches s t f around r (after (refusing (fault_of (shape_at s.wanted) t) (refused_in (behind_value (laid s)) s.wanted t.first) (behind_value (laid s))) 0)
  scalar_wrong s c x j n =
      let v = s.wanted in
      let fault = fault_of (shape_at v) t in
      let at = stands (wanted_at v) f t.first in
      let fc = c.frames in
      let y = refuse_laid (begun s c) c.is fault at n in
      let p : refused_in (laid (begun s c)) v t.first ≡ at = stands_is (begun s c) t.first x fc.passing fc.opened fc.idle ∙ stands_counted (wanted_at v) f t.first in
      record {
        element = c;
        number = y.number;
        place = y.place;
        held = c.held;
        laid_so = ap (λ (l : List ℕ). refusing fault (refused_in l v t.first) l) c.laid_so ∙ (ap (λ (q : ℕ). refusing fault q (laid (begun s c))) p ∙ y.laid_so);
        frames = rw (not_said (eqb v 3) (text_of t) j.other) fc;
        is = rw (not_said (eqb v 3) (text_of t) j.other, fault_told (shape_at v) at t, ne_eqb fault 0 n) y.is;
        how = wrong j n;
      }

  scalar_other : (s : State) {kept : List ℕ} {len : ℕ} {integer : Bool} {magnitude : ℕ} (c : CountsIn f around r (behind s)) → Waits s.wanted s.within → Judged s.wanted → LexemeKept kept len integer magnitude t
      → ScalarReaches s t f around r (on_wanted s.wanted (told kept t.head t.first len integer magnitude) (behind_value (laid s)))
  unfolding on_fault
  scalar_other s {kept} {len} {integer} {magnitude} c x j k =
      rw (fault_at_lem s.wanted kept len integer magnitude t j k)
      (cases (eqb (fault_of (shape_at s.wanted) t) 0)
      (λ e. rw e (scalar_right s c j (eqb-true (fault_of (shape_at s.wanted) t) 0 e)))
      (λ n. rw n (scalar_wrong s c x j (eqb-false (fault_of (shape_at s.wanted) t) 0 n))))

-- ---- the action

no_text_lem : (t : Lexeme) → eqb t.head quote ≡ false → text_of t ≡ none
unfolding text_of
no_text_lem t n = rw n

-- it is refused where it stands
action_stands : (f : Frame) (first : ℕ) → stands (wanted_at 3) f first ≡ first
unfolding row_at
action_stands f first = refl

-- and stands in an update
action_open : {h : Held} {w q : ℕ} {fs js : List Frame} → w ≡ 2 → (q ≡ 0) ⊎ (◌≡◌ {A = ℕ} 3 0) → Passed q fs js → Open h w js → Open h 2 fs
unfolding parent_of
action_open {h} {w} {js = js} e i y o =
    let o' : Open h 2 js = rw e at o in
    open_here (record { spot = λ z. omega arith; parent = refl }) i y o'

module _ (t : Lexeme) {f : Frame} {around : List Frame} {r : Option Defect} (s : State) (c : CountsIn f around r (behind s)) (e : s.wanted ≡ 3) where
  said : action_said_by (eqb s.wanted 3) (text_of t) ≡ listed_action (text_of t)
  said = ap (λ (v : ℕ). action_said_by (eqb v 3) (text_of t)) e ∙ said_action (text_of t)

  said_wrong : (number : ℕ) → fault_of (shape_at 3) t ≡ number → scalar_defects (shape_at s.wanted) (stands (wanted_at s.wanted) f t.first) t ≡ cond (eqb number 0) [] (record { place = t.first; number = number } ∷ [])
  said_wrong number w = rw (e, fault_told (shape_at 3) (stands (wanted_at 3) f t.first) t, w, action_stands f t.first)

  -- one that is not listed
  action_unknown : listed_action (text_of t) ≡ none → fault_of (shape_at 3) t ≡ not_published → ScalarReaches s t f around r (after (refusing not_published t.first (behind_value (laid s))) 0)
  action_unknown l w =
      let y = refuse_laid (begun t s c) c.is not_published t.first (λ z. omega arith) in
      record {
        element = c;
        number = y.number;
        place = y.place;
        held = c.held;
        laid_so = ap (refusing not_published t.first) c.laid_so ∙ y.laid_so;
        frames = rw (said ∙ l) c.frames;
        is = rw (said ∙ l, said_wrong not_published w) y.is;
        how = unknown e l (λ z. let n : not_published ≡ 0 = sym w ∙ rw e at z in omega arith);
      }

  -- one that is
  action_known : {kind : ℕ} {a : Action} → KindOf kind a → s.within ≡ 2 → listed_action (text_of t) ≡ some a → fault_of (shape_at 3) t ≡ 0 → ScalarReaches s t f around r (after (knowingIn kind (behind_value (laid s))) 0)
  action_known {kind} {a} k i l w =
      let fc = c.frames in
      let d : (s.passed ≡ 0) ⊎ (◌≡◌ {A = ℕ} 3 0) = rw e at fc.idle in
      let y = act (begun t s c) k (action_open i d fc.passing fc.opened) fc.sized c.is in
      record {
        element = c;
        number = y.number;
        place = y.place;
        held = acted kind c.held;
        laid_so = ap (knowingIn kind) c.laid_so ∙ y.laid_so;
        frames =
            rw (said ∙ l)
            (record {
              judged = knowing (some a) (counted f) ∷ around;
              passing = rw (none_passed {v = 3} (λ z. omega arith) d) here;
              opened = rw i y.opens;
              sized = fc.sized;
              bit = fc.bit ∙ ap (λ (b : Bracket). bits_with b (bits around)) (sym y.bracket);
              depth = fc.depth;
              idle = fc.idle;
            });
        is = rw (said ∙ l, said_wrong 0 w) y.is;
        how = known e l k;
      }

  action_by : {kind : ℕ} {o : Option Action} → KindIs kind o → s.within ≡ 2 → listed_action (text_of t) ≡ o → fault_of (shape_at 3) t ≡ cond (eqb kind 0) not_published 0 → ScalarReaches s t f around r (after (knowing_if kind t.first (behind_value (laid s))) 0)
  action_by {kind} (no_kind z) i l w =
      let b = eq-eqb kind 0 z in
      rw b (action_unknown l (rw b at w))
  action_by {kind} (some_kind k) i l w =
      let b = kind_some k in
      rw b (action_known k i l (rw b at w))

  scalar_action : {kept : List ℕ} {len : ℕ} {integer : Bool} {magnitude : ℕ} → s.within ≡ 2 → LexemeKept kept len integer magnitude t → ScalarReaches s t f around r (after (on_action kept t.head t.first len (behind_value (laid s))) 0)
  unfolding on_action
  scalar_action {kept} {len} i k =
      cases (eqb t.head quote)
      (λ q. rw q (action_by (kind_told t k q) i refl (action_fault kept len t (eqb-true t.head quote q) (k.text q))))
      (λ q. rw q (action_unknown (ap listed_action (no_text_lem t q)) (no_action t (eqb-false t.head quote q))))

-- ---- all

pub waits_something : {v w : ℕ} → Waits v w → eqb v 0 ≡ false → is_anything (shape_at v) ≡ false
waits_something anything n = absurd (true≢false n)
waits_something (within h a p) n = a

pub waits_parent : {v w : ℕ} → Waits v w → eqb v 0 ≡ false → parent_of v ≡ w
waits_parent anything n = absurd (true≢false n)
waits_parent (within h a p) n = p

pub in_update_lem : {v w : ℕ} → Waits v w → v ≡ 3 → w ≡ 2
unfolding parent_of
in_update_lem {v} {w} x e = sym (waits_parent x (ap (λ (u : ℕ). eqb u 0) e)) ∙ ap parent_of e

module _ (s : State) (t : Lexeme) {f : Frame} {around : List Frame} {r : Option Defect} (fr : Frames f around s.kinds s.within s.wanted s.passed s.held) (rf : RefusalIs s.number s.place r) (x : Waits s.wanted s.within) {kept : List ℕ} {len : ℕ} {integer : Bool} {magnitude : ℕ} (k : LexemeKept kept len integer magnitude t) where
  abbrev what_is_told : Told
  what_is_told = told kept t.head t.first len integer magnitude

  pub scalar_does : ScalarReaches s t f around r (scalarIn what_is_told (laid s))
  unfolding scalarIn
  scalar_does =
      let c = counts (behind s) fr rf in
      let v = s.wanted in
      cases (eqb v 0)
      (λ z. rw z (scalar_any_lem t s (eqb-true v 0 z) c))
      (λ z. cases (eqb v 3)
      (λ a. rw (z, a) (scalar_action t s c (eqb-true v 3 a) (in_update_lem x (eqb-true v 3 a)) k))
      (λ a. rw (z, a) (scalar_other t s c x (record { something = waits_something x z; other = a }) k)))

  pub scalar_reaches : Reaches r (on_whole (wanted_at s.wanted) f around t) (scalarIn what_is_told (laid s)).slots
  scalar_reaches =
      let d = scalar_does in
      record { reached = record { by = changed d.number d.place d.held (behind s); laid_so = d.laid_so; stands = record { nexts = after_value; frames = d.frames; refusal = d.is } } }
