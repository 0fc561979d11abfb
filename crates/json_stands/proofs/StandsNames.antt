-- A name in an object: a member that was not seen, a name that is unknown or repeated, or one in what is passed over.
use Prim.Native.Nat.{ℕ, suc, ◌%◌}
use native.Mathlib.Nat.{suc-ne-zero}
use mathlib.Core.Path.{◌≡◌, refl, sym, ap, ◌∙◌}
use mathlib.Core.Bool.{Bool, true, false, cond, not, true≢false}
use mathlib.Core.List.{List, [], ◌∷◌}
use mathlib.Core.Logic.{inl, inr}
use mathlib.Core.Option.{Option, none, some}
use native.Mathlib.Omega.{arith}
use borrow.Author.Tests.{ne_eqb}
use borrow.Table.Steps.{cases}
use lib.Dec.{eqb}
use Rattle.json_rule.specs.Lexemes.{Lexeme, quote}
use Rattle.json_rule.specs.Values.{text_of}
use Rattle.json_rule.specs.Tree.{Defect, not_json}
use Rattle.json_rule.specs.Members.{is_one_of}
use Rattle.json_rule.specs.Shapes.{Kind, Row, rows_of}
use Rattle.json_rule.specs.Defects.{not_published, row_of}
use Rattle.json_judge.specs.Refusal.{refusing as withDefects}
use Rattle.json_judge.specs.Frames.{Wanted, anything as anyValue, names_in, OpenObject, Frame, InObject, ObjectBracket, NoBracket, bracket_of, wanted_after, named, name_said}
use Rattle.json_judge.specs.Course.{AColon, NameStands, Next, to, stop, on_name, is_outside as isNothing}
use Rattle.json_members.specs.Refusing.{refusing, stopping}
use Rattle.json_members.specs.Kept.{TextKept, LexemeKept}
use Rattle.json_members.specs.Spots.{row_at, name_at, value_at}
use Rattle.json_members.specs.Rows.{span_of, is_foreign_at}
use Rattle.json_members.specs.Model.{unlisted_in, known_in, on_known, on_spot, on_name as nameIn}
use Rattle.json_stands.proofs.Marked.{is_marked}
use Rattle.json_stands.proofs.Laid.{Held, State, state, laid, seen_held, see_laid}
use Rattle.json_stands.proofs.Members.{is_member, before_end, ends_below}
use Rattle.json_stands.proofs.Refused.{RefusalIs, refuse_laid, unless_laid}
use Rattle.json_stands.proofs.Open.{Open, nothing, updates, update, ids, part, fields, field, Passed, here, list, object}
use Rattle.json_stands.proofs.Stands.{wanted_at, Waits, anything, NextIs, a_colon, Frames, Stands}
use Rattle.json_stands.proofs.Items.{wanted_any, object_no_list}
use Rattle.json_stands.proofs.StandsCommas.{none_wanted}
use Rattle.json_stands.proofs.Named.{object_of, member_some, member_waits, member_wanted, IsNamed, none_such, one_such, name_is}
use Rattle.json_stands.proofs.Seeing.{seen_also, seen_size, Opened, open_update, open_part, open_field}
use Rattle.json_stands.proofs.Reach.{Reaches, stops}
use Rattle.json_stands.proofs.Goes.{reaches_so}

-- ---- the states that follow

-- behind the name of a member, which is marked with its place
abbrev pub behind_known : ℕ → ℕ → ℕ → ℕ → State → State
behind_known m first number place s = state 4 s.kinds s.within (value_at m) s.passed number place (seen_held m first s.held)

-- behind another name: its value is passed over
abbrev pub behind_other : ℕ → ℕ → State → State
behind_other number place s = state 4 s.kinds s.within 0 s.passed number place s.held

-- the course behind a name
abbrev pub StandsNamed : Frame → List Frame → Lexeme → Option Defect → State → Type 0
StandsNamed f around t r s = Stands (AColon (wanted_after f t)) (named f t) around (withDefects (name_said f t) r) s

pub record KnownName (f : Frame) (around : List Frame) (t : Lexeme) (r : Option Defect) (s : State) (slots : List ℕ) : Type 0 where
  pub kind : Kind
  pub member : ℕ
  pub number : ℕ
  pub place : ℕ
  pub none_passed : s.passed ≡ 0
  pub spot : s.within ≡ object_of kind
  pub is_member : is_member kind member ≡ true
  pub text : text_of t ≡ some (name_at member)
  pub unseen : is_marked s.held.marks member ≡ false
  pub wants : wanted_after f t ≡ wanted_at (value_at member)
  pub laid_so : slots ≡ laid (behind_known member t.first number place s)
  pub stands : StandsNamed f around t r (behind_known member t.first number place s)

pub record OtherName (f : Frame) (around : List Frame) (t : Lexeme) (r : Option Defect) (s : State) (slots : List ℕ) : Type 0 where
  pub number : ℕ
  pub place : ℕ
  pub wants : wanted_after f t ≡ anyValue
  pub same : named f t ≡ f
  pub laid_so : slots ≡ laid (behind_other number place s)
  pub stands : StandsNamed f around t r (behind_other number place s)

pub data Names (f : Frame) (around : List Frame) (t : Lexeme) (r : Option Defect) (s : State) (slots : List ℕ) : Type 0 where
  known : KnownName f around t r s slots → Names f around t r s slots
  other : OtherName f around t r s slots → Names f around t r s slots

a_colon_lem : {v w : ℕ} {f : Frame} {wanted : Wanted} → wanted ≡ wanted_at v → Waits v w → NextIs 4 v w f (AColon wanted)
a_colon_lem e x = rw e (a_colon x)

not_zero : not_published ≡ 0 → ⊥
not_zero e = omega arith

-- ---- in an object that is judged

module _ (k v n p : ℕ) {w : ℕ} {h : Held} {o : OpenObject} {around : List Frame} {r : Option Defect} (a : Opened h w o around) (fr : Frames (InObject o) around k w v 0 h) (rf : RefusalIs n p r) (e : ℕ) (t : Lexeme) where
  abbrev before : State
  before = state e k w v 0 n p h

  abbrev row : Option Row
  row = row_of (rows_of o.kind) (names_in o.seen) (text_of t)

  -- none of its members, or one again
  other_name : row ≡ none → OtherName (InObject o) around t r before (on_spot 0 t.first (laid (state 4 k w (value_at 0) 0 n p h)))
  unfolding on_spot value_at row_at
  other_name x =
      let u = refuse_laid (state 4 k w 0 0 n p h) rf not_published t.first not_zero in
      record {
        number = u.number;
        place = u.place;
        wants = rw x;
        same = rw x;
        laid_so = u.laid_so;
        stands =
            record {
              nexts = rw x (a_colon_lem (sym wanted_any) anything);
              frames = rw x (record { judged = fr.judged; passing = fr.passing; opened = fr.opened; sized = fr.sized; bit = fr.bit; depth = fr.depth; idle = inl refl });
              refusal = rw x u.is;
            };
      }

  known_name : (m : ℕ) → is_member o.kind m ≡ true → text_of t ≡ some (name_at m) → is_one_of (names_in o.seen) (name_at m) ≡ false → row ≡ some (row_at m)
      → KnownName (InObject o) around t r before (on_spot m t.first (laid (state 4 k w (value_at m) 0 n p h)))
  unfolding on_spot on_known
  known_name m g x new y =
      let kind = o.kind in
      let first = t.first in
      let away = is_foreign_at (span_of (h.kind % 256)) m in
      let u = unless_laid (state 4 k w (value_at m) 0 n p (seen_held m first h)) rf (not away) not_published first not_zero in
      let spot : Waits (value_at m) w = rw a.spot (member_waits kind m g) in
      record {
        kind = kind;
        member = m;
        number = u.number;
        place = u.place;
        none_passed = refl;
        spot = a.spot;
        is_member = g;
        text = x;
        unseen = a.says m g ∙ new;
        wants = rw y (sym (member_wanted kind m g));
        laid_so =
            rw (ne_eqb m 0 (member_some kind m g))
            (ap (λ (l : List ℕ). cond (unlisted_in l m) (refusing not_published first l) l) (see_laid (state 4 k w (value_at m) 0 n p h) fr.sized m first (omega (arith, before_end kind m g, ends_below kind)))
            ∙ (turned away (laid (state 4 k w (value_at m) 0 n p (seen_held m first h))) (refusing not_published first (laid (state 4 k w (value_at m) 0 n p (seen_held m first h))))
            ∙ u.laid_so));
        stands =
            record {
              nexts = rw y (a_colon_lem (sym (member_wanted kind m g)) spot);
              frames =
                  rw y
                  (record {
                    judged = InObject (seen_also m first o) ∷ around;
                    passing = here;
                    opened = a.more m first g new;
                    sized = seen_size h m first fr.sized;
                    bit = fr.bit;
                    depth = fr.depth;
                    idle = inl refl;
                  });
              refusal = rw (y, a.foreign m t g x) u.is;
            };
      }
    where
      turned : (b : Bool) (l more : List ℕ) → cond b more l ≡ cond (not b) l more
      turned true l more = refl
      turned false l more = refl

  -- by what is kept of the lexeme
  object_names : (kept : List ℕ) (len : ℕ) → eqb t.head quote ≡ true → TextKept kept len (text_of t) → Names (InObject o) around t r before (nameIn kept t.head t.first len (laid before))
  unfolding nameIn
  object_names kept len q c = rw q (by_name (known_in (laid (state 4 k w v 0 n p h)) kept len) (name_is (state 4 k w v 0 n p h) fr.sized o.kind o.seen a.says t kept len a.spot c))
    where
      by_name : (x : ℕ) → IsNamed o.kind o.seen t x → Names (InObject o) around t r before (on_spot x t.first (laid (state 4 k w (value_at x) 0 n p h)))
      by_name x (none_such z) = other (other_name z)
      by_name x (one_such {m} g y new z) = known (known_name m g y new z)

-- ---- in whatever is open

object_no_outside : NoBracket ≡ ObjectBracket → ⊥
object_no_outside e = true≢false (ap isNothing e)

module _ (e n p : ℕ) (t : Lexeme) (kept : List ℕ) (len : ℕ) (q : eqb t.head quote ≡ true) (c : TextKept kept len (text_of t)) where
  names_open : {k v w : ℕ} {h : Held} {f : Frame} {around : List Frame} {r : Option Defect} → Open h w (f ∷ around) → bracket_of f ≡ ObjectBracket → Frames f around k w v 0 h → RefusalIs n p r
      → Names f around t r (state e k w v 0 n p h) (nameIn kept t.head t.first len (laid (state e k w v 0 n p h)))
  names_open nothing b fr rf = absurd (object_no_outside b)
  names_open updates b fr rf = absurd (object_no_list (sym b))
  names_open {k} {v} {h = h} (update u) b fr rf = object_names k v n p (open_update h fr.sized u) fr rf e t kept len q c
  names_open (ids i u) b fr rf = absurd (object_no_list (sym b))
  names_open {k} {v} {h = h} (part x m u) b fr rf = object_names k v n p (open_part h fr.sized u x m) fr rf e t kept len q c
  names_open (fields x m u) b fr rf = absurd (object_no_list (sym b))
  names_open {k} {v} {h = h} (field x a m u) b fr rf = object_names k v n p (open_field h fr.sized u x a m) fr rf e t kept len q c

  names_by : {k v w d : ℕ} {h : Held} {f : Frame} {around js : List Frame} {r : Option Defect} → Passed d (f ∷ around) js → Open h w js → bracket_of f ≡ ObjectBracket → Frames f around k w v d h → RefusalIs n p r
      → Names f around t r (state e k w v d n p h) (nameIn kept t.head t.first len (laid (state e k w v d n p h)))
  unfolding nameIn
  names_by here o b fr rf = names_open o b fr rf
  names_by (list y) o b fr rf = absurd (object_no_list (sym b))
  names_by {k} {v} {w} {h = h} (object {q = d} y) o b fr rf =
      let z : v ≡ 0 = none_wanted fr.idle in
      other
      (record {
        number = n;
        place = p;
        wants = refl;
        same = refl;
        laid_so = rw (q, ne_eqb (suc d) 0 (suc-ne-zero d), z);
        stands =
            record {
              nexts = a_colon_lem (sym wanted_any) anything;
              frames = record { judged = fr.judged; passing = fr.passing; opened = fr.opened; sized = fr.sized; bit = fr.bit; depth = fr.depth; idle = inr refl };
              refusal = rf;
            };
      })

-- the judge's step at a whole text
pub name_step : (f : Frame) (around : List Frame) (t : Lexeme) → eqb t.head quote ≡ true → t.whole ≡ true → on_name f around t ≡ to (AColon (wanted_after f t)) (named f t) around (NameStands f t ∷ [])
unfolding on_name
name_step f around t q whole =
    let yes = to (AColon (wanted_after f t)) (named f t) around (NameStands f t ∷ []) in
    ap (λ (c : Bool). cond c (cond t.whole yes (stop f around t.stop not_json)) (stop f around t.first not_json)) q
    ∙ ap (λ (c : Bool). cond c yes (stop f around t.stop not_json)) whole

module _ {next : Next} {f : Frame} {around : List Frame} {r : Option Defect} {kept : List ℕ} {len : ℕ} {integer : Bool} {magnitude : ℕ} (t : Lexeme) (s : State) (st : Stands next f around r s) (b : bracket_of f ≡ ObjectBracket) (x : LexemeKept kept len integer magnitude t) where
  -- a text stands where a name may
  pub names : eqb t.head quote ≡ true → Names f around t r s (nameIn kept t.head t.first len (laid s))
  names q = names_by s.expect s.number s.place t kept len q (x.text q) st.frames.passing st.frames.opened b st.frames st.refusal

  name_stands : Names f around t r s (nameIn kept t.head t.first len (laid s)) → Reaches r (to (AColon (wanted_after f t)) (named f t) around (NameStands f t ∷ [])) (nameIn kept t.head t.first len (laid s))
  name_stands (known y) = reaches_so (behind_known y.member t.first y.number y.place s) y.laid_so y.stands
  name_stands (other y) = reaches_so (behind_other y.number y.place s) y.laid_so y.stands

  -- anything else stops
  no_name_lem : eqb t.head quote ≡ false → nameIn kept t.head t.first len (laid s) ≡ stopping not_json t.first (laid s)
  unfolding nameIn
  no_name_lem e = rw e

  pub name_reaches : t.whole ≡ true → Reaches r (on_name f around t) (nameIn kept t.head t.first len (laid s))
  unfolding on_name
  name_reaches whole =
      cases (eqb t.head quote)
      (λ q. rw (name_step f around t q whole) (name_stands (names q)))
      (λ q. let y : Reaches r (stop f around t.first not_json) (nameIn kept t.head t.first len (laid s)) = rw (no_name_lem q) (stops s st not_json t.first (λ e. omega arith)) in rw q y)
