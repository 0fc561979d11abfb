-- A closing bracket: a list or an object that is judged ends, or one that is passed over.
use Prim.Native.Nat.{ℕ, suc, ◌-◌, ◌/◌}
use native.Mathlib.Nat.{suc-ne-zero}
use mathlib.Core.Path.{◌≡◌, refl, ap, ◌∙◌}
use mathlib.Core.Bool.{Bool, true, false, cond, not, true≢false}
use mathlib.Core.List.{List, [], ◌∷◌}
use mathlib.Core.Logic.{inl, inr}
use mathlib.Core.Option.{Option}
use native.Mathlib.Omega.{arith}
use borrow.Author.Tests.{ne_eqb}
use borrow.Table.Steps.{cases}
use lib.Dec.{eqb}
use Rattle.json_rule.specs.Lexemes.{Lexeme}
use Rattle.json_rule.specs.Tree.{Defect}
use Rattle.json_rule.specs.Defects.{not_published}
use Rattle.json_judge.specs.Refusal.{refusing as withDefects}
use Rattle.json_judge.specs.Frames.{Frame, bracket_of, lacking}
use Rattle.json_judge.specs.Course.{Next, closes, on_end, is_outside as isNothing}
use Rattle.json_members.specs.Slots.{inside}
use Rattle.json_members.specs.Refusing.{refusing}
use Rattle.json_members.specs.Spots.{around_at}
use Rattle.json_members.specs.Opening.{first_in}
use Rattle.json_members.specs.Model.{After, after, lack_said, leaving, on_close}
use Rattle.json_stands.proofs.Laid.{Held, State, state, Sized, laid}
use Rattle.json_stands.proofs.Refused.{RefusalIs, Refused, unless_laid}
use Rattle.json_stands.proofs.Bits.{bits, without, Nested, outermost, in_list, in_object}
use Rattle.json_stands.proofs.Open.{Open, nothing, updates, update, ids, part, fields, field, snapshot_ids, schema_ids, spec_ids, snapshot, schema, order, spec, schema_fields, order_fields, spec_fields, Passed, here, list, object}
use Rattle.json_stands.proofs.Stands.{after_value, Frames, Stands}
use Rattle.json_stands.proofs.Nested.{nested, closes_some}
use Rattle.json_stands.proofs.StandsCommas.{none_wanted}
use Rattle.json_stands.proofs.Lacks.{lacks_open}
use Rattle.json_stands.proofs.Reach.{Reaches}
use Rattle.json_stands.proofs.Goes.{StandsAfter, reaches_so}

-- ---- the states that follow

-- behind the end of what is judged
abbrev pub left : ℕ → ℕ → State → State
left number place s = state 5 (s.kinds / 2) (around_at s.within) s.wanted 0 number place s.held

-- behind the end of what is passed over
abbrev pub skipped : State → State
skipped s = state 5 (s.kinds / 2) s.within s.wanted (s.passed - 1) s.number s.place s.held

pub record EndsJudged (f : Frame) (around : List Frame) (r : Option Defect) (s : State) : Type 0 where
  pub number : ℕ
  pub place : ℕ
  pub none_passed : s.passed ≡ 0
  pub opened : Open s.held s.within (f ∷ around)
  pub closed_so : on_close (laid s) ≡ after (laid (left number place s)) s.within
  pub stands : StandsAfter r (on_end f around) (left number place s)

pub record EndsPassed (f : Frame) (around : List Frame) (r : Option Defect) (s : State) : Type 0 where
  pub some_passed : s.passed ≡ 0 → ⊥
  pub says_nothing : lacking f ≡ []
  pub closed_so : on_close (laid s) ≡ after (laid (skipped s)) 0
  pub stands : StandsAfter r (on_end f around) (skipped s)

pub data Ends (f : Frame) (around : List Frame) (r : Option Defect) (s : State) : Type 0 where
  judged : EndsJudged f around r s → Ends f around r s
  passed : EndsPassed f around r s → Ends f around r s

-- ---- what is around

leave : {h : Held} {w : ℕ} {f g : Frame} {gs : List Frame} → Open h w (f ∷ g ∷ gs) → Open h (around_at w) (g ∷ gs)
unfolding around_at
leave updates = nothing
leave (update u) = updates
leave (ids snapshot_ids u) = update u
leave (ids schema_ids u) = update u
leave (ids spec_ids u) = update u
leave (part snapshot m u) = update u
leave (part schema m u) = update u
leave (part order m u) = update u
leave (part spec m u) = update u
leave (fields schema_fields m u) = part schema m u
leave (fields order_fields m u) = part order m u
leave (fields spec_fields m u) = part spec m u
leave (field schema_fields a m u) = fields schema_fields m u
leave (field order_fields a m u) = fields order_fields m u
leave (field spec_fields a m u) = fields spec_fields m u

-- with one bracket less
half : {k : ℕ} (f : Frame) (fs : List Frame) → isNothing (bracket_of f) ≡ false → k ≡ bits (f ∷ fs) → k / 2 ≡ bits fs
half f fs b e = ap (λ (n : ℕ). n / 2) e ∙ without (bits fs) (bracket_of f) b

-- ---- the end

module _ (s : State) (z : Sized s.held.marks s.held.places) {f : Frame} {fs : List Frame} {r : Option Defect} (rf : RefusalIs s.number s.place r) (o : Open s.held s.within (f ∷ fs)) where
  -- what it lacks is refused
  lack_laid : Refused s (lack_said s.within (laid s)) (withDefects (lacking f) r)
  lack_laid =
      let l = lacks_open s z o in
      let u = unless_laid s rf l.has_them not_published (first_in (laid s) s.within) (λ e. omega arith) in
      record {
        number = u.number;
        place = u.place;
        laid_so = rw l.told (turned l.has_them (laid s) (refusing not_published (first_in (laid s) s.within) (laid s))) ∙ u.laid_so;
        is = rw l.said u.is;
      }
    where
      turned : (b : Bool) (x y : List ℕ) → cond (not b) y x ≡ cond b x y
      turned true x y = refl
      turned false x y = refl

module _ (e n p : ℕ) where
  end_judged : {k w v : ℕ} {h : Held} {f g : Frame} {gs : List Frame} {r : Option Defect} → isNothing (bracket_of f) ≡ false → Open h w (f ∷ g ∷ gs) → Frames f (g ∷ gs) k w v 0 h → RefusalIs n p r
      → EndsJudged f (g ∷ gs) r (state e k w v 0 n p h)
  unfolding on_close leaving
  end_judged {k} {w} {v} {h} {f} {g} {gs} b o fr rf =
      let x = lack_laid (state 5 (k / 2) w v 0 n p h) fr.sized rf o in
      record {
        number = x.number;
        place = x.place;
        none_passed = refl;
        opened = o;
        closed_so = ap (λ (l : List ℕ). after (inside (around_at w) l) w) x.laid_so;
        stands =
            record {
              nexts = after_value;
              frames = record { judged = g ∷ gs; passing = here; opened = leave o; sized = fr.sized; bit = half f (g ∷ gs) b fr.bit; depth = omega (arith, fr.depth); idle = inl refl };
              refusal = x.is;
            };
      }

  end_passed : {k w v q : ℕ} {h : Held} {f g : Frame} {gs js : List Frame} {r : Option Defect} → isNothing (bracket_of f) ≡ false → lacking f ≡ [] → Passed q (g ∷ gs) js → Open h w js → Frames f (g ∷ gs) k w v (suc q) h → RefusalIs n p r
      → EndsPassed f (g ∷ gs) r (state e k w v (suc q) n p h)
  unfolding on_close
  end_passed {q = q} {f = f} {g = g} {gs = gs} {js = js} b l y o fr rf =
      let less : suc q - 1 ≡ q = omega arith in
      record {
        some_passed = suc-ne-zero q;
        says_nothing = l;
        closed_so = rw (ne_eqb (suc q) 0 (suc-ne-zero q));
        stands =
            record {
              nexts = after_value;
              frames = rw less (record { judged = js; passing = y; opened = o; sized = fr.sized; bit = half f (g ∷ gs) b fr.bit; depth = omega (arith, fr.depth); idle = inr (none_wanted fr.idle) });
              refusal = rw l rf;
            };
      }

  end_by : {k w v q : ℕ} {h : Held} {f : Frame} {around js : List Frame} {r : Option Defect} → isNothing (bracket_of f) ≡ false → Passed q (f ∷ around) js → Open h w js → Nested (f ∷ around) → Frames f around k w v q h → RefusalIs n p r
      → Ends f around r (state e k w v q n p h)
  end_by b here o outermost fr rf = absurd (true≢false b)
  end_by b here o (in_list {fs = g ∷ gs} c m) fr rf = judged (end_judged b o fr rf)
  end_by b here o (in_object {fs = g ∷ gs} c m) fr rf = judged (end_judged b o fr rf)
  end_by b (list y) o (in_list {fs = g ∷ gs} c m) fr rf = passed (end_passed b refl y o fr rf)
  end_by b (list y) o (in_object {fs = g ∷ gs} c m) fr rf = passed (end_passed b refl y o fr rf)
  end_by b (object y) o (in_list {fs = g ∷ gs} c m) fr rf = passed (end_passed b refl y o fr rf)
  end_by b (object y) o (in_object {fs = g ∷ gs} c m) fr rf = passed (end_passed b refl y o fr rf)
  end_by {k = k} {w = w} {v = v} {h = h} {f = f} {around = []} {r = r} b here o (in_list c m) fr rf = elim m [ ]
  end_by {k = k} {w = w} {v = v} {h = h} {f = f} {around = []} {r = r} b here o (in_object c m) fr rf = elim m [ ]
  end_by {k = k} {w = w} {v = v} {h = h} {around = []} {js = js} {r = r} b (list {q = q} y) o (in_list c m) fr rf = elim m [ ]
  end_by {k = k} {w = w} {v = v} {h = h} {around = []} {js = js} {r = r} b (list {q = q} y) o (in_object c m) fr rf = elim m [ ]
  end_by {k = k} {w = w} {v = v} {h = h} {around = []} {js = js} {r = r} b (object {q = q} y) o (in_list c m) fr rf = elim m [ ]
  end_by {k = k} {w = w} {v = v} {h = h} {around = []} {js = js} {r = r} b (object {q = q} y) o (in_object c m) fr rf = elim m [ ]

-- what became whole: the innermost list or object, if it is judged
pub end_done : (s : State) → (on_close (laid s)).done ≡ cond (eqb s.passed 0) s.within 0
unfolding on_close leaving
end_done s = cases (eqb s.passed 0) (λ t. rw t) (λ f. rw f)

module _ {next : Next} {f : Frame} {around : List Frame} {r : Option Defect} (t : Lexeme) (s : State) (st : Stands next f around r s) (c : closes next f t ≡ true) where
  pub ends : Ends f around r s
  ends =
      let fr = st.frames in
      end_by s.expect s.number s.place (closes_some t st.nexts c) fr.passing fr.opened (nested fr.passing fr.opened) fr st.refusal

  pub end_reaches : Reaches r (on_end f around) (on_close (laid s)).slots
  end_reaches = by_end ends
    where
      by_end : Ends f around r s → Reaches r (on_end f around) (on_close (laid s)).slots
      by_end (judged x) = reaches_so (left x.number x.place s) (ap (λ (a : After). a.slots) x.closed_so) x.stands
      by_end (passed x) = reaches_so (skipped s) (ap (λ (a : After). a.slots) x.closed_so) x.stands

  -- where nothing is passed over, and where something is
  pub ends_judged : s.passed ≡ 0 → EndsJudged f around r s
  ends_judged e = by_end ends
    where
      by_end : Ends f around r s → EndsJudged f around r s
      by_end (judged x) = x
      by_end (passed x) = absurd (x.some_passed e)

  pub ends_passed : (s.passed ≡ 0 → ⊥) → EndsPassed f around r s
  ends_passed n = by_end ends
    where
      by_end : Ends f around r s → EndsPassed f around r s
      by_end (judged x) = absurd (n x.none_passed)
      by_end (passed x) = x
