-- A list or an object begins: it is judged where one is wanted, and else passed over.
use Prim.Native.Nat.{ℕ, suc, ◌+◌, ◌%◌, ◌≤◌, ◌<◌}
use mathlib.Core.Path.{◌≡◌, refl, sym, ap, ◌∙◌}
use mathlib.Core.Bool.{Bool, true, false, cond, true≢false}
use mathlib.Core.List.{List, [], ◌∷◌}
use mathlib.Core.Logic.{◌⊎◌, inl, inr}
use mathlib.Core.Option.{Option, none, some}
use native.Mathlib.Numerals.{add-one}
use native.Mathlib.Omega.{arith}
use borrow.Table.Steps.{cases}
use lib.Dec.{eqb}
use lib.ListN.{length}
use Rattle.rules.specs.Words.{is_some}
use Rattle.json_rule.specs.Tree.{Defect}
use Rattle.json_rule.specs.Shapes.{Kind}
use Rattle.json_rule.specs.Defects.{not_published, Listing, listing_of, kind_of, is_anything, misplaced, schema_place}
use Rattle.json_judge.specs.Refusal.{refusing as withDefects}
use Rattle.json_judge.specs.Frames.{Wanted, Frame, Outside, InList, InObject, PassedList, PassedObject, Bracket, ListBracket, ObjectBracket, bracket_of, schema_around, stands, opened_list, list_said, opened_object, object_said, each, counted, count_said}
use Rattle.json_judge.specs.Course.{FirstItem, on_list, on_object}
use Rattle.json_members.specs.Nesting.{full_kinds, with_list, with_object, with_one}
use Rattle.json_members.specs.Refusing.{refusing}
use Rattle.json_members.specs.Spots.{row_at, shape_at, item_at}
use Rattle.json_members.specs.Opening.{refused_in, counting}
use Rattle.json_members.specs.Model.{misplacing, passing, passing_in, in_list, in_object, on_list as listIn, on_object as objectIn}
use Rattle.json_stands.proofs.Laid.{Held, State, state, laid, changed}
use Rattle.json_stands.proofs.Refused.{RefusalIs, Refused, unless_laid}
use Rattle.json_stands.proofs.Bits.{bits, bits_with, bits_below, with_list_lem, with_object_lem}
use Rattle.json_stands.proofs.Open.{Open, Passed, here, list, object}
use Rattle.json_stands.proofs.Stands.{wanted_at, parent_of, Waits, anything, within, NextIs, first_item, first_name, Frames, Stands, StandsFor}
use Rattle.json_stands.proofs.Nested.{nested, passed_few}
use Rattle.json_stands.proofs.Items.{Item, item, wanted_any}
use Rattle.json_stands.proofs.Waiting.{any_is, list_here, object_here, none_passed, open_here, stands_is}
use Rattle.json_stands.proofs.StandsCounts.{CountsIn, counts}
use Rattle.json_stands.proofs.Entered.{EntersList, enter_list, EntersObject, enter_object}
use Rattle.json_stands.proofs.Reach.{Reaches}

-- ---- counting changes no place

schema_counted : (f : Frame) → schema_around (counted f) ≡ schema_around f
schema_counted Outside = refl
schema_counted (InList l) = refl
schema_counted (InObject o) = refl
schema_counted PassedList = refl
schema_counted PassedObject = refl

-- ---- passed over

-- one more that is passed over
passed_more : (q : ℕ) → q ≤ 16 → with_one q ≡ suc q
passed_more q h = let e : q % full_kinds ≡ q = omega arith in rw (e, add-one q)

-- the slots are those of a state in which one more is passed over
pub record PassesIn (s : State) (r : Option Defect) (slots : List ℕ) : Type 0 where
  pub number : ℕ
  pub place : ℕ
  pub laid_so : slots ≡ laid (state s.expect s.kinds s.within 0 (suc s.passed) number place s.held)
  pub is : RefusalIs number place r

not_zero : not_published ≡ 0 → ⊥
not_zero e = omega arith

module _ (s : State) (first : ℕ) {f : Frame} {around : List Frame} {kinds : ℕ} {r : Option Defect} (fr : Frames f around kinds s.within s.wanted s.passed s.held) (rf : RefusalIs s.number s.place r) (x : Waits s.wanted s.within) where
  pub pass_in : PassesIn s (withDefects (misplaced (shape_at s.wanted) (stands (wanted_at s.wanted) f first)) r) (passing_in first (laid s))
  unfolding passing_in
  pass_in =
      let u = unless_laid s rf (is_anything (shape_at s.wanted)) not_published (stands (wanted_at s.wanted) f first) not_zero in
      let m : misplacing first (laid s) ≡ cond (is_anything (shape_at s.wanted)) (laid s) (refusing not_published (stands (wanted_at s.wanted) f first) (laid s)) = rw (any_is x, stands_is s first x fr.passing fr.opened fr.idle) in
      record {
        number = u.number;
        place = u.place;
        laid_so = ap passing (m ∙ u.laid_so) ∙ rw (passed_more s.passed (omega (arith, passed_few fr.passing fr.opened, fr.depth)));
        is = u.is;
      }

-- ---- what the judge makes of it, by whether a list or an object is wanted

opened_passed : (w : Wanted) (f : Frame) (place : ℕ) → is_some (listing_of w.shape) ≡ false → opened_list w f place ≡ PassedList
opened_passed w f place e = go (listing_of w.shape) e
  where
    go : (o : Option Listing) → is_some o ≡ false → (elim o as (λ y. Frame) [ none ↦ PassedList | some l ↦ InList (record { room = l.room; each = l.each; place = place; schema = schema_around f; count = 0 }) ]) ≡ PassedList
    go none e = refl
    go (some l) e = absurd (true≢false e)

pub said_passed : (w : Wanted) (f : Frame) (place : ℕ) → is_some (listing_of w.shape) ≡ false → list_said w f place ≡ misplaced w.shape (stands w f place)
said_passed w f place e = go (listing_of w.shape) e
  where
    go : (o : Option Listing) → is_some o ≡ false → (elim o as (λ y. List Defect) [ none ↦ misplaced w.shape (stands w f place) | some l ↦ [] ]) ≡ misplaced w.shape (stands w f place)
    go none e = refl
    go (some l) e = absurd (true≢false e)

said_judged : (w : Wanted) (f : Frame) (place : ℕ) → is_some (listing_of w.shape) ≡ true → list_said w f place ≡ []
said_judged w f place e = go (listing_of w.shape) e
  where
    go : (o : Option Listing) → is_some o ≡ true → ◌≡◌ {A = List Defect} (elim o as (λ y. List Defect) [ none ↦ misplaced w.shape (stands w f place) | some l ↦ [] ]) []
    go none e = absurd (true≢false (sym e))
    go (some l) e = refl

object_passed_lem : (w : Wanted) (f : Frame) (place : ℕ) → is_some (kind_of w.shape) ≡ false → opened_object w f place ≡ PassedObject
object_passed_lem w f place e = go (kind_of w.shape) e
  where
    go : (o : Option Kind) → is_some o ≡ false → (elim o as (λ y. Frame) [ none ↦ PassedObject | some kind ↦ InObject (record { kind = kind; place = place; schema = schema_place kind place (schema_around f); seen = []; action = none }) ]) ≡ PassedObject
    go none e = refl
    go (some kind) e = absurd (true≢false e)

pub object_said_passed : (w : Wanted) (f : Frame) (place : ℕ) → is_some (kind_of w.shape) ≡ false → object_said w f place ≡ misplaced w.shape (stands w f place)
object_said_passed w f place e = go (kind_of w.shape) e
  where
    go : (o : Option Kind) → is_some o ≡ false → (elim o as (λ y. List Defect) [ none ↦ misplaced w.shape (stands w f place) | some kind ↦ [] ]) ≡ misplaced w.shape (stands w f place)
    go none e = refl
    go (some kind) e = absurd (true≢false e)

object_said_judged : (w : Wanted) (f : Frame) (place : ℕ) → is_some (kind_of w.shape) ≡ true → object_said w f place ≡ []
object_said_judged w f place e = go (kind_of w.shape) e
  where
    go : (o : Option Kind) → is_some o ≡ true → ◌≡◌ {A = List Defect} (elim o as (λ y. List Defect) [ none ↦ misplaced w.shape (stands w f place) | some kind ↦ [] ]) []
    go none e = absurd (true≢false (sym e))
    go (some kind) e = refl

-- the frame around counts the element
opened_counted : (w : Wanted) (f : Frame) (place : ℕ) → opened_list w (counted f) place ≡ opened_list w f place
opened_counted w Outside place = refl
opened_counted w (InList l) place = refl
opened_counted w (InObject o) place = refl
opened_counted w PassedList place = refl
opened_counted w PassedObject place = refl

object_counted : (w : Wanted) (f : Frame) (place : ℕ) → opened_object w (counted f) place ≡ opened_object w f place
object_counted w Outside place = refl
object_counted w (InList l) place = refl
object_counted w (InObject o) place = refl
object_counted w PassedList place = refl
object_counted w PassedObject place = refl

pub stands_counted : (w : Wanted) (f : Frame) (place : ℕ) → stands w (counted f) place ≡ stands w f place
stands_counted w f place = rw (schema_counted f)

first_item_lem : {v w : ℕ} {f : Frame} {wanted : Wanted} → wanted_at v ≡ wanted → bracket_of f ≡ ListBracket → Waits v w → NextIs 1 v w f (FirstItem wanted)
first_item_lem {v} {w} {f} e b x = rw e at (first_item {v = v} {w = w} {f = f} b x)

module _ (s : State) (first : ℕ) {f : Frame} {around : List Frame} {r : Option Defect} (fr : Frames f around s.kinds s.within s.wanted s.passed s.held) (rf : RefusalIs s.number s.place r) (x : Waits s.wanted s.within) (room : length around < 16) where
  abbrev wanted : Wanted
  wanted = wanted_at s.wanted

  -- with the element counted, behind the bracket of a list
  abbrev begun : CountsIn f around r s → State
  begun c = state 1 (with_list s.kinds) s.within s.wanted s.passed c.number c.place c.held

  kinds_begun : (c : CountsIn f around r s) → with_list s.kinds ≡ bits (PassedList ∷ counted f ∷ around)
  kinds_begun c =
      let fc = c.frames in
      let b : s.kinds < full_kinds = rw fc.bit (bits_below (nested fc.passing fc.opened) room) in
      with_list_lem s.kinds b ∙ ap (bits_with ListBracket) fc.bit

  list_passed_lem : is_some (listing_of (shape_at s.wanted)) ≡ false → Reaches r (on_list wanted f around first) (listIn first (counting (laid s)))
  unfolding listIn
  list_passed_lem e =
      let c = counts s fr rf in
      let fc = c.frames in
      let p = pass_in (begun c) first fc c.is x in
      record {
        reached =
            record {
              by = state 1 (with_list s.kinds) s.within 0 (suc s.passed) p.number p.place c.held;
              laid_so = ap (listIn first) c.laid_so ∙ rw e p.laid_so;
              stands =
                  record {
                    nexts = rw (opened_passed wanted f first e) (first_item_lem wanted_any refl anything);
                    frames = rw (opened_passed wanted f first e) (record { judged = fc.judged; passing = list fc.passing; opened = fc.opened; sized = fc.sized; bit = kinds_begun c; depth = room; idle = inr refl });
                    refusal = rw (said_passed wanted f first e, sym (stands_counted wanted f first)) p.is;
                  };
            };
      }

  list_judged : is_some (listing_of (shape_at s.wanted)) ≡ true → Reaches r (on_list wanted f around first) (listIn first (counting (laid s)))
  unfolding listIn
  list_judged e =
      let c = counts s fr rf in
      let fc = c.frames in
      let v = s.wanted in
      let t = list_here x e in
      let en = enter_list v first e (open_here t fc.idle fc.passing fc.opened) in
      let i = item en.opens en.list in
      record {
        reached =
            record {
              by = state 1 (with_list s.kinds) v (item_at v) s.passed c.number c.place en.held;
              laid_so = ap (listIn first) c.laid_so ∙ rw e (en.laid_so 1 (with_list s.kinds) s.within s.passed c.number c.place);
              stands =
                  record {
                    nexts = rw (sym (opened_counted wanted f first)) (first_item_lem i.wanted en.list i.waits);
                    frames =
                        rw (sym (opened_counted wanted f first))
                        (record {
                          judged = opened_list wanted (counted f) first ∷ counted f ∷ around;
                          passing = rw (none_passed t.spot fc.idle) here;
                          opened = en.opens;
                          sized = en.sized fc.sized;
                          bit = kinds_begun c ∙ ap (λ (b : Bracket). bits_with b (bits (counted f ∷ around))) (sym en.list);
                          depth = room;
                          idle = inl (none_passed t.spot fc.idle);
                        });
                    refusal = rw (said_judged wanted f first e) c.is;
                  };
            };
      }

  pub list_reaches : Reaches r (on_list wanted f around first) (listIn first (counting (laid s)))
  list_reaches = cases (is_some (listing_of (shape_at s.wanted))) list_judged list_passed_lem

  -- the same of an object
  abbrev object_begun : CountsIn f around r s → State
  object_begun c = state 3 (with_object s.kinds) s.within s.wanted s.passed c.number c.place c.held

  object_kinds : (c : CountsIn f around r s) → with_object s.kinds ≡ bits (PassedObject ∷ counted f ∷ around)
  object_kinds c =
      let fc = c.frames in
      let b : s.kinds < full_kinds = rw fc.bit (bits_below (nested fc.passing fc.opened) room) in
      with_object_lem s.kinds b ∙ ap (bits_with ObjectBracket) fc.bit

  object_over : is_some (kind_of (shape_at s.wanted)) ≡ false → Reaches r (on_object wanted f around first) (objectIn first (counting (laid s)))
  unfolding objectIn
  object_over e =
      let c = counts s fr rf in
      let fc = c.frames in
      let p = pass_in (object_begun c) first fc c.is x in
      record {
        reached =
            record {
              by = state 3 (with_object s.kinds) s.within 0 (suc s.passed) p.number p.place c.held;
              laid_so = ap (objectIn first) c.laid_so ∙ rw e p.laid_so;
              stands =
                  record {
                    nexts = rw (object_passed_lem wanted f first e) (first_name refl);
                    frames = rw (object_passed_lem wanted f first e) (record { judged = fc.judged; passing = object fc.passing; opened = fc.opened; sized = fc.sized; bit = object_kinds c; depth = room; idle = inr refl });
                    refusal = rw (object_said_passed wanted f first e, sym (stands_counted wanted f first)) p.is;
                  };
            };
      }

  object_judged : is_some (kind_of (shape_at s.wanted)) ≡ true → Reaches r (on_object wanted f around first) (objectIn first (counting (laid s)))
  unfolding objectIn
  object_judged e =
      let c = counts s fr rf in
      let fc = c.frames in
      let v = s.wanted in
      let t = object_here x e in
      let en = enter_object v first e fc.sized (open_here t fc.idle fc.passing fc.opened) in
      record {
        reached =
            record {
              by = state 3 (with_object s.kinds) v v s.passed c.number c.place en.held;
              laid_so = ap (objectIn first) c.laid_so ∙ rw e (en.laid_so 3 (with_object s.kinds) s.within s.passed c.number c.place);
              stands =
                  record {
                    nexts = rw (sym (object_counted wanted f first)) (first_name en.object);
                    frames =
                        rw (sym (object_counted wanted f first))
                        (record {
                          judged = opened_object wanted (counted f) first ∷ counted f ∷ around;
                          passing = rw (none_passed t.spot fc.idle) here;
                          opened = en.opens;
                          sized = en.sized;
                          bit = object_kinds c ∙ ap (λ (b : Bracket). bits_with b (bits (counted f ∷ around))) (sym en.object);
                          depth = room;
                          idle = inl (none_passed t.spot fc.idle);
                        });
                    refusal = rw (object_said_judged wanted f first e) c.is;
                  };
            };
      }

  pub object_reaches : Reaches r (on_object wanted f around first) (objectIn first (counting (laid s)))
  object_reaches = cases (is_some (kind_of (shape_at s.wanted))) object_judged object_over
