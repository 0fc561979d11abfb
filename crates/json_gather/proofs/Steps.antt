-- One whole lexeme behind which nothing is refused keeps what is gathered.
use Prim.Native.Nat.{ℕ, zero, suc, ◌-◌, ◌%◌}
use native.Mathlib.Nat.{suc-ne-zero}
use mathlib.Core.Path.{◌≡◌, refl, sym, ap, ◌∙◌}
use mathlib.Core.Bool.{Bool, true, false}
use mathlib.Core.List.{List, [], ◌∷◌}
use mathlib.Core.Logic.{◌⊎◌, inl, inr}
use native.Mathlib.Omega.{arith}
use borrow.Author.Tests.{eqb-true, eqb-false, ne_eqb}
use borrow.Table.Steps.{cases}
use lib.Dec.{eqb}
use Rattle.rules.specs.Words.{is_some}
use Rattle.json_rule.specs.Lexemes.{Lexeme}
use Rattle.json_rule.specs.Tree.{Json, Scalar}
use Rattle.json_rule.specs.Defects.{listing_of}
use Rattle.json_judge.specs.Frames.{Frame}
use Rattle.json_judge.specs.Course.{Happening, ListBegins, ObjectBegins, ScalarStands, NameStands, FrameEnds}
use Rattle.json_judge.specs.Sending.{Holding, HoldsItems, HoldsMembers, put, naming, closed_as, closing, Sending, sends_all}
use Rattle.json_members.specs.Kept.{LexemeKept}
use Rattle.json_members.specs.Slots.{seen_in}
use Rattle.json_members.specs.Spots.{shape_at}
use Rattle.json_members.specs.Rows.{action_at}
use Rattle.json_members.specs.Model.{Told, told}
use Rattle.json_store.specs.Puts.{Store, is_silent, put_done_in, put_done}
use Rattle.json_store.proofs.Kept.{put_done_long}
use Rattle.json_stands.proofs.Marked.{is_marked}
use Rattle.json_stands.proofs.Laid.{Held, State, state, Sized, laid, changed, seen_laid}
use Rattle.json_stands.proofs.Stands.{wanted_at}
use Rattle.json_stands.proofs.Acting.{KindOf, acted}
use Rattle.json_stands.proofs.StandsScalars.{behind}
use Rattle.json_stands.proofs.StandsEnds.{left, skipped}
use Rattle.json_stands.proofs.StandsNames.{behind_known, behind_other}
use Rattle.json_stands.proofs.Named.{object_kind}
use Rattle.json_stands.proofs.Begins.{held_then, in_judged_list, in_judged_object}
use Rattle.json_stands.proofs.Holds.{count_in}
use Rattle.json_stands.proofs.Took.{Elements, Kept, ValueMay, NameMay, NextItem, KnownMember, ListEntered, ObjectEntered, ActionKnown, ScalarRight, FrameWhole, moved, Took, stays, colon, comma_name, comma_item, name, name_passed, list, object, list_passed, object_passed, scalar_any, action, scalar, closes, closes_passed}
use Rattle.json_gather.proofs.Owners.{hand}
use Rattle.json_gather.proofs.Values.{put_hand, Long}
use Rattle.json_gather.proofs.Gathers.{Gathers, Above, here, more, is_waiting, is_asking, as_list, update_no_list as no-list-in-update}
use Rattle.json_gather.proofs.Names.{name_step}
use Rattle.json_gather.proofs.Begins.{list_begins, MoreItems, object_begins}
use Rattle.json_gather.proofs.Arrives.{arrives, any_arrives, of_kind, action_arrives, scalar_arrives, element_arrives}
use Rattle.json_gather.proofs.Complete.{part_complete, field_complete}
use Rattle.json_gather.proofs.Closes.{Closable, closes as closes-it}
use Rattle.json_gather.proofs.Gathered.{hand_of, Gathered, passed_waits, waits_at, asks_too, asks_first, waits_none, asks_none, with_flags, with_wanted, with_held, above_none, here_at, put_above, naming_above, held_same, value_ready, nothing_in_list}

-- nothing is put
silent : (o : Told) (slots : List ℕ) (st : Store) → put_done 0 o slots st ≡ st
unfolding put_done_in is_silent
silent o slots st = refl

module _ (s : State) (st : Store) (sd : Sending) (g : Gathered s st sd.holdings) (t : Lexeme) {kept : List ℕ} {len : ℕ} {integer : Bool} {magnitude : ℕ} (k : LexemeKept kept len integer magnitude t) where
  abbrev o : Told
  o = told kept t.head t.first len integer magnitude

  -- what is gathered behind it
  abbrev Behind : State → ℕ → List Happening → Type 0
  Behind to spot hs = Gathered to (put_done spot o (laid to) st) (sends_all hs sd).holdings

  -- where nothing is put
  quiet : (to : State) (hs : List Happening) → Gathered to st (sends_all hs sd).holdings → Behind to 0 hs
  quiet to hs x = rw (silent o (laid to) st) x

  after_colon_lem : s.expect ≡ 4 → Behind (moved 0 s.wanted s) 0 []
  after_colon_lem e =
      let w = waits_at s.expect s.passed (rw e) in
      let v = waits_at 0 s.passed refl in
      quiet (moved 0 s.wanted s) []
      (record {
        judged = g.judged;
        above = g.above;
        gathers = with_flags (w ∙ sym v) (asks_too s.expect s.passed w ∙ sym (asks_too 0 s.passed v)) g.gathers;
        long = g.long;
        sized = g.sized;
        idle = g.idle;
        first = λ z. absurd (omega arith);
        goes = λ z. omega arith;
      })

  -- a comma, and a name: as before
  after_comma : s.expect ≡ 5 → Behind (moved 2 s.wanted s) 0 []
  after_comma e =
      let same : is_waiting s.expect s.passed ≡ is_waiting 2 s.passed = rw e in
      let asks : is_asking s.expect s.passed ≡ is_asking 2 s.passed = rw e in
      quiet (moved 2 s.wanted s) []
      (record {
        judged = g.judged;
        above = g.above;
        gathers = with_flags same asks g.gathers;
        long = g.long;
        sized = g.sized;
        idle = g.idle;
        first = λ z. absurd (omega arith);
        goes = λ z. omega arith;
      })

  -- a comma, and an element
  after_item : (v : ℕ) → s.expect ≡ 5 → NextItem s v → Behind (moved 0 v s) 0 []
  after_item v e n =
      let w = waits_at 0 s.passed refl in
      quiet (moved 0 v s) []
      (record {
        judged = g.judged;
        above = g.above;
        gathers =
            cases (eqb s.passed 0)
            (λ z. let i = n.judged (eqb-true s.passed 0 z) in as_list (is_waiting 0 s.passed) (is_asking 0 s.passed) v i.1 (λ _. i.0) g.gathers)
            (λ z. let q = eqb-false s.passed 0 z in
            let p = passed_waits s.expect s.passed q in
            rw (n.passed q ∙ sym (g.idle q)) (with_flags (p ∙ sym w) (asks_too s.expect s.passed p ∙ sym (asks_too 0 s.passed w)) g.gathers));
        long = g.long;
        sized = g.sized;
        idle = n.passed;
        first = λ z. absurd (omega arith);
        goes = λ z. omega arith;
      })

  -- ---- names

  name_flags : NameMay s → s.passed ≡ 0 → (is_waiting s.expect s.passed ≡ false) × (is_asking s.expect s.passed ≡ false)
  name_flags (inl e) z = let w = waits_none s.expect s.passed z (rw e) in (w, asks_none s.expect s.passed w (rw e))
  name_flags (inr e) z = let w = waits_none s.expect s.passed z (rw e) in (w, asks_none s.expect s.passed w (rw e))

  after_name_lem : (f : Frame) (m n p : ℕ) → NameMay s → KnownMember s t m → Sized (behind_known m t.first n p s).held.marks (behind_known m t.first n p s).held.places → Behind (behind_known m t.first n p s) 0 (NameStands f t ∷ [])
  after_name_lem f m n p may i z =
      let q = i.none_passed in
      let to = behind_known m t.first n p s in
      let fl = name_flags may q in
      let w = waits_at 4 s.passed refl in
      quiet to (NameStands f t ∷ [])
      (record {
        judged = naming t g.judged;
        above = rw (above_none q g.above) (here_at q);
        gathers =
            with_flags (sym w) (sym (asks_too 4 s.passed w))
            (name_step (hand_of s st) s.held.items s.wanted t m i.kind i.is_member i.text i.unseen g.sized (rw i.object (object_kind i.kind)) (with_flags fl.0 fl.1 g.gathers));
        long = record { numbers = g.long.numbers; texts = g.long.texts };
        sized = z.marks_all;
        idle = λ y. absurd (y q);
        first = λ y. absurd (omega arith);
        goes = λ y. omega arith;
      })

  after_name_passed : (f : Frame) (n p : ℕ) → (s.passed ≡ 0 → ⊥) → Behind (behind_other n p s) 0 (NameStands f t ∷ [])
  after_name_passed f n p q =
      let w = passed_waits s.expect s.passed q in
      let v = passed_waits 4 s.passed q in
      quiet (behind_other n p s) (NameStands f t ∷ [])
      (record {
        judged = g.judged;
        above = naming_above t q g.above;
        gathers = with_wanted (g.idle q) (with_flags (w ∙ sym v) (asks_too s.expect s.passed w ∙ sym (asks_too 4 s.passed v)) g.gathers);
        long = g.long;
        sized = g.sized;
        idle = λ y. refl;
        first = λ y. absurd (omega arith);
        goes = λ y. omega arith;
      })

  -- ---- lists and objects that begin

  after_list : (f : Frame) (n p : ℕ) (h : Held) → ValueMay s → ListEntered s t.first h → Sized h.marks h.places → Behind (in_judged_list n p h s) 0 (ListBegins (wanted_at s.wanted) f t.first ∷ [])
  after_list f n p h may i z =
      let q = i.in_place.none_passed in
      let v = s.wanted in
      let now = list_begins (hand_of s st) s.held.items v t.first i.is_list h.items i.items (value_ready g may) in
      quiet (in_judged_list n p h s) (ListBegins (wanted_at v) f t.first ∷ [])
      (record {
        judged = HoldsItems t.first [] ∷ g.judged;
        above = rw (above_none q g.above) (here_at q);
        gathers = rw (i.kept.marks, i.kept.kind) (with_flags (sym (waits_none 1 s.passed q refl)) (sym (asks_first s.passed)) now);
        long = record { numbers = g.long.numbers; texts = g.long.texts };
        sized = z.marks_all;
        idle = λ y. absurd (y q);
        first = λ _ _. i.is_list;
        goes = λ y. omega arith;
      })

  one_more_lem : (w : ℕ) (h : Held) → Elements w s.held h → (w ≡ 1 → ⊥) → MoreItems w s.held.items h.items
  one_more_lem w h e n =
      let same : (x : Held) → count_in w x ≡ x.items = λ x. rw (ne_eqb w 1 n) in
      record { more = sym (same h) ∙ (e.more ∙ ap suc (same s.held)); room = rw (sym (same s.held)) e.room }

  after_object : (f : Frame) (n p : ℕ) (h : Held) → ValueMay s → ObjectEntered s t.first h → Sized h.marks h.places → Behind (in_judged_object n p h s) 0 (ObjectBegins (wanted_at s.wanted) f t.first ∷ [])
  after_object f n p h may i z =
      let q = i.in_place.none_passed in
      let v = s.wanted in
      let now : Gathers (hand h.kind h.marks st) h.items false false v v (HoldsMembers t.first [] ∷ g.judged)
      = object_begins (hand_of s st) (hand h.kind h.marks st) s.held.items v t.first i.kind i.is_object g.sized i.marks (λ y. rw (i.marks, i.same_kind y)) h.items (λ l y. one_more_lem s.within h (i.elements l) y) (value_ready g may) in
      let w = waits_none 3 s.passed q refl in
      quiet (in_judged_object n p h s) (ObjectBegins (wanted_at v) f t.first ∷ [])
      (record {
        judged = HoldsMembers t.first [] ∷ g.judged;
        above = rw (above_none q g.above) (here_at q);
        gathers = with_flags (sym w) (sym (asks_none 3 s.passed w refl)) now;
        long = record { numbers = g.long.numbers; texts = g.long.texts };
        sized = z.marks_all;
        idle = λ y. absurd (y q);
        first = λ y. absurd (omega arith);
        goes = λ y. omega arith;
      })

  -- ---- what is passed over

  -- where nothing is wanted, no list counts
  then_same : ValueMay s → s.wanted ≡ 0 → held_then s ≡ s.held
  then_same may e = held_same s (nothing_in_list e (value_ready g may))

  after_passed : (expect kinds n p : ℕ) (h : Holding) → ValueMay s → s.wanted ≡ 0 → (expect ≡ 6 → ⊥) → Sized (held_then s).marks (held_then s).places → Gathered (state expect kinds s.within 0 (suc s.passed) n p (held_then s)) st (h ∷ sd.holdings)
  after_passed expect kinds n p h may e x z =
      let w = passed_waits expect (suc s.passed) (suc-ne-zero s.passed) in
      let same = then_same may e in
      record {
        judged = g.judged;
        above = more g.above;
        gathers = with_held s st same (with_wanted e (with_flags (sym w) (sym (asks_too expect (suc s.passed) w)) (value_ready g may)));
        long = record { numbers = g.long.numbers; texts = g.long.texts };
        sized = z.marks_all;
        idle = λ y. refl;
        first = λ y q. absurd (suc-ne-zero s.passed q);
        goes = x;
      }

  -- a value ends where anything may stand
  record Over (q : ℕ) (hs : List Holding) : Type 0 where
    judged : List Holding
    above : Above q hs judged
    gathers : Gathers (hand_of s st) s.held.items (is_waiting 5 q) (is_asking 5 q) 0 s.within judged

  value_over : (q : ℕ) (hs : List Holding) (x : Json) → Above q hs g.judged → Gathers (hand_of s st) s.held.items true true 0 s.within g.judged → Over q (put x hs)
  value_over q hs x a r =
      cases (eqb q 0)
      (λ z. let e = eqb-true q 0 z in
      let w = waits_none 5 q e refl in
      record {
        judged = put x g.judged;
        above = rw (above_none e a) (here_at e);
        gathers =
            with_flags (sym w) (sym (asks_none 5 q w refl))
            (arrives (hand_of s st) (hand_of s st) s.held.items 0 x refl (any_arrives (hand_of s st) x) (nothing_in_list refl r) r);
      })
      (λ z. let n = eqb-false q 0 z in
      let w = passed_waits 5 q n in
      record { judged = g.judged; above = put_above x n a; gathers = with_flags (sym w) (sym (asks_too 5 q w)) r })

  after_any : (f : Frame) (n p : ℕ) → ValueMay s → s.wanted ≡ 0 → Sized (held_then s).marks (held_then s).places → Behind (changed n p (held_then s) (behind s)) 0 (ScalarStands (wanted_at s.wanted) f t ∷ [])
  after_any f n p may e z =
      let y = value_over s.passed sd.holdings (Scalar t) g.above (with_wanted e (value_ready g may)) in
      quiet (changed n p (held_then s) (behind s)) (ScalarStands (wanted_at s.wanted) f t ∷ [])
      (record {
        judged = y.judged;
        above = y.above;
        gathers = with_held s st (then_same may e) (with_wanted (sym e) y.gathers);
        long = record { numbers = g.long.numbers; texts = g.long.texts };
        sized = z.marks_all;
        idle = λ _. e;
        first = λ y. absurd (omega arith);
        goes = λ y. omega arith;
      })

  after_end_passed : (f : Frame) → (s.passed ≡ 0 → ⊥) → Behind (skipped s) 0 (FrameEnds f ∷ [])
  after_end_passed f n = quiet (skipped s) (FrameEnds f ∷ []) (by_above s.passed sd.holdings refl refl g.above)
    where
      by_above : (q : ℕ) (hs : List Holding) → s.passed ≡ q → sd.holdings ≡ hs → Above q hs g.judged → Gathered (skipped s) st (closing hs)
      by_above zero hs e f here = absurd (n e)
      by_above (suc q) [] e f x4 = elim x4 [ ]
      by_above (suc q) (h ∷ hs) e f (more a) =
          let w = passed_waits s.expect s.passed n in
          let r : Gathers (hand_of s st) s.held.items true true 0 s.within g.judged = with_wanted (g.idle n) (with_flags w (asks_too s.expect s.passed w) g.gathers) in
          let y = value_over q hs (closed_as h) a r in
          let less : s.passed - 1 ≡ q = less_by e in
          record {
            judged = y.judged;
            above = rw less y.above;
            gathers = with_wanted (sym (g.idle n)) (rw less y.gathers);
            long = record { numbers = g.long.numbers; texts = g.long.texts };
            sized = g.sized;
            idle = λ _. g.idle n;
            first = λ y. absurd (omega arith);
            goes = λ y. omega arith;
          }
        where
          less_by : s.passed ≡ suc q → s.passed - 1 ≡ q
          less_by e = omega arith

  -- ---- values

  update_no_list : s.within ≡ 2 → is_some (listing_of (shape_at s.within)) ≡ false
  update_no_list e = rw e (no-list-in-update)

  after_action : (f : Frame) (kind n p : ℕ) → ActionKnown s t kind → Sized (held_then s).marks (held_then s).places → Behind (changed n p (acted kind (held_then s)) (behind s)) 0 (ScalarStands (wanted_at s.wanted) f t ∷ [])
  after_action f kind n p i z =
      let q = i.none_passed in
      let l = update_no_list i.object in
      let same = held_same s l in
      let w = waits_none 5 s.passed q refl in
      let is : is_some (action_at (kind % 256)) ≡ true = acts i.is_kind in
      let now : Gathers (of_kind kind (hand_of s st)) s.held.items false false 3 s.within (put (Scalar t) g.judged)
      = arrives (hand_of s st) (of_kind kind (hand_of s st)) s.held.items 3 (Scalar t) refl (action_arrives (hand_of s st) kind (Scalar t) is) l (with_wanted i.wanted (value_ready g (inl i.expects))) in
      quiet (changed n p (acted kind (held_then s)) (behind s)) (ScalarStands (wanted_at s.wanted) f t ∷ [])
      (record {
        judged = put (Scalar t) g.judged;
        above = rw (above_none q g.above) (here_at q);
        gathers = with_then kind same (with_flags (sym w) (sym (asks_none 5 s.passed w refl)) (with_wanted (sym i.wanted) now));
        long = record { numbers = g.long.numbers; texts = g.long.texts };
        sized = z.marks_all;
        idle = λ y. absurd (y q);
        first = λ y. absurd (omega arith);
        goes = λ y. omega arith;
      })
    where
      acts : KindOf kind i.action → is_some (action_at (kind % 256)) ≡ true
      acts y =
          let e : kind % 256 ≡ kind = omega (arith, y.small) in
          rw (e, y.action)

      with_then : (kind : ℕ) {h : Held} {wanted w : ℕ} {p q : Bool} {js : List Holding} → h ≡ s.held → Gathers (of_kind kind (hand_of s st)) s.held.items p q wanted w js → Gathers (hand kind h.marks st) h.items p q wanted w js
      with_then kind e y = rw e y

  -- how long what is put is
  put_long : (spot : ℕ) (to : State) → Long (hand_of to (put_done spot o (laid to) st))
  put_long spot to =
      let l = put_done_long spot o (laid to) st in
      record { numbers = l.numbers ∙ g.long.numbers; texts = l.texts ∙ g.long.texts }

  -- with what is held then, and whether the id of a partition field was seen
  value_put_lem : (h : Held) (given : Bool) → ValueMay s → ScalarRight s t → (is_some (listing_of (shape_at s.within)) ≡ true → Elements s.within s.held h) → (is_some (listing_of (shape_at s.within)) ≡ false → h ≡ s.held) → Kept s h
      → Gathers (hand h.kind h.marks (put_done_in s.wanted o h.items given st)) h.items false false s.wanted s.within (put (Scalar t) g.judged)
  value_put_lem h given may i counts same kept =
      let a = hand_of s st in
      let v = s.wanted in
      rw (kept.marks, kept.kind)
      (cases (is_some (listing_of (shape_at s.within)))
      (λ l. element_arrives a g.long t k v s.held.items h.items given i.judged i.right l (λ y. one_more_lem s.within h (counts l) y) (value_ready g may))
      (λ l. let e : h.items ≡ s.held.items = ap (λ (x : Held). x.items) (same l) in
      rw e (arrives a (put_hand v o s.held.items given a) s.held.items v (Scalar t) refl (scalar_arrives a g.long t k v s.held.items given i.judged i.right) l (value_ready g may))))

  after_scalar : (f : Frame) (n p : ℕ) → ValueMay s → ScalarRight s t → Sized (held_then s).marks (held_then s).places → Behind (changed n p (held_then s) (behind s)) s.wanted (ScalarStands (wanted_at s.wanted) f t ∷ [])
  after_scalar f n p may i z =
      let q = i.in_place.none_passed in
      let to = changed n p (held_then s) (behind s) in
      let w = waits_none 5 s.passed q refl in
      record {
        judged = put (Scalar t) g.judged;
        above = rw (above_none q g.above) (here_at q);
        gathers = with_flags (sym w) (sym (asks_none 5 s.passed w refl)) (value_put_lem (held_then s) (seen_in (laid to) 55) may i i.elements (held_same s) i.kept);
        long = put_long s.wanted to;
        sized = z.marks_all;
        idle = λ y. absurd (y q);
        first = λ y. absurd (omega arith);
        goes = λ y. omega arith;
      }

  -- ---- ends

  end_flags : (s.expect ≡ 1) ⊎ ((s.expect ≡ 3) ⊎ (s.expect ≡ 5)) → s.passed ≡ 0 → is_waiting s.expect s.passed ≡ false
  end_flags (inl e) z = waits_none s.expect s.passed z (rw e)
  end_flags (inr (inl e)) z = waits_none s.expect s.passed z (rw e)
  end_flags (inr (inr e)) z = waits_none s.expect s.passed z (rw e)

  after_end : (f : Frame) (around : List Frame) (n p : ℕ) → (s.expect ≡ 1) ⊎ ((s.expect ≡ 3) ⊎ (s.expect ≡ 5)) → FrameWhole s f around → Sized s.held.marks s.held.places → Behind (left n p s) s.within (FrameEnds f ∷ [])
  after_end f around n p may i z =
      let q = i.none_passed in
      let to = left n p s in
      let a = hand_of s st in
      let marked : seen_in (laid to) 55 ≡ is_marked a.marks 55 = seen_laid to z 55 (omega arith) in
      let can : Closable a s.within = record { of_part = λ kind x. part_complete s z x i.lacks; of_field = λ list room each kind x. field_complete s z x i.lacks } in
      record {
        judged = closing g.judged;
        above = rw (above_none q g.above) here;
        gathers = closes-it a g.long o s.held.items (seen_in (laid to) 55) marked can (with_flags (end_flags may q) refl g.gathers);
        long = put_long s.within to;
        sized = g.sized;
        idle = λ y. absurd (y refl);
        first = λ y. absurd (omega arith);
        goes = λ y. omega arith;
      }

  -- ---- all

  pub took_gathers : {f : Frame} {around : List Frame} {to : State} {spot : ℕ} {hs : List Happening} → Sized s.held.marks s.held.places → Sized to.held.marks to.held.places → Took s t f around to spot hs → Behind to spot hs
  took_gathers z y (stays e) = absurd (g.goes e)
  took_gathers z y (colon e) = after_colon_lem e
  took_gathers z y (comma_name e b) = after_comma e
  took_gathers z y (comma_item {v = v} e b n) = after_item v e n
  took_gathers {f} z y (name {m = m} {n = n} {p = p} may i) = after_name_lem f m n p may i y
  took_gathers {f} z y (name_passed {n = n} {p = p} may q) = after_name_passed f n p q
  took_gathers {f} z y (list {n = n} {p = p} {g = h} may i) = after_list f n p h may i y
  took_gathers {f} z y (object {n = n} {p = p} {g = h} may i) = after_object f n p h may i y
  took_gathers {f} z y (list_passed {n = n} {p = p} may e x) = quiet _ (ListBegins (wanted_at s.wanted) f t.first ∷ []) (after_passed 1 _ n p (HoldsItems t.first []) may e (λ q. omega arith) y)
  took_gathers {f} z y (object_passed {n = n} {p = p} may e x) = quiet _ (ObjectBegins (wanted_at s.wanted) f t.first ∷ []) (after_passed 3 _ n p (HoldsMembers t.first []) may e (λ q. omega arith) y)
  took_gathers {f} z y (scalar_any {n = n} {p = p} may e x) = after_any f n p may e y
  took_gathers {f} z y (action {kind = kind} {n = n} {p = p} i x) = after_action f kind n p i y
  took_gathers {f} z y (scalar {n = n} {p = p} may i) = after_scalar f n p may i y
  took_gathers {f} {around} z y (closes {n = n} {p = p} may i) = after_end f around n p may i z
  took_gathers {f} z y (closes_passed may q) = after_end_passed f q
