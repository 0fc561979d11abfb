-- What is sent at a lexeme: an update where one is closed, of which the store holds the members, and nothing elsewhere.
use Prim.Native.Nat.{ℕ, ◌%◌, ◌<◌}
use mathlib.Core.Path.{◌≡◌, refl, sym, ap, ◌∙◌}
use mathlib.Core.Bool.{Bool, true, false, true≢false, false≢true}
use mathlib.Core.List.{List, [], ◌∷◌, ◌++◌, append-nil}
use mathlib.Core.Logic.{inl, inr}
use mathlib.Core.Option.{Option, none, some}
use native.Mathlib.Omega.{arith}
use borrow.Author.Tests.{eqb-true, eqb-false}
use borrow.Table.Steps.{cases}
use lib.Dec.{eqb}
use Rattle.rules.specs.Words.{is_some}
use Rattle.json_rule.specs.Lexemes.{Lexeme}
use Rattle.json_rule.specs.Tree.{Members, no_member}
use Rattle.json_rule.specs.Records.{Sent}
use Rattle.json_rule.specs.Shapes.{Kind, AnUpdate, Action}
use Rattle.json_judge.specs.Frames.{Frame, is_update}
use Rattle.json_judge.specs.Course.{Happening, FrameEnds}
use Rattle.json_judge.specs.Sending.{Held as HeldMember, Holding, HoldsMembers, members_before, members_held, sent_as, sent_at, Sending, sends_all}
use Rattle.json_members.specs.Slots.{kind_in, seen_in}
use Rattle.json_members.specs.Spots.{row_at, shape_at}
use Rattle.json_members.specs.Rows.{action_at, span_of, through}
use Rattle.json_members.specs.Marks.{lacks_in}
use Rattle.json_members.specs.Model.{Told}
use Rattle.json_store.specs.Puts.{Store, is_silent, put_done_in, put_done}
use Rattle.json_store.specs.Stored.{UpdateHeld}
use Rattle.json_stands.proofs.Marked.{is_marked}
use Rattle.json_stands.proofs.Laid.{Held, State, Sized, laid, seen_laid}
use Rattle.json_stands.proofs.Members.{is_member}
use Rattle.json_stands.proofs.Open.{Open, nothing, updates, update, ids, part, fields, field, Part, snapshot, schema, order, spec, Fields, schema_fields, order_fields, spec_fields, Passed, here, list, object}
use Rattle.json_stands.proofs.Spans.{span_members}
use Rattle.json_stands.proofs.StandsEnds.{left}
use Rattle.json_stands.proofs.Took as took
use Rattle.json_stands.proofs.Took.{FrameWhole, ScalarRight, EndMay, Took}
use Rattle.json_gather.proofs.Owners.{Hand}
use Rattle.json_gather.proofs.Claims.{UpdateMember}
use Rattle.json_gather.proofs.Footprints.{of_all, all_same, member_below}
use Rattle.json_gather.proofs.Holds.{held_at, AllHeld, members}
use Rattle.json_gather.proofs.Fields.{there}
use Rattle.json_gather.proofs.Gathers as gathers
use Rattle.json_gather.proofs.Gathers.{Gathers, is_waiting, is_asking}
use Rattle.json_gather.proofs.Arrives.{is_plain, scalar_plain, update_element}
use Rattle.json_gather.proofs.Complete.{UpdateWhole, update_complete}
use Rattle.json_gather.proofs.Gathered.{hand_of, Gathered, waits_none, with_flags, above_none}
use Rattle.json_gather.proofs.Closed.{update_held}

-- ---- what a frame sends

part_sends : {w : ℕ} {kind : Kind} → Part w kind → is_update kind ≡ false
part_sends snapshot = refl
part_sends schema = refl
part_sends order = refl
part_sends spec = refl

field_sends : {w room x : ℕ} {each kind : Kind} → Fields w room x each kind → is_update each ≡ false
field_sends schema_fields = refl
field_sends order_fields = refl
field_sends spec_fields = refl

-- what is no update sends nothing
open_sends : {h : Held} {w : ℕ} {f : Frame} {fs : List Frame} → (w ≡ 2 → ⊥) → (ms : Members) → Open h w (f ∷ fs) → sent_at f ms ≡ []
open_sends n ms nothing = refl
open_sends n ms updates = refl
open_sends n ms (update u) = absurd (n refl)
open_sends n ms (ids i u) = refl
open_sends n ms (part p m u) = rw (part_sends p)
open_sends n ms (fields f m u) = refl
open_sends n ms (field f a m u) = rw (field_sends f)

update_sends : {h : Held} {f : Frame} {fs : List Frame} → (ms : Members) → Open h 2 (f ∷ fs) → sent_at f ms ≡ sent_as (action_at (h.kind % 256)) ms
update_sends ms (update u) = refl
update_sends {h = h} ms (ids {each = each} {us = us} x7 _) = elim x7 [ ]
update_sends {h = h} ms (part {kind = kind} {ps = ps} {us = us} x11 _ _) = elim x11 [ ]
update_sends {h = h} ms (fields {room = room} {each = each} {kind = kind} {ps = ps} {us = us} x16 _ _) = elim x16 [ ]
update_sends {h = h} ms (field {w = w} {room = room} {each = each} {kind = kind} {fs = fs} {ps = ps} {us = us} x17 _ _ _) = elim x17 [ ]

-- what is passed over sends nothing
passed_sends : {q : ℕ} {f : Frame} {fs js : List Frame} → (q ≡ 0 → ⊥) → (ms : Members) → Passed q (f ∷ fs) js → sent_at f ms ≡ []
passed_sends n ms here = absurd (n refl)
passed_sends n ms (list y) = refl
passed_sends n ms (object y) = refl

-- ---- the open update

record OpenUpdate (a : Hand) (js : List Holding) : Type 0 where
  place : ℕ
  hs : List HeldMember
  rest : List Holding
  is : js ≡ HoldsMembers place hs ∷ rest
  held : AllHeld AnUpdate a hs

open_update : {a : Hand} {items wanted : ℕ} {asks : Bool} {js : List Holding} → Gathers a items false asks wanted 2 js → OpenUpdate a js
open_update (gathers.update (members {place = place} {hs = hs} h)) = record { place = place; hs = hs; rest = _; is = refl; held = h }
open_update {a = a} {items = items} {wanted = wanted} {asks = asks} (gathers.ids {p = p} {q = q} {r = r} {each = each} {xs = xs} {ys = ys} {us = us} {t = t} x7 _ _) = elim x7 [ ]
open_update {a = a} {items = items} {wanted = wanted} {asks = asks} (gathers.part {q = q} {r = r} {kind = kind} {ys = ys} {us = us} {t = t} {h = h} x8 _ _) = elim x8 [ ]
open_update {a = a} {items = items} {wanted = wanted} {asks = asks} (gathers.fields {v = v} {room = room} {p = p} {q = q} {r = r} {z = z} {each = each} {kind = kind} {xs = xs} {ys = ys} {ps = ps} {us = us} {t = t} {n = n} x16 _ _ _ _) = elim x16 [ ]
open_update {a = a} {items = items} {wanted = wanted} {asks = asks} (gathers.field {w = w} {v = v} {room = room} {p = p} {q = q} {r = r} {z = z} {each = each} {kind = kind} {xs = xs} {ys = ys} {ps = ps} {us = us} {t = t} {n = n} {h = h} x21 _ _ _ _ _ _ _) = elim x21 [ ]

-- ---- what is sent

pub data SentBy (to : State) (st : Store) (spot : ℕ) (before after : List Sent) : Type 0 where
  nothing_sent : (spot ≡ 2 → ⊥) → after ≡ before → SentBy to st spot before after
  update_sent : spot ≡ 2 → (a : Action) (ms : Members) → action_at (kind_in (laid to)) ≡ some a → UpdateHeld (laid to) st.numbers st.texts (kind_in (laid to)) ms → after ≡ before ++ a.sends ms ∷ []
      → SentBy to st spot before after

silent_two : (o : Told) (slots : List ℕ) (st : Store) → put_done 2 o slots st ≡ st
unfolding put_done_in is_silent
silent_two o slots st = refl

module _ (s : State) (st : Store) (sd : Sending) (g : Gathered s st sd.holdings) (t : Lexeme) (o : Told) (z : Sized s.held.marks s.held.places) where
  -- an update is closed
  module _ (f : Frame) (around : List Frame) (n p : ℕ) (may : EndMay s) (i : FrameWhole s f around) (e : s.within ≡ 2) where
    abbrev to : State
    to = left n p s

    sees : (m : ℕ) → m < 64 → seen_in (laid to) m ≡ is_marked s.held.marks m
    sees m h = seen_laid to z m h

    flags : is_waiting s.expect s.passed ≡ false
    flags = by_end may
      where
        by_end : EndMay s → is_waiting s.expect s.passed ≡ false
        by_end (inl q) = waits_none s.expect s.passed i.none_passed (rw q)
        by_end (inr (inl q)) = waits_none s.expect s.passed i.none_passed (rw q)
        by_end (inr (inr q)) = waits_none s.expect s.passed i.none_passed (rw q)

    opened : OpenUpdate (hand_of s st) g.judged
    opened =
        let x : Gathers (hand_of s st) s.held.items (is_waiting s.expect s.passed) (is_asking s.expect s.passed) s.wanted 2 g.judged = rw e at g.gathers in
        open_update (with_flags flags refl x)

    whole : UpdateWhole (laid to)
    whole =
        let w = update_complete (laid s) (ap (λ (w : ℕ). lacks_in w (laid s)) (sym e) ∙ i.lacks) in
        record {
          action = sees 3 (omega arith) ∙ (sym (seen_laid s z 3 (omega arith)) ∙ w.action);
          required =
              all_same (seen_in (laid to)) (seen_in (laid s)) (through (span_of (kind_in (laid s))).first (span_of (kind_in (laid s))).must)
              (λ m q. let h = member_below AnUpdate m (of_all (is_member AnUpdate) (through (span_of (kind_in (laid s))).first (span_of (kind_in (laid s))).must) m q (span_members (kind_in (laid s)))) in
              sees m (omega arith) ∙ sym (seen_laid s z m (omega arith)))
              ∙ w.required;
        }

    -- its action is known
    acts : is_some (action_at (s.held.kind % 256)) ≡ true
    unfolding row_at
    acts =
        let x = opened in
        let y = there (UpdateMember (hand_of s st)) s.held.marks 3 (held_at 3 x.hs) (sym (sees 3 (omega arith)) ∙ whole.action) (x.held.each 3 refl) in
        y.held.acts refl

    sent_so : (sends_all (FrameEnds f ∷ []) sd).sent ≡ sd.sent ++ sent_as (action_at (s.held.kind % 256)) (members_before opened.hs no_member)
    sent_so =
        let x = opened in
        let op : Open s.held 2 (f ∷ around) = rw e at i.opened in
        let m : members_held sd.holdings ≡ members_before x.hs no_member = ap members_held (above_none i.none_passed g.above ∙ x.is) in
        ap (λ (ms : Members). sd.sent ++ sent_at f ms) m ∙ ap (λ (l : List Sent). sd.sent ++ l) (update_sends (members_before x.hs no_member) op)

    update_closed : SentBy to (put_done s.within o (laid to) st) s.within sd.sent (sends_all (FrameEnds f ∷ []) sd).sent
    update_closed = by_action (action_at (s.held.kind % 256)) refl acts
      where
        by_action : (a : Option Action) → action_at (s.held.kind % 256) ≡ a → is_some a ≡ true → SentBy to (put_done s.within o (laid to) st) s.within sd.sent (sends_all (FrameEnds f ∷ []) sd).sent
        by_action none q h = absurd (false≢true h)
        by_action (some a) q h =
            let ms = members_before opened.hs no_member in
            let same : put_done s.within o (laid to) st ≡ st = ap (λ (w : ℕ). put_done w o (laid to) st) e ∙ silent_two o (laid to) st in
            let uh : UpdateHeld (laid to) st.numbers st.texts (kind_in (laid to)) ms = update_held (laid to) (hand_of s st) sees opened.hs opened.held whole in
            update_sent e a ms q (rw same uh) (sent_so ∙ ap (λ (x : Option Action). sd.sent ++ sent_as x ms) q)

  not_two : ◌≡◌ {A = ℕ} 0 2 → ⊥
  not_two q = omega arith

  -- a value is no update
  scalar_not_two : ScalarRight s t → s.wanted ≡ 2 → ⊥
  scalar_not_two i q = true≢false (sym (scalar_plain (shape_at s.wanted) t i.right) ∙ (ap (λ (x : ℕ). is_plain (shape_at x)) q ∙ update_element))

  pub sent_by_lem : {f : Frame} {around js : List Frame} {to : State} {spot : ℕ} {hs : List Happening} → Passed s.passed (f ∷ around) js → Took s t f around to spot hs → SentBy to (put_done spot o (laid to) st) spot sd.sent (sends_all hs sd).sent
  sent_by_lem y (took.stays e) = nothing_sent not_two refl
  sent_by_lem y (took.colon e) = nothing_sent not_two refl
  sent_by_lem y (took.comma_name e b) = nothing_sent not_two refl
  sent_by_lem y (took.comma_item e b n) = nothing_sent not_two refl
  sent_by_lem y (took.name may i) = nothing_sent not_two refl
  sent_by_lem y (took.name_passed may q) = nothing_sent not_two refl
  sent_by_lem y (took.list may i) = nothing_sent not_two refl
  sent_by_lem y (took.object may i) = nothing_sent not_two refl
  sent_by_lem y (took.list_passed may e x) = nothing_sent not_two refl
  sent_by_lem y (took.object_passed may e x) = nothing_sent not_two refl
  sent_by_lem y (took.scalar_any may e x) = nothing_sent not_two refl
  sent_by_lem y (took.action i x) = nothing_sent not_two refl
  sent_by_lem y (took.scalar may i) = nothing_sent (scalar_not_two i) refl
  sent_by_lem {f} {around} y (took.closes {n = n} {p = p} may i) =
      cases (eqb s.within 2)
      (λ t. update_closed f around n p may i (eqb-true s.within 2 t))
      (λ t. nothing_sent (eqb-false s.within 2 t) (ap (λ (l : List Sent). sd.sent ++ l) (open_sends (eqb-false s.within 2 t) (members_held sd.holdings) i.opened) ∙ append-nil sd.sent))
  sent_by_lem y (took.closes_passed may q) = nothing_sent not_two (ap (λ (l : List Sent). sd.sent ++ l) (passed_sends q (members_held sd.holdings) y) ∙ append-nil sd.sent)
