-- At the end of the text: the reader answers what is answered to what was sent and to the judge's refusal.
use Prim.Native.Nat.{ℕ, ◌%◌, ◌≤◌, ◌<◌}
use native.Mathlib.Nat.{mod-eq_of_lt}
use native.Mathlib.Omega.{arith}
use mathlib.Core.Path.{◌≡◌, refl, sym, ap, ◌∙◌}
use mathlib.Core.Bool.{true, true≢false}
use mathlib.Core.List.{List, [], ◌∷◌}
use mathlib.Core.Option.{Option, none, some}
use borrow.Author.Tests.{eqb-true, ne_eqb, eq-eqb}
use borrow.Table.Steps.{cases}
use lib.Dec.{eqb}
use lib.ListN.{length, get_or}
use Rattle.records.specs.Blanks.{no_updates}
use Rattle.records.specs.declared.update.UpdateList.{UpdateList}
use Rattle.rules.specs.Kinds.{laid_updates}
use Rattle.rules.specs.Layout.{pad}
use Rattle.json_rule.specs.Tree.{Defect}
use Rattle.json_rule.specs.Records.{Sent, updates_from, offers_of}
use Rattle.json_rule.specs.Reading.{answered}
use Rattle.json_rule.proofs.Fits.{offers_room}
use Rattle.json_judge.specs.Frames.{Frame, bracket_of}
use Rattle.json_judge.specs.Course.{at_end, is_outside as isNothing}
use Rattle.json_judge.specs.Judging.{Judge, finished}
use Rattle.json_members.specs.Slots.{number_in, place_in}
use Rattle.json_members.specs.Nesting.{is_outside}
use Rattle.json_members.specs.Refusing.{sooner_in, refusing, stopping}
use Rattle.json_members.specs.Model.{taking_end}
use Rattle.json_made.proofs.Listed.{ListMade, list_ends}
use Rattle.json_stands.proofs.Laid.{Held, State, laid}
use Rattle.json_stands.proofs.Refused.{RefusalIs, accepted, refused}
use Rattle.json_stands.proofs.Bits.{bits_outside}
use Rattle.json_stands.proofs.Nested.{nested}
use Rattle.json_stands.proofs.Open.{Open, nothing, updates, update, ids, part, fields, field, Passed, here, list, object}
use Rattle.json_stands.proofs.Quiet.{all_quiet}
use Rattle.json_stands.proofs.StandsStops.{end_refuses}
use Rattle.json_stands.proofs.Takes.{StandsIn}
use Rattle.json_list.specs.Listing.{Listing}
use Rattle.json_list.specs.States.{no_offers, Ended, ended, answering, ending_of}
use Rattle.json_answer.specs.Answered.{laid_reading}
use Rattle.json_answer.proofs.Counted.{Counted, first, item, behind, inside, live}
use Rattle.json_answer.proofs.Follows.{Both, Follows, none_number, stopping_number}
use Rattle.json_list.proofs.States.{zeroing_all}

-- ---- how many updates are counted

-- the end of the text does not count any
stopping_counts : (s : State) (place : ℕ) → get_or (stopping 27 place (laid s)) 13 0 ≡ s.held.updates
unfolding stopping refusing
stopping_counts s place = cases (sooner_in (laid s) 27 place) (λ t. rw t) (λ f. rw f)

end_counts : (len : ℕ) (s : State) → get_or (taking_end len (laid s)) 13 0 ≡ s.held.updates
unfolding taking_end
end_counts len s =
    cases (eqb s.expect 6) (λ t. rw t)
    (λ n. cases (eqb s.expect 5) (λ t. cases (is_outside s.kinds) (λ u. rw (n, t, u)) (λ u. rw (n, t, u) (stopping_counts s len))) (λ f. rw (n, f) (stopping_counts s len)))

-- where the end refuses nothing, all is closed
pub record AllClosed (s : State) : Type 0 where
  pub behind_all : s.expect ≡ 5
  pub nothing_open : is_outside s.kinds ≡ true

all_closed : (len : ℕ) (s : State) → s.number ≡ 0 → s.expect ≤ 5 → number_in (taking_end len (laid s)) ≡ 0 → AllClosed s
unfolding taking_end
all_closed len s e h n =
    let refuses : number_in (stopping 27 len (laid s)) ≡ 0 → ⊥ = λ z. omega (arith, stopping_number s len e) in
    let a = ne_eqb s.expect 6 (λ x. omega arith) in
    cases (eqb s.expect 5)
    (λ t. cases (is_outside s.kinds)
    (λ u. record { behind_all = eqb-true s.expect 5 t; nothing_open = u })
    (λ u. absurd (refuses (rw (a, t, u) at n))))
    (λ f. absurd (refuses (rw (a, f) at n)))

outermost : {h : Held} {w q : ℕ} {f : Frame} {fs js : List Frame} → Passed q (f ∷ fs) js → Open h w js → isNothing (bracket_of f) ≡ true → w ≡ 0
outermost here nothing e = refl
outermost here updates e = absurd (true≢false (sym e))
outermost here (update u) e = absurd (true≢false (sym e))
outermost here (ids i u) e = absurd (true≢false (sym e))
outermost here (part i m u) e = absurd (true≢false (sym e))
outermost here (fields i m u) e = absurd (true≢false (sym e))
outermost here (field i a m u) e = absurd (true≢false (sym e))
outermost (list y) o e = absurd (true≢false (sym e))
outermost (object y) o e = absurd (true≢false (sym e))

all_counted : {s : State} {n : ℕ} → Counted s n → s.expect ≡ 5 → s.within ≡ 0 → s.held.updates ≡ n
all_counted (first e w v q u) x z = absurd (omega arith)
all_counted (item e w v q u) x z = absurd (omega arith)
all_counted (behind e w q u) x z = u
all_counted (inside i) x z = absurd (omega (arith, i.deep))

-- as many as were sent
ended_counted : (len : ℕ) {j : Judge} {s : State} {n : ℕ} → StandsIn j s → j.refusal ≡ none → Counted s n → number_in (taking_end len (laid s)) ≡ 0 → get_or (taking_end len (laid s)) 13 0 ≡ n
ended_counted len {j} {s} st e c z =
    let fr = st.frames in
    let a = all_closed len s (none_number st.refusal e) (live c) z in
    let o : is_outside s.kinds ≡ isNothing (bracket_of j.course.within) = ap is_outside fr.bit ∙ bits_outside (nested fr.passing fr.opened) in
    end_counts len s ∙ all_counted c a.behind_all (outermost fr.passing fr.opened (sym o ∙ a.nothing_open))

-- ---- the answer

pub no_updates_lem : no_updates ≡ laid_updates []
unfolding no_updates laid_updates
no_updates_lem = refl

no_offers_lem : (offers : List ℕ) → length offers ≡ offers_room → no_offers offers ≡ pad offers_room 0 []
no_offers_lem offers e = zeroing_all offers_room offers e

abbrev answer_of : ℕ → ℕ → UpdateList → ℕ → List ℕ → Ended
answer_of number place l offered offers = ended (record { number = number; place = place; list = l; offered = offered }) offers

module _ (slots : List ℕ) (l : Listing) where
  refused_arm : (number_in slots ≡ 0 → ⊥) → answering slots l.list l.offered l.offers ≡ answer_of (number_in slots % 256) (place_in slots) no_updates 0 (no_offers l.offers)
  unfolding answering
  refused_arm h = rw (ne_eqb (number_in slots) 0 h)

  read_arm : number_in slots ≡ 0 → answering slots l.list l.offered l.offers ≡ answer_of 0 0 (record { items = l.list.items; count = get_or slots 13 0 }) l.offered l.offers
  unfolding answering
  read_arm e = rw (eq-eqb (number_in slots) 0 e)

  -- a list is refused
  refused_answer : (sent : List Sent) (n p : ℕ) → number_in slots ≡ n → place_in slots ≡ p → (n ≡ 0 → ⊥) → n < 256 → length l.offers ≡ offers_room → answering slots l.list l.offered l.offers ≡ laid_reading (answered sent (some (record { place = p; number = n })))
  unfolding laid_reading
  refused_answer sent n p e f h k o =
      refused_arm (λ z. h (sym e ∙ z))
      ∙ ap (λ (x : ℕ). answer_of x (place_in slots) no_updates 0 (no_offers l.offers)) (ap (λ (x : ℕ). x % 256) e ∙ mod-eq_of_lt k)
      ∙ ap (λ (x : ℕ). answer_of n x no_updates 0 (no_offers l.offers)) f
      ∙ ap (λ (x : UpdateList). answer_of n p x 0 (no_offers l.offers)) no_updates_lem
      ∙ ap (λ (x : List ℕ). answer_of n p (laid_updates []) 0 x) (no_offers_lem l.offers o)

  -- a list is read
  read_answer : (sent : List Sent) → number_in slots ≡ 0 → get_or slots 13 0 ≡ length sent → ListMade sent l.list.items (length sent) l.offers l.offered → answering slots l.list l.offered l.offers ≡ laid_reading (answered sent none)
  unfolding laid_reading
  read_answer sent e c m =
      read_arm e
      ∙ ap (λ (x : ℕ). answer_of 0 0 (record { items = l.list.items; count = x }) l.offered l.offers) c
      ∙ ap (λ (x : UpdateList). answer_of 0 0 x l.offered l.offers) (list_ends sent m)
      ∙ ap (λ (x : ℕ). answer_of 0 0 (laid_updates (updates_from 0 sent)) x l.offers) m.ended
      ∙ ap (λ (x : List ℕ). answer_of 0 0 (laid_updates (updates_from 0 sent)) (length (offers_of sent)) x) m.offered

module _ (len : ℕ) (l : Listing) (a : Both) (f : Follows l a) where
  good_answer : finished len a.judge ≡ none → number_in (taking_end len l.work.slots) ≡ 0 → ending_of len l ≡ laid_reading (answered a.sending.sent none)
  good_answer e z =
      let q = all_quiet (at_end len a.judge.course) a.judge.refusal e in
      let g = f.good q in
      let c : get_or (taking_end len l.work.slots) 13 0 ≡ length a.sending.sent = rw g.laid_so (ended_counted len g.stands q g.counted (rw g.laid_so at z)) in
      read_answer (taking_end len l.work.slots) l a.sending.sent z c g.made

  by_refusal : {n p : ℕ} {r : Option Defect} → number_in (taking_end len l.work.slots) ≡ n → place_in (taking_end len l.work.slots) ≡ p → finished len a.judge ≡ r → (answered a.sending.sent r).number < 256 → RefusalIs n p r
      → ending_of len l ≡ laid_reading (answered a.sending.sent r)
  by_refusal e g q h accepted = good_answer q e
  by_refusal e g q h (refused {n} {p} z) = refused_answer (taking_end len l.work.slots) l a.sending.sent n p e g z h f.long

  pub end_answers : (answered a.sending.sent (finished len a.judge)).number < 256 → ending_of len l ≡ laid_reading (answered a.sending.sent (finished len a.judge))
  end_answers h = by_refusal refl refl refl h (end_refuses len f.stands)
