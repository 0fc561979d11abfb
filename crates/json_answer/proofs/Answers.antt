-- Whatever parts a text comes in, the reader answers at its end what the rule answers to all of its bytes.
use Prim.Native.Nat.{ℕ, ◌+◌, ◌-◌, ◌≤◌, ◌<◌}
use native.Mathlib.Nat.{add-zero, zero-add}
use native.Mathlib.Omega.{arith}
use mathlib.Core.Path.{◌≡◌, refl, sym, ap, ap₂, subst, ◌∙◌}
use mathlib.Core.Bool.{true}
use mathlib.Core.List.{List, [], ◌∷◌, ◌++◌}
use mathlib.Core.Option.{Option, none, some}
use lib.ListN.{length, replicate, length-append}
use lib.Seq.{take_all}
use Rattle.records.specs.Blanks.{no_updates}
use Rattle.rules.specs.Words.{all}
use Rattle.rules.specs.Kinds.{laid_updates}
use Rattle.rules.proofs.Tables.{all_append, all_head, all_tail}
use Rattle.json_rule.specs.Lexemes.{lexemes}
use Rattle.json_rule.specs.Tree.{Defect, text}
use Rattle.json_rule.specs.Shapes.{update_list}
use Rattle.json_rule.specs.Defects.{least, text_defects_by}
use Rattle.json_rule.specs.Records.{Sent}
use Rattle.json_rule.specs.Reading.{Reading as Read, list_of, answered, reading as rule}
use Rattle.json_rule.proofs.Fits.{offers_room, read_list_fits}
use Rattle.json_machine.specs.Lexing.{between_lexemes, reading}
use Rattle.json_judge.specs.Judging.{finished, judged}
use Rattle.json_judge.specs.Sending.{sent_over}
use Rattle.json_judge.proofs.Sent.{judged_is_reading}
use Rattle.json_feed.specs.Feeding.{Fed, fed, fed_all, last_fed, takes_all}
use Rattle.json_feed.proofs.Fed.{is_octet, feeds}
use Rattle.json_feed.proofs.Steps.{fed_append}
use Rattle.json_list.specs.Listing.{Listing, lists}
use Rattle.json_list.specs.States.{State, state, at_start, feeding, Ended, ending, ending_of}
use Rattle.json_answer.specs.Answered.{laid_reading, joined, feeding_all, answer_to}
use Rattle.json_answer.proofs.Follows.{Both, take_both, both_start, both_judged, both_sent, Follows, whole_follows, broken_follows}
use Rattle.json_answer.proofs.Starts.{listing_at_start, start_follows}
use Rattle.json_answer.proofs.Numbers.{number_low}
use Rattle.json_answer.proofs.Ends.{no_updates_lem, end_answers}

-- ---- parts are joined

-- a text has fewer than 2^64 bytes
abbrev pub most_bytes : ℕ
most_bytes = 18446744073709551615

feed_part : (part : List ℕ) (before : ℕ) (z : Fed Listing) → before + length part ≤ most_bytes → feeding part (state before z) ≡ state (before + length part) (fed_all lists before z part)
unfolding feeding
feed_part part before z h = ap (λ (p : List ℕ). state (before + length p) (fed_all lists before z p)) (take_all (most_bytes - before) part (omega arith))

feed_parts : (parts : List (List ℕ)) (before : ℕ) (z : Fed Listing) → before + length (joined parts) ≤ most_bytes → feeding_all parts (state before z) ≡ state (before + length (joined parts)) (fed_all lists before z (joined parts))
unfolding fed_all
feed_parts [] before z h = ap (λ (n : ℕ). state n z) (sym (add-zero before))
feed_parts (part ∷ parts) before z h =
    let l : length (joined (part ∷ parts)) ≡ length part + length (joined parts) = length-append part (joined parts) in
    let n : (before + length part) + length (joined parts) ≡ before + length (joined (part ∷ parts)) = omega arith in
    ap (feeding_all parts) (feed_part part before z (omega arith))
    ∙ feed_parts parts (before + length part) (fed_all lists before z part) (omega arith)
    ∙ ap₂ (λ (k : ℕ) (y : Fed Listing). state k y) n (sym (fed_append lists before z part (joined parts)))

-- one part more
pub feeding_more : (parts : List (List ℕ)) (part : List ℕ) (s : State) → feeding_all (parts ++ part ∷ []) s ≡ feeding part (feeding_all parts s)
feeding_more [] part s = refl
feeding_more (p ∷ parts) part s = feeding_more parts part (feeding p s)

-- bytes in each are bytes in all
pub octets_joined : (parts : List (List ℕ)) → all (all is_octet) parts ≡ true → all is_octet (joined parts) ≡ true
octets_joined [] o = refl
octets_joined (part ∷ parts) o = all_append is_octet part (joined parts) (all_head (all is_octet) part parts o) (octets_joined parts (all_tail (all is_octet) part parts o))

-- ---- all bytes

module _ (offers : List ℕ) (room : length offers ≡ offers_room) where
  abbrev first : Fed Listing
  first = fed (reading between_lexemes (replicate 97 0)) (listing_at_start offers)

  module _ (bs : List ℕ) (octets : all is_octet bs ≡ true) where
    abbrev taken : Both
    taken = takes_all take_both both_start (lexemes (length bs) 0 bs)

    all_follows : Follows (last_fed lists (length bs) (fed_all lists 0 first bs)).sink taken
    all_follows =
        feeds lists take_both Follows (λ l a r t f w k. whole_follows l a r t w k f) (λ l a t f b i. broken_follows l a t b i f)
        (reading between_lexemes (replicate 97 0)) (listing_at_start offers) both_start bs octets refl refl (start_follows offers room)

    -- the judge and the sender answer as the rule does
    rule_answers : answered taken.sending.sent (finished (length bs) taken.judge) ≡ rule bs
    unfolding judged sent_over
    rule_answers =
        let ts = lexemes (length bs) 0 bs in
        ap₂ (λ (l : List Sent) (r : Option Defect). answered l r) (sym (both_sent both_start ts)) (sym (both_judged (length bs) both_start ts))
        ∙ judged_is_reading bs

    bytes_answer : ending_of (length bs) (last_fed lists (length bs) (fed_all lists 0 first bs)).sink ≡ laid_reading (rule bs)
    bytes_answer =
        let low : (answered taken.sending.sent (finished (length bs) taken.judge)).number < 256 = subst (λ (r : Read). r.number < 256) (sym rule_answers) (number_low bs) in
        end_answers (length bs) (last_fed lists (length bs) (fed_all lists 0 first bs)).sink taken all_follows low
        ∙ ap laid_reading rule_answers

  -- what a reader answers to a text in parts
  pub parts_answer : (parts : List (List ℕ)) → all is_octet (joined parts) ≡ true → length (joined parts) ≤ most_bytes → answer_to offers parts ≡ laid_reading (rule (joined parts))
  unfolding answer_to at_start ending
  parts_answer parts o h =
      let n = length (joined parts) in
      ap ending (feed_parts parts 0 first (rw (zero-add n) h) ∙ ap (λ (k : ℕ). state k (fed_all lists 0 first (joined parts))) (zero-add n))
      ∙ bytes_answer (joined parts) o

-- where a text is refused no update is answered
refused_none : (l : List Sent) (r : Option Defect) → ((answered l r).number ≡ 0 → ⊥) → (answered l r).updates ≡ []
refused_none l none n = absurd (n refl)
refused_none l (some d) n = refl

none_read : (bs : List ℕ) → ((rule bs).number ≡ 0 → ⊥) → (rule bs).updates ≡ []
unfolding rule
none_read bs n = refused_none (list_of (text bs).tree) (least (text_defects_by update_list (text bs))) n

-- it does not matter where a text is cut, nor which bytes stood in the place of what is offered
pub cuts_do_not_matter : (offers others : List ℕ) → length offers ≡ offers_room → length others ≡ offers_room → (parts cuts : List (List ℕ)) → all is_octet (joined parts) ≡ true → length (joined parts) ≤ most_bytes → joined parts ≡ joined cuts
    → answer_to offers parts ≡ answer_to others cuts
cuts_do_not_matter offers others e f parts cuts o h same =
    parts_answer offers e parts o h ∙ ap (λ (bs : List ℕ). laid_reading (rule bs)) same ∙ sym (parts_answer others f cuts (rw same at o) (rw same at h))

module _ (offers : List ℕ) (room : length offers ≡ offers_room) (parts : List (List ℕ)) (o : all is_octet (joined parts) ≡ true) (h : length (joined parts) ≤ most_bytes) where
  -- a list that is read has at most 64 updates
  pub few_updates : (answer_to offers parts).answer.number ≡ 0 → (answer_to offers parts).answer.list.count ≤ 64
  unfolding laid_reading laid_updates
  few_updates e =
      let is = parts_answer offers room parts o h in
      let n : (rule (joined parts)).number ≡ 0 = sym (ap (λ (x : Ended). x.answer.number) is) ∙ e in
      subst (λ (x : Ended). x.answer.list.count ≤ 64) (sym is) (read_list_fits (joined parts) n).few

  -- one that is refused is answered with none
  pub refused_empty : ((answer_to offers parts).answer.number ≡ 0 → ⊥) → (answer_to offers parts).answer.list ≡ no_updates
  unfolding laid_reading
  refused_empty n =
      let is = parts_answer offers room parts o h in
      ap (λ (x : Ended). x.answer.list) is ∙ ap laid_updates (none_read (joined parts) (λ e. n (ap (λ (x : Ended). x.answer.number) is ∙ e))) ∙ sym no_updates_lem
