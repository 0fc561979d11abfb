-- What is written of a log is read back: the list that is read sends what the log sends (`read_write`), also when it is asked with its own offers (`same_sent`);
-- so logs that send something else are never written alike (`write_injective`). What is answered with 0 is read back (`answer_read`).
use Prim.Native.Nat.{ℕ}
use native.Mathlib.Omega.{arith}
use mathlib.Core.Path.{◌≡◌, refl, ◌∙◌, sym, ap}
use mathlib.Core.Bool.{true, false, Bool, cond}
use mathlib.Core.List.{List, [], ◌∷◌, ◌++◌}
use mathlib.Core.Option.{none}
use lib.Dec.{leb}
use lib.ListN.{length}
use Rattle.rules.specs.Words.{all}
use Rattle.rules.specs.Capacities.{list_room}
use Rattle.rules.specs.Replies.{accepted}
use Rattle.rules.specs.Register.{Update}
use Rattle.rules.proofs.Checks.{and_left, and_right}
use Rattle.json_rule.specs.Records.{Sent, updates_from, offers_of}
use Rattle.json_rule.specs.Shapes.{AnUpdate, ARecord, update_list}
use Rattle.json_rule.specs.Defects.{least, defects, text_defects_by}
use Rattle.json_rule.specs.Reading.{Reading, sent_of, list_of, answered, reading}
use Rattle.file_rule.specs.Written.{list_text}
use Rattle.file_rule.specs.Export.{not_shown, short_buffer}
use Rattle.file_round.proofs.Documents.{Document, bytes_of, Good, past, behind, tree_at, items_at, document_read}
use Rattle.file_round.proofs.Fields.{object}
use Rattle.file_round.proofs.Lists.{documents, listing, each_written, each_good}
use Rattle.log_rule.specs.LogText.{sent_text, log_text, is_carried_update, is_carried, written_by, log_number, log_written}
use Rattle.log_rule.specs.Held.{log_fits}
use Rattle.log_round.proofs.Listed.{list_fine}
use Rattle.log_round.proofs.Updates.{sent_fields, sent_ok, sent_shown}
use Rattle.log_round.proofs.Carried.{sents_of, log_sends, log_text_lem}
use Rattle.log_round.proofs.Again.{again}

-- ---- what is sent

abbrev sent_show : Sent → Document
sent_show s = object (sent_fields s)

-- what the tree of the written list sends
sents_made : (l : List Sent) → all sent_ok l ≡ true → (place : ℕ) → sent_of (items_at place (documents sent_show l)) ≡ l
unfolding tree_at
sents_made [] h place = refl
sents_made (s ∷ l) h place =
    let next = past (behind place (sent_show s)) (44 ∷ []) in
    ap (λ x. x ++ sent_of (items_at next (documents sent_show l))) ((sent_shown s (and_left (sent_ok s) (all sent_ok l) h)).made (past place (123 ∷ [])))
    ∙ ap (λ r. s ∷ r) (sents_made l (and_right (sent_ok s) (all sent_ok l) h) next)

module _ (l : List Sent) (h : all sent_ok l ≡ true) (n : leb (length l) list_room ≡ true) where
  sents_written : list_text sent_text l ≡ bytes_of (listing sent_show l)
  sents_written = each_written sent_text sent_show sent_ok (λ s k. (sent_shown s k).written) l h

  sents_good : Good 0 (listing sent_show l)
  sents_good = (refl, each_good 1 sent_show sent_ok (λ s k. (sent_shown s k).good) l h)

  sents_fine : defects 0 false update_list (tree_at 0 (listing sent_show l)) ≡ []
  sents_fine = list_fine (ARecord AnUpdate) sent_show sent_ok (λ s k. (sent_shown s k).fine) list_room l h n 0 0

  -- a list that can be sent is read back
  pub sents_read : reading (list_text sent_text l) ≡ record { number = accepted; place = 0; updates = updates_from 0 l; offers = offers_of l }
  unfolding reading text_defects_by tree_at
  sents_read =
      ap (λ bs. reading bs) sents_written
      ∙ ap (λ t. answered (list_of t.tree) (least (text_defects_by update_list t))) (document_read (listing sent_show l) sents_good)
      ∙ ap (λ d. answered (sent_of (items_at (past 0 (91 ∷ [])) (documents sent_show l))) (least (d ++ []))) sents_fine
      ∙ ap (λ x. answered x none) (sents_made l h (past 0 (91 ∷ [])))

-- ---- a log

-- reading what is written of a log gives the list of what it sends, with what that offers
pub read_write : (log : List Update) (offers : List ℕ) → is_carried log offers ≡ true → log_fits log ≡ true
    → reading (log_text log offers) ≡ record { number = accepted; place = 0; updates = updates_from 0 (sents_of offers log); offers = offers_of (sents_of offers log) }
unfolding is_carried
read_write log offers h f =
    let c = and_right (leb (length log) list_room) (all (is_carried_update offers) log) h in
    let k = log_sends offers log c f in
    ap (λ bs. reading bs) (log_text_lem offers log c f)
    ∙ sents_read (sents_of offers log) k.ok (ap (λ n. leb n list_room) k.count ∙ and_left (leb (length log) list_room) (all (is_carried_update offers) log) h)

-- the list that is read sends, with its own offers, what the log sends with its own
pub same_sent : (log : List Update) (offers : List ℕ) → is_carried log offers ≡ true → log_fits log ≡ true
    → sents_of (reading (log_text log offers)).offers (reading (log_text log offers)).updates ≡ sents_of offers log
unfolding is_carried
same_sent log offers h f =
    let k = log_sends offers log (and_right (leb (length log) list_room) (all (is_carried_update offers) log) h) f in
    ap (λ (r : Reading). sents_of r.offers r.updates) (read_write log offers h f) ∙ again (sents_of offers log) k.ok k.formed

-- logs that send something else are never written alike
pub write_injective : (log other : List Update) (offers others : List ℕ) → is_carried log offers ≡ true → log_fits log ≡ true → is_carried other others ≡ true → log_fits other ≡ true
    → log_text log offers ≡ log_text other others → sents_of offers log ≡ sents_of others other
write_injective log other offers others h f h' f' e =
    sym (same_sent log offers h f) ∙ ap (λ bs. sents_of (reading bs).offers (reading bs).updates) e ∙ same_sent other others h' f'

-- what is answered with 0 is read back
pub answer_read : (log : List Update) (offers : List ℕ) (room : ℕ) → (log_written log offers room).number ≡ accepted → log_fits log ≡ true
    → reading (log_written log offers room).text ≡ record { number = accepted; place = 0; updates = updates_from 0 (sents_of offers log); offers = offers_of (sents_of offers log) }
unfolding log_written log_number
answer_read log offers room e f = go (is_carried log offers) refl (leb (length (log_text log offers)) room) e
  where
    answer : Bool → Bool → ℕ
    answer c s = cond c (cond s accepted short_buffer) not_shown

    go : (c : Bool) → is_carried log offers ≡ c → (s : Bool) → answer c s ≡ accepted
        → reading (written_by (log_text log offers) (answer c s)).text ≡ record { number = accepted; place = 0; updates = updates_from 0 (sents_of offers log); offers = offers_of (sents_of offers log) }
    go true h true k = read_write log offers h f
    go true h false k = absurd (omega arith)
    go false h s k = absurd (omega arith)
