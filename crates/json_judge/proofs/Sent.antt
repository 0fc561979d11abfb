-- Where nothing is refused, what was sent lexeme by lexeme is what the rule takes from the tree; so the judge and the sender answer as the rule does.
use Prim.Native.Nat.{ℕ}
use mathlib.Core.Path.{◌≡◌, refl, sym, ap, ◌∙◌}
use mathlib.Core.List.{List, [], ◌∷◌, ◌++◌}
use mathlib.Core.Option.{Option, none, some}
use borrow.Table.Steps.{cases}
use lib.ListN.{length}
use Rattle.json_rule.specs.Lexemes.{Lexeme, lexemes}
use Rattle.json_rule.specs.Tree.{Defect, text_of_lexemes, text}
use Rattle.json_rule.specs.Records.{Sent}
use Rattle.json_rule.specs.Shapes.{update_list}
use Rattle.json_rule.specs.Reading.{list_of, answered, reading}
use Rattle.json_judge.specs.Frames.{plainly, Outside}
use Rattle.json_judge.specs.Course.{Course, start, Happening, step, may_end, at_end, happenings}
use Rattle.json_judge.specs.Judging.{judged}
use Rattle.json_judge.specs.Sending.{Sending, sends, sends_all, Sender, sender, send, sent_from, sent_over}
use Rattle.json_judge.proofs.Judged.{judged_is_least}
use Rattle.json_judge.proofs.Accepted.{Accepted, accepted}
use Rattle.json_judge.proofs.Sends.{value_sent}
use Rattle.json_judge.proofs.Updates.{text_sends}

sends_append : (a b : List Happening) (s : Sending) → sends_all (a ++ b) s ≡ sends_all b (sends_all a s)
sends_append [] b s = refl
sends_append (h ∷ a) b s = sends_append a b (sends h s)

-- the end of the text sends nothing
end_sends : (len : ℕ) (c : Course) (s : Sending) → sends_all (at_end len c) s ≡ s
unfolding at_end
end_sends len c s = cases (may_end c.next c.within) (λ e. rw e) (λ e. rw e)

sent_happenings : (len : ℕ) (s : Sender) (ts : List Lexeme) → sent_from s ts ≡ (sends_all (happenings len s.course ts) s.sending).sent
sent_happenings len s [] = ap (λ (x : Sending). x.sent) (sym (end_sends len s.course s.sending))
sent_happenings len s (t ∷ ts) =
    sent_happenings len (send s t) ts
    ∙ ap (λ (x : Sending). x.sent) (sym (sends_append (step s.course t).happened (happenings len (step s.course t).course ts) s.sending))

pub sent_is_read : (len : ℕ) (ts : List Lexeme) → judged len ts ≡ none → sent_over ts ≡ list_of (text_of_lexemes len ts).tree
unfolding sent_over
sent_is_read len ts e =
    let a : Accepted (happenings len start ts) (text_of_lexemes len ts).tree = accepted len ts e in
    sent_happenings len sender ts
    ∙ (ap (λ (hs : List Happening). (sends_all hs sender.sending).sent) a.happens
    ∙ (ap (λ (s : Sending). s.sent) (value_sent a.value (plainly update_list) Outside [] [] [] a.closed)
    ∙ (text_sends a.value a.closed ∙ ap list_of (sym a.read))))

-- the judge and the sender answer what the rule answers
pub judged_is_reading : (bs : List ℕ) → answered (sent_over (lexemes (length bs) 0 bs)) (judged (length bs) (lexemes (length bs) 0 bs)) ≡ reading bs
unfolding reading text
judged_is_reading bs =
    go (judged (length bs) (lexemes (length bs) 0 bs)) refl
    ∙ ap (λ (r : Option Defect). answered (list_of (text_of_lexemes (length bs) (lexemes (length bs) 0 bs)).tree) r) (judged_is_least (length bs) (lexemes (length bs) 0 bs))
  where
    go : (r : Option Defect) → judged (length bs) (lexemes (length bs) 0 bs) ≡ r
        → answered (sent_over (lexemes (length bs) 0 bs)) r ≡ answered (list_of (text_of_lexemes (length bs) (lexemes (length bs) 0 bs)).tree) r
    go none e = ap (λ (l : List Sent). answered l none) (sent_is_read (length bs) (lexemes (length bs) 0 bs) e)
    go (some d) e = refl
