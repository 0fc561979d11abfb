-- The list that was made of a text in which the judge finds nothing wrong is the one that the rule reads.
use Prim.Native.Nat.{ℕ}
use mathlib.Core.Path.{◌≡◌, sym, ap, ◌∙◌}
use mathlib.Core.List.{List}
use mathlib.Core.Option.{Option, none}
use lib.ListN.{length}
use Rattle.records.specs.declared.update.TableUpdate.{TableUpdate}
use Rattle.records.specs.declared.update.UpdateList.{UpdateList}
use Rattle.rules.specs.Layout.{pad}
use Rattle.rules.specs.Kinds.{laid_updates}
use Rattle.json_rule.specs.Lexemes.{lexemes}
use Rattle.json_rule.specs.Tree.{Defect}
use Rattle.json_rule.specs.Reading.{Reading, answered, reading}
use Rattle.json_rule.proofs.Fits.{offers_room}
use Rattle.json_judge.specs.Judging.{judged}
use Rattle.json_judge.specs.Sending.{sent_over}
use Rattle.json_judge.proofs.Sent.{judged_is_reading}
use Rattle.json_made.proofs.Listed.{ListMade, list_ends}

pub record ListRead (r : Reading) (items : List TableUpdate) (count : ℕ) (offers : List ℕ) (end : ℕ) : Type 0 where
  pub updates : ◌≡◌ {A = UpdateList} (record { items = items; count = count }) (laid_updates r.updates)
  pub offered : offers ≡ pad offers_room 0 r.offers
  pub ended : end ≡ length r.offers

pub list_read : (bs : List ℕ) {items : List TableUpdate} {count : ℕ} {offers : List ℕ} {end : ℕ} → judged (length bs) (lexemes (length bs) 0 bs) ≡ none
    → ListMade (sent_over (lexemes (length bs) 0 bs)) items count offers end → ListRead (reading bs) items count offers end
list_read bs e m =
    let sent = sent_over (lexemes (length bs) 0 bs) in
    let is : answered sent none ≡ reading bs = ap (λ (d : Option Defect). answered sent d) (sym e) ∙ judged_is_reading bs in
    record {
      updates = list_ends sent m ∙ ap (λ (r : Reading). laid_updates r.updates) is;
      offered = m.offered ∙ ap (λ (r : Reading). pad offers_room 0 r.offers) is;
      ended = m.ended ∙ ap (λ (r : Reading). length r.offers) is;
    }
