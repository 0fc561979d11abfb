-- What can be carried, then what fits.
use Prim.Native.Nat.{ℕ, ◌≤◌, ◌<◌}
use native.Mathlib.Omega.{arith}
use mathlib.Core.Path.{◌≡◌, refl, sym, ap, ◌∙◌}
use mathlib.Core.Bool.{Bool, true, false, cond, ◌&&◌}
use mathlib.Core.List.{List, ◌++◌}
use borrow.Author.Tests.{le-leb, lt-leb}
use borrow.Table.Steps.{cases}
use lib.ListN.{length, drop, length-map}
use Rattle.records.specs.Blanks.{no_update}
use Rattle.records.specs.declared.update.UpdateList.{UpdateList}
use Rattle.rules.specs.Words.{all}
use Rattle.rules.specs.Capacities.{list_room}
use Rattle.rules.specs.Replies.{accepted}
use Rattle.rules.specs.Layout.{counted}
use Rattle.rules.specs.Kinds.{read_update, read_updates}
use Rattle.rules.proofs.Slots.Relaid.{length_counted}
use Rattle.file_rule.specs.Export.{not_shown, short_buffer}
use Rattle.file_writer.specs.declared.Exported.{Exported}
use Rattle.file_writer.specs.Answer.{fits}
use Rattle.log_rule.specs.LogText.{log_text, is_carried_update, is_carried, log_number, log_written}
use Rattle.log_writer.specs.Answer.{put_answer, put_bytes, log_answer, log_bytes}

module _ (t : UpdateList) (offers buffer : List ℕ) where
  abbrev text : List ℕ
  text = log_text (read_updates t) offers

  pub not_carried : is_carried (read_updates t) offers ≡ false → (record { number = not_shown; length = 0 } ≡ log_answer t offers buffer) × (buffer ≡ log_bytes t offers buffer)
  unfolding log_number log_written log_answer log_bytes
  not_carried e = rw e (refl, refl)

  pub carried : {x : Exported} {after : List ℕ} → is_carried (read_updates t) offers ≡ true → x ≡ put_answer t offers buffer → after ≡ put_bytes t offers buffer → (x ≡ log_answer t offers buffer) × (after ≡ log_bytes t offers buffer)
  unfolding log_number log_written log_answer log_bytes put_answer put_bytes
  carried {x} {after} e p r =
      rw e
      (cases (fits text buffer)
      (λ f. rw f (p ∙ ap (λ (b : Bool). record { number = cond b accepted short_buffer; length = cond b (length text) 0 }) f, r ∙ ap (λ (b : Bool). cond b (text ++ drop (length text) buffer) buffer) f))
      (λ f. rw f (p ∙ ap (λ (b : Bool). record { number = cond b accepted short_buffer; length = cond b (length text) 0 }) f, r ∙ ap (λ (b : Bool). cond b (text ++ drop (length text) buffer) buffer) f)))

-- ---- what can be carried

count_is : (t : UpdateList) → length (read_updates t) ≡ t.count
unfolding read_updates
count_is t = length-map (counted no_update t.items t.count) read_update ∙ length_counted no_update t.items t.count

module _ (t : UpdateList) (offers : List ℕ) where
  pub too_many : list_room < t.count → false ≡ is_carried (read_updates t) offers
  unfolding is_carried
  too_many h = sym (ap (λ (b : Bool). b && all (is_carried_update offers) (read_updates t)) (lt-leb (length (read_updates t)) list_room (omega (arith, count_is t))))

  pub few : t.count ≤ list_room → all (is_carried_update offers) (read_updates t) ≡ is_carried (read_updates t) offers
  unfolding is_carried
  few h = sym (ap (λ (b : Bool). b && all (is_carried_update offers) (read_updates t)) (le-leb (length (read_updates t)) list_room (omega (arith, count_is t))))
