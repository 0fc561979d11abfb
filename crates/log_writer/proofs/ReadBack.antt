-- What the entry point `write_log` wrote is read back by the rule of lists, by its contract alone: the list sends what the log sends, and logs that send
-- something else are never written alike. A call is any updates, offered bytes and buffer, and any outcome that the contract allows for them.
use Prim.Native.Nat.{ℕ}
use native.Mathlib.Omega.{arith}
use mathlib.Core.Path.{◌≡◌, refl, sym, ap, ◌∙◌}
use mathlib.Core.Bool.{true, cond}
use mathlib.Core.List.{List, []}
use lib.Dec.{eqb, leb}
use lib.ListN.{length, take, drop}
use lib.Seq.{take_at}
use borrow.Fn.Kinds.{Dens, ended_of}
use contract.Lifetimes.{Lfts}
use denote.Triple.Clauses.{AtExit}
use Rattle.records.specs.declared.update.UpdateList.{UpdateList}
use Rattle.rules.specs.Replies.{accepted}
use Rattle.rules.specs.Register.{Update}
use Rattle.rules.specs.Kinds.{read_updates}
use Rattle.rules.proofs.Checks.{only_then}
use Rattle.json_rule.specs.Records.{Sent, updates_from, offers_of}
use Rattle.json_rule.specs.Reading.{reading}
use Rattle.file_rule.specs.Export.{not_shown, short_buffer}
use Rattle.file_writer.specs.declared.Exported.{Exported}
use Rattle.log_rule.specs.LogText.{log_text, is_carried, log_number, log_written}
use Rattle.log_rule.specs.Held.{log_fits}
use Rattle.log_round.proofs.Carried.{sents_of}
use Rattle.log_round.proofs.ReadBack.{read_write, same_sent, write_injective}
use Rattle.log_writer.specs.Answer.{ruled, log_answer, log_bytes}
use Rattle.log_writer.proofs.write_log.Kinds.{ps, r}
use Rattle.log_writer.proofs.write_log.Reads.{Post}

-- ---- what a log that is answered with 0 has passed

-- a list can carry it, and the text is what the rule writes
pub record Written (t : UpdateList) (offers buffer : List ℕ) : Type 0 where
  pub carried : is_carried (read_updates t) offers ≡ true
  pub text : (ruled t offers buffer).text ≡ log_text (read_updates t) offers

pub written : (t : UpdateList) (offers buffer : List ℕ) → (ruled t offers buffer).number ≡ accepted → Written t offers buffer
unfolding log_written log_number
written t offers buffer e =
    let text : List ℕ = log_text (read_updates t) offers in
    let c = only_then (is_carried (read_updates t) offers) {x = cond (leb (length text) (length buffer)) accepted short_buffer} {y = not_shown} {z = accepted} (λ q. omega (arith, q)) e in
    record { carried = c.0; text = ap (λ (n : ℕ). cond (eqb n accepted) text []) e }

-- ---- calls

-- a call of `write_log`, and an outcome that its contract allows
pub record Call : Type 1 where
  pub lifetimes : Lfts 2
  pub given : Dens lifetimes ps
  pub answered : Exported
  pub left : AtExit (ended_of 2 ps r) lifetimes
  pub allowed : Post lifetimes given answered left

module _ (c : Call) where
  abbrev pub updates : UpdateList
  updates = c.given.0

  abbrev pub log : List Update
  log = read_updates updates

  -- the bytes that are offered beside the log
  abbrev pub offers : List ℕ
  offers = c.given.1.0.now

  -- the buffer as it was lent
  abbrev pub before : List ℕ
  before = c.given.1.1.0.now

  -- and as it is left
  abbrev pub after : List ℕ
  after = c.left.1.1.0.now

  -- the bytes that were written
  abbrev pub text : List ℕ
  text = take c.answered.length after

  -- what the log sends
  abbrev pub sent : List Sent
  sent = sents_of offers log

  pub fits : log_fits log ≡ true
  fits = c.allowed.1.1

module _ (c : Call) (e : c.answered.number ≡ 0) where
  passed : Written (updates c) (offers c) (before c)
  unfolding log_answer
  passed = written (updates c) (offers c) (before c) (sym (ap (λ (x : Exported). x.number) c.allowed.0) ∙ e)

  -- the text is the one that the rule writes
  pub log_written_lem : text c ≡ log_text (log c) (offers c)
  unfolding log_answer log_bytes
  log_written_lem =
      let rule : List ℕ = (ruled (updates c) (offers c) (before c)).text in
      ap (λ (n : ℕ). take n (after c)) (ap (λ (x : Exported). x.length) c.allowed.0)
      ∙ ap (λ (bs : List ℕ). take (length rule) bs) c.allowed.1.0
      ∙ take_at rule (drop (length rule) (before c)) (length rule) refl
      ∙ passed.text

  -- reading it gives the list of what the log sends, with what that offers: number 0, place 0
  pub log_read_back : reading (text c) ≡ record { number = 0; place = 0; updates = updates_from 0 (sent c); offers = offers_of (sent c) }
  log_read_back = ap (λ (bs : List ℕ). reading bs) log_written_lem ∙ read_write (log c) (offers c) passed.carried (fits c)

  -- the list that is read sends, with its own offers, what the log sends with its own
  pub log_sent_again : sents_of (reading (text c)).offers (reading (text c)).updates ≡ sent c
  log_sent_again = ap (λ (bs : List ℕ). sents_of (reading bs).offers (reading bs).updates) log_written_lem ∙ same_sent (log c) (offers c) passed.carried (fits c)

-- two calls that are answered with 0 and leave equal texts are of logs that send the same
pub logs_apart : (c d : Call) → c.answered.number ≡ 0 → d.answered.number ≡ 0 → text c ≡ text d → sent c ≡ sent d
logs_apart c d e f q =
    write_injective (log c) (log d) (offers c) (offers d) (passed c e).carried (fits c) (passed d f).carried (fits d) (sym (log_written_lem c e) ∙ q ∙ log_written_lem d f)
