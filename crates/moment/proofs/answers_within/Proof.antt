-- What is asked of the slot is asked of the entry; a reading from the end at its time stops behind it exactly if it is the answer then.
use Prim.Native.Nat.{◌<◌}
use mathlib.Core.Path.{◌≡◌, sym, ◌∙◌}
use native.Mathlib.Omega.{arith}
use borrow.Author.Rules.{rules}
use borrow.Author.Tests.{not-true, not-false}
use lib.ListN.{length, get_or}
use Rattle.records.specs.Blanks.{no_log_entry}
use Rattle.rules.specs.Layout.{read_log_entry, read_snapshot_log}
use Rattle.moment.specs.Reading.{entry_at}
use Rattle.moment.proofs.Slots.{slots, read_length, read_at}
use Rattle.moment.proofs.Spans.{too_early, too_late, decided}
use Rattle.moment.proofs.answers_within.Statement.{statement}
use Rattle.moment.proofs.answers_within.Tie as tie

module _ (c : tie.Start) where
  here : c.args.at < length (read_snapshot_log c.args.log)
  here = omega (arith, read_length c.args.log, c.requires)

  slot : entry_at (read_snapshot_log c.args.log) c.args.at ≡ read_log_entry (get_or c.args.log.items c.args.at no_log_entry)
  slot =
      let room : length c.args.log.items ≡ 128 = search (rules, slots) in
      read_at c.args.log c.args.at c.requires.0 (omega (arith, c.requires))

pub answers_within_spec : {M : Type 1} → statement M
answers_within_spec =
    tie.close
    (tie.spec
    (λ c. search rules)
    (λ c. search rules)
    (λ c κs. search rules)
    (λ c. let s = c.before.before.before.before in
    too_early s.args.first.0 s.args.last.0 (read_snapshot_log s.args.log) s.args.at (here s) (slot s) (sym c.is_by.ensures ∙ c.if-is_by.true))
    (λ c κs. search rules)
    (λ c. let s = c.before.before.before.before.before.before in
    too_late s.args.first.0 s.args.last.0 (read_snapshot_log s.args.log) s.args.at (here s) (slot s) (sym c.is_by.ensures ∙ c.if-is_by.false)
    (sym c.is_by-2.ensures ∙ not-true _ c.if-not-is_by.true-raw))
    (λ c κs. search rules)
    (λ c. search rules)
    (λ c. let s = c.before.before.before.before.before.before.before in
    decided s.args.first.0 s.args.last.0 (read_snapshot_log s.args.log) s.args.at (here s) (slot s) (sym c.is_by.ensures ∙ c.if-is_by.false)
    (sym c.is_by-2.ensures ∙ not-false _ c.if-not-is_by.false-raw) c.behind_last.ensures))
