-- The last entry is in the slot before the count.
use mathlib.Core.Path.{◌≡◌, refl, sym, ap, ◌∙◌}
use mathlib.Core.Bool.{Bool, true, false, not}
use mathlib.Core.List.{List, [], ◌∷◌}
use native.Mathlib.Omega.{arith}
use borrow.Author.Rules.{rules}
use borrow.Author.Tests.{not-true, not-false}
use lib.ListN.{length}
use mathlib.Core.Option.{Option, none}
use Rattle.records.specs.declared.metadata.SingleFields.{SingleFields}
use Rattle.rules.specs.Words.{last_of, some_with, eq_z}
use Rattle.rules.specs.Register.{LogEntry}
use Rattle.rules.specs.Layout.{read_fields, read_snapshot_log}
use Rattle.tables.proofs.Table.{read_length, within}
use Rattle.tables.proofs.Each.{tidy_snapshot_log}
use Rattle.close.specs.Answers.{ends_off}
use Rattle.close.specs.declared.history.History.{History}
use Rattle.close.proofs.Parts.{last_read}
use Rattle.close.proofs.ends_elsewhere.Statement.{statement}
use Rattle.close.proofs.ends_elsewhere.Tie as tie

none_last : (log : List LogEntry) → length log ≡ 0 → last_of log ≡ none
none_last [] e = refl
none_last (x ∷ log) e = absurd (omega arith)

module _ (h : History) (f : SingleFields) where
  abbrev entries : List LogEntry
  entries = read_snapshot_log h.log

  abbrev answer : Bool
  answer = ends_off h.rebuilt entries (read_fields f).current

  not_rebuilt : not h.rebuilt ≡ true → answer ≡ false
  not_rebuilt e = rw (not-true h.rebuilt e)

  module _ (e : not h.rebuilt ≡ false) where
    none_current : not f.has_current ≡ true → answer ≡ false
    none_current k = rw (not-false h.rebuilt e, not-true f.has_current k)

    -- a rebuilt log and a current snapshot: the last entry decides
    by_last : (o : Option LogEntry) → not f.has_current ≡ false → last_of entries ≡ o → answer ≡ not (some_with (λ (x : LogEntry). eq_z x.snapshot f.current_snapshot_id.0) o)
    by_last o k l = rw (not-false h.rebuilt e, not-false f.has_current k, l)

pub ends_elsewhere_spec : {M : Type 1} → statement M
ends_elsewhere_spec =
    tie.close
    (tie.spec
    (λ c. let a = c.args in
    sym (not_rebuilt a.h a.f c.if-not-rebuilt.true-raw))
    (λ c. let a = c.args in
    sym (none_current a.h a.f c.if-not-rebuilt.false-raw c.if-not-set.true-raw))
    (λ c. sym (by_last c.args.h c.args.f c.if-not-rebuilt.false-raw none c.if-not-set.false-raw (none_last (entries c.args.h c.args.f) (read_length (tidy_snapshot_log c.requires) ∙ c.if-n-eq0.true))))
    (λ c. search rules)
    (λ c. omega (arith, within (tidy_snapshot_log c.requires)))
    (λ c. omega (arith, within (tidy_snapshot_log c.requires)))
    (λ c κs. search rules)
    (λ c. let k = c.before.before.before in
    ap not c.is_same.ensures ∙ sym (by_last k.args.h k.args.f k.if-not-rebuilt.false-raw _ k.if-not-set.false-raw (last_read (tidy_snapshot_log k.requires) _ (omega arith)))))
