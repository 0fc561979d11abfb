-- Where the arms meet, the log has what is left of it; the entry that joins is pushed on.
use Prim.Native.Nat.{ℕ, ◌+◌, ◌<◌}
use mathlib.Core.Path.{◌≡◌, refl, sym, ap, ◌∙◌}
use mathlib.Core.Bool.{true, false, cond}
use mathlib.Core.Logic.{⊎_elim}
use mathlib.Core.List.{List, [], ◌∷◌, ◌++◌, append-nil}
use native.Mathlib.Omega.{arith}
use borrow.Author.Tests.{not-true, not-false}
use lib.ListN.{length, drop, set, length-drop}
use Rattle.records.specs.declared.counters.Time.{Time}
use Rattle.records.specs.declared.metadata.MetadataLog.{MetadataLog}
use Rattle.records.specs.declared.run.RunTerms.{RunTerms}
use Rattle.records.specs.declared.text.Text.{Text}
use Rattle.rules.specs.Register.{FileEntry}
use Rattle.rules.specs.Layout.{read_text, laid_text, read_metadata_log_entry, laid_metadata_log_entry, read_metadata_log, laid_metadata_log}
use Rattle.rules.proofs.Slots.Reread.{reread_text}
use Rattle.tables.proofs.Table.{read_length}
use Rattle.tables.proofs.Push.{pushed}
use Rattle.tables.proofs.Each.{tidy_metadata_log, made_metadata_log}
use Rattle.close.specs.Answers.{joining}
use Rattle.close.proofs.files.staying.Statement.{statement}
use Rattle.close.proofs.files.staying.Tie as tie

-- none joins
alone : (terms : RunTerms) (old : Time) (l : List FileEntry) → terms.has_file ≡ false → laid_metadata_log l ≡ laid_metadata_log (l ++ joining terms old)
alone terms old l e = rw (e, append-nil)

-- the entry, in the slot after those that are left
module _ (terms : RunTerms) (old : Time) {log : MetadataLog} (l : List FileEntry) (j : terms.has_file ≡ true) (e : log ≡ laid_metadata_log l) (fits : length l < 128) where
  pub joins : {name : Text} → name ≡ laid_text (read_text terms.file)
      → record { items = set log.items log.count (record { metadata_file = name; timestamp_ms = old }); count = log.count + 1 } ≡ laid_metadata_log (l ++ joining terms old)
  unfolding laid_metadata_log_entry
  joins {name} n =
      let w : read_text name ≡ read_text terms.file = ap read_text n ∙ reread_text (read_text terms.file) in
      let b : laid_metadata_log_entry (read_metadata_log_entry (record { metadata_file = name; timestamp_ms = old })) ≡ record { metadata_file = name; timestamp_ms = old } = λ i. record { metadata_file = (ap laid_text w ∙ sym n) i; timestamp_ms = old } in
      pushed made_metadata_log _ e fits b refl refl ∙ ap (λ (y : List FileEntry). laid_metadata_log (l ++ y)) (λ i. cond (sym j i) (record { file = w i; time = old.0 } ∷ []) [])

module _ (c : tie.Joined-gone-gt0) where
  abbrev entries : List FileEntry
  entries = read_metadata_log c.args.log

  abbrev gone : ℕ
  gone = c.args.gone

  count_is : length entries ≡ c.args.log.count
  count_is = read_length (tidy_metadata_log c.requires.0)

  left : c.if-gone-gt0.log ≡ laid_metadata_log (drop gone entries)
  left =
      ⊎_elim
      (λ w. w.log-is ∙ w.moved-log.ensures)
      (λ w. let z : 0 ≡ gone = omega (arith, w.if-gone-gt0.false) in
      w.log-is ∙ sym c.requires.0.back ∙ ap (λ (k : ℕ). laid_metadata_log (drop k entries)) z)
      c.if-gone-gt0.branch-raw

  module _ (j : c.args.terms.has_file ≡ true) where
    room : length (drop gone entries) < 128
    room = simp length-drop (omega (arith, count_is, (c.requires.1.1 j).0))

    place : c.if-gone-gt0.log.count < 128
    unfolding laid_metadata_log
    place = rw (ap (λ (x : MetadataLog). x.count) left) room

pub staying_spec : {M : Type 1} → statement M
staying_spec =
    tie.close
    (tie.spec
    (λ c κs. (c.requires.0, c.requires.1.0))
    (λ c. left c.before ∙ alone c.args.terms c.args.old (drop (gone c.before) (entries c.before)) (not-true _ c.if-not-joins.true-raw))
    (λ c κs. (c.requires.1.1 (not-false _ c.if-not-joins.false-raw)).1)
    (λ c. omega (arith, place c.before.before (not-false _ c.if-not-joins.false-raw)))
    (λ c. omega (arith, place c.before.before (not-false _ c.if-not-joins.false-raw)))
    (λ c. omega (arith, place c.before.before (not-false _ c.if-not-joins.false-raw)))
    (λ c. let j = not-false _ c.if-not-joins.false-raw in
    let a = c.args in
    joins a.terms a.old (drop (gone c.before.before) (entries c.before.before)) j (left c.before.before) (room c.before.before j) c.clean-metadata_file.ensures))
