-- Those that stay of the slots from the place on, which are laid out from the entries.
use Rattle.std.proofs.Common.{List, map, drop, refl, ap, ◌∙◌, arith, rules}
use lib.Seq.{take_all}
use Rattle.rules.specs.Register.{LogEntry}
use Rattle.rules.specs.Layout.{read_fields, read_log_entry, laid_log_entry, read_snapshot_log}
use Rattle.tables.proofs.Table.{read_length}
use Rattle.tables.proofs.Spans.{kept_run}
use Rattle.tables.proofs.Each.{tidy_snapshot_log, made_snapshot_log}
use Rattle.close.specs.Facts.{is_staying}
use Rattle.close.proofs.Logs.{no_entries}
use Rattle.close.proofs.Parts.{part_laid}
use Rattle.close.proofs.history.kept_from.Goals as goal

pub returns : goal.returns
returns c =
    let a = c.args in
    let h = tidy_snapshot_log c.requires.laid_snapshot_log in
    kept_run made_snapshot_log (λ x. is_staying a.ids.now a.added.now a.mains.now (read_fields a.f).current (read_log_entry x)) (is_staying a.ids.now a.added.now a.mains.now (read_fields a.f).current)
    (drop a.from (read_snapshot_log a.log))
    (part_laid h c.requires.from_le_count (omega arith) ∙ ap (λ (m : List LogEntry). map laid_log_entry (drop a.from m)) (take_all a.log.count (read_snapshot_log a.log) (omega (arith, read_length h))))
    refl (c.blank-kept.ensures ∙ no_entries)
    (c.keep_into.ensures (λ x. is_staying a.ids.now a.added.now a.mains.now (read_fields a.f).current (read_log_entry x)) (λ b r k. search rules)) refl
