use Rattle.std.proofs.Common.{◌≡◌, ℕ, ◌-◌, ◌≤◌, length, map, sym, ap, ◌∙◌, arith}
use lib.ListN.{length-map, length-drop}
use Rattle.records.specs.Blanks.{no_metadata_log_entry}
use Rattle.rules.specs.Layout.{pad, laid_metadata_log_entry, read_metadata_log}
use Rattle.tables.proofs.Table.{within, read_length}
use Rattle.tables.proofs.Each.{tidy_metadata_log, made_metadata_log}
use Rattle.close.proofs.Moved.{moved_start, moved_on, moved_here, moved_none, moved_end, drop_map}
use Rattle.close.proofs.files.moved.Goals as goal
use Rattle.close.proofs.files.moved.Goals.{then-i-left, else-i-left}

pub loop-i-init : goal.loop-i-init
loop-i-init c =
    let h = tidy_metadata_log c.requires.laid_metadata_log in
    let fits : length (map laid_metadata_log_entry (read_metadata_log c.args.log)) ≤ 128 = omega (arith, length-map (read_metadata_log c.args.log) laid_metadata_log_entry, read_length h, within h) in
    moved_start fits h.slots

pub loop-i-preserved : goal.loop-i-preserved
loop-i-preserved c =
    let h = tidy_metadata_log c.requires.laid_metadata_log in
    let n : length (map laid_metadata_log_entry (read_metadata_log c.args.log)) ≡ c.args.log.count = length-map (read_metadata_log c.args.log) laid_metadata_log_entry ∙ read_length h in
    let fits : length (map laid_metadata_log_entry (read_metadata_log c.args.log)) ≤ 128 = omega (arith, n, within h) in
    moved_on fits c.loop-i.invariant c.if-i-left.entry (omega (arith, n))
    (λ d.
    elim c.if-i-left.branch [
      | then-i-left w ↦ w.entry-is ∙ moved_here fits c.loop-i.invariant _ (omega (arith, n, w.if-i-left.true)) d
      | else-i-left w ↦ w.entry-is ∙ w.blank-entry.ensures ∙ moved_none fits c.loop-i.invariant (omega (arith, n, w.if-i-left.false)) (omega (arith, n)) d
    ])

pub returns : goal.returns
returns c =
    let h = tidy_metadata_log c.requires.laid_metadata_log in
    let n : length (map laid_metadata_log_entry (read_metadata_log c.args.log)) ≡ c.args.log.count = length-map (read_metadata_log c.args.log) laid_metadata_log_entry ∙ read_length h in
    let fits : length (map laid_metadata_log_entry (read_metadata_log c.args.log)) ≤ 128 = omega (arith, n, within h) in
    made_metadata_log.same
    (moved_end fits c.loop-i.invariant (omega (arith, n)) ∙ ap (pad 128 no_metadata_log_entry) (drop_map laid_metadata_log_entry c.args.gone (read_metadata_log c.args.log)) ∙ sym (made_metadata_log.laid_items _))
    (sym (made_metadata_log.laid_count _ ∙ length-drop c.args.gone (read_metadata_log c.args.log) ∙ ap (λ (k : ℕ). k - c.args.gone) (read_length h)))
