use Rattle.std.proofs.Common.{◌≡◌, ◌≤◌, ◌-◌, length, take, drop, sym, ap, ◌∙◌, arith}
use lib.ListN.{length-take, length-drop}
use lib.Seq.{take_all, length-take-le}
use Rattle.records.specs.declared.metadata.MetadataLog.{MetadataLog}
use Rattle.records.specs.Blanks.{no_metadata_log_entry}
use Rattle.rules.specs.Capacities.{metadata_log_room}
use Rattle.rules.specs.Layout.{pad, read_metadata_log}
use Rattle.tables.proofs.Table.{within, read_length}
use Rattle.tables.proofs.Keyed.{pad_more}
use Rattle.tables.proofs.Each.{tidy_metadata_log, made_metadata_log}
use Rattle.close.proofs.Logs.{no_files}
use Rattle.close.proofs.Parts.{part_laid}
use Rattle.close.proofs.files.part.Goals as goal

pub loop-i-init : goal.loop-i-init
loop-i-init c = ap (λ (t : MetadataLog). t.items) (c.blank-part.ensures ∙ no_files) ∙ made_metadata_log.laid_items _

pub loop-i-preserved : goal.loop-i-preserved
loop-i-preserved c =
    let a = c.args in
    let n : length (take (a.until - a.from) (drop a.from a.log.items)) ≤ metadata_log_room = omega (arith, length-take (a.until - a.from) (drop a.from a.log.items), within (tidy_metadata_log c.requires.laid_metadata_log)) in
    rw c.loop-i.invariant (pad_more metadata_log_room c.loop-i.i no_metadata_log_entry _ (take (a.until - a.from) (drop a.from a.log.items)) c.loop-i-test.true n)

pub returns : goal.returns
returns c =
    let a = c.args in
    let h = tidy_metadata_log c.requires.laid_metadata_log in
    let l = read_metadata_log a.log in
    let n : length (drop a.from (take a.until l)) ≡ a.until - a.from = length-drop a.from (take a.until l) ∙ ap (λ k. k - a.from) (length-take-le a.until l (omega (arith, read_length h))) in
    made_metadata_log.same
    (c.loop-i.invariant
    ∙ ap (pad metadata_log_room no_metadata_log_entry) (take_all c.loop-i.i (take (a.until - a.from) (drop a.from a.log.items)) c.loop-i-test.false ∙ part_laid h c.requires.from_le_until.0 c.requires.from_le_until.1)
    ∙ sym (made_metadata_log.laid_items _))
    (sym (made_metadata_log.laid_count _ ∙ n))
