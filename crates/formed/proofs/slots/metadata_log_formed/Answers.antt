use Rattle.std.proofs.Common.{◌∙◌, arith, ap, ◌&&◌, leb}
use Rattle.records.specs.Blanks.{no_metadata_log_entry}
use Rattle.rules.specs.Register as plain
use Rattle.rules.specs.WellFormed.{file_name_formed, metadata_log_formed}
use Rattle.rules.specs.Blanks.{is_tidy_metadata_log_entry, is_blank_metadata_log_entry, is_tidy_metadata_log}
use Rattle.rules.specs.Layout.{read_metadata_log_entry}
use Rattle.formed.proofs.Filled.{filled_read}
use Rattle.formed.proofs.slots.metadata_log_formed.Goals as goal

pub returns : goal.returns
unfolding is_tidy_metadata_log metadata_log_formed
returns c =
    let t = c.args.t in
    ap (λ b. leb t.count 128 && b) c.slots_fit.ensures
    ∙ filled_read read_metadata_log_entry is_tidy_metadata_log_entry (λ (e : plain.FileEntry). file_name_formed e.file) is_blank_metadata_log_entry no_metadata_log_entry 128 t.count t.items (omega arith)
