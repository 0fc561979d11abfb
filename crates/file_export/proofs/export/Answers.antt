-- 1, then 38, then what is written. That the metadata fits is known from the start.
use Rattle.std.proofs.Common.{sym, ◌∙◌}
use Rattle.file_fitting.proofs.Fitting.{metadata_fits_lem}
use Rattle.file_export.proofs.Answers.{refused_first, refused_then, put}
use Rattle.file_export.proofs.export.Goals as goal

pub returns-then-not-is_formed : goal.returns-then-not-is_formed
returns-then-not-is_formed c =
    let r = refused_first c.args.metadata c.args.buffer.now (sym c.is_formed.ensures ∙ c.if-not-is_formed.true) in
    record { answer = r.0; bytes = r.1; fits = metadata_fits_lem c.args.metadata _ c.well_formed.0 }

pub returns-then-not-is_shown : goal.returns-then-not-is_shown
returns-then-not-is_shown c =
    let r = refused_then c.args.metadata c.args.buffer.now (sym c.is_formed.ensures ∙ c.if-not-is_formed.false) (sym c.is_shown.ensures ∙ c.if-not-is_shown.true) in
    record { answer = r.0; bytes = r.1; fits = metadata_fits_lem c.args.metadata _ c.well_formed.0 }

pub returns : goal.returns
returns c =
    let r = put c.args.metadata c.args.buffer.now (sym c.is_formed.ensures ∙ c.if-not-is_formed.false) (sym c.is_shown.ensures ∙ c.if-not-is_shown.false) c.write.ensures.value c.write.ensures.buffer_after in
    record { answer = r.0; bytes = r.1; fits = metadata_fits_lem c.args.metadata _ c.well_formed.0 }
