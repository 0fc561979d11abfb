use Rattle.std.proofs.Common.{◌∙◌, pos}
use Rattle.rules.specs.Blanks.{is_tidy_statistics_file, is_blank_statistics_file}
use Rattle.equality.proofs.Derived.{numbers}
use Rattle.formed.proofs.blanks.statistics_file_fits.Goals as goal

pub returns-then-used : goal.returns-then-used
unfolding is_tidy_statistics_file
returns-then-used c = rw (c.if-used.true, c.text_fits.ensures)

pub returns : goal.returns
unfolding is_blank_statistics_file
returns c =
    let f = c.args.f in
    rw (c.if-used.false, c.eq.ensures ∙ numbers f.snapshot_id.0 (pos 0), c.text_fits-2.ensures, c.eq-2.ensures ∙ numbers f.file_size_in_bytes.0 (pos 0))
