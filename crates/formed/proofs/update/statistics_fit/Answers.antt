-- Each record of the part is asked what the rule asks of it.
use Rattle.std.proofs.Common.{◌∙◌, pos}
use Rattle.rules.specs.Kinds.{is_tidy_statistics_part, set_statistics_kind, remove_statistics_kind, set_partition_statistics_kind, remove_partition_statistics_kind, statistics_file_kinds}
use Rattle.equality.proofs.Derived.{numbers}
use Rattle.formed.proofs.Used.{fits, two_kinds, blank_statistics_file_tidy}
use Rattle.formed.proofs.update.statistics_fit.Goals as goal

pub returns : goal.returns
unfolding is_tidy_statistics_part
returns c =
    let a = c.args in
    rw (
      fits statistics_file_kinds a.k (two_kinds a.k set_statistics_kind set_partition_statistics_kind) (blank_statistics_file_tidy a.p.file) c.statistics_file_fits.ensures,
      c.eq.ensures ∙ numbers a.p.removed.0 (pos 0),
      two_kinds a.k remove_statistics_kind remove_partition_statistics_kind,
    )
