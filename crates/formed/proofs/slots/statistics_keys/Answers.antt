use Rattle.std.proofs.Common.{arith}
use Rattle.records.specs.Blanks.{no_statistics_file}
use Rattle.rules.specs.WellFormed.{statistics_file_formed}
use Rattle.rules.specs.Blanks.{is_tidy_statistics_file, is_blank_statistics_file, is_tidy_statistics}
use Rattle.rules.specs.Capacities.{statistics_room}
use Rattle.rules.specs.Layout.{read_statistics_file}
use Rattle.formed.proofs.Gathered.{found_read}
use Rattle.formed.proofs.slots.statistics_keys.Goals as goal

pub returns : goal.returns
unfolding is_tidy_statistics
returns c =
    let t = c.args.t in
    found_read read_statistics_file is_tidy_statistics_file statistics_file_formed is_blank_statistics_file (λ x. x.snapshot) no_statistics_file statistics_room t.count t.items (omega arith) c.keys.ensures
