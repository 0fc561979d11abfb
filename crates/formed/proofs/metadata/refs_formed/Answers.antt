-- The order is asked of a table whose slots passed, so that its names are laid out.
use Rattle.rules.specs.Words.{ascending}
use Rattle.rules.specs.Capacities.{ref_room}
use Rattle.rules.specs.WellFormed.{ref_formed, ref_below, refs_formed}
use Rattle.rules.specs.Blanks.{is_tidy_refs}
use Rattle.rules.specs.Layout.{read_refs}
use Rattle.rules.proofs.Tables.{log_formed}
use Rattle.formed.proofs.Bools.{asked, not_asked}
use Rattle.formed.proofs.Laid.{laid_refs_lem}
use Rattle.formed.proofs.metadata.refs_formed.Goals as goal

pub refs_ascend-requires : goal.refs_ascend-requires
refs_ascend-requires c = laid_refs_lem c.args.t c.refs_filled.ensures c.if-refs_filled.true

pub returns-then-refs_filled : goal.returns-then-refs_filled
unfolding refs_formed
returns-then-refs_filled c =
    let t = c.args.t in
    asked (is_tidy_refs t) (log_formed ref_room ref_formed (read_refs t)) (ascending ref_below (read_refs t)) c.refs_filled.ensures c.if-refs_filled.true c.refs_ascend.ensures

pub returns : goal.returns
unfolding refs_formed
returns c =
    let t = c.args.t in
    not_asked (is_tidy_refs t) (log_formed ref_room ref_formed (read_refs t)) (ascending ref_below (read_refs t)) c.refs_filled.ensures c.if-refs_filled.false
