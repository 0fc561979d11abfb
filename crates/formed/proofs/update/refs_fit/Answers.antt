-- Each record of the part is asked what the rule asks of it.
use Rattle.rules.specs.Capacities.{name_room}
use Rattle.rules.specs.Blanks.{is_zero}
use Rattle.rules.specs.Kinds.{is_tidy_refs_part, set_branch_snapshot_kind, set_ref_kind, remove_ref_kind, ref_name_kinds, reference_kinds}
use Rattle.formed.proofs.Used.{fits, one_kind, three_kinds, none_rest, blank_reference_tidy}
use Rattle.formed.proofs.update.refs_fit.Goals as goal

pub returns : goal.returns
unfolding is_tidy_refs_part
returns c =
    let a = c.args in
    rw (
      fits ref_name_kinds a.k (three_kinds a.k set_branch_snapshot_kind set_ref_kind remove_ref_kind) (none_rest name_room is_zero a.p.name.bytes a.p.name.len) c.name_fits.ensures,
      fits reference_kinds a.k (one_kind a.k set_ref_kind) (blank_reference_tidy a.p.reference) c.reference_fits.ensures,
    )
