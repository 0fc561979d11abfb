-- Each record of the part is asked what the rule asks of it; the uuid has its 16 bytes.
use Rattle.std.proofs.Common.{arith}
use Rattle.rules.specs.Capacities.{text_room}
use Rattle.rules.specs.Blanks.{is_zero}
use Rattle.rules.specs.Kinds.{is_tidy_fields_part, assign_uuid_kind, upgrade_format_version_kind, set_location_kind, location_kinds}
use Rattle.formed.proofs.Scans.{with_slots}
use Rattle.formed.proofs.Used.{fits, one_kind, none_rest}
use Rattle.formed.proofs.update.fields_fit.Goals as goal

pub returns : goal.returns
unfolding is_tidy_fields_part
returns c =
    let a = c.args in
    rw (
      with_slots is_zero a.p.uuid 0 16 (omega arith) c.zeros_from.ensures,
      fits location_kinds a.k (one_kind a.k set_location_kind) (none_rest text_room is_zero a.p.location.bytes a.p.location.len) c.text_fits.ensures,
      one_kind a.k assign_uuid_kind,
      one_kind a.k upgrade_format_version_kind,
    )
