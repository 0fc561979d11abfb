-- Each record of the part is asked what the rule asks of it.
use Rattle.std.proofs.Common.{◌∙◌, pos}
use Rattle.rules.specs.Kinds.{is_tidy_partition_specs_part, add_partition_spec_kind, set_default_partition_spec_kind, remove_partition_specs_kind, spec_kinds, spec_ids_kinds}
use Rattle.equality.proofs.Derived.{numbers}
use Rattle.formed.proofs.Used.{fits, one_kind, blank_spec_offer_tidy, blank_spec_ids_tidy}
use Rattle.formed.proofs.update.partition_specs_fit.Goals as goal

pub returns : goal.returns
unfolding is_tidy_partition_specs_part
returns c =
    let a = c.args in
    rw (
      fits spec_kinds a.k (one_kind a.k add_partition_spec_kind) (blank_spec_offer_tidy a.p.added) c.spec_offer_fits.ensures,
      c.eq.ensures ∙ numbers a.p.chosen.0 (pos 0),
      one_kind a.k set_default_partition_spec_kind,
      fits spec_ids_kinds a.k (one_kind a.k remove_partition_specs_kind) (blank_spec_ids_tidy a.p.removed) c.spec_ids_fit.ensures,
    )
