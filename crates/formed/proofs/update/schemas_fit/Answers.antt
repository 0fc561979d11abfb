-- Each record of the part is asked what the rule asks of it.
use Rattle.std.proofs.Common.{◌∙◌, pos}
use Rattle.rules.specs.Kinds.{is_tidy_schemas_part, add_schema_kind, set_current_schema_kind, remove_schemas_kind, schema_ids_kinds}
use Rattle.equality.proofs.Derived.{numbers}
use Rattle.formed.proofs.Used.{fits, one_kind, blank_schema_ids_tidy}
use Rattle.formed.proofs.update.schemas_fit.Goals as goal

pub returns : goal.returns
unfolding is_tidy_schemas_part
returns c =
    let a = c.args in
    rw (
      c.schema_offer_is_blank.ensures,
      one_kind a.k add_schema_kind,
      c.eq.ensures ∙ numbers a.p.chosen.0 (pos 0),
      one_kind a.k set_current_schema_kind,
      fits schema_ids_kinds a.k (one_kind a.k remove_schemas_kind) (blank_schema_ids_tidy a.p.removed) c.schema_ids_fit.ensures,
    )
