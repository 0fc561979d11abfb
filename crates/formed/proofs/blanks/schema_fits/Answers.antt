use Rattle.std.proofs.Common.{◌∙◌, pos}
use Rattle.rules.specs.Blanks.{is_zero, is_zero_z, is_tidy_schema_field, is_blank_schema_field, is_tidy_schema, is_blank_schema}
use Rattle.equality.proofs.Derived.{numbers}
use Rattle.formed.proofs.Unused.{slots_place}
use Rattle.formed.proofs.blanks.schema_fits.Goals as goal

pub returns : goal.returns
unfolding is_tidy_schema is_blank_schema
returns c =
    let x = c.args.s in
    rw (c.eq.ensures ∙ numbers x.schema_id.0 (pos 0)) (slots_place c.args.used (is_zero_z x.schema_id.0) (is_zero x.count) 32 x.count x.items c.unused_from-from.ensures is_tidy_schema_field is_blank_schema_field c.slots_fit.ensures)
