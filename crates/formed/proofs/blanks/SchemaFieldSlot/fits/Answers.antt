use Rattle.std.proofs.Common.{◌∙◌, ◌&&◌, pos}
use Rattle.rules.specs.Blanks.{is_zero, is_zero_z, is_tidy_name, is_blank_name, is_tidy_schema_field, is_blank_schema_field}
use Rattle.equality.proofs.Derived.{numbers}
use Rattle.formed.proofs.Unused.{one_arm}
use Rattle.formed.proofs.blanks.SchemaFieldSlot.fits.Goals as goal

pub returns : goal.returns
unfolding is_tidy_schema_field is_blank_schema_field
returns c =
    let f = c.args.self.now in
    rw (c.eq.ensures ∙ numbers f.id.0 (pos 0)) (one_arm c.args.is_used (is_zero_z f.id.0 && is_zero f.field_type) (is_tidy_name f.name) (is_blank_name f.name) c.name_fits.ensures)
