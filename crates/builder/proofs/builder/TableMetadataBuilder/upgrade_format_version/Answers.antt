-- The version compared is the state's, and the builder that comes back has the new one and the next row id that goes with it.
use Rattle.std.proofs.Common.{refl, cond, eqb}
use Rattle.records.specs.declared.counters.RowId.{RowId}
use Rattle.rules.specs.Register.{with_version, on_fields}
use Rattle.rules.specs.Register.Update.{UpgradeFormatVersion}
use Rattle.rules.specs.SingleUpdates.{upgrade_format_version_checks, upgrade_format_version}
use Rattle.rules.specs.Layout.{laid_fields}
use Rattle.rules.specs.Kinds.{laid_update}
use Rattle.builder.specs.Pieces.{laid_builder}
use Rattle.builder.proofs.Steps.{stepped_unless}
use Rattle.builder.proofs.builder.TableMetadataBuilder.upgrade_format_version.Goals as goal

pub returns : goal.returns
unfolding upgrade_format_version_checks upgrade_format_version laid_builder laid_fields laid_update
returns c st p =
    let a = c.args in
    let row : RowId = cond (eqb a.version 3) (record { 0 = 0 }) st.metadata.fields.next_row in
    rw (c.next_row_at-builder.ensures, c.choose.ensures, p)
    (refl, λ z. stepped_unless (eqb a.version st.metadata.fields.version) st (on_fields (with_version a.version row) st) (UpgradeFormatVersion a.version) _ _ refl refl refl)
