-- The bytes compared are those of the state's uuid, and the builder that comes back has the new ones in their place.
use Rattle.std.proofs.Common.{◌≡◌, refl, ap, ◌∙◌}
use Rattle.rules.specs.Words.{same_bytes}
use Rattle.rules.specs.Register.{with_uuid, on_fields}
use Rattle.rules.specs.Register.Update.{AssignUuid}
use Rattle.rules.specs.SingleUpdates.{assign_uuid}
use Rattle.rules.specs.Layout.{laid_fields}
use Rattle.rules.specs.Kinds.{laid_update}
use Rattle.builder.specs.Pieces.{laid_builder}
use Rattle.builder.specs.declared.builder.TableMetadataBuilder.{TableMetadataBuilder}
use Rattle.builder.proofs.Steps.{stepped_unless}
use Rattle.builder.proofs.builder.TableMetadataBuilder.assign_uuid.Goals as goal

pub returns : goal.returns
unfolding assign_uuid laid_builder laid_fields laid_update
returns c st p =
    let a = c.args in
    let e : c.same_bytes-same.result ≡ same_bytes a.uuid st.metadata.fields.uuid = c.same_bytes-same.ensures ∙ ap (λ (x : TableMetadataBuilder). same_bytes a.uuid x.fields.table_uuid) p in
    (refl, λ z. rw (e, p) (stepped_unless (same_bytes a.uuid st.metadata.fields.uuid) st (on_fields (with_uuid a.uuid) st) (AssignUuid a.uuid) _ _ refl refl refl))
