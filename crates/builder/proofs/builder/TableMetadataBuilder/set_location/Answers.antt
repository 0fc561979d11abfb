-- What is compared is the trimmed location and the state's, and the builder that comes back has the trimmed one in its place.
use Rattle.std.proofs.Common.{◌≡◌, ℕ, List, refl, ap, ◌∙◌}
use mathlib.Core.Path.{ap₂}
use Rattle.records.specs.declared.text.Text.{Text}
use Rattle.rules.specs.Words.{same_bytes}
use Rattle.rules.specs.Names.{trimmed}
use Rattle.rules.specs.Register.{with_location, on_fields}
use Rattle.rules.specs.Register.Update.{SetLocation}
use Rattle.rules.specs.SingleUpdates.{set_location}
use Rattle.rules.specs.Layout.{read_text, laid_text, laid_fields}
use Rattle.rules.specs.Kinds.{laid_update}
use Rattle.rules.proofs.Slots.Reread.{reread_text}
use Rattle.builder.specs.Pieces.{laid_builder}
use Rattle.builder.specs.declared.builder.TableMetadataBuilder.{TableMetadataBuilder}
use Rattle.builder.proofs.Steps.{stepped_unless}
use Rattle.builder.proofs.Texts.{trimmed_fits}
use Rattle.builder.proofs.builder.TableMetadataBuilder.set_location.Goals as goal

pub same_text-same-requires-clause-len_le_text_room : goal.same_text-same-requires-clause-len_le_text_room
same_text-same-requires-clause-len_le_text_room c = rw c.trimmed-location.ensures (trimmed_fits c.args.location c.requires.len_le_location_room_2)

pub returns : goal.returns
unfolding set_location laid_builder laid_fields laid_update
returns c st p =
    let a = c.args in
    let t : List ℕ = trimmed (read_text a.location) in
    let l : c.trimmed-location.result ≡ laid_text t = c.trimmed-location.ensures in
    let new : read_text c.trimmed-location.result ≡ t = ap (λ (x : Text). read_text x) l ∙ reread_text t in
    let old : read_text a.self.fields.location ≡ st.metadata.fields.location = ap (λ (x : TableMetadataBuilder). read_text x.fields.location) p ∙ reread_text st.metadata.fields.location in
    let e : c.same_text-same.result ≡ same_bytes t st.metadata.fields.location = c.same_text-same.ensures ∙ ap₂ same_bytes new old in
    (refl, λ z. rw (e, l, p) (stepped_unless (same_bytes t st.metadata.fields.location) st (on_fields (with_location t) st) (SetLocation t) _ _ refl refl refl))
