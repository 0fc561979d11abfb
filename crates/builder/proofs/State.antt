-- The pieces of a state, read back from its builder.
use mathlib.Core.Path.{◌≡◌, ap, ◌∙◌}
use Rattle.rules.specs.Register.{State}
use Rattle.rules.specs.Layout.{given, read_fields}
use Rattle.rules.proofs.Slots.Reread.{reread_fields}
use Rattle.builder.specs.declared.builder.TableMetadataBuilder.{TableMetadataBuilder}
use Rattle.builder.specs.Pieces.{laid_builder}
use Rattle.builder.proofs.Choices.{given_back}

module _ {b : TableMetadataBuilder} (st : State) (e : b ≡ laid_builder st) where
  pub its_fields : read_fields b.fields ≡ st.metadata.fields
  unfolding laid_builder
  its_fields = ap (λ (b : TableMetadataBuilder). read_fields b.fields) e ∙ reread_fields st.metadata.fields

  pub its_own : given b.has_own b.own.0 ≡ st.own
  unfolding laid_builder
  its_own = ap (λ (b : TableMetadataBuilder). given b.has_own b.own.0) e ∙ given_back st.own
