-- The updates of partition specs together: what one of them decides, and the table after it.
use Rattle.std.specs.Prelude.{ℕ, ◌≡◌, List}
use Rattle.records.specs.declared.partition.PartitionSpecs.{PartitionSpecs}
use Rattle.records.specs.declared.schema.Schema.{Schema}
use Rattle.records.specs.declared.update.TableUpdate.{TableUpdate}
use Rattle.rules.specs.Register.{Terms, State}
use Rattle.rules.specs.Updates.{effect}
use Rattle.rules.specs.Layout.{laid_partition_specs}
use Rattle.rules.specs.Kinds.{read_update}
use Rattle.builder.specs.declared.builder.TableMetadataBuilder.{TableMetadataBuilder}
use Rattle.builder.specs.Pieces.{laid_builder, IsCurrent}
use Rattle.builder.specs.Answers.{Decides}
use Rattle.spec_updates.specs.declared.SpecsAnswer.{SpecsAnswer}

-- by terms whose offers are these bytes: the answer, and the table after it
pub record SpecsDecided (b : TableMetadataBuilder) (s : Schema) (t : PartitionSpecs) (bytes : List ℕ) (u : TableUpdate) (r : SpecsAnswer) : Type 0 where
  pub answers : (terms : Terms) (st : State) → terms.offers ≡ bytes → b ≡ laid_builder st → IsCurrent st.metadata s → t ≡ laid_partition_specs st.metadata.specs → Decides terms u st r.decision
  pub table : (terms : Terms) (st : State) → terms.offers ≡ bytes → b ≡ laid_builder st → t ≡ laid_partition_specs st.metadata.specs → r.decision.number ≡ 0 → r.table ≡ laid_partition_specs (effect terms (read_update u) st).metadata.specs
