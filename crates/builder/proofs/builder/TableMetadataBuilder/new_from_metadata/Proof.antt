-- A new builder is made of the previous fields and of nothing else.
use mathlib.Core.Path.{refl}
use Rattle.builder.specs.Pieces.{fresh}
use Rattle.builder.proofs.builder.TableMetadataBuilder.new_from_metadata.Statement.{statement}
use Rattle.builder.proofs.builder.TableMetadataBuilder.new_from_metadata.Tie as tie

returns : tie.Need-returns
unfolding fresh
returns c = refl

pub new_from_metadata_spec : {M : Type 1} → statement M
new_from_metadata_spec = tie.close (tie.spec returns)
