-- Blank metadata.
use mathlib.Core.Path.{ap}
use borrow.Author.Rules.{rules}
use Rattle.records.specs.declared.metadata.TableMetadata.{TableMetadata}
use Rattle.file_import.specs.declared.Imported.{Imported}
use Rattle.file_import.proofs.refused.Statement.{statement}
use Rattle.file_import.proofs.refused.Tie as tie

returns : tie.Need-returns
returns c = let a = c.args in ap (λ (m : TableMetadata). record { number = a.number; place = a.place; skipped = 0; metadata = m }) c.blank-metadata.ensures

pub refused_spec : {M : Type 1} → statement M
refused_spec = tie.close (tie.spec (λ c κs. search rules) returns)
