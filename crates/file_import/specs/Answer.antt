-- What is answered to a file, in records with slots: what the rule says, and blank metadata where it has none.
use Rattle.std.specs.Prelude.{ℕ, List}
use Rattle.std.proofs.Math.Option.{Option, none, some}
use Rattle.records.specs.declared.metadata.TableMetadata.{TableMetadata}
use Rattle.records.specs.Blanks.{no_metadata}
use Rattle.rules.specs.Register.{Metadata}
use Rattle.rules.specs.Layout.{laid_metadata}
use Rattle.file_rule.specs.Import as rule
use Rattle.file_rule.specs.Import.{imported}
use Rattle.file_import.specs.declared.Imported.{Imported}

abbrev pub laid_or : Option Metadata → TableMetadata
laid_or none = no_metadata
laid_or (some m) = laid_metadata m

abbrev pub laid : rule.Imported → Imported
laid i = record { number = i.number; place = i.place; skipped = i.skipped; metadata = laid_or i.metadata }

abbrev pub refused_with : ℕ → ℕ → Imported
refused_with number place = record { number = number; place = place; skipped = 0; metadata = no_metadata }

unfoldable pub import_answer : List ℕ → Imported
import_answer bs = laid (imported bs)
