-- Document 02, request (vii): "Import of an export gives equal metadata", of the entry points `export` and `import` by their contracts alone.
use mathlib.Core.Path.{◌≡◌, sym, ap, ◌∙◌}
use mathlib.Core.List.{List}
use Prim.Native.Nat.{ℕ}
use Rattle.records.specs.declared.metadata.TableMetadata.{TableMetadata}
use Rattle.file_rule.specs.Import as rule
use Rattle.file_export.proofs.ReadBack.{Call, metadata, file, export_read_back, relaid_start}
use Rattle.file_import.specs.declared.Imported.{Imported}
use Rattle.file_import.specs.Answer.{laid, import_answer}

-- whatever is answered to the bytes that an export wrote: the record that was exported, place by place, with nothing skipped
pub import_of_export : (c : Call) → c.answered.number ≡ 0 → (r : Imported) → r ≡ import_answer (file c) → r ≡ record { number = 0; place = 0; skipped = 0; metadata = metadata c }
unfolding import_answer
import_of_export c e r q =
    q ∙ ap laid (export_read_back c e) ∙ ap (λ (m : TableMetadata). record { number = 0; place = 0; skipped = 0; metadata = m }) (relaid_start c e)
