-- Document 02, request (vii): "Import of an export gives equal metadata, and unequal metadata never exports to equal bytes."
use Prim.Native.Nat.{ℕ}
use mathlib.Core.Path.{◌≡◌, ◌∙◌, sym, ap}
use mathlib.Core.Bool.{true, false, cond}
use mathlib.Core.List.{[], ◌∷◌, ◌++◌}
use mathlib.Core.Option.{none, some}
use Rattle.rules.specs.Register.{Metadata}
use Rattle.rules.specs.WellFormed.{metadata_formed}
use Rattle.json_rule.specs.Tree.{Members}
use Rattle.json_rule.specs.Defects.{least}
use Rattle.file_rule.specs.Tables.{OfKind, TheFile}
use Rattle.file_rule.specs.FileDefects.{defects, file_defects}
use Rattle.file_rule.specs.Import.{metadata_of, skipped_in, Imported, refused, formed_or1, answered, said_by, imported}
use Rattle.file_rule.specs.Files.{file_text}
use Rattle.file_rule.specs.Export.{is_shown}
use Rattle.file_rule.specs.Fits.{metadata_fits}
use Rattle.file_round.proofs.Documents.{past, tree_at, members_at, document_read}
use Rattle.file_round.proofs.Fields.{entries_of, nothing_skipped}
use Rattle.file_round.proofs.Scalars.{Version, sym_some}
use Rattle.file_round.proofs.File.{Bounds, file_fields, file_show, file_written, file_names, file_fine, file_good}
use Rattle.file_round.proofs.Made.{metadata_made, version_read}
use Rattle.file_round.proofs.Bounds.{version_formed_lem, metadata_bounds}

-- all of it, none skipped
abbrev pub all_of : Metadata → Imported
all_of m = record { number = 0; place = 0; skipped = 0; metadata = some m }

module _ (m : Metadata) (h : metadata_formed m ≡ true) (v : Version m.fields.version) (b : Bounds m.fields.version m) where
  abbrev version : ℕ
  version = m.fields.version

  abbrev inner : ℕ
  inner = past 0 (123 ∷ [])

  abbrev said : Members
  said = members_at inner (entries_of (file_fields version version m))

  -- nothing is wrong with the file
  no_defects : file_defects (record { tree = some (tree_at 0 (file_show version m)); stop = none }) ≡ []
  unfolding file_defects tree_at
  no_defects = ap (λ w. defects w 0 false (OfKind TheFile) (tree_at 0 (file_show version m)) ++ []) (version_read m v b inner) ∙ ap (λ d. d ++ []) (file_fine v m b 0 0)

  file_read : answered said none ≡ all_of m
  file_read =
      ap (λ w. formed_or1 (skipped_in w said) (metadata_of w said)) (version_read m v b inner)
      ∙ ap (λ n. formed_or1 n (metadata_of version said)) (nothing_skipped version (file_fields version version m) inner (file_names v m b v))
      ∙ ap (λ x. formed_or1 0 x) (metadata_made m v b inner)
      ∙ ap (λ t. cond t (all_of m) (refused 1 0)) h

  written_read : imported (file_text m) ≡ all_of m
  unfolding imported tree_at
  written_read =
      ap (λ bs. imported bs) (file_written m v b)
      ∙ ap (λ t. answered (said_by t.tree) (least (file_defects t))) (document_read (file_show version m) (file_good v m b))
      ∙ ap (λ d. answered said (least d)) no_defects
      ∙ file_read

-- "Import of an export gives equal metadata": all of it, nothing skipped. The metadata is well formed, a file can show it, and records can hold it.
pub import_export : (m : Metadata) → metadata_formed m ≡ true → is_shown m ≡ true → metadata_fits m ≡ true → imported (file_text m) ≡ record { number = 0; place = 0; skipped = 0; metadata = some m }
import_export m h s f = written_read m h (version_formed_lem m h s f) (metadata_bounds m h s f)

-- "unequal metadata never exports to equal bytes"
pub export_injective : (m n : Metadata) → metadata_formed m ≡ true → is_shown m ≡ true → metadata_fits m ≡ true → metadata_formed n ≡ true → is_shown n ≡ true → metadata_fits n ≡ true → file_text m ≡ file_text n → m ≡ n
export_injective m n h s f h' s' f' e =
    sym_some n m (ap (λ (r : Imported). r.metadata) (sym (import_export n h' s' f') ∙ sym (ap (λ bs. imported bs) e) ∙ import_export m h s f))
