-- An import that is accepted is well formed, with blank unused places, so that a run can start from it.
use Prim.Native.Nat.{ℕ}
use native.Mathlib.Omega.{arith}
use mathlib.Core.Path.{◌≡◌, refl, sym, ap, ◌∙◌}
use mathlib.Core.Bool.{Bool, true, false, cond, ◌&&◌}
use mathlib.Core.List.{List}
use mathlib.Core.Option.{Option, none, some}
use lib.Dec.{ltb}
use borrow.Author.Tests.{ltb-true}
use Rattle.records.specs.declared.metadata.TableMetadata.{TableMetadata}
use Rattle.rules.specs.Words.{if_some}
use Rattle.rules.specs.Register.{Metadata}
use Rattle.rules.specs.WellFormed.{metadata_formed}
use Rattle.rules.specs.Blanks.{is_tidy_metadata}
use Rattle.rules.specs.Layout.{read_metadata, laid_metadata}
use Rattle.rules.proofs.Checks.{and_left}
use Rattle.rules.proofs.Slots.Laid.{tidy_metadata}
use Rattle.rules.proofs.Slots.Reread.{reread_metadata}
use Rattle.json_rule.specs.Tree.{Defect, Members, text}
use Rattle.json_rule.specs.Defects.{least}
use Rattle.file_rule.specs.FileDefects.{version_of, file_defects}
use Rattle.file_rule.specs.Import as rule
use Rattle.file_rule.specs.Import.{imported, said_by as members_said, answered, formed_or1, skipped_in, metadata_of}
use Rattle.file_import.specs.declared.Imported.{Imported}
use Rattle.file_import.specs.Answer.{laid, import_answer}
use Rattle.file_import.proofs.Numbers.{is_of_file, file_numbers}

abbrev StartsRun : TableMetadata → Type 0
StartsRun m = (is_tidy_metadata m ≡ true) × (metadata_formed (read_metadata m) ≡ true)

formed_laid : (m : Metadata) → metadata_formed m ≡ true → StartsRun (laid_metadata m)
formed_laid m f = (tidy_metadata m f, ap metadata_formed (reread_metadata m) ∙ f)

by_form : (skipped : ℕ) (m : Metadata) (b : Bool) → metadata_formed m ≡ b → (laid (cond b (record { number = 0; place = 0; skipped = skipped; metadata = some m }) (rule.refused 1 0))).number ≡ 0
    → StartsRun (laid (cond b (record { number = 0; place = 0; skipped = skipped; metadata = some m }) (rule.refused 1 0))).metadata
by_form skipped m true f e = formed_laid m f
by_form skipped m false f e = absurd (omega (arith, e))

by_defect : (ms : Members) (o : Option Defect) → if_some is_of_file o ≡ true → (laid (answered ms o)).number ≡ 0 → StartsRun (laid (answered ms o)).metadata
by_defect ms none p e = by_form (skipped_in (version_of ms) ms) (metadata_of (version_of ms) ms) (metadata_formed (metadata_of (version_of ms) ms)) refl e
by_defect ms (some d) p e = absurd (omega (arith, e, ltb-true 26 d.number (and_left (ltb 26 d.number) (ltb d.number 31) p)))

pub import_formed : (bs : List ℕ) (r : Imported) → r ≡ import_answer bs → r.number ≡ 0 → (is_tidy_metadata r.metadata ≡ true) × (metadata_formed (read_metadata r.metadata) ≡ true)
unfolding import_answer imported
import_formed bs r q e =
    let h = by_defect (members_said (text bs).tree) (least (file_defects (text bs))) (file_numbers bs) (sym (ap (λ (x : Imported). x.number) q) ∙ e) in
    (ap (λ (x : Imported). is_tidy_metadata x.metadata) q ∙ h.0, ap (λ (x : Imported). metadata_formed (read_metadata x.metadata)) q ∙ h.1)

-- a refusal is 1, or one of 27 to 30
abbrev is_refusal : ℕ → Bool
is_refusal n = ltb 26 n && ltb n 31

refused_by : (ms : Members) (o : Option Defect) → if_some is_of_file o ≡ true → ((laid (answered ms o)).number ≡ 0 → ⊥) → ((laid (answered ms o)).number ≡ 1 → ⊥) → is_refusal (laid (answered ms o)).number ≡ true
refused_by ms (some d) p n m = p
refused_by ms none p n m = go (metadata_formed (metadata_of (version_of ms) ms)) n m
  where
    go : (b : Bool) → ((laid (cond b (record { number = 0; place = 0; skipped = skipped_in (version_of ms) ms; metadata = some (metadata_of (version_of ms) ms) }) (rule.refused 1 0))).number ≡ 0 → ⊥)
        → ((laid (cond b (record { number = 0; place = 0; skipped = skipped_in (version_of ms) ms; metadata = some (metadata_of (version_of ms) ms) }) (rule.refused 1 0))).number ≡ 1 → ⊥)
        → is_refusal (laid (cond b (record { number = 0; place = 0; skipped = skipped_in (version_of ms) ms; metadata = some (metadata_of (version_of ms) ms) }) (rule.refused 1 0))).number ≡ true
    go true n m = absurd (n refl)
    go false n m = absurd (m refl)

pub import_numbers : (bs : List ℕ) → ((import_answer bs).number ≡ 0 → ⊥) → ((import_answer bs).number ≡ 1 → ⊥) → (ltb 26 (import_answer bs).number && ltb (import_answer bs).number 31) ≡ true
unfolding import_answer imported
import_numbers bs n m = refused_by (members_said (text bs).tree) (least (file_defects (text bs))) (file_numbers bs) n m
