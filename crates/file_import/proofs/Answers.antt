-- What is answered to a file, by its version, by what was read of its text, and by whether its metadata is well formed.
use Prim.Native.Nat.{ℕ, ◌%◌, ◌<◌}
use native.Mathlib.Nat.{mod-eq_of_lt}
use native.Mathlib.Omega.{arith}
use mathlib.Core.Path.{◌≡◌, refl, sym, ap, ◌∙◌}
use mathlib.Core.Bool.{Bool, true, false, cond, ◌&&◌}
use mathlib.Core.List.{List, [], ◌++◌}
use mathlib.Core.Option.{Option, none, some}
use lib.Dec.{eqb, ltb}
use lib.ListN.{length, replicate}
use borrow.Author.Tests.{ne_eqb, ltb-true}
use Rattle.rules.specs.Words.{if_some}
use Rattle.rules.proofs.Checks.{and_right}
use Rattle.records.specs.declared.metadata.TableMetadata.{TableMetadata}
use Rattle.rules.specs.Register.{Metadata}
use Rattle.rules.specs.WellFormed.{metadata_formed}
use Rattle.rules.specs.Blanks.{is_tidy_metadata}
use Rattle.rules.specs.Layout.{read_metadata, laid_metadata}
use Rattle.json_rule.specs.Tree.{Defect, Json, Text, text}
use Rattle.json_rule.specs.Members.{members_in}
use Rattle.json_rule.specs.Defects.{least, stop_defects}
use Rattle.json_judge.proofs.Least.{least_none}
use Rattle.json_tokens.specs.Tokens.{lexemes_at}
use Rattle.file_rule.specs.FileDefects.{version_of, tree_defects, file_defects}
use Rattle.file_rule.specs.Import as rule
use Rattle.file_rule.specs.Import.{imported, said_by as members_said, answered, formed_or1, skipped_in}
use Rattle.file_cells.specs.Filled.{filled}
use Rattle.file_records.specs.Decoded.{metadata_in}
use Rattle.file_decoded.proofs.Metadata.{Blank, blank}
use Rattle.file_decoded.proofs.Accepted.{has_tree, accepted}
use Rattle.file_walk.specs.declared.seat.Seat.{Seat}
use Rattle.file_import.specs.declared.Imported.{Imported}
use Rattle.file_walk.specs.Seats.{said_by}
use Rattle.file_import.specs.Versions.{version_at_start}
use Rattle.file_import.specs.Reads.{tree_says, text_says, tree_fills, tree_skips, TextRead}
use Rattle.file_import.specs.Answer.{laid, refused_with, import_answer}
use Rattle.file_import.proofs.Versions.{text_version}
use Rattle.file_import.proofs.Numbers.{is_of_file, file_numbers}
use Rattle.file_laid.proofs.Metadata.{laid_read, laid_tidy}

module _ (bs : List ℕ) where
  -- ---- the version

  pub version_is : (version : ℕ) → version ≡ version_at_start (length bs) (lexemes_at bs 0) → version ≡ version_of (members_said (text bs).tree)
  unfolding lexemes_at
  version_is version e = e ∙ sym (text_version bs)

  tree_says_lem : (version : ℕ) (t : Option Json) → version ≡ version_of (members_said t) → tree_says version t ≡ tree_defects t
  tree_says_lem version none e = refl
  tree_says_lem version (some x) e = ap (λ (n : ℕ). tree_says n (some x)) e

  text_says_lem : (version : ℕ) → version ≡ version_of (members_said (text bs).tree) → text_says version (text bs) ≡ file_defects (text bs)
  unfolding file_defects
  text_says_lem version e = ap (λ (ds : List Defect). ds ++ stop_defects (text bs).stop) (tree_says_lem version (text bs).tree e)

  module _ (version : ℕ) (cells after : List ℕ) (s : Seat) (v : version ≡ version_at_start (length bs) (lexemes_at bs 0)) (r : TextRead bs version cells s after) where
    least_is : said_by s ≡ least (file_defects (text bs))
    least_is = r.says ∙ ap least (text_says_lem version (version_is version v))

    -- ---- something is wrong with the text

    found : (s.number ≡ 0 → ⊥) → least (file_defects (text bs)) ≡ some (record { place = s.place; number = s.number })
    found n = sym least_is ∙ ap (λ (b : Bool). cond b none (some (record { place = s.place; number = s.number }))) (ne_eqb s.number 0 n)

    small : (s.number ≡ 0 → ⊥) → s.number < 256
    small n =
        let h : is_of_file (record { place = s.place; number = s.number }) ≡ true = sym (ap (λ (o : Option Defect). if_some is_of_file o) (found n)) ∙ file_numbers bs in
        omega (arith, ltb-true s.number 31 (and_right (ltb 26 s.number) (ltb s.number 31) h))

    pub wrong : (s.number ≡ 0 → ⊥) → (number : ℕ) → number ≡ s.number % 256 → refused_with number s.place ≡ import_answer bs
    unfolding import_answer imported
    wrong n number e =
        ap (λ (k : ℕ). refused_with k s.place) (e ∙ mod-eq_of_lt (small n))
        ∙ sym (ap (λ (o : Option Defect). laid (answered (members_said (text bs).tree) o)) (found n))

    -- ---- nothing is

    module _ (z : s.number ≡ 0) where
      fine : file_defects (text bs) ≡ []
      fine = least_none (file_defects (text bs)) (sym least_is ∙ ap (λ (n : ℕ). cond (eqb n 0) none (some (record { place = s.place; number = n }))) z)

      abbrev tree : Json
      tree = (has_tree bs fine).0

      is_tree : (text bs).tree ≡ some tree
      is_tree = (has_tree bs fine).1

      is_version : version ≡ version_of (members_in tree)
      is_version = version_is version v ∙ ap (λ (t : Option Json). version_of (members_said t)) is_tree

      is_cells : after ≡ filled version 100 0 tree cells
      is_cells = r.fills ∙ ap (λ (t : Option Json). tree_fills version t cells) is_tree

      is_skipped : s.count ≡ skipped_in version (members_in tree)
      is_skipped = r.skips ∙ ap (λ (t : Option Json). tree_skips version t) is_tree

      answered_by : cells ≡ replicate 9047 0 → import_answer bs ≡ laid (formed_or1 s.count (metadata_in bs after version))
      unfolding import_answer
      answered_by b =
          ap laid (accepted bs tree is_tree fine cells (rw b blank))
          ∙ sym (ap (λ (n : ℕ). laid (formed_or1 n (metadata_in bs after version))) is_skipped ∙ ap (λ (l : List ℕ). laid (formed_or1 (skipped_in version (members_in tree)) (metadata_in bs l version))) is_cells
          ∙ ap (λ (n : ℕ). laid (formed_or1 (skipped_in n (members_in tree)) (metadata_in bs (filled n 100 0 tree cells) n))) is_version)

      -- ---- whether the metadata is well formed

      module _ (b : cells ≡ replicate 9047 0) (m : TableMetadata) (l : m ≡ laid_metadata (metadata_in bs after version)) where
        formed_is : (is_tidy_metadata m && metadata_formed (read_metadata m)) ≡ metadata_formed (metadata_in bs after version)
        formed_is =
            ap (λ (k : TableMetadata). is_tidy_metadata k && metadata_formed (read_metadata k)) l
            ∙ ap (λ (t : Bool). t && metadata_formed (read_metadata (laid_metadata (metadata_in bs after version)))) (laid_tidy bs after version)
            ∙ ap metadata_formed (laid_read bs after version)

        pub not_formed_lem : (is_tidy_metadata m && metadata_formed (read_metadata m)) ≡ false → refused_with 1 0 ≡ import_answer bs
        not_formed_lem f =
            sym (answered_by b ∙ ap (λ (t : Bool). laid (cond t (record { number = 0; place = 0; skipped = s.count; metadata = some (metadata_in bs after version) }) (rule.refused 1 0))) (sym formed_is ∙ f))

        pub is_formed_lem : (is_tidy_metadata m && metadata_formed (read_metadata m)) ≡ true → record { number = 0; place = 0; skipped = s.count; metadata = m } ≡ import_answer bs
        is_formed_lem f =
            ap (λ (k : TableMetadata). record { number = 0; place = 0; skipped = s.count; metadata = k }) l
            ∙ sym (answered_by b ∙ ap (λ (t : Bool). laid (cond t (record { number = 0; place = 0; skipped = s.count; metadata = some (metadata_in bs after version) }) (rule.refused 1 0))) (sym formed_is ∙ f))
