-- The checks in their order, then the file.
use Prim.Native.Nat.{ℕ}
use mathlib.Core.Path.{◌≡◌, refl, sym, ap, ◌∙◌}
use mathlib.Core.Bool.{Bool, true, false, cond, ◌&&◌}
use mathlib.Core.List.{List, ◌++◌}
use borrow.Table.Steps.{cases}
use lib.ListN.{length, drop}
use Rattle.records.specs.declared.metadata.TableMetadata.{TableMetadata}
use Rattle.rules.specs.Replies.{start_not_formed}
use Rattle.rules.specs.WellFormed.{metadata_formed}
use Rattle.rules.specs.Blanks.{is_tidy_metadata}
use Rattle.rules.specs.Layout.{read_metadata}
use Rattle.rules.proofs.Checks.{and_left, and_right}
use Rattle.file_rule.specs.Files.{file_text}
use Rattle.file_rule.specs.Export as rule
use Rattle.file_rule.specs.Export.{is_shown, not_shown, short_buffer, export_number, exported}
use Rattle.file_writer.specs.declared.Exported.{Exported}
use Rattle.file_writer.specs.Answer.{fits, write_answer, write_bytes}
use Rattle.file_export.specs.Answer.{not_formed, ruled, export_answer, export_bytes}

-- an answer of the rule, with the buffer
abbrev told : rule.Exported → Exported
told e = record { number = e.number; length = length e.file }

abbrev left : rule.Exported → List ℕ → List ℕ
left e buffer = e.file ++ drop (length e.file) buffer

module _ (m : TableMetadata) (buffer : List ℕ) where
  answered : {x : Exported} {after : List ℕ} {e : rule.Exported} → ruled m buffer ≡ e → x ≡ told e → after ≡ left e buffer → (x ≡ export_answer m buffer) × (after ≡ export_bytes m buffer)
  unfolding export_answer export_bytes
  answered q p r = (p ∙ ap told (sym q), r ∙ ap (λ (e : rule.Exported). left e buffer) (sym q))

  not_formed_lem : (is_tidy_metadata m && metadata_formed (read_metadata m)) ≡ false → ruled m buffer ≡ not_formed
  unfolding exported
  not_formed_lem e = cases (is_tidy_metadata m) (λ t. let f : metadata_formed (read_metadata m) ≡ false = sym (ap (λ (b : Bool). b && metadata_formed (read_metadata m)) t) ∙ e in rw (t, f)) (λ t. rw t)

  formed : (is_tidy_metadata m && metadata_formed (read_metadata m)) ≡ true → ruled m buffer ≡ rule.written_by (read_metadata m) (export_number (read_metadata m) (length buffer))
  unfolding exported
  formed e = rw (and_left (is_tidy_metadata m) (metadata_formed (read_metadata m)) e, and_right (is_tidy_metadata m) (metadata_formed (read_metadata m)) e)

  pub refused_first : (is_tidy_metadata m && metadata_formed (read_metadata m)) ≡ false → (record { number = start_not_formed; length = 0 } ≡ export_answer m buffer) × (buffer ≡ export_bytes m buffer)
  refused_first e = answered (not_formed_lem e) refl refl

  pub refused_then : (is_tidy_metadata m && metadata_formed (read_metadata m)) ≡ true → is_shown (read_metadata m) ≡ false → (record { number = not_shown; length = 0 } ≡ export_answer m buffer) × (buffer ≡ export_bytes m buffer)
  unfolding export_number
  refused_then e s = answered (formed e ∙ ap (λ (b : Bool). rule.written_by (read_metadata m) (cond b (cond (fits (file_text (read_metadata m)) buffer) 0 short_buffer) not_shown)) s) refl refl

  pub put : {x : Exported} {after : List ℕ} → (is_tidy_metadata m && metadata_formed (read_metadata m)) ≡ true → is_shown (read_metadata m) ≡ true → x ≡ write_answer m buffer → after ≡ write_bytes m buffer → (x ≡ export_answer m buffer) × (after ≡ export_bytes m buffer)
  unfolding export_number write_answer write_bytes
  put {x} {after} e s p r =
      let text : List ℕ = file_text (read_metadata m) in
      let q : ruled m buffer ≡ rule.written_by (read_metadata m) (cond (fits text buffer) 0 short_buffer) = formed e ∙ ap (λ (b : Bool). rule.written_by (read_metadata m) (cond b (cond (fits text buffer) 0 short_buffer) not_shown)) s in
      cases (fits text buffer)
      (λ t. answered (q ∙ ap (λ (b : Bool). rule.written_by (read_metadata m) (cond b 0 short_buffer)) t) (p ∙ ap (λ (b : Bool). record { number = cond b 0 short_buffer; length = cond b (length text) 0 }) t) (r ∙ ap (λ (b : Bool). cond b (text ++ drop (length text) buffer) buffer) t))
      (λ t. answered (q ∙ ap (λ (b : Bool). rule.written_by (read_metadata m) (cond b 0 short_buffer)) t) (p ∙ ap (λ (b : Bool). record { number = cond b 0 short_buffer; length = cond b (length text) 0 }) t) (r ∙ ap (λ (b : Bool). cond b (text ++ drop (length text) buffer) buffer) t))
