-- Document 02, request (vii): "Import of an export gives equal metadata, and unequal metadata never exports to equal bytes", of the entry point `export` by its
-- contract alone. A call is any metadata and buffer, and any outcome that the contract allows for them.
use Prim.Native.Nat.{ℕ}
use native.Mathlib.Omega.{arith}
use mathlib.Core.Path.{◌≡◌, refl, sym, ap, ◌∙◌}
use mathlib.Core.Bool.{Bool, true, false, cond}
use mathlib.Core.List.{List, []}
use mathlib.Core.Option.{some}
use lib.Dec.{eqb, leb}
use lib.ListN.{length, take, drop}
use lib.Seq.{take_at}
use borrow.Fn.Kinds.{Dens, ended_of}
use contract.Lifetimes.{Lfts}
use denote.Triple.Clauses.{AtExit}
use Rattle.records.specs.declared.metadata.TableMetadata.{TableMetadata}
use Rattle.rules.specs.Replies.{accepted, start_not_formed}
use Rattle.rules.specs.WellFormed.{metadata_formed}
use Rattle.rules.specs.Blanks.{is_tidy_metadata}
use Rattle.rules.specs.Layout.{read_metadata, laid_metadata}
use Rattle.rules.proofs.Checks.{only_then}
use Rattle.rules.proofs.Slots.Relaid.{relaid}
use Rattle.file_rule.specs.Import.{imported}
use Rattle.file_rule.specs.Files.{file_text}
use Rattle.file_rule.specs.Export as rule
use Rattle.file_rule.specs.Export.{is_shown, not_shown, short_buffer, export_number, exported}
use Rattle.file_rule.specs.Fits.{metadata_fits}
use Rattle.file_round.proofs.RoundTrip.{import_export, export_injective}
use Rattle.file_writer.specs.declared.Exported.{Exported}
use Rattle.file_export.specs.Answer.{not_formed, ruled, export_answer, export_bytes}
use Rattle.file_export.proofs.export.Kinds.{ps, r}
use Rattle.file_export.proofs.export.Reads.{Post}

-- ---- what an export that is answered with 0 has passed

-- the metadata has passed every check, and the file is what the rule writes
pub record Written (m : TableMetadata) (buffer : List ℕ) : Type 0 where
  pub tidy : is_tidy_metadata m ≡ true
  pub formed : metadata_formed (read_metadata m) ≡ true
  pub shown : is_shown (read_metadata m) ≡ true
  pub file : (ruled m buffer).file ≡ file_text (read_metadata m)

first_test : (b : Bool) (x y : rule.Exported) → (y.number ≡ accepted → ⊥) → (cond b x y).number ≡ accepted → (b ≡ true) × (x.number ≡ accepted)
first_test true x y n e = (refl, e)
first_test false x y n e = absurd (n e)

pub written : (m : TableMetadata) (buffer : List ℕ) → (ruled m buffer).number ≡ accepted → Written m buffer
unfolding exported export_number
written m buffer e =
    let text : List ℕ = file_text (read_metadata m) in
    let t = first_test (is_tidy_metadata m) (exported (read_metadata m) (length buffer)) not_formed (λ q. omega (arith, q)) e in
    let f = only_then (metadata_formed (read_metadata m)) {x = export_number (read_metadata m) (length buffer)} {y = start_not_formed} {z = accepted} (λ q. omega (arith, q)) t.1 in
    let s = only_then (is_shown (read_metadata m)) {x = cond (leb (length text) (length buffer)) 0 short_buffer} {y = not_shown} {z = accepted} (λ q. omega (arith, q)) f.1 in
    record {
      tidy = t.0;
      formed = f.0;
      shown = s.0;
      file = ap (λ (b : Bool). (cond b (exported (read_metadata m) (length buffer)) not_formed).file) t.0 ∙ ap (λ (n : ℕ). cond (eqb n accepted) text []) t.1;
    }

-- ---- calls

-- a call of `export`, and an outcome that its contract allows
pub record Call : Type 1 where
  pub lifetimes : Lfts 1
  pub given : Dens lifetimes ps
  pub answered : Exported
  pub left : AtExit (ended_of 1 ps r) lifetimes
  pub allowed : Post lifetimes given answered left

module _ (c : Call) where
  abbrev pub metadata : TableMetadata
  metadata = c.given.0

  -- the buffer as it was lent
  abbrev pub before : List ℕ
  before = c.given.1.0.now

  -- and as it is left
  abbrev pub after : List ℕ
  after = c.left.1.0.now

  -- the bytes that were written
  abbrev pub file : List ℕ
  file = take c.answered.length after

  pub fits : metadata_fits (read_metadata metadata) ≡ true
  fits = c.allowed.1.1

module _ (c : Call) (e : c.answered.number ≡ 0) where
  passed : Written (metadata c) (before c)
  unfolding export_answer
  passed = written (metadata c) (before c) (sym (ap (λ (x : Exported). x.number) c.allowed.0) ∙ e)

  -- the file is the one that the rule writes
  pub export_writes : file c ≡ file_text (read_metadata (metadata c))
  unfolding export_answer export_bytes
  export_writes =
      let text : List ℕ = (ruled (metadata c) (before c)).file in
      ap (λ (n : ℕ). take n (after c)) (ap (λ (x : Exported). x.length) c.allowed.0)
      ∙ ap (λ (bs : List ℕ). take (length text) bs) c.allowed.1.0
      ∙ take_at text (drop (length text) (before c)) (length text) refl
      ∙ passed.file

  -- "Import of an export gives equal metadata": number 0, nothing skipped
  pub export_read_back : imported (file c) ≡ record { number = 0; place = 0; skipped = 0; metadata = some (read_metadata (metadata c)) }
  export_read_back = ap (λ (bs : List ℕ). imported bs) export_writes ∙ import_export (read_metadata (metadata c)) passed.formed passed.shown (fits c)

  pub relaid_start : laid_metadata (read_metadata (metadata c)) ≡ metadata c
  relaid_start = relaid (metadata c) passed.tidy passed.formed

-- "unequal metadata never exports to equal bytes": two exports that are answered with 0 and have equal files are of the same metadata, place by place
pub exports_apart : (c d : Call) → c.answered.number ≡ 0 → d.answered.number ≡ 0 → file c ≡ file d → metadata c ≡ metadata d
exports_apart c d e f q =
    let p = passed c e in
    let s = passed d f in
    let same : read_metadata (metadata c) ≡ read_metadata (metadata d) = export_injective (read_metadata (metadata c)) (read_metadata (metadata d)) p.formed p.shown (fits c) s.formed s.shown (fits d) (sym (export_writes c e) ∙ q ∙ export_writes d f) in
    sym (relaid_start c e) ∙ ap laid_metadata same ∙ relaid_start d f
