-- A text of what is kept of it, byte by byte, with zeros behind it.
use Prim.Native.Nat.{ℕ, zero, suc, ◌≤◌}
use native.Mathlib.Omega.{arith}
use mathlib.Core.Path.{◌≡◌, refl, sym, ap, ◌∙◌}
use mathlib.Core.Bool.{true, true≢false}
use mathlib.Core.List.{List, [], ◌∷◌, ◌++◌}
use borrow.Author.Tests.{eqb-true, eqb-false}
use borrow.Table.Steps.{cases}
use lib.Dec.{eqb}
use lib.ListN.{length, take, drop, replicate}
use Rattle.std.proofs.lemmas.List.{drop-replicate}
use Rattle.records.specs.declared.text.Name.{Name}
use Rattle.records.specs.declared.text.Text.{Text}
use Rattle.rules.specs.Layout.{pad, laid_text, laid_name}
use Rattle.json_rule.specs.Records.{uuid_of}
use Rattle.json_rule.specs.Defects.{is_uuid}
use Rattle.json_members.specs.Kept.{front}
use Rattle.json_members.proofs.Fronts.{front_length}
use Rattle.json_members.proofs.Uuids.{uuid_length}
use Rattle.json_store.specs.Puts.{uuid_bytes}
use Rattle.json_store.proofs.Uuids.{uuid_bytes_lem}

-- what is taken of enough is what is kept
front_taken : (n : ℕ) (kept : List ℕ) → n ≤ length kept → take n kept ≡ front n kept
unfolding front
front_taken zero kept h = refl
front_taken (suc n) [] h = absurd (omega arith)
front_taken (suc n) (b ∷ kept) h = ap (λ (l : List ℕ). b ∷ l) (front_taken n kept (omega arith))

module _ (kept : List ℕ) (n : ℕ) (h : n ≤ length kept) where
  copied : (room : ℕ) {blank : List ℕ} → blank ≡ replicate room 0 → take n kept ++ drop n blank ≡ pad room 0 (front n kept)
  copied room e = rw (e, drop-replicate {X = ℕ} n room 0, front_taken n kept h, front_length n kept)

  pub text_copied : {blank : List ℕ} → blank ≡ replicate 96 0 → ◌≡◌ {A = Text} (record { bytes = take n kept ++ drop n blank; len = n }) (laid_text (front n kept))
  unfolding laid_text
  text_copied e = rw (copied 96 e, front_length n kept)

  pub name_copied : {blank : List ℕ} → blank ≡ replicate 32 0 → ◌≡◌ {A = Name} (record { bytes = take n kept ++ drop n blank; len = n }) (laid_name (front n kept))
  unfolding laid_name
  name_copied e = rw (copied 32 e, front_length n kept)

-- ---- a uuid has 36 bytes

pub uuid_kept : (kept : List ℕ) (len : ℕ) → is_uuid (front len kept) ≡ true → uuid_bytes kept 0 16 ≡ uuid_of (front len kept)
uuid_kept kept len is =
    let long : len ≡ 36 =
    cases (eqb len 36)
    (λ t. eqb-true len 36 t)
    (λ f. absurd (true≢false (sym is ∙ uuid_length (front len kept) (λ e. eqb-false len 36 f (sym (front_length len kept) ∙ e))))) in
    rw long (uuid_bytes_lem kept (rw long at is))
