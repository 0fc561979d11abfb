-- A text taken byte by byte, with zeros behind it.
use Prim.Native.Nat.{ℕ, ◌+◌, ◌≤◌, ◌<◌}
use mathlib.Core.Path.{◌≡◌, sym, ap, ◌∙◌}
use mathlib.Core.Bool.{cond}
use mathlib.Core.List.{List}
use native.Mathlib.Omega.{arith}
use borrow.Author.Tests.{leb-true}
use borrow.Table.Steps.{cases}
use lib.Dec.{leb}
use lib.ListN.{get_or, drop, set, replicate}
use lib.Seq.{sets}
use Rattle.records.specs.declared.text.Name.{Name}
use Rattle.records.specs.declared.text.Text.{Text}
use Rattle.rules.specs.Layout.{pad, laid_text, laid_name}
use Rattle.json_store.specs.Puts.{part}
use Rattle.json_store.specs.Made.{text_in}
use Rattle.json_store.proofs.Stores.{sets_on, sets_pad, stored_end, part_length, part_at}

-- so much of a text is not yet taken
pub record Rest (texts : List ℕ) (place room n : ℕ) (bytes : List ℕ) (i : ℕ) : Type 0 where
  pub most : n ≤ room
  pub below : i ≤ n
  pub stored : sets (replicate room 0) 0 (part place n texts) ≡ sets bytes i (drop i (part place n texts))

module _ {texts : List ℕ} {place room n : ℕ} where
  pub rest_start : {bytes : List ℕ} → n ≤ room → bytes ≡ replicate room 0 → Rest texts place room n bytes 0
  rest_start h e = record { most = h; below = omega arith; stored = ap (λ (r : List ℕ). sets r 0 (part place n texts)) (sym e) }

  pub rest_more : {bytes : List ℕ} {i : ℕ} → Rest texts place room n bytes i → i < n → Rest texts place room n (set bytes i (get_or texts (place + i) 0)) (i + 1)
  rest_more {bytes} {i} x h =
      record {
        most = x.most;
        below = omega arith;
        stored = x.stored ∙ sets_on bytes i (part place n texts) 0 (get_or texts (place + i) 0) (omega (arith, part_length place n texts)) (sym (part_at place n texts i h));
      }

  pub rest_all : {bytes : List ℕ} {i : ℕ} → Rest texts place room n bytes i → n ≤ i → bytes ≡ pad room 0 (part place n texts)
  rest_all {bytes} {i} x h =
      stored_end room 0 (part place n texts) bytes i (omega (arith, part_length place n texts, x.most)) (omega (arith, part_length place n texts)) x.stored

abbrev pub length_in : ℕ → ℕ → List ℕ → ℕ
length_in room place texts = cond (leb (get_or texts place 0) room) (get_or texts place 0) room

pub length_small : (room place : ℕ) (texts : List ℕ) → length_in room place texts ≤ room
length_small room place texts = cases (leb (get_or texts place 0) room) (λ t. rw t (leb-true _ room t)) (λ f. rw f (omega arith))

module _ (texts bytes : List ℕ) (n : ℕ) where
  pub location_laid : n ≡ length_in 96 16 texts → bytes ≡ sets (replicate 96 0) 0 (part 17 n texts) → ◌≡◌ {A = Text} (record { bytes = bytes; len = n }) (laid_text (text_in 96 16 texts))
  unfolding laid_text text_in
  location_laid e x =
      let padded = x ∙ sets_pad 96 0 (part 17 n texts) (omega (arith, part_length 17 n texts, length_small 96 16 texts)) in
      rw (padded, e, part_length 17 (length_in 96 16 texts) texts)

  pub name_laid : n ≡ length_in 32 113 texts → bytes ≡ sets (replicate 32 0) 0 (part 114 n texts) → ◌≡◌ {A = Name} (record { bytes = bytes; len = n }) (laid_name (text_in 32 113 texts))
  unfolding laid_name text_in
  name_laid e x =
      let padded = x ∙ sets_pad 32 0 (part 114 n texts) (omega (arith, part_length 114 n texts, length_small 32 113 texts)) in
      rw (padded, e, part_length 114 (length_in 32 113 texts) texts)
