-- Numbers and texts of a file: with which of them nothing is wrong.
use Prim.Native.Nat.{ℕ, ◌≤◌, ◌<◌}
use native.Mathlib.Omega.{arith}
use mathlib.Core.Path.{◌≡◌, refl, ◌∙◌, ap}
use mathlib.Core.Bool.{Bool, true, false, ◌&&◌}
use mathlib.Core.List.{List, []}
use mathlib.Core.Option.{Option, some}
use lib.Dec.{leb}
use lib.IntN.{ℤ, pos, negsuc}
use lib.ListN.{length}
use lib.Signed.{le_z}
use borrow.Author.Tests.{leb-true, le-leb}
use Rattle.rules.specs.Words.{if_some, some_with}
use Rattle.rules.specs.Capacities.{largest_unsigned}
use Rattle.rules.proofs.Checks.{by_test, both, and_left}
use Rattle.json_rule.specs.Tree.{over_capacity}
use Rattle.json_rule.specs.Members.{is_one_of}
use Rattle.json_rule.specs.Shapes.{TextUpTo, OneOf, NumberIn, AUuid, ATransform}
use Rattle.json_rule.specs.Defects.{not_published, unless, text_defects, stands_at, is_uuid, is_transform}
use Rattle.file_rule.specs.Tables.{Single, IdOrNull, number32, number64}
use Rattle.file_rule.specs.FileDefects.{is_null, defects}
use Rattle.file_rule.specs.Written.{number_text}
use Rattle.file_rule.specs.Fits.{fits32, fits64, fits_unsigned}
use Rattle.file_round.proofs.Documents.{Good, lexeme_of, tree_at}
use Rattle.file_round.proofs.Numbers.{Fitting, number_token, number_read}
use Rattle.file_round.proofs.Texts.{text_read_lem}
use Rattle.file_round.proofs.Fields.{FineIn, number, quotation, mapped, mapped_fine, mapped_good, OptionGood}

-- ---- versions

pub data Version : ℕ → Type 0 where
  one : Version 1
  two : Version 2
  three : Version 3

-- ---- at most twenty digits

between : (least most : ℕ) → least < 10000000000000000000 → most < 20000000000000000000 → (z : ℤ) → (le_z (negsuc least) z && le_z z (pos most)) ≡ true → Fitting z
between least most l m (pos n) h = let k : n ≤ most = leb-true n most h in omega arith
between least most l m (negsuc n) h = let k : n ≤ least = leb-true n least (and_left (leb n least) true h) in omega arith

pub fitting32 : (z : ℤ) → fits32 z ≡ true → Fitting z
fitting32 z h = between 2147483647 2147483647 (omega arith) (omega arith) z h

pub fitting64 : (z : ℤ) → fits64 z ≡ true → Fitting z
fitting64 z h = between 9223372036854775807 9223372036854775807 (omega arith) (omega arith) z h

pub fitting_unsigned : (n : ℕ) → fits_unsigned n ≡ true → Fitting (pos n)
fitting_unsigned n h = let k : n ≤ largest_unsigned = leb-true n largest_unsigned h in omega arith

-- ---- numbers

module _ (version : ℕ) (of_schema : Bool) where
  pub number_fine : (least most z : ℤ) → (le_z least z && le_z z most) ≡ true → Fitting z → FineIn version of_schema (Single (NumberIn least most)) (some (number z))
  unfolding defects tree_at
  number_fine least most z h f schema place =
      ap (λ o. unless (some_with (λ n. le_z least n && le_z n most) o) (stands_at of_schema schema place) not_published) (number_read place z f)
      ∙ ap (λ b. unless b (stands_at of_schema schema place) not_published) h

  pub fine32 : (z : ℤ) → fits32 z ≡ true → FineIn version of_schema (Single (NumberIn (negsuc 2147483647) (pos 2147483647))) (some (number z))
  fine32 z h = number_fine (negsuc 2147483647) (pos 2147483647) z h (fitting32 z h)

  pub fine64 : (z : ℤ) → fits64 z ≡ true → FineIn version of_schema (Single (NumberIn (negsuc 9223372036854775807) (pos 9223372036854775807))) (some (number z))
  fine64 z h = number_fine (negsuc 9223372036854775807) (pos 9223372036854775807) z h (fitting64 z h)

  pub fine_unsigned : (n : ℕ) → fits_unsigned n ≡ true → FineIn version of_schema (Single (NumberIn (pos 0) (pos 18446744073709551615))) (some (number (pos n)))
  fine_unsigned n h = number_fine (pos 0) (pos 18446744073709551615) (pos n) (both (le-leb 0 n (omega arith)) h) (fitting_unsigned n h)

  pub id_fine : (z : ℤ) → fits64 z ≡ true → FineIn version of_schema IdOrNull (some (number z))
  unfolding defects tree_at
  id_fine z h schema place =
      by_test (λ l. l ≡ []) (is_null (lexeme_of place (number_text z))) (λ _. refl) (λ _. fine64 z h schema place)

  -- ---- texts

  pub text_fine : (room : ℕ) (bs : List ℕ) → leb (length bs) room ≡ true → FineIn version of_schema (Single (TextUpTo room)) (some (quotation bs))
  unfolding defects tree_at
  text_fine room bs h schema place =
      ap (λ o. text_defects room (stands_at of_schema schema place) o) (text_read_lem place bs) ∙ ap (λ b. unless b (stands_at of_schema schema place) over_capacity) h

  pub word_fine : (words : List (List ℕ)) (bs : List ℕ) → is_one_of words bs ≡ true → FineIn version of_schema (Single (OneOf words)) (some (quotation bs))
  unfolding defects tree_at
  word_fine words bs h schema place =
      ap (λ o. unless (some_with (is_one_of words) o) (stands_at of_schema schema place) not_published) (text_read_lem place bs) ∙ ap (λ b. unless b (stands_at of_schema schema place) not_published) h

  pub uuid_fine : (bs : List ℕ) → is_uuid bs ≡ true → FineIn version of_schema (Single AUuid) (some (quotation bs))
  unfolding defects tree_at
  uuid_fine bs h schema place =
      ap (λ o. unless (some_with is_uuid o) (stands_at of_schema schema place) not_published) (text_read_lem place bs) ∙ ap (λ b. unless b (stands_at of_schema schema place) not_published) h

  pub transform_fine : (bs : List ℕ) → is_transform bs ≡ true → FineIn version of_schema (Single ATransform) (some (quotation bs))
  unfolding defects tree_at
  transform_fine bs h schema place =
      ap (λ o. unless (some_with is_transform o) (stands_at of_schema schema place) not_published) (text_read_lem place bs) ∙ ap (λ b. unless b (stands_at of_schema schema place) not_published) h

-- ---- what may be absent

pub if_there : {A : Type 0} (p : A → Bool) (o : Option A) → if_some p o ≡ true → (x : A) → o ≡ some x → p x ≡ true
if_there p o h x e = rw e at h

pub good32 : (z : ℤ) → fits32 z ≡ true → Good 0 (number z)
good32 z h = number_token z (fitting32 z h)

pub good64 : (z : ℤ) → fits64 z ≡ true → Good 0 (number z)
good64 z h = number_token z (fitting64 z h)

pub optional_fine : (version : ℕ) (o : Option ℤ) → if_some fits64 o ≡ true → FineIn version false number64 (mapped number o)
optional_fine version o h = mapped_fine version false number64 number o (λ z e. fine64 version false z (if_there fits64 o h z e))

pub optional_good : (depth : ℕ) (o : Option ℤ) → if_some fits64 o ≡ true → OptionGood depth (mapped number o)
optional_good depth o h = mapped_good depth number o (λ z e. good64 z (if_there fits64 o h z e))

pub optional_fits : (o : Option ℤ) → if_some fits64 o ≡ true → (z : ℤ) → o ≡ some z → Fitting z
optional_fits o h z e = fitting64 z (if_there fits64 o h z e)

pub sym_some : {A : Type 0} (x y : A) → some x ≡ some y → y ≡ x
sym_some x y e = cc

pub optional32_fine : (version : ℕ) (o : Option ℤ) → if_some fits32 o ≡ true → FineIn version false number32 (mapped number o)
optional32_fine version o h = mapped_fine version false number32 number o (λ z e. fine32 version false z (if_there fits32 o h z e))

pub optional32_good : (depth : ℕ) (o : Option ℤ) → if_some fits32 o ≡ true → OptionGood depth (mapped number o)
optional32_good depth o h = mapped_good depth number o (λ z e. good32 z (if_there fits32 o h z e))

pub optional32_fits : (o : Option ℤ) → if_some fits32 o ≡ true → (z : ℤ) → o ≡ some z → Fitting z
optional32_fits o h z e = fitting32 z (if_there fits32 o h z e)
