-- Lists of records: what is shown of each record of a list is shown of the list.
use Prim.Native.Nat.{ℕ, suc}
use mathlib.Core.Path.{◌≡◌, refl, ◌∙◌, ap}
use mathlib.Core.Bool.{Bool, true, false, ◌&&◌}
use mathlib.Core.List.{List, [], ◌∷◌, ◌++◌}
use mathlib.Core.Option.{some}
use lib.Dec.{leb}
use lib.ListN.{length}
use Rattle.rules.specs.Words.{all}
use Rattle.rules.proofs.Checks.{both, and_left, and_right}
use Rattle.json_rule.specs.Tree.{over_capacity, Members}
use Rattle.json_rule.specs.Members.{members_in}
use Rattle.json_rule.specs.Records.{records_of}
use Rattle.json_rule.specs.Defects.{unless, count_of}
use Rattle.file_rule.specs.Tables.{FileShape, Several}
use Rattle.file_rule.specs.FileDefects.{defects, item_defects}
use Rattle.file_rule.specs.Written.{more_items, items, list_text}
use Rattle.file_round.proofs.Documents.{Document, Documents, Listing, no_document, document, bytes_of, bytes_of_all, bytes_of_more, Good, GoodAll, past, behind, tree_at, items_at}
use Rattle.file_round.proofs.Fields.{FineIn}

abbrev pub documents : {A : Type 0} → (A → Document) → List A → Documents
documents f [] = no_document
documents f (x ∷ xs) = document (f x) (documents f xs)

abbrev pub listing : {A : Type 0} → (A → Document) → List A → Document
listing f l = Listing (documents f l)

-- a record is written as a document that can be read, with which nothing is wrong, and which says the record
pub record Shown {A : Type 0} (version depth : ℕ) (shape : FileShape) (make : Members → A) (write : A → List ℕ) (show : A → Document) (x : A) : Type 0 where
  pub written : write x ≡ bytes_of (show x)
  pub good : Good depth (show x)
  pub fine : FineIn version false shape (some (show x))
  pub made : (place : ℕ) → make (members_in (tree_at place (show x))) ≡ x

pub all_both : {A : Type 0} (p q : A → Bool) (l : List A) → all p l ≡ true → all q l ≡ true → all (λ x. p x && q x) l ≡ true
all_both p q [] h k = refl
all_both p q (x ∷ l) h k = both (both (and_left (p x) (all p l) h) (and_left (q x) (all q l) k)) (all_both p q l (and_right (p x) (all p l) h) (and_right (q x) (all q l) k))

-- ---- each by itself

-- as it is written
module _ {A : Type 0} (write : A → List ℕ) (show : A → Document) (ok : A → Bool) (each : (x : A) → ok x ≡ true → write x ≡ bytes_of (show x)) where
  more_written : (l : List A) → all ok l ≡ true → more_items write l ≡ bytes_of_more (documents show l)
  unfolding bytes_of
  more_written [] h = refl
  more_written (x ∷ l) h =
      ap (λ w. 44 ∷ w ++ more_items write l) (each x (and_left (ok x) (all ok l) h)) ∙ ap (λ w. 44 ∷ bytes_of (show x) ++ w) (more_written l (and_right (ok x) (all ok l) h))

  items_written : (l : List A) → all ok l ≡ true → items write l ≡ bytes_of_all (documents show l)
  unfolding bytes_of
  items_written [] h = refl
  items_written (x ∷ l) h = ap (λ w. w ++ more_items write l) (each x (and_left (ok x) (all ok l) h)) ∙ ap (λ w. bytes_of (show x) ++ w) (more_written l (and_right (ok x) (all ok l) h))

  pub each_written : (l : List A) → all ok l ≡ true → list_text write l ≡ bytes_of (listing show l)
  unfolding bytes_of
  each_written l h = ap (λ w. 91 ∷ w ++ (93 ∷ [])) (items_written l h)

-- as it can be read
pub each_good : {A : Type 0} (depth : ℕ) (show : A → Document) (ok : A → Bool) → ((x : A) → ok x ≡ true → Good depth (show x)) → (l : List A) → all ok l ≡ true → GoodAll depth (documents show l)
each_good depth show ok each [] h = tt
each_good depth show ok each (x ∷ l) h = (each x (and_left (ok x) (all ok l) h), each_good depth show ok each l (and_right (ok x) (all ok l) h))

-- as it is read back
pub each_made : {A : Type 0} (make : Members → A) (show : A → Document) (ok : A → Bool) → ((x : A) → ok x ≡ true → (place : ℕ) → make (members_in (tree_at place (show x))) ≡ x)
    → (l : List A) → all ok l ≡ true → (place : ℕ) → records_of make (items_at place (documents show l)) ≡ l
unfolding tree_at
each_made make show ok each [] h place = refl
each_made make show ok each (x ∷ l) h place =
    ap (λ y. y ∷ records_of make (items_at (past (behind place (show x)) (44 ∷ [])) (documents show l))) (each x (and_left (ok x) (all ok l) h) place)
    ∙ ap (λ r. x ∷ r) (each_made make show ok each l (and_right (ok x) (all ok l) h) (past (behind place (show x)) (44 ∷ [])))

-- as many as there are
pub counted : {A : Type 0} (show : A → Document) (l : List A) (place : ℕ) → count_of (items_at place (documents show l)) ≡ length l
unfolding tree_at
counted show [] place = refl
counted show (x ∷ l) place = ap suc (counted show l (past (behind place (show x)) (44 ∷ [])))

-- ---- all that is shown of each

module _ {A : Type 0} (version depth : ℕ) (shape : FileShape) (make : Members → A) (write : A → List ℕ) (show : A → Document) (ok : A → Bool) (each : (x : A) → ok x ≡ true → Shown version depth shape make write show x) where
  pub list_written : (l : List A) → all ok l ≡ true → list_text write l ≡ bytes_of (listing show l)
  list_written l h = each_written write show ok (λ x k. (each x k).written) l h

  pub list_good : (l : List A) → all ok l ≡ true → GoodAll depth (documents show l)
  list_good l h = each_good depth show ok (λ x k. (each x k).good) l h

  items_fine : (l : List A) → all ok l ≡ true → (schema place : ℕ) → item_defects version schema shape (items_at place (documents show l)) ≡ []
  unfolding defects tree_at
  items_fine [] h schema place = refl
  items_fine (x ∷ l) h schema place =
      ap (λ d. d ++ item_defects version schema shape (items_at (past (behind place (show x)) (44 ∷ [])) (documents show l))) ((each x (and_left (ok x) (all ok l) h)).fine schema place)
      ∙ items_fine l (and_right (ok x) (all ok l) h) schema (past (behind place (show x)) (44 ∷ []))

  pub list_fine : (room : ℕ) (l : List A) → all ok l ≡ true → leb (length l) room ≡ true → FineIn version false (Several room shape) (some (listing show l))
  unfolding defects tree_at
  list_fine room l h k schema place =
      ap (λ n. unless (leb n room) place over_capacity ++ item_defects version schema shape (items_at (past place (91 ∷ [])) (documents show l))) (counted show l (past place (91 ∷ [])))
      ∙ ap (λ b. unless b place over_capacity ++ item_defects version schema shape (items_at (past place (91 ∷ [])) (documents show l))) k
      ∙ items_fine l h schema (past place (91 ∷ []))

  pub list_made : (l : List A) → all ok l ≡ true → (place : ℕ) → records_of make (items_at place (documents show l)) ≡ l
  list_made l h place = each_made make show ok (λ x k. (each x k).made) l h place
