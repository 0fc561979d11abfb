-- Lists of records and of numbers: what is shown of each is shown of the list.
use Prim.Native.Nat.{ℕ}
use mathlib.Core.Path.{◌≡◌, refl, ◌∙◌, ap}
use mathlib.Core.Bool.{Bool, true, false}
use mathlib.Core.List.{List, [], ◌∷◌, ◌++◌}
use mathlib.Core.Option.{some}
use lib.Dec.{leb}
use lib.IntN.{ℤ, pos}
use lib.ListN.{length}
use Rattle.rules.specs.Words.{all, or_else}
use Rattle.rules.proofs.Checks.{and_left, and_right}
use Rattle.json_rule.specs.Tree.{over_capacity}
use Rattle.json_rule.specs.Records.{numbers_of}
use Rattle.json_rule.specs.Shapes.{Shape, ListUpTo}
use Rattle.json_rule.specs.Defects.{unless, defects, item_defects}
use Rattle.file_rule.specs.Written.{number_text, list_text}
use Rattle.file_round.proofs.Documents.{Document, bytes_of, GoodAll, past, behind, tree_at, items_at}
use Rattle.file_round.proofs.Numbers.{Fitting, number_read, number_token}
use Rattle.file_round.proofs.Fields.{number}
use Rattle.file_round.proofs.Lists.{documents, listing, counted, each_written, each_good}
use Rattle.log_round.proofs.Objects.{Fine}

module _ {A : Type 0} (shape : Shape) (show : A → Document) (ok : A → Bool) (each : (x : A) → ok x ≡ true → Fine false shape (some (show x))) where
  items_fine : (l : List A) → all ok l ≡ true → (schema place : ℕ) → item_defects schema shape (items_at place (documents show l)) ≡ []
  unfolding defects tree_at
  items_fine [] h schema place = refl
  items_fine (x ∷ l) h schema place =
      ap (λ d. d ++ item_defects schema shape (items_at (past (behind place (show x)) (44 ∷ [])) (documents show l))) (each x (and_left (ok x) (all ok l) h) schema place)
      ∙ items_fine l (and_right (ok x) (all ok l) h) schema (past (behind place (show x)) (44 ∷ []))

  pub list_fine : (room : ℕ) (l : List A) → all ok l ≡ true → leb (length l) room ≡ true → Fine false (ListUpTo room shape) (some (listing show l))
  unfolding defects tree_at
  list_fine room l h k schema place =
      ap (λ n. unless (leb n room) place over_capacity ++ item_defects schema shape (items_at (past place (91 ∷ [])) (documents show l))) (counted show l (past place (91 ∷ [])))
      ∙ ap (λ b. unless b place over_capacity ++ item_defects schema shape (items_at (past place (91 ∷ [])) (documents show l))) k
      ∙ items_fine l h schema (past place (91 ∷ []))

-- numbers that fit
module _ (ok : ℤ → Bool) (each : (z : ℤ) → ok z ≡ true → Fitting z) where
  pub numbers_written : (l : List ℤ) → all ok l ≡ true → list_text number_text l ≡ bytes_of (listing number l)
  unfolding bytes_of
  numbers_written l h = each_written number_text number ok (λ z k. refl) l h

  pub numbers_good : (depth : ℕ) (l : List ℤ) → all ok l ≡ true → GoodAll depth (documents number l)
  numbers_good depth l h = each_good depth number ok (λ z k. number_token z (each z k)) l h

  pub numbers_made : (l : List ℤ) → all ok l ≡ true → (place : ℕ) → numbers_of (items_at place (documents number l)) ≡ l
  unfolding tree_at
  numbers_made [] h place = refl
  numbers_made (z ∷ l) h place =
      ap (λ o. or_else o (pos 0) ∷ numbers_of (items_at (past (behind place (number z)) (44 ∷ [])) (documents number l))) (number_read place z (each z (and_left (ok z) (all ok l) h)))
      ∙ ap (λ r. z ∷ r) (numbers_made l (and_right (ok z) (all ok l) h) (past (behind place (number z)) (44 ∷ [])))
