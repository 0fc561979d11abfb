-- Each spot has its words or its form, and no other has any.
use Prim.Native.Nat.{ℕ}
use mathlib.Core.Path.{refl, sym}
use mathlib.Core.List.{List, [], ◌∷◌}
use borrow.Author.Rules.{rules}
use borrow.Table.Steps.{cases}
use lib.Dec.{eqb}
use Rattle.json_members.specs.Spots.{row_at, shape_at}
use Rattle.json_members.specs.Words.{ref_words, type_words, direction_words, null_words}
use Rattle.json_members.proofs.Cases.{no_arm}
use Rattle.json_members.proofs.Words.{number_told}
use Rattle.json_members.proofs.Transforms.{transform_told}
use Rattle.json_members.proofs.Tables.{only_spots}
use Rattle.json_members.proofs.Faults.{or_none, may_form, not_formed_lem}
use Rattle.json_members.proofs.value.is_formed.Statement.{statement}
use Rattle.json_members.proofs.value.is_formed.Tie as tie

abbrev arms : List (List ℕ)
arms = (4 ∷ []) ∷ (10 ∷ []) ∷ (36 ∷ []) ∷ (43 ∷ []) ∷ (47 ∷ []) ∷ (49 ∷ []) ∷ (50 ∷ []) ∷ (57 ∷ []) ∷ []

returns_9 : tie.Need-returns-in_default
unfolding row_at
returns_9 c =
    let spot = c.args.spot in
    cases (eqb spot 3)
    (λ e. rw e)
    (λ n. rw n (sym (not_formed_lem (shape_at spot) _ (only_spots may_form ((3 ∷ []) ∷ arms) spot refl refl (rw n (no_arm arms spot c.in_default.in_default-own.rest))))))

pub is_formed_spec : {M : Type 1} → statement M
unfolding row_at
is_formed_spec =
    tie.close
    (tie.spec
    (λ c κs. search rules)
    (λ c κs. search rules)
    (λ c κs. search rules)
    (λ c κs. search rules)
    (λ c κs. search rules)
    (λ c κs. search rules)
    (λ c κs. search rules)
    (λ c κs. search rules)
    (λ c. rw c.in-4.is c.is_uuid.ensures)
    (λ c. rw (c.in-10.is, c.ref_kind.ensures) (number_told 0 ref_words _ refl))
    (λ c. rw (c.in-36.is, c.is_word.ensures) (sym (or_none _)))
    (λ c. rw (c.in-43.is, c.field_type.ensures) (number_told 0 type_words _ refl))
    (λ c. rw (c.in-47.is, c.is_word-in-47.ensures) (sym (or_none _)))
    (λ c. rw (c.in-49.is, c.direction.ensures) (number_told 2 direction_words _ refl))
    (λ c. rw (c.in-50.is, c.null_order.ensures) (number_told 2 null_words _ refl))
    (λ c. rw (c.in-57.is, c.transform_of-t.ensures) (transform_told _))
    returns_9)
