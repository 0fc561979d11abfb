-- The spots that are wanted: the values of members and the elements of lists.
use Prim.Native.Nat.{ℕ}
use mathlib.Core.Path.{◌≡◌, refl, sym, ap, ◌∙◌}
use mathlib.Core.Bool.{true, false, ◌||◌, true≢false}
use mathlib.Core.List.{[], ◌∷◌}
use borrow.Author.Tests.{eqb-true}
use borrow.Table.Steps.{cases}
use lib.Dec.{eqb}
use Rattle.json_rule.specs.Shapes.{Shape, Anything, TextUpTo, OneOf, NumberIn, No, AUuid, ATransform, ListUpTo, ARecord, Row}
use Rattle.json_rule.specs.Defects.{is_anything}
use Rattle.json_members.specs.Spots.{row_at, shape_at, is_of_schema, items, item_at, value_at}
use Rattle.json_members.proofs.Cases.{done, ◌&◌, beside_other, by_keys}
use Rattle.json_members.proofs.Tables.{only_rows}

anything_is : (shape : Shape) → is_anything shape ≡ true → shape ≡ Anything
anything_is Anything e = refl
anything_is (TextUpTo room) e = absurd (true≢false (sym e))
anything_is (OneOf words) e = absurd (true≢false (sym e))
anything_is (NumberIn least most) e = absurd (true≢false (sym e))
anything_is No e = absurd (true≢false (sym e))
anything_is AUuid e = absurd (true≢false (sym e))
anything_is ATransform e = absurd (true≢false (sym e))
anything_is (ListUpTo room each) e = absurd (true≢false (sym e))
anything_is (ARecord kind) e = absurd (true≢false (sym e))

-- the value of a member has its shape
pub value_shape : (member : ℕ) → shape_at (value_at member) ≡ shape_at member
unfolding row_at value_at
value_shape member = cases (is_anything (shape_at member)) (λ t. rw t (sym (anything_is (shape_at member) t))) (λ f. rw f)

-- only at 0 anything may stand
pub value_judged : (member : ℕ) → eqb (value_at member) 0 ≡ false → is_anything (shape_at (value_at member)) ≡ false
unfolding value_at
value_judged member n = cases (is_anything (shape_at member)) (λ t. absurd (true≢false (rw t at n))) (λ f. rw (f, f))

pub item_judged : (list : ℕ) → eqb (item_at list) 0 ≡ false → is_anything (shape_at (item_at list)) ≡ false
unfolding row_at item_at
item_judged list =
    by_keys (λ x. eqb (item_at x) 0 ≡ false → is_anything (shape_at (item_at x)) ≡ false) (1 ∷ 8 ∷ 18 ∷ 23 ∷ 38 ∷ 45 ∷ 52 ∷ []) list
    ((λ n. refl) & (λ n. refl) & (λ n. refl) & (λ n. refl) & (λ n. refl) & (λ n. refl) & (λ n. refl) & done)
    (λ m n. absurd (true≢false (sym (ap (λ (k : ℕ). eqb k 0) (beside_other 0 items ((1 ∷ 8 ∷ 18 ∷ 23 ∷ 38 ∷ 45 ∷ 52 ∷ []) ∷ []) list refl (rw m))) ∙ n)))

-- two members are of the schema around
pub of_schema : (spot : ℕ) → is_of_schema spot ≡ eqb spot 42 || eqb spot 43
unfolding row_at
of_schema spot =
    cases (eqb spot 42) (λ t. rw (eqb-true spot 42 t))
    (λ f. cases (eqb spot 43) (λ t. rw (eqb-true spot 43 t))
    (λ g. rw (f, g) (only_rows (λ (r : Row). r.of_schema) ((42 ∷ []) ∷ (43 ∷ []) ∷ []) spot refl refl (rw (f, g)))))
