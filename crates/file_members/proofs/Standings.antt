-- How a member stands in a version, told of what the rule says of its row.
use Prim.Native.Nat.{ℕ, ◌≤◌, ◌<◌}
use mathlib.Core.Path.{◌≡◌, refl, sym, ap}
use mathlib.Core.Bool.{Bool, true, false, cond, not, ◌&&◌, ◌||◌, true≢false}
use mathlib.Core.List.{List}
use mathlib.Core.Option.{Option, none, some}
use borrow.Author.Tests.{ne_eqb}
use borrow.Table.Steps.{cases}
use lib.Dec.{eqb}
use Rattle.rules.specs.Words.{is_some, some_with}
use Rattle.rules.proofs.Checks.{and_left, and_right}
use Rattle.json_members.proofs.Cases.{is_key, all_below, all_below_lem}
use Rattle.file_rule.specs.Tables.{Presence, Required, Optional, Absent, Row, is_absent, is_required_by, any_version, published, row_in}
use Rattle.file_cells.specs.Wants.{row_at, passes_over, is_passed_by, is_passed, shape_of_row}
use Rattle.file_members.specs.Standings.{by_version, standing_of, standing_in_any, standing_in, standing_of_row, standing_at, published_of, published_at}
use Rattle.file_members.proofs.Numbers.{or_right, row_past}

-- ---- by the version

pub by_same : (version n : ℕ) → by_version version n n n n ≡ n
unfolding by_version
by_same version n = same (eqb version 1) (eqb version 2) (eqb version 3)
  where
    same : (a b c : Bool) → cond a n (cond b n (cond c n n)) ≡ n
    same true b c = refl
    same false true c = refl
    same false false true = refl
    same false false false = refl

pub standing_past : (version spot : ℕ) → 69 ≤ spot → standing_at version spot ≡ 0
unfolding standing_at
standing_past version spot h = ap (standing_of_row version) (row_past spot h)

-- ---- what is required in each

required_is : (p : Presence) → is_required_by p ≡ true → p ≡ Required
required_is Required e = refl
required_is Optional e = absurd (true≢false (sym e))
required_is Absent e = absurd (true≢false (sym e))

abbrev pub is_always : Row → Bool
is_always r = is_required_by r.one && (is_required_by r.two && is_required_by r.three)

always_in : (version : ℕ) (r : Row) → is_always r ≡ true → standing_in version r ≡ 2
unfolding standing_in
always_in version r e =
    let rest = and_right (is_required_by r.one) _ e in
    let one = required_is r.one (and_left (is_required_by r.one) _ e) in
    let two = required_is r.two (and_left (is_required_by r.two) _ rest) in
    let three = required_is r.three (and_right (is_required_by r.two) _ rest) in
    rw (one, two, three) (by_same version 2)

always_row : (version : ℕ) (o : Option Row) → some_with is_always o ≡ true → standing_of_row version o ≡ 2
always_row version none e = absurd (true≢false (sym e))
always_row version (some r) e = always_in version r e

-- of every member but some
pub always_at : (version : ℕ) (arms : List (List ℕ)) → all_below 69 (λ k. is_key arms k || (eqb k 0 || some_with is_always (row_at k))) ≡ true → (spot : ℕ) → (spot ≡ 0 → ⊥) → spot < 69 → is_key arms spot ≡ false → standing_at version spot ≡ 2
unfolding standing_at
always_at version arms a spot n h m =
    always_row version (row_at spot) (or_right (eqb spot 0) _ (ne_eqb spot 0 n) (or_right (is_key arms spot) _ m (all_below_lem 69 (λ k. is_key arms k || (eqb k 0 || some_with is_always (row_at k))) a spot h)))

-- ---- what is there

presence_told : (r : Row) (p : Presence) → not (eqb (standing_of p) 0) ≡ is_some (published r p)
presence_told r Required = refl
presence_told r Optional = refl
presence_told r Absent = refl

told_one : (r : Row) → not (eqb (standing_in 1 r) 0) ≡ is_some (row_in 1 r)
unfolding standing_in by_version row_in
told_one r = presence_told r r.one

told_two : (r : Row) → not (eqb (standing_in 2 r) 0) ≡ is_some (row_in 2 r)
unfolding standing_in by_version row_in
told_two r = presence_told r r.two

told_three : (r : Row) → not (eqb (standing_in 3 r) 0) ≡ is_some (row_in 3 r)
unfolding standing_in by_version row_in
told_three r = presence_told r r.three

told_row : (version : ℕ) → ((r : Row) → not (eqb (standing_in version r) 0) ≡ is_some (row_in version r)) → (o : Option Row) → not (eqb (standing_of_row version o) 0) ≡ is_some (published_of version o)
told_row version told none = refl
told_row version told (some r) = told r

pub published_one : (spot : ℕ) → not (eqb (standing_at 1 spot) 0) ≡ is_some (published_at 1 spot)
unfolding standing_at published_at
published_one spot = told_row 1 told_one (row_at spot)

pub published_two : (spot : ℕ) → not (eqb (standing_at 2 spot) 0) ≡ is_some (published_at 2 spot)
unfolding standing_at published_at
published_two spot = told_row 2 told_two (row_at spot)

pub published_three : (spot : ℕ) → not (eqb (standing_at 3 spot) 0) ≡ is_some (published_at 3 spot)
unfolding standing_at published_at
published_three spot = told_row 3 told_three (row_at spot)

-- a version that is none of the three publishes every member
any_row : (version : ℕ) → eqb version 1 ≡ false → eqb version 2 ≡ false → eqb version 3 ≡ false → (o : Option Row) → is_some (published_of version o) ≡ is_some o
unfolding row_in
any_row version a b c none = refl
any_row version a b c (some r) = rw (a, b, c)

pub published_any : (version spot : ℕ) → eqb version 1 ≡ false → eqb version 2 ≡ false → eqb version 3 ≡ false → is_some (published_at version spot) ≡ is_some (row_at spot)
unfolding published_at
published_any version spot a b c = any_row version a b c (row_at spot)

pub published_past : (version spot : ℕ) → 69 ≤ spot → published_at version spot ≡ none
unfolding published_at
published_past version spot h = ap (published_of version) (row_past spot h)

-- ---- what is passed over

-- in a version, and in what is none
passed_by : (r : Row) (p : Presence) → is_passed_by (published r p) ≡ eqb (standing_of p) 0 || passes_over r.shape
passed_by r Required = refl
passed_by r Optional = refl
passed_by r Absent = refl

passed_any : (r : Row) → passes_over (any_version r).shape ≡ eqb (standing_in_any r) 0 || passes_over r.shape
passed_any r =
    cases (is_absent r.one || is_absent r.two || is_absent r.three)
    (λ t. rw t)
    (λ f. rw f (cases (is_required_by r.one && is_required_by r.two && is_required_by r.three) (λ t. rw t) (λ g. rw g)))

passed_in_lem : (version : ℕ) (r : Row) → is_passed_by (row_in version r) ≡ eqb (standing_in version r) 0 || passes_over r.shape
unfolding standing_in by_version row_in
passed_in_lem version r =
    cases (eqb version 1)
    (λ t. rw t (passed_by r r.one))
    (λ a. cases (eqb version 2)
    (λ t. rw (a, t) (passed_by r r.two))
    (λ b. cases (eqb version 3) (λ t. rw (a, b, t) (passed_by r r.three)) (λ c. rw (a, b, c) (passed_any r))))

pub is_passed_lem : (version spot : ℕ) → is_passed version spot ≡ eqb (standing_at version spot) 0 || passes_over (shape_of_row (row_at spot))
unfolding is_passed standing_at
is_passed_lem version spot = passed_row (row_at spot)
  where
    passed_row : (o : Option Row) → elim o [ none ↦ true | some r ↦ is_passed_by (row_in version r) ] ≡ eqb (standing_of_row version o) 0 || passes_over (shape_of_row o)
    passed_row none = refl
    passed_row (some r) = passed_in_lem version r
