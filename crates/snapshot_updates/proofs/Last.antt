-- A snapshot with an id above the last one's goes to the end of the table.
use mathlib.Core.Path.{◌≡◌, refl, sym, ap, ◌∙◌}
use mathlib.Core.Bool.{true, false, true≢false}
use mathlib.Core.List.{List, [], ◌∷◌, ◌++◌}
use borrow.Table.Steps.{cases}
use lib.IntN.{ℤ}
use lib.Signed.{lt_z}
use Rattle.rules.specs.Words.{all, ascending, put}
use Rattle.rules.specs.Register.{Snapshot}
use Rattle.rules.specs.WellFormed.{snapshot_below}
use Rattle.rules.proofs.Checks.{and_left, and_right}
use Rattle.rules.proofs.Orders.{numbers_ordered}
use Rattle.builder.specs.Pieces.{ids_of, is_above}

not_turned : (a b : ℤ) → lt_z a b ≡ true → lt_z b a ≡ false
not_turned a b h = cases (lt_z b a) (λ t. absurd (true≢false (sym (numbers_ordered.transitive a b a h t) ∙ numbers_ordered.irreflexive a))) (λ f. f)

-- the id is above each of them
above : (id : ℤ) (s : Snapshot) (l : List Snapshot) → ascending snapshot_below (s ∷ l) ≡ true → is_above (ids_of (s ∷ l)) id ≡ true → lt_z s.id id ≡ true
above id s [] o h = h
above id s (x ∷ l) o h =
    let k = and_left (all (snapshot_below s) (x ∷ l)) (ascending snapshot_below (x ∷ l)) o in
    numbers_ordered.transitive s.id x.id id
    (and_left (snapshot_below s x) (all (snapshot_below s) l) k)
    (above id x l (and_right (all (snapshot_below s) (x ∷ l)) (ascending snapshot_below (x ∷ l)) o) h)

rest : (id : ℤ) (s : Snapshot) (l : List Snapshot) → is_above (ids_of (s ∷ l)) id ≡ true → is_above (ids_of l) id ≡ true
rest id s [] h = refl
rest id s (x ∷ l) h = h

pub put_last_lem : (a : Snapshot) (l : List Snapshot) → ascending snapshot_below l ≡ true → is_above (ids_of l) a.id ≡ true → put snapshot_below a l ≡ l ++ (a ∷ [])
put_last_lem a [] o h = refl
put_last_lem a (x ∷ l) o h =
    let b : lt_z x.id a.id ≡ true = above a.id x l o h in
    rw (not_turned x.id a.id b, b) (ap (λ (l : List Snapshot). x ∷ l) (put_last_lem a l (and_right (all (snapshot_below x) l) (ascending snapshot_below l) o) (rest a.id x l h)))
