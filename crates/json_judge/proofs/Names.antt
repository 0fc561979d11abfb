-- Names: the rule keeps all that were there, the judge those that are published and were new. Both tell the same names.
use mathlib.Core.Path.{◌≡◌, refl, sym, ap, ◌∙◌}
use mathlib.Core.Bool.{Bool, true, false, cond, ◌||◌, true≢false, false≢true}
use mathlib.Core.List.{List, [], ◌∷◌}
use mathlib.Core.Option.{Option, none, some}
use Prim.Native.Nat.{ℕ}
use borrow.Table.Steps.{cases}
use Rattle.rules.specs.Words.{is_some, some_with, same_bytes}
use Rattle.rules.proofs.Orders.{names_told_lem}
use Rattle.json_rule.specs.Members.{is_one_of}
use Rattle.json_rule.specs.Shapes.{Row}
use Rattle.json_rule.specs.Defects.{row_named, row_of, with_name}

-- a name that is decoded is this one
abbrev pub is_said : Option (List ℕ) → List ℕ → Bool
is_said m n = some_with (same_bytes n) m

pub with_name_lem : (l : List (List ℕ)) (m : Option (List ℕ)) (n : List ℕ) → is_one_of (with_name l m) n ≡ (is_said m n || is_one_of l n)
with_name_lem l none n = refl
with_name_lem l (some m) n = refl

module _ (rows : List Row) where
  abbrev pub is_known : List ℕ → Bool
  is_known n = is_some (row_named n rows)

-- the row that is found has the name
pub row_named_lem : (rows : List Row) (n : List ℕ) (ρ : Row) → row_named n rows ≡ some ρ → n ≡ ρ.name
row_named_lem [] n ρ e = cc
row_named_lem (x ∷ rows) n ρ e =
    cases (same_bytes x.name n)
    (λ s. let f : some x ≡ some ρ = rw s at e in
    let g : x ≡ ρ = cc in
    sym (names_told_lem.equal x.name n s) ∙ ap (λ (y : Row). y.name) g)
    (λ s. row_named_lem rows n ρ (rw s at e))

module _ (rows : List Row) (seen : List (List ℕ)) where
  -- a name that has a row is new
  pub row_new : (m : Option (List ℕ)) (ρ : Row) → row_of rows seen m ≡ some ρ → (m ≡ some ρ.name) × (is_one_of seen ρ.name ≡ false)
  row_new none ρ e = (cc, cc)
  row_new (some n) ρ e =
      cases (is_one_of seen n)
      (λ s. let f : none ≡ some ρ = rw s at e in (cc, cc))
      (λ s. let g : n ≡ ρ.name = row_named_lem rows n ρ (rw s at e) in (ap some g, ap (is_one_of seen) (sym g) ∙ s))

  -- one that has none is not published, or was there before
  pub row_old : (m : Option (List ℕ)) → row_of rows seen m ≡ none → (n : List ℕ) → is_known rows n ≡ true → is_said m n ≡ true → is_one_of seen n ≡ true
  row_old none e n k s = absurd (false≢true s)
  row_old (some m) e n k s =
      let g : n ≡ m = names_told_lem.equal n m s in
      cases (is_one_of seen m)
      (λ u. ap (is_one_of seen) g ∙ u)
      (λ u. let v : row_named m rows ≡ none = rw u at e in
      absurd (true≢false (sym k ∙ (ap (λ (y : List ℕ). is_known rows y) g ∙ ap is_some v))))

-- only what is said of published names counts
pub row_told : (rows : List Row) (a b : List (List ℕ)) (m : Option (List ℕ)) → ((n : List ℕ) → is_known rows n ≡ true → is_one_of a n ≡ is_one_of b n) → row_of rows a m ≡ row_of rows b m
row_told rows a b none h = refl
row_told rows a b (some n) h = go (row_named n rows) (h n)
  where
    go : (ρ : Option Row) → (is_some ρ ≡ true → is_one_of a n ≡ is_one_of b n) → cond (is_one_of a n) none ρ ≡ cond (is_one_of b n) none ρ
    go none k = cases (is_one_of a n) (λ s. cases (is_one_of b n) (λ t. rw (s, t)) (λ t. rw (s, t))) (λ s. cases (is_one_of b n) (λ t. rw (s, t)) (λ t. rw (s, t)))
    go (some ρ) k = rw (k refl)
