-- The first slot of which a test is true, and what is read of it.
use Rattle.std.proofs.Common.{◌≡◌, ℕ, ◌+◌, ◌-◌, ◌≤◌, ◌<◌, Bool, true, false, List, [], ◌∷◌, length, get_or, drop, replicate, map, refl, sym, ap, ◌∙◌, arith, MatchOption, Some, None}
use Rattle.std.specs.Option.{unwrap_or}
use Rattle.std.specs.declared.option.Option as std
use mathlib.Core.Option.{Option, none, some}
use borrow.Table.Steps.{cases}
use lib.ListN.{drop_of_length-le}
use Rattle.rules.specs.Words.{first, or_else}
use Rattle.rules.specs.Layout.{counted}
use Rattle.rules.proofs.Slots.Relaid.{length_counted}
use Rattle.file_text.proofs.Slots.{from_slot}

module _ {A : Type 0} (p : A → Bool) (blank : A) (l : List A) (n i : ℕ) (e : first p (counted blank l n) ≡ first p (drop i (counted blank l n))) where
  module _ (x : A) (h : i < n) (q : x ≡ get_or l i blank) where
    here : first p (counted blank l n) ≡ first p (x ∷ drop (i + 1) (counted blank l n))
    here = e ∙ ap (first p) (from_slot blank l n i h ∙ ap (λ (y : A). y ∷ drop (i + 1) (counted blank l n)) (sym q))

    pub found : p x ≡ true → first p (counted blank l n) ≡ some x
    found t = here ∙ rw t

    pub passed : p x ≡ false → first p (counted blank l n) ≡ first p (drop (i + 1) (counted blank l n))
    passed t = here ∙ rw t

  pub missed : n ≤ i → first p (counted blank l n) ≡ none
  missed h = e ∙ rw (drop_of_length-le (counted blank l n) {i = i} (omega (arith, length_counted blank l n)))

module _ {A B : Type 0} (p : B → Bool) (g : A → B) where
  read_as : Option A → Option B
  read_as none = none
  read_as (some x) = some (g x)

  first_map : (l : List A) → first p (map g l) ≡ read_as (first (λ x. p (g x)) l)
  unfolding read_as
  first_map [] = refl
  first_map (x ∷ l) = cases (p (g x)) (λ e. rw e) (λ e. rw e (first_map l))

  -- what is read of the one that was found, or of another
  pub looked : (held : std.Option A) (other : A) (l : List A) → MatchOption held (first (λ x. p (g x)) l ≡ none) (λ x. first (λ x. p (g x)) l ≡ some x) → g (unwrap_or held other) ≡ or_else (first p (map g l)) (g other)
  unfolding read_as
  looked None other l e = rw (first_map l, e)
  looked (Some x) other l e = rw (first_map l, e)

pub none_counted : {A : Type 0} (blank : A) (l : List A) → counted blank l 0 ≡ []
none_counted blank l = let e : 0 - length l ≡ 0 = omega arith in ap (λ (k : ℕ). replicate k blank) e
