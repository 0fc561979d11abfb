-- Ids in a list: one stands among those kept exactly if it stands in the list and the test holds of it.
use mathlib.Core.Path.{◌≡◌, refl, sym, ap, ◌∙◌}
use mathlib.Core.Bool.{Bool, false, ◌&&◌, and-false}
use mathlib.Core.List.{List, [], ◌∷◌}
use borrow.Table.Steps.{cases}
use lib.IntN.{ℤ}
use Rattle.rules.specs.Words.{eq_z, keep, is_in}
use Rattle.rules.proofs.Orders.{numbers_told}

pub in_kept : (p : ℤ → Bool) (l : List ℤ) (x : ℤ) → is_in (keep p l) x ≡ is_in l x && p x
in_kept p [] x = refl
in_kept p (y ∷ l) x =
    let ih : is_in (keep p l) x ≡ is_in l x && p x = in_kept p l x in
    cases (p y)
    (λ t. cases (eq_z x y) (λ e. rw (t, e) (sym (ap p (numbers_told.equal x y e) ∙ t))) (λ n. rw (t, n) ih))
    (λ f. cases (eq_z x y)
    (λ e. let g : p x ≡ false = ap p (numbers_told.equal x y e) ∙ f in
    rw (f, e) (ih ∙ rw g (and-false (is_in l x))))
    (λ n. rw (f, n) ih))
