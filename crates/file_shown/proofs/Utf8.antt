-- A text is UTF-8 exactly if every byte fits where it stands, and no character is left open at the end.
use Prim.Native.Nat.{ℕ, zero, suc, ◌+◌, ◌-◌, ◌≤◌, ◌<◌}
use native.Mathlib.Omega.{arith}
use mathlib.Core.Path.{◌≡◌, refl, sym, ap, ◌∙◌}
use mathlib.Core.Bool.{true, false, ◌&&◌}
use mathlib.Core.List.{List, [], ◌∷◌}
use borrow.Author.Tests.{le-leb, ne_eqb}
use borrow.Table.Steps.{cases}
use lib.Dec.{eqb, leb}
use lib.ListN.{get_or, drop, drop_of_length-le}
use Rattle.json_rule.specs.Lexemes.{lead_of}
use Rattle.rules.specs.Layout.{counted}
use Rattle.rules.proofs.Slots.Relaid.{length_counted}
use Rattle.file_rule.specs.Export.{is_utf8, goes_on}
use Rattle.file_text.proofs.Slots.{from_slot}
use Rattle.file_shown.specs.Characters.{leading, fits_byte, after_byte, goes_on_so}
use Rattle.file_shown.specs.declared.character.Character.{Character}

less : (n : ℕ) → suc n - 1 ≡ n
less n = omega arith

more : (n : ℕ) → eqb (suc n) 0 ≡ false
more n = ne_eqb (suc n) 0 (λ e. omega (arith, e))

goes_on_at : (left least most b : ℕ) (bs : List ℕ) → goes_on_so (record { left = left; least = least; most = most }) (b ∷ bs) ≡ (fits_byte (record { left = left; least = least; most = most }) b && goes_on_so (after_byte (record { left = left; least = least; most = most }) b) bs)
unfolding goes_on_so fits_byte after_byte leading is_utf8 goes_on
goes_on_at zero least most b bs = cases (leb b 127) (λ e. rw (le-leb 0 b (omega arith), e)) (λ e. rw (le-leb 0 b (omega arith), e, more (lead_of b).more, less (lead_of b).more))
goes_on_at (suc zero) least most b bs = refl
goes_on_at (suc (suc k)) least most b bs = rw (more (suc k), less (suc k), more k, less k)

pub goes_on_lem : (c : Character) (b : ℕ) (bs : List ℕ) → goes_on_so c (b ∷ bs) ≡ (fits_byte c b && goes_on_so (after_byte c b) bs)
goes_on_lem c b bs = goes_on_at c.left c.least c.most b bs

ends_at : (left least most : ℕ) → goes_on_so (record { left = left; least = least; most = most }) [] ≡ eqb left 0
unfolding goes_on_so is_utf8 goes_on
ends_at zero least most = refl
ends_at (suc k) least most = rw (more k)

pub starts : (bs : List ℕ) → is_utf8 bs ≡ goes_on_so (record { left = 0; least = 0; most = 0 }) bs
unfolding goes_on_so
starts bs = refl

module _ (l : List ℕ) (n i : ℕ) (c : Character) (e : is_utf8 (counted 0 l n) ≡ goes_on_so c (drop i (counted 0 l n))) where
  module _ (x : ℕ) (h : i < n) (q : x ≡ get_or l i 0) where
    here : is_utf8 (counted 0 l n) ≡ (fits_byte c x && goes_on_so (after_byte c x) (drop (i + 1) (counted 0 l n)))
    here = e ∙ ap (goes_on_so c) (from_slot 0 l n i h ∙ ap (λ (y : ℕ). y ∷ drop (i + 1) (counted 0 l n)) (sym q)) ∙ goes_on_lem c x (drop (i + 1) (counted 0 l n))

    pub fits_on : {next : Character} → fits_byte c x ≡ true → next ≡ after_byte c x → is_utf8 (counted 0 l n) ≡ goes_on_so next (drop (i + 1) (counted 0 l n))
    fits_on t a = rw a (here ∙ rw t)

    pub broken : fits_byte c x ≡ false → false ≡ is_utf8 (counted 0 l n)
    broken t = sym (here ∙ rw t)

  pub fits_end : n ≤ i → eqb c.left 0 ≡ is_utf8 (counted 0 l n)
  fits_end h = sym (e ∙ rw (drop_of_length-le (counted 0 l n) {i = i} (omega (arith, length_counted 0 l n))) (ends_at c.left c.least c.most))
