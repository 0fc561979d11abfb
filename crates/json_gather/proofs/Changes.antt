-- What a put leaves: all that belongs to other spots.
use Prim.Native.Nat.{ℕ, ◌+◌, ◌≤◌}
use mathlib.Core.Path.{◌≡◌, refl, sym, ap, ◌∙◌}
use mathlib.Core.Bool.{Bool, true, false, ◌||◌, true≢false}
use mathlib.Core.List.{List, [], ◌∷◌}
use native.Mathlib.Omega.{arith}
use borrow.Author.Tests.{ne_eqb, leb-true}
use borrow.Table.Steps.{cases}
use lib.Dec.{eqb, leb}
use lib.ListN.{length}
use lib.Seq.{sets}
use Rattle.rules.specs.Words.{all, any}
use Rattle.rules.proofs.Checks.{neither}
use Rattle.json_store.specs.Numbers.{put_number}
use Rattle.json_store.specs.Puts.{part}
use Rattle.json_store.proofs.Kept.{magnitude_other, negative_other}
use Rattle.json_store.proofs.Stores.{same_part, part_before, part_behind}
use Rattle.json_gather.proofs.Owners.{owner_of, text_at, text_size, Hand, Agree}
use Rattle.json_gather.proofs.Footprints.{of_all}

abbrev pub with_numbers : List ℕ → Hand → Hand
with_numbers numbers a = record { kind = a.kind; marks = a.marks; numbers = numbers; texts = a.texts }

abbrev pub with_texts : List ℕ → Hand → Hand
with_texts texts a = record { kind = a.kind; marks = a.marks; numbers = a.numbers; texts = texts }

pub agree_self : (p : ℕ → Bool) (a : Hand) → Agree p a a
agree_self p a = record { kind = λ e. refl; marks = λ m e. refl; magnitude = λ i e. refl; negative = λ i e. refl; texts = λ o e. refl }

pub agree_then : (p : ℕ → Bool) {a b c : Hand} → Agree p a b → Agree p b c → Agree p a c
agree_then p g h =
    record {
      kind = λ e. h.kind e ∙ g.kind e;
      marks = λ m e. h.marks m e ∙ g.marks m e;
      magnitude = λ i e. h.magnitude i e ∙ g.magnitude i e;
      negative = λ i e. h.negative i e ∙ g.negative i e;
      texts = λ o e. h.texts o e ∙ g.texts o e;
    }

-- ---- numbers

pub put_agrees : (p : ℕ → Bool) (a : Hand) (i : ℕ) (negative : Bool) (m : ℕ) → p (owner_of i) ≡ false → Agree p a (with_numbers (put_number i negative m a.numbers) a)
put_agrees p a i negative m n =
    record {
      kind = λ e. refl;
      marks = λ x e. refl;
      magnitude = λ j e. magnitude_other i negative m a.numbers j (apart j e);
      negative = λ j e. negative_other i negative m a.numbers j (apart j e);
      texts = λ o e. refl;
    }
  where
    apart : (j : ℕ) → p (owner_of j) ≡ true → j ≡ i → ⊥
    apart j e q = true≢false (sym e ∙ (ap (λ (k : ℕ). p (owner_of k)) q ∙ n))

-- ---- texts

abbrev pub stretches : List ℕ
stretches = 4 ∷ 6 ∷ 9 ∷ 58 ∷ 39 ∷ 53 ∷ []

-- two stretches are one, or lie apart
abbrev lie_apart : ℕ → ℕ → Bool
lie_apart x o = eqb o x || (leb (text_at o + text_size o) (text_at x) || leb (text_at x + text_size x) (text_at o))

all_apart : all (λ x. all (lie_apart x) stretches) stretches ≡ true
all_apart = refl

nothing_there : (o : ℕ) → any (eqb o) stretches ≡ false → text_size o ≡ 0
nothing_there o n =
    let a = neither (eqb o 4) _ n in
    let b = neither (eqb o 6) _ a.1 in
    let c = neither (eqb o 9) _ b.1 in
    let d = neither (eqb o 58) _ c.1 in
    let e = neither (eqb o 39) _ d.1 in
    let f = neither (eqb o 53) _ e.1 in
    rw (a.0, b.0, c.0, d.0, e.0, f.0)

module _ (p : ℕ → Bool) (a : Hand) (x k : ℕ) (vs : List ℕ) (is : any (eqb x) stretches ≡ true) (fits : k + length vs ≤ text_size x) (n : p x ≡ false) where
  stays : (o : ℕ) → p o ≡ true → part (text_at o) (text_size o) (sets a.texts (text_at x + k) vs) ≡ part (text_at o) (text_size o) a.texts
  stays o e =
      cases (any (eqb o) stretches)
      (λ t. by_place (of_all (lie_apart x) stretches o t (of_all (λ y. all (lie_apart y) stretches) stretches x is all_apart)))
      (λ f. rw (nothing_there o f) (same_part (text_at o) 0 (sets a.texts (text_at x + k) vs) (text_at o) a.texts (λ i h. absurd (omega arith))))
    where
      other : eqb o x ≡ false
      other = ne_eqb o x (λ q. true≢false (sym e ∙ (ap p q ∙ n)))

      by_place : lie_apart x o ≡ true → part (text_at o) (text_size o) (sets a.texts (text_at x + k) vs) ≡ part (text_at o) (text_size o) a.texts
      by_place t =
          cases (leb (text_at o + text_size o) (text_at x))
          (λ b. part_before a.texts (text_at x + k) vs (text_at o) (text_size o) (omega (arith, leb-true (text_at o + text_size o) (text_at x) b)))
          (λ b. part_behind a.texts (text_at x + k) vs (text_at o) (text_size o)
          (omega (arith, fits, leb-true (text_at x + text_size x) (text_at o) (rw (other, b) at t))))

  pub sets_agree : Agree p a (with_texts (sets a.texts (text_at x + k) vs) a)
  sets_agree = record { kind = λ e. refl; marks = λ m e. refl; magnitude = λ i e. refl; negative = λ i e. refl; texts = λ o e. stays o e }
