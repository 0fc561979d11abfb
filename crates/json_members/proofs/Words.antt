-- The number of a text, asked one word after another.
use Prim.Native.Nat.{ℕ, ◌≤◌}
use mathlib.Core.Path.{◌≡◌, refl, sym, ap, subst, ◌∙◌}
use mathlib.Core.Bool.{Bool, true, false, not, cond, true≢false}
use mathlib.Core.List.{List, [], ◌∷◌}
use native.Mathlib.Omega.{arith}
use borrow.Table.Steps.{cases}
use borrow.Author.Tests.{eqb-true, eq-eqb, ltb-true}
use lib.Dec.{eqb, ltb}
use lib.ListN.{length}
use Rattle.rules.specs.Words.{all, any, same_bytes}
use Rattle.rules.proofs.Checks.{and_left, and_right}
use Rattle.primitives.proofs.Bytes.{unequal_lengths}
use Rattle.json_members.specs.Words.{Entry, number_of, number_after}

-- ---- the same bytes

pub same_is : (a b : List ℕ) → same_bytes a b ≡ true → a ≡ b
same_is [] [] e = refl
same_is [] (y ∷ b) e = absurd (true≢false (sym e))
same_is (x ∷ a) [] e = absurd (true≢false (sym e))
same_is (x ∷ a) (y ∷ b) e =
    rw (eqb-true x y (and_left (eqb x y) (same_bytes a b) e))
    (ap (λ (l : List ℕ). y ∷ l) (same_is a b (and_right (eqb x y) (same_bytes a b) e)))

pub same_self : (a : List ℕ) → same_bytes a a ≡ true
same_self [] = refl
same_self (x ∷ a) = rw (eq-eqb x x refl) (same_self a)

-- ---- until one is found

pub data Told (other : ℕ) (text : List ℕ) : List Entry → ℕ → Type 0 where
  none : Told other text [] other
  this : {e : Entry} {es : List Entry} {r : Bool} → r ≡ true → r ≡ same_bytes text e.word → Told other text (e ∷ es) e.number
  later : {e : Entry} {es : List Entry} {r : Bool} {n : ℕ} → r ≡ false → r ≡ same_bytes text e.word → Told other text es n → Told other text (e ∷ es) n

pub told : (other : ℕ) (es : List Entry) (text : List ℕ) {n : ℕ} → Told other text es n → n ≡ number_of other es text
unfolding number_of
told other [] text none = refl
told other (e ∷ es) text (this t is) = rw (← is, t)
told other (e ∷ es) text (later f is t) = rw (← is, f) (told other es text t)

-- ---- with what was found handed on

pub data Asked (text : List ℕ) : List Entry → ℕ → ℕ → Type 0 where
  done : {r : ℕ} → Asked text [] r r
  others : {es : List Entry} {found r : ℕ} → r ≡ number_after found es text → Asked text es found r
  ask : {e : Entry} {es : List Entry} {found next r : ℕ} → eqb e.number 0 ≡ false → next ≡ cond (eqb found 0) (cond (same_bytes text e.word) e.number 0) found → Asked text es next r → Asked text (e ∷ es) found r

module _ (e : Entry) (es : List Entry) (text : List ℕ) (found next : ℕ) (some : eqb e.number 0 ≡ false) (is : next ≡ cond (eqb found 0) (cond (same_bytes text e.word) e.number 0) found) where
  handed_on : number_after next es text ≡ number_after found (e ∷ es) text
  unfolding number_of number_after
  handed_on =
      cases (eqb found 0)
      (λ z. cases (same_bytes text e.word) (λ s. rw (is, z, s, some)) (λ s. rw (is, z, s)))
      (λ z. rw (is, z, z))

found_out : (text : List ℕ) (es : List Entry) (found : ℕ) {r : ℕ} → Asked text es found r → r ≡ number_after found es text
unfolding number_of number_after
found_out text [] found done = cases (eqb found 0) (λ z. rw z (eqb-true found 0 z)) (λ z. rw z)
found_out text es found (others e) = e
found_out text (e ∷ es) found {r = r} (ask {next = next} some is a) = found_out text es next {r = r} a ∙ handed_on e es text found next some is

pub answered : (es : List Entry) (text : List ℕ) (found : ℕ) {r : ℕ} → Asked text es found r → r ≡ number_after found es text
answered es text found a = found_out text es found a

pub answered_first : (es : List Entry) (text : List ℕ) {r : ℕ} → Asked text es 0 r → r ≡ number_of 0 es text
unfolding number_after
answered_first es text a = answered es text 0 a

-- ---- a text that is one of the words, or none

pub data EveryWord (P : List ℕ → Type 0) : List Entry → Type 0 where
  no_word : EveryWord P []
  ◌+++◌ : {e : Entry} {es : List Entry} → P e.word → EveryWord P es → EveryWord P (e ∷ es)

infixr 20 ◌+++◌
abbrev pub is_word_of : List Entry → List ℕ → Bool
is_word_of es text = any (λ (e : Entry). same_bytes text e.word) es

-- what holds of each word, and of every text that is none of them
pub by_words : (P : List ℕ → Type 0) (es : List Entry) (text : List ℕ) → EveryWord P es → (is_word_of es text ≡ false → P text) → P text
by_words P [] text no_word other = other refl
by_words P (e ∷ es) text (p +++ ps) other =
    cases (same_bytes text e.word)
    (λ t. subst P (sym (same_is text e.word t)) p)
    (λ f. by_words P es text ps (λ n. other (rw f n)))

-- it has a number of its own exactly where it is one of them
pub number_told : (other : ℕ) (es : List Entry) (text : List ℕ) → all (λ (e : Entry). not (eqb e.number other)) es ≡ true → not (eqb (number_of other es text) other) ≡ is_word_of es text
unfolding number_of
number_told other [] text a = rw (eq-eqb other other refl)
number_told other (e ∷ es) text a =
    cases (same_bytes text e.word)
    (λ t. rw t (and_left (not (eqb e.number other)) _ a))
    (λ f. rw f (number_told other es text (and_right (not (eqb e.number other)) _ a)))

-- a text that is longer than all of some words is none of them
pub longer : (ws : List (List ℕ)) (text : List ℕ) → all (λ w. ltb (length w) 97) ws ≡ true → 97 ≤ length text → any (same_bytes text) ws ≡ false
longer [] text a h = refl
longer (w ∷ ws) text a h =
    let short = ltb-true (length w) 97 (and_left (ltb (length w) 97) _ a) in
    rw (unequal_lengths text w (λ e. omega arith)) (longer ws text (and_right (ltb (length w) 97) _ a) h)

pub none_longer : (other : ℕ) (es : List Entry) (text : List ℕ) → all (λ (e : Entry). ltb (length e.word) 97) es ≡ true → 97 ≤ length text → number_of other es text ≡ other
unfolding number_of
none_longer other [] text a h = refl
none_longer other (e ∷ es) text a h =
    let short = ltb-true (length e.word) 97 (and_left (ltb (length e.word) 97) _ a) in
    rw (unequal_lengths text e.word (λ q. omega arith)) (none_longer other es text (and_right (ltb (length e.word) 97) _ a) h)
