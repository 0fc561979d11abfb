-- The rule's lexemes from a place on: how many steps are allowed does not matter, spaces are passed over, and a lexeme is read again from its own place.
use Prim.Native.Nat.{ℕ, zero, suc, ◌+◌, ◌≤◌, ◌<◌}
use mathlib.Core.Path.{◌≡◌, refl, sym, ap, ap₂, ◌∙◌}
use mathlib.Core.Bool.{true, false, cond}
use mathlib.Core.List.{List, [], ◌∷◌}
use native.Mathlib.Nat.{add-zero}
use native.Mathlib.Omega.{arith}
use borrow.Author.Tests.{leb-true, leb-false}
use borrow.Table.Steps.{cases}
use lib.Dec.{leb}
use lib.ListN.{length, get_or, take, drop, length-drop, drop_of_length-le}
use lib.Seq.{drop-cons, drop-drop, get_or-drop}
use Rattle.json_rule.specs.Lexemes.{Lexeme, is_space, Part, Ends, Breaks, part_of, lexemes, followed}
use Rattle.json_tokens.specs.Outcomes.{space_run}
use Rattle.json_tokens.specs.Tokens.{lexemes_at}

-- ---- steps

-- a lexeme and those behind it, where two ways to read those agree on whatever is no longer
followed_same : (b : ℕ) (bs : List ℕ) (place : ℕ) (some others : ℕ → List ℕ → List Lexeme) → ((next : ℕ) (rest : List ℕ) → length rest ≤ length bs → some next rest ≡ others next rest) → (p : Part) → followed b bs place some p ≡ followed b bs place others p
followed_same b bs place some others same (Ends n) =
    ap (λ (ts : List Lexeme). record { head = b; body = take n bs; first = place; whole = true; stop = 0 } ∷ ts) (same (suc place + n) (drop n bs) (simp length-drop (omega arith)))
followed_same b bs place some others same (Breaks n) = refl

-- two numbers of steps that are enough
steps_same : (s t place : ℕ) (bs : List ℕ) → length bs ≤ s → length bs ≤ t → lexemes s place bs ≡ lexemes t place bs
unfolding lexemes
steps_same zero zero place bs h g = refl
steps_same zero (suc t) place [] h g = refl
steps_same zero (suc t) place (b ∷ bs) h g = absurd (omega arith)
steps_same (suc s) zero place [] h g = refl
steps_same (suc s) zero place (b ∷ bs) h g = absurd (omega arith)
steps_same (suc s) (suc t) place [] h g = refl
steps_same (suc s) (suc t) place (b ∷ bs) h g =
    ap₂ (cond (is_space b)) (steps_same s t (suc place) bs (omega arith) (omega arith))
    (followed_same b bs place (λ next rest. lexemes s next rest) (λ next rest. lexemes t next rest) (λ next rest l. steps_same s t next rest (omega arith) (omega arith)) (part_of b bs))

-- As many steps as there are bytes are enough, and more change nothing.
pub lexemes_enough : (steps place : ℕ) (bs : List ℕ) → length bs ≤ steps → lexemes steps place bs ≡ lexemes (length bs) place bs
lexemes_enough steps place bs h = steps_same steps (length bs) place bs h (omega arith)

-- ---- spaces

-- behind those in front
spaces_passed : (place : ℕ) (bs : List ℕ) → lexemes (length bs) place bs ≡ lexemes (length (drop (space_run bs) bs)) (place + space_run bs) (drop (space_run bs) bs)
unfolding lexemes
spaces_passed place [] = refl
spaces_passed place (b ∷ bs) =
    let h : suc place + space_run bs ≡ place + suc (space_run bs) = omega arith in
    cases (is_space b)
    (λ t. rw t (spaces_passed (suc place) bs ∙ ap (λ (i : ℕ). lexemes (length (drop (space_run bs) bs)) i (drop (space_run bs) bs)) h))
    (λ f. rw (f, add-zero place, f))

-- what stands behind them is none
no_space : (bs : List ℕ) → space_run bs < length bs → is_space (get_or bs (space_run bs) 0) ≡ false
no_space [] h = absurd (omega arith)
no_space (b ∷ bs) h = cases (is_space b) (λ t. rw t (no_space bs (omega (arith, (rw t at h))))) (λ f. rw (f, f))

module _ (bs : List ℕ) (from : ℕ) where
  -- where the next lexeme begins, or the end
  abbrev pub begins : ℕ
  begins = from + space_run (drop from bs)

  pub spaces_skipped : lexemes_at bs from ≡ lexemes_at bs begins
  unfolding lexemes_at
  spaces_skipped = spaces_passed from (drop from bs) ∙ rw (drop-drop (space_run (drop from bs)) from bs)

  pub begins_so : begins < length bs → is_space (get_or bs begins 0) ≡ false
  begins_so h = rw (get_or-drop from bs (space_run (drop from bs)) 0) at (no_space (drop from bs) (simp length-drop (omega arith)))

-- ---- the lexeme at a place

abbrev pub whole_lexeme : ℕ → List ℕ → ℕ → Lexeme
whole_lexeme head body first = record { head = head; body = body; first = first; whole = true; stop = 0 }

abbrev pub broken_lexeme : ℕ → ℕ → ℕ → Lexeme
broken_lexeme head first stop = record { head = head; body = []; first = first; whole = false; stop = stop }

pub none_left : (bs : List ℕ) (place : ℕ) → length bs ≤ place → lexemes_at bs place ≡ []
unfolding lexemes_at lexemes
none_left bs place h = rw (drop_of_length-le bs h)

module _ (bs : List ℕ) (place : ℕ) (h : place < length bs) (s : is_space (get_or bs place 0) ≡ false) where
  abbrev byte : ℕ
  byte = get_or bs place 0

  abbrev rest : List ℕ
  rest = drop (suc place) bs

  lexeme_here : lexemes_at bs place ≡ followed byte rest place (λ next others. lexemes (length rest) next others) (part_of byte rest)
  unfolding lexemes_at lexemes
  lexeme_here = rw (drop-cons bs place 0 h, s)

  pub whole_here : (n : ℕ) → part_of byte rest ≡ Ends n → lexemes_at bs place ≡ whole_lexeme byte (take n rest) place ∷ lexemes_at bs (suc place + n)
  unfolding lexemes_at
  whole_here n e =
      lexeme_here
      ∙ rw e (ap (λ (ts : List Lexeme). whole_lexeme byte (take n rest) place ∷ ts)
      (lexemes_enough (length rest) (suc place + n) (drop n rest) (simp length-drop (omega arith)) ∙ rw (drop-drop n (suc place) bs)))

  pub broken_here : (n : ℕ) → part_of byte rest ≡ Breaks n → lexemes_at bs place ≡ broken_lexeme byte place (suc place + n) ∷ []
  broken_here n e = lexeme_here ∙ rw e

-- ---- a lexeme from its own place on

-- the place of the first of some
abbrev first_of : List Lexeme → ℕ
first_of [] = 0
first_of (t ∷ ts) = t.first

followed_first : (b : ℕ) (bs : List ℕ) (place : ℕ) (others : ℕ → List ℕ → List Lexeme) (p : Part) → first_of (followed b bs place others p) ≡ place
followed_first b bs place others (Ends n) = refl
followed_first b bs place others (Breaks n) = refl

cons_not : (t : Lexeme) (ts : List Lexeme) → [] ≡ t ∷ ts → ⊥
cons_not t ts e = let z : ◌≡◌ {A = ℕ} 0 1 = cc in omega arith

-- The spaces before a lexeme do not matter to it.
pub lexemes_again : (bs : List ℕ) (from : ℕ) (t : Lexeme) (ts : List Lexeme) → lexemes_at bs from ≡ t ∷ ts → lexemes_at bs t.first ≡ t ∷ ts
lexemes_again bs from t ts e =
    let place = begins bs from in
    let g : lexemes_at bs place ≡ t ∷ ts = sym (spaces_skipped bs from) ∙ e in
    cases (leb (length bs) place)
    (λ y. absurd (cons_not t ts (sym (none_left bs place (leb-true (length bs) place y)) ∙ g)))
    (λ n. let h = leb-false (length bs) place n in
    let f : t.first ≡ place = ap first_of (sym g) ∙ ap first_of (lexeme_here bs place h (begins_so bs from h)) ∙ followed_first (get_or bs place 0) (drop (suc place) bs) place (λ next others. lexemes (length (drop (suc place) bs)) next others) (part_of (get_or bs place 0) (drop (suc place) bs)) in
    ap (lexemes_at bs) f ∙ g)
