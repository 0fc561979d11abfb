-- The version that a lexeme says, by what is kept of it.
use Prim.Native.Nat.{ℕ, zero, suc, ◌^◌, ◌<◌, ◌≤◌}
use native.Mathlib.Omega.{arith}
use mathlib.Core.Path.{◌≡◌, refl, sym, ap, ◌∙◌}
use mathlib.Core.Bool.{Bool, true, false, cond, ◌&&◌, ◌||◌, true≢false}
use mathlib.Core.List.{List, [], ◌∷◌}
use mathlib.Core.Option.{Option, none, some}
use lib.Dec.{eqb, leb, ltb}
use lib.IntN.{ℤ, pos, negsuc}
use borrow.Table.Steps.{cases}
use borrow.Author.Tests.{eqb-true, eqb-false, ltb-true, ltb-false, lt-ltb, le-ltb, le-leb, lt-leb}
use Rattle.json_rule.specs.Lexemes.{Lexeme, quote, minus, is_digit, within}
use Rattle.json_rule.specs.Values.{whole_number_of, negative}
use Rattle.json_rule.specs.Tree.{Value, is_scalar, is_byte}
use Rattle.json_machine.proofs.Numbers.{signed_by}
use Rattle.json_members.specs.Kept.{LexemeKept, NumberKept}
use Rattle.json_tokens.specs.declared.token.Token.{Token}
use Rattle.json_tokens.specs.Tokens.{lexemes_at, WholeAt, BrokenAt, TokenAt}
use Rattle.json_descent.specs.Descent.{value_from}
use Rattle.file_rule.specs.FileDefects.{known_version}
use Rattle.file_import.specs.Versions.{version_number, version_in, known_by}
use Rattle.file_import.proofs.Versions.{value_end_lem, value_list, value_object, value_scalar, value_other, value_broken}

-- ---- numbers

known_natural : (n : ℕ) → known_version (pos n) ≡ cond (ltb n 1) 0 (cond (ltb 3 n) 0 n)
known_natural n =
    cases (ltb n 1)
    (λ l. rw (l, lt-leb 1 n (ltb-true n 1 l)))
    (λ l. rw (l, le-leb 1 n (ltb-false n 1 l)) (cases (ltb 3 n) (λ k. rw (k, lt-leb n 3 (ltb-true 3 n k))) (λ k. rw (k, le-leb n 3 (ltb-false 3 n k)))))

large_none : (n : ℕ) → ltb n (2 ^ 64) ≡ false → known_version (pos n) ≡ 0
large_none n e =
    let k : 3 < n = omega (arith, ltb-false n (2 ^ 64) e) in
    known_natural n ∙ rw (lt-ltb 3 n k) (cases (ltb n 1) (λ l. rw l) (λ l. rw l))

below_none : (v : ℕ) → known_version (negative v) ≡ 0
below_none zero = refl
below_none (suc n) = refl

digit_known : (head : ℕ) (integer : Bool) (size : ℕ) (t : Lexeme) → head ≡ t.head → is_digit t.head ≡ true → eqb t.head minus ≡ false → NumberKept integer size t → version_number (whole_number_of t) ≡ known_by head integer size
unfolding known_by
digit_known head integer size t h d m k =
    ap version_number k.number
    ∙ rw (h, d, m)
    (cases k.is_whole
    (λ w. cases (ltb k.value (2 ^ 64))
    (λ l. let i : integer ≡ true = k.told ∙ rw (w, l) refl in rw (w, i, k.is i) (known_natural k.value))
    (λ l. let i : integer ≡ false = k.told ∙ rw (w, l) refl in rw (w, i) (large_none k.value l)))
    (λ w. let i : integer ≡ false = k.told ∙ rw w refl in rw (w, i) refl))

-- ---- every whole lexeme

not_digit : (head : ℕ) (integer : Bool) (size : ℕ) → is_digit head ≡ false → known_by head integer size ≡ 0
unfolding known_by
not_digit head integer size d = rw d refl

no_number_lem : (t : Lexeme) → eqb t.head minus ≡ false → is_digit t.head ≡ false → whole_number_of t ≡ none
unfolding whole_number_of
no_number_lem t m d = rw (m, d) refl

minus_none : is_digit minus ≡ false
unfolding is_digit
minus_none = refl

minus_digit : (n : ℕ) → eqb n minus ≡ true → is_digit n ≡ false
minus_digit n e = ap is_digit (eqb-true n minus e) ∙ minus_none

digit_scalar : (t : Lexeme) → is_digit t.head ≡ true → is_scalar t ≡ true
unfolding is_scalar
digit_scalar t d = cases (eqb t.head quote) (λ q. rw q) (λ q. cases (eqb t.head minus) (λ m. rw (q, m)) (λ m. rw (q, m, d)))

digit_not_minus : (n : ℕ) → is_digit n ≡ true → eqb n minus ≡ false
digit_not_minus n d = cases (eqb n minus) (λ e. absurd (true≢false (sym d ∙ minus_digit n e))) (λ e. e)

number_known : (head : ℕ) (slots : List ℕ) (len : ℕ) (integer : Bool) (size : ℕ) (t : Lexeme) → head ≡ t.head → LexemeKept slots len integer size t → version_number (whole_number_of t) ≡ known_by head integer size
number_known head slots len integer size t h k =
    cases (is_digit t.head)
    (λ d. digit_known head integer size t h d (digit_not_minus t.head d) (k.number (rw (digit_not_minus t.head d) d)))
    (λ d. cases (eqb t.head minus)
    (λ m. let n : NumberKept integer size t = k.number (rw m refl) in
    ap version_number n.number ∙ rw m (cases n.is_whole (λ w. rw w (below_none n.value)) (λ w. rw w refl)) ∙ sym (not_digit head integer size (ap is_digit h ∙ d)))
    (λ m. ap version_number (no_number_lem t m d) ∙ sym (not_digit head integer size (ap is_digit h ∙ d))))

bracket_digit : (n b : ℕ) → eqb n b ≡ true → is_digit b ≡ false → is_digit n ≡ false
bracket_digit n b e d = ap is_digit (eqb-true n b e) ∙ d

no_digit_91 : is_digit 91 ≡ false
unfolding is_digit
no_digit_91 = refl

no_digit_123 : is_digit 123 ≡ false
unfolding is_digit
no_digit_123 = refl

whole_version : (len : ℕ) (t : Lexeme) (ts : List Lexeme) (head : ℕ) (slots : List ℕ) (kept : ℕ) (integer : Bool) (size : ℕ) → head ≡ t.head → t.whole ≡ true → LexemeKept slots kept integer size t
    → version_in (value_from len 1 (t ∷ ts)) ≡ known_by head integer size
whole_version len t ts head slots kept integer size h w k =
    cases (is_byte 91 t)
    (λ e. value_list len t ts e ∙ sym (not_digit head integer size (ap is_digit h ∙ bracket_digit t.head 91 e no_digit_91)))
    (λ e. cases (is_byte 123 t)
    (λ f. value_object len t ts e f ∙ sym (not_digit head integer size (ap is_digit h ∙ bracket_digit t.head 123 f no_digit_123)))
    (λ f. cases (is_scalar t)
    (λ s. value_scalar len t ts e f s w ∙ number_known head slots kept integer size t h k)
    (λ s. value_other len t ts e f s ∙ sym (not_digit head integer size (ap is_digit h ∙ cases (is_digit t.head) (λ d. absurd (true≢false (sym (digit_scalar t d) ∙ s))) (λ d. d))))))

broken_version : (len : ℕ) (t : Lexeme) (ts : List Lexeme) → t.whole ≡ false → version_in (value_from len 1 (t ∷ ts)) ≡ 0
broken_version len t ts w = cases (is_byte 91 t) (λ e. value_list len t ts e) (λ e. cases (is_byte 123 t) (λ f. value_object len t ts e f) (λ f. value_broken len t ts e f w))

-- what a token says
module _ (len : ℕ) (bs : List ℕ) (from : ℕ) (r : Token) (slots : List ℕ) (k : TokenAt bs from r slots) where
  pub token_whole : r.state ≡ 1 → known_by r.head r.integer r.magnitude ≡ version_in (value_from len 1 (lexemes_at bs from))
  token_whole e =
      let w = k.whole e in
      sym (ap (λ (ts : List Lexeme). version_in (value_from len 1 ts)) w.is ∙ whole_version len w.lexeme (lexemes_at bs r.after) r.head slots r.len r.integer r.magnitude w.head w.is_whole w.kept)

  pub token_other : (r.state ≡ 1 → ⊥) → 0 ≡ version_in (value_from len 1 (lexemes_at bs from))
  token_other n =
      cases (eqb r.state 0)
      (λ e. sym (ap (λ (ts : List Lexeme). version_in (value_from len 1 ts)) (k.at_end (eqb-true r.state 0 e)) ∙ value_end_lem len))
      (λ e. let two : r.state ≡ 2 = omega (arith, k.known, eqb-false r.state 0 e, n) in
      let b = k.broken two in
      sym (ap (λ (ts : List Lexeme). version_in (value_from len 1 ts)) b.is ∙ broken_version len b.lexeme [] b.is_broken))

-- ---- the tests of the code, in their order

module _ (head : ℕ) (integer : Bool) (size : ℕ) where
  pub no_digit : is_digit head ≡ false → 0 ≡ known_by head integer size
  no_digit d = sym (not_digit head integer size d)

  pub no_integer : is_digit head ≡ true → integer ≡ false → 0 ≡ known_by head integer size
  unfolding known_by
  no_integer d i = rw (d, i) refl

  pub too_low_lem : is_digit head ≡ true → integer ≡ true → size < 1 → 0 ≡ known_by head integer size
  unfolding known_by
  too_low_lem d i l = rw (d, i, lt-ltb size 1 l) refl

  pub too_high : is_digit head ≡ true → integer ≡ true → 1 ≤ size → 3 < size → 0 ≡ known_by head integer size
  unfolding known_by
  too_high d i l k = rw (d, i, le-ltb size 1 l, lt-ltb 3 size k) refl

  pub known : is_digit head ≡ true → integer ≡ true → 1 ≤ size → size ≤ 3 → size ≡ known_by head integer size
  unfolding known_by
  known d i l k = rw (d, i, le-ltb size 1 l, le-ltb 3 size k) refl
