-- What a value is, by the first token.
use Prim.Native.Nat.{ℕ, suc, ◌≤◌, ◌<◌}
use native.Mathlib.Omega.{arith}
use mathlib.Core.Path.{◌≡◌, sym, ap, ◌∙◌}
use mathlib.Core.Bool.{Bool, true, false, cond, ◌&&◌}
use mathlib.Core.List.{List, [], ◌∷◌}
use lib.Dec.{eqb, leb}
use lib.ListN.{length}
use borrow.Author.Tests.{eqb-true, eq-eqb}
use Rattle.rules.proofs.Checks.{and_left, and_right}
use Rattle.json_rule.specs.Lexemes.{Lexeme, is_digit}
use Rattle.json_rule.specs.Tree.{is_scalar, is_byte, Value, Missing, Listed, Named, array_at, object_at_lem, first_item, first_member, scalar, bracketed}
use Rattle.json_descent.specs.Descent.{value_from, items_from, members_from}
use Rattle.json_descent.proofs.Laws.{value_none, value_one}
use Rattle.json_tokens.specs.Tokens.{lexemes_at, TokenAt}
use Rattle.json_tokens.specs.declared.token.Token.{Token}
use Rattle.file_walk.specs.Seats.{is_mark}
use Rattle.file_walk.specs.Walked.{scalar_from}
use Rattle.file_walk.proofs.Tokens.{Mark, never_broken, by_state}

list_begin : Mark 91
unfolding is_scalar is_digit
list_begin t e = rw e

object_begin : Mark 123
unfolding is_scalar is_digit
object_begin t e = rw e

module _ (len depth : ℕ) (l : Lexeme) (ts : List Lexeme) where
  abbrev elements : Listed
  elements = first_item len (λ us. items_from len (suc depth) us) ts

  abbrev members : Named
  members = first_member len (λ us. members_from len (suc depth) us) ts

  one_list : is_byte 91 l ≡ true → value_from len depth (l ∷ ts) ≡ bracketed len depth l (array_at l.first elements)
  one_list e = value_one len depth l ts ∙ rw e

  one_object : is_byte 91 l ≡ false → is_byte 123 l ≡ true → value_from len depth (l ∷ ts) ≡ bracketed len depth l (object_at_lem l.first members)
  one_object e f = value_one len depth l ts ∙ rw (e, f)

  one_scalar : is_byte 91 l ≡ false → is_byte 123 l ≡ false → value_from len depth (l ∷ ts) ≡ scalar len l ts
  one_scalar e f = value_one len depth l ts ∙ rw (e, f)

module _ (bs : List ℕ) (depth from : ℕ) (t : Token) (slots : List ℕ) (n : TokenAt bs from t slots) where
  pub is_whole : (b : ℕ) → is_mark b t ≡ true → t.state ≡ 1
  is_whole b e = eqb-true t.state 1 (and_left (eqb t.state 1) (eqb t.head b) e)

  pub mark_bounds : (b : ℕ) → is_mark b t ≡ true → (from < t.after) × (t.after ≤ length bs)
  mark_bounds b e = let w = n.whole (is_whole b e) in (omega (arith, w.later, w.beyond), w.fits)

  pub mark_first : (b : ℕ) → is_mark b t ≡ true → t.first < t.after
  mark_first b e = (n.whole (is_whole b e)).beyond

  pub its_byte : (b : ℕ) (e : is_mark b t ≡ true) → is_byte b (n.whole (is_whole b e)).lexeme ≡ true
  its_byte b e = ap (λ (h : ℕ). eqb h b) (sym (n.whole (is_whole b e)).head) ∙ and_right (eqb t.state 1) (eqb t.head b) e

  pub other_byte : (b : ℕ) → is_mark b t ≡ false → (s : t.state ≡ 1) → is_byte b (n.whole s).lexeme ≡ false
  other_byte b e s = ap (λ (h : ℕ). eqb h b) (sym (n.whole s).head) ∙ (sym (ap (λ (k : Bool). k && eqb t.head b) (eq-eqb t.state 1 s)) ∙ e)

  abbrev list_behind : Value
  list_behind = array_at t.first (first_item (length bs) (λ us. items_from (length bs) (suc depth) us) (lexemes_at bs t.after))

  abbrev object_behind : Value
  object_behind = object_at_lem t.first (first_member (length bs) (λ us. members_from (length bs) (suc depth) us) (lexemes_at bs t.after))

  pub at_list : is_mark 91 t ≡ true → value_from (length bs) depth (lexemes_at bs from) ≡ cond (leb 16 depth) (Missing (record { place = t.first; number = 29 })) list_behind
  at_list e =
      let w = n.whole (is_whole 91 e) in
      ap (value_from (length bs) depth) w.is
      ∙ (one_list (length bs) depth w.lexeme (lexemes_at bs t.after) (its_byte 91 e)
      ∙ ap (λ (p : ℕ). cond (leb 16 depth) (Missing (record { place = p; number = 29 })) (array_at p (first_item (length bs) (λ us. items_from (length bs) (suc depth) us) (lexemes_at bs t.after)))) (sym w.first))

  pub at_object : is_mark 91 t ≡ false → is_mark 123 t ≡ true
      → value_from (length bs) depth (lexemes_at bs from) ≡ cond (leb 16 depth) (Missing (record { place = t.first; number = 29 })) object_behind
  at_object f e =
      let w = n.whole (is_whole 123 e) in
      ap (value_from (length bs) depth) w.is
      ∙ (one_object (length bs) depth w.lexeme (lexemes_at bs t.after) (other_byte 91 f (is_whole 123 e)) (its_byte 123 e)
      ∙ ap (λ (p : ℕ). cond (leb 16 depth) (Missing (record { place = p; number = 29 })) (object_at_lem p (first_member (length bs) (λ us. members_from (length bs) (suc depth) us) (lexemes_at bs t.after)))) (sym w.first))

  pub at_scalar : is_mark 91 t ≡ false → is_mark 123 t ≡ false → value_from (length bs) depth (lexemes_at bs from) ≡ scalar_from (length bs) (lexemes_at bs from)
  at_scalar e f =
      by_state bs from t slots n
      (λ s. ap (value_from (length bs) depth) (n.at_end s) ∙ (value_none (length bs) depth ∙ ap (scalar_from (length bs)) (sym (n.at_end s))))
      (λ s. let w = n.whole s in
      ap (value_from (length bs) depth) w.is ∙ (one_scalar (length bs) depth w.lexeme (lexemes_at bs t.after) (other_byte 91 e s) (other_byte 123 f s) ∙ ap (scalar_from (length bs)) (sym w.is)))
      (λ s. let w = n.broken s in
      ap (value_from (length bs) depth) w.is
      ∙ (one_scalar (length bs) depth w.lexeme [] (never_broken 91 list_begin w.lexeme w.is_scalar) (never_broken 123 object_begin w.lexeme w.is_scalar) ∙ ap (scalar_from (length bs)) (sym w.is)))
