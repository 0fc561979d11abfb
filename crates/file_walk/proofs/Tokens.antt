-- What the rule does by the next lexeme, told of the token that stands for it.
use Prim.Native.Nat.{ℕ, zero, suc, ◌<◌}
use native.Mathlib.Omega.{arith}
use mathlib.Core.Path.{◌≡◌, refl, sym, ap, ◌∙◌}
use mathlib.Core.Bool.{true, false, cond, true≢false}
use mathlib.Core.List.{List, [], ◌∷◌}
use lib.ListN.{length}
use borrow.Table.Steps.{cases}
use borrow.Author.Tests.{eqb-true}
use Rattle.json_rule.specs.Lexemes.{Lexeme, is_digit}
use Rattle.json_rule.specs.Tree.{Defect, not_json, is_scalar, is_byte, stop_at, no_item, Listed, Closed, Open, first_item, more_items, Named, ClosedBy, OpenBy, no_member, bare_name, first_member, more_members, after_name}
use Rattle.json_tokens.specs.Tokens.{lexemes_at, TokenAt}
use Rattle.json_tokens.specs.declared.token.Token.{Token}
use Rattle.file_walk.specs.Seats.{is_mark, stop_place}

-- ---- by the state of a token

below_3 : {P : Type 0} (n : ℕ) → n < 3 → (n ≡ 0 → P) → (n ≡ 1 → P) → (n ≡ 2 → P) → P
below_3 zero h f g k = f refl
below_3 (suc zero) h f g k = g refl
below_3 (suc (suc zero)) h f g k = k refl
below_3 (suc (suc (suc n))) h f g k = absurd (omega arith)

-- a byte that begins no text, number or word
abbrev pub Mark : ℕ → Type 0
Mark b = (t : Lexeme) → t.head ≡ b → is_scalar t ≡ false

pub comma : Mark 44
unfolding is_scalar is_digit
comma t e = rw e

pub colon : Mark 58
unfolding is_scalar is_digit
colon t e = rw e

pub list_end : Mark 93
unfolding is_scalar is_digit
list_end t e = rw e

pub object_end : Mark 125
unfolding is_scalar is_digit
object_end t e = rw e

pub never_broken : (b : ℕ) → Mark b → (t : Lexeme) → is_scalar t ≡ true → is_byte b t ≡ false
never_broken b m t s = cases (is_byte b t) (λ e. absurd (true≢false (sym s ∙ m t (eqb-true t.head b e)))) (λ e. e)

-- the mark, and what follows it
abbrev pub marked : {X : Type 0} → ℕ → (List Lexeme → X) → X → List Lexeme → X
marked b then other [] = other
marked b then other (u ∷ us) = cond (is_byte b u) (then us) other

module _ (bs : List ℕ) (from : ℕ) (t : Token) (slots : List ℕ) (n : TokenAt bs from t slots) where
  pub by_state : {P : Type 0} → (t.state ≡ 0 → P) → (t.state ≡ 1 → P) → (t.state ≡ 2 → P) → P
  by_state f g k = below_3 t.state n.known f g k

  pub by_mark : {X : Type 0} (b : ℕ) (then : List Lexeme → X) (other : X) → Mark b → marked b then other (lexemes_at bs from) ≡ cond (is_mark b t) (then (lexemes_at bs t.after)) other
  by_mark b then other m =
      by_state
      (λ e. rw (n.at_end e, e))
      (λ e. rw ((n.whole e).is, e, (n.whole e).head))
      (λ e. rw ((n.broken e).is, e, never_broken b m (n.broken e).lexeme (n.broken e).is_scalar))

  -- where no mark stands that may
  pub by_stop : stop_at (length bs) (lexemes_at bs from) ≡ record { place = stop_place (length bs) t; number = not_json }
  by_stop =
      by_state
      (λ e. rw (n.at_end e, e))
      (λ e. rw ((n.whole e).is, e, (n.whole e).first))
      (λ e. rw ((n.broken e).is, e, (n.broken e).first))

-- ---- the rule by marks

more_items_lem : (len : ℕ) (again : List Lexeme → Listed) (ts : List Lexeme)
    → more_items len again ts ≡ marked 44 again (marked 93 (λ us. Closed no_item us) (Open no_item (stop_at len ts)) ts) ts
more_items_lem len again [] = refl
more_items_lem len again (t ∷ ts) = refl

first_items : (len : ℕ) (again : List Lexeme → Listed) (ts : List Lexeme) → first_item len again ts ≡ marked 93 (λ us. Closed no_item us) (again ts) ts
first_items len again [] = refl
first_items len again (t ∷ ts) = refl

more_members_lem : (len : ℕ) (again : List Lexeme → Named) (ts : List Lexeme)
    → more_members len again ts ≡ marked 44 again (marked 125 (λ us. ClosedBy no_member us) (OpenBy no_member (stop_at len ts)) ts) ts
more_members_lem len again [] = refl
more_members_lem len again (t ∷ ts) = refl

first_members : (len : ℕ) (again : List Lexeme → Named) (ts : List Lexeme) → first_member len again ts ≡ marked 125 (λ us. ClosedBy no_member us) (again ts) ts
first_members len again [] = refl
first_members len again (t ∷ ts) = refl

after_names : (len : ℕ) (u : Lexeme) (again : List Lexeme → Named) (ts : List Lexeme) → after_name len u again ts ≡ marked 58 again (OpenBy (bare_name u) (stop_at len ts)) ts
after_names len u again [] = refl
after_names len u again (t ∷ ts) = refl

-- ---- and by tokens

module _ (bs : List ℕ) (from : ℕ) (t : Token) (slots : List ℕ) (n : TokenAt bs from t slots) where
  pub items_more : (again : List Lexeme → Listed)
      → more_items (length bs) again (lexemes_at bs from)
      ≡ cond (is_mark 44 t) (again (lexemes_at bs t.after)) (cond (is_mark 93 t) (Closed no_item (lexemes_at bs t.after)) (Open no_item (record { place = stop_place (length bs) t; number = not_json })))
  items_more again =
      more_items_lem (length bs) again (lexemes_at bs from)
      ∙ (by_mark bs from t slots n 44 again _ comma
      ∙ ap (λ (x : Listed). cond (is_mark 44 t) (again (lexemes_at bs t.after)) x)
      (by_mark bs from t slots n 93 (λ us. Closed no_item us) _ list_end
      ∙ ap (λ (d : Defect). cond (is_mark 93 t) (Closed no_item (lexemes_at bs t.after)) (Open no_item d)) (by_stop bs from t slots n)))

  pub items_begin : (again : List Lexeme → Listed)
      → first_item (length bs) again (lexemes_at bs from) ≡ cond (is_mark 93 t) (Closed no_item (lexemes_at bs t.after)) (again (lexemes_at bs from))
  items_begin again = first_items (length bs) again (lexemes_at bs from) ∙ by_mark bs from t slots n 93 (λ us. Closed no_item us) _ list_end

  pub members_more : (again : List Lexeme → Named)
      → more_members (length bs) again (lexemes_at bs from)
      ≡ cond (is_mark 44 t) (again (lexemes_at bs t.after)) (cond (is_mark 125 t) (ClosedBy no_member (lexemes_at bs t.after)) (OpenBy no_member (record { place = stop_place (length bs) t; number = not_json })))
  members_more again =
      more_members_lem (length bs) again (lexemes_at bs from)
      ∙ (by_mark bs from t slots n 44 again _ comma
      ∙ ap (λ (x : Named). cond (is_mark 44 t) (again (lexemes_at bs t.after)) x)
      (by_mark bs from t slots n 125 (λ us. ClosedBy no_member us) _ object_end
      ∙ ap (λ (d : Defect). cond (is_mark 125 t) (ClosedBy no_member (lexemes_at bs t.after)) (OpenBy no_member d)) (by_stop bs from t slots n)))

  pub members_begin : (again : List Lexeme → Named)
      → first_member (length bs) again (lexemes_at bs from) ≡ cond (is_mark 125 t) (ClosedBy no_member (lexemes_at bs t.after)) (again (lexemes_at bs from))
  members_begin again = first_members (length bs) again (lexemes_at bs from) ∙ by_mark bs from t slots n 125 (λ us. ClosedBy no_member us) _ object_end

  pub name_after : (u : Lexeme) (again : List Lexeme → Named)
      → after_name (length bs) u again (lexemes_at bs from)
      ≡ cond (is_mark 58 t) (again (lexemes_at bs t.after)) (OpenBy (bare_name u) (record { place = stop_place (length bs) t; number = not_json }))
  name_after u again =
      after_names (length bs) u again (lexemes_at bs from)
      ∙ (by_mark bs from t slots n 58 again _ colon
      ∙ ap (λ (d : Defect). cond (is_mark 58 t) (again (lexemes_at bs t.after)) (OpenBy (bare_name u) d)) (by_stop bs from t slots n))
