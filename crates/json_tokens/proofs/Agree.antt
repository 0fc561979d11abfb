-- Two answers from one place are of one lexeme, whatever was kept before.
use Prim.Native.Nat.{ℕ}
use mathlib.Core.Path.{◌≡◌, sym, ap, ◌∙◌}
use mathlib.Core.Bool.{cond}
use mathlib.Core.List.{List, [], ◌∷◌}
use native.Mathlib.Omega.{arith}
use borrow.Author.Tests.{eqb-true, eqb-false}
use borrow.Table.Steps.{cases}
use lib.Dec.{eqb}
use Rattle.json_rule.specs.Lexemes.{Lexeme}
use Rattle.json_tokens.specs.declared.token.Token.{Token}
use Rattle.json_tokens.specs.Tokens.{lexemes_at, WholeAt, BrokenAt, TokenAt}

-- what is answered of the first of some
abbrev pub state_of : List Lexeme → ℕ
state_of [] = 0
state_of (t ∷ ts) = cond t.whole 1 2

module _ (bs : List ℕ) (from : ℕ) where
  whole_told : (r : Token) (slots : List ℕ) → WholeAt bs from r slots → state_of (lexemes_at bs from) ≡ 1
  whole_told r slots w = ap state_of w.is ∙ rw w.is_whole

  broken_told : (r : Token) → BrokenAt bs from r → state_of (lexemes_at bs from) ≡ 2
  broken_told r w = ap state_of w.is ∙ rw w.is_broken

  -- The lexemes from there on say which of the three it is.
  pub state_told : (r : Token) (slots : List ℕ) → TokenAt bs from r slots → r.state ≡ state_of (lexemes_at bs from)
  state_told r slots a =
      cases (eqb r.state 0)
      (λ t. let e = eqb-true r.state 0 t in e ∙ sym (ap state_of (a.at_end e)))
      (λ n. cases (eqb r.state 1)
      (λ t. let e = eqb-true r.state 1 t in e ∙ sym (whole_told r slots (a.whole e)))
      (λ f. let e : r.state ≡ 2 = omega (arith, a.known, eqb-false r.state 0 n, eqb-false r.state 1 f) in e ∙ sym (broken_told r (a.broken e))))

  module _ (r s : Token) (x y : List ℕ) where
    pub same_state : TokenAt bs from r x → TokenAt bs from s y → r.state ≡ s.state
    same_state a b = state_told r x a ∙ sym (state_told s y b)

    pub same_whole : (v : WholeAt bs from r x) (w : WholeAt bs from s y) → v.lexeme ≡ w.lexeme
    same_whole v w = cc

    pub same_broken : (v : BrokenAt bs from r) (w : BrokenAt bs from s) → v.lexeme ≡ w.lexeme
    same_broken v w = cc
