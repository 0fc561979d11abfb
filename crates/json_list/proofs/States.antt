-- Offers without a byte; a part, update by update; and the end of a text.
use Prim.Native.Nat.{ℕ, zero, suc}
use mathlib.Core.Path.{◌≡◌, refl, sym, ap, ◌∙◌}
use mathlib.Core.Bool.{Bool, true, false}
use mathlib.Core.List.{List, [], ◌∷◌}
use native.Mathlib.Omega.{arith}
use borrow.Author.Tests.{eq-eqb, ne_eqb}
use lib.ListN.{length, set, replicate}
use Rattle.records.specs.Blanks.{no_updates}
use Rattle.records.specs.declared.update.UpdateList.{UpdateList}
use Rattle.json_machine.specs.declared.Lexer.{Lexer}
use Rattle.json_machine.specs.Modes.{between_mode, stopped_mode, may_end}
use Rattle.json_machine.specs.Lexing.{between_lexemes, Reading, reading, head_of}
use Rattle.json_members.specs.Slots.{start_slots}
use Rattle.json_members.specs.Model.{taking_broken}
use Rattle.json_feed.specs.Feeding.{fed}
use Rattle.json_list.specs.Listing.{Work, work, listing, Worked, worked_to, worked}
use Rattle.json_list.specs.States.{State, state, state_of, zeroing, no_offers, at_start, last_worked}

-- ---- bytes that are 0

-- where there are so many, all are
zeroing_on : (n i : ℕ) (x : ℕ) (l : List ℕ) → zeroing n (suc i) (x ∷ l) ≡ x ∷ zeroing n i l
unfolding zeroing
zeroing_on zero i x l = refl
zeroing_on (suc n) i x l = zeroing_on n (suc i) x (set l i 0)

pub zeroing_all : (n : ℕ) (l : List ℕ) → length l ≡ n → zeroing n 0 l ≡ replicate n 0
unfolding zeroing
zeroing_all zero [] h = refl
zeroing_all zero (x ∷ l) h = absurd (omega arith)
zeroing_all (suc n) [] h = absurd (omega arith)
zeroing_all (suc n) (x ∷ l) h = zeroing_on n 0 0 l ∙ ap (λ (r : List ℕ). 0 ∷ r) (zeroing_all n l (omega arith))

-- ---- before the first part

begun : Lexer → List ℕ → UpdateList → List ℕ → State
begun l judge list offers = state 0 (fed (reading l (replicate 97 0)) (listing (work judge (replicate 304 0) (replicate 1731 0)) list 0 offers))

pub started : (l : Lexer) (judge : List ℕ) (list : UpdateList) (offers after : List ℕ) → l ≡ between_lexemes → judge ≡ start_slots → list ≡ no_updates → after ≡ no_offers offers → state_of (record { before = 0; lexer = l; kept = replicate 97 0; judge = judge; numbers = replicate 304 0; texts = replicate 1731 0; list = list; offered = 0 }) after ≡ at_start offers
unfolding begun at_start
started l judge list offers after e f g h =
    ap (λ (x : Lexer). begun x judge list after) e
    ∙ ap (λ (x : List ℕ). begun between_lexemes x list after) f
    ∙ ap (λ (x : UpdateList). begun between_lexemes start_slots x after) g
    ∙ ap (λ (x : List ℕ). begun between_lexemes start_slots no_updates x) h

-- ---- a lexeme in which the text ends

module _ (len : ℕ) (r : Reading) (w : Work) (t : Bool) (m : t ≡ may_end r.lexer.mode) where
  pub last_whole : (x : Worked) → t ≡ true → x ≡ worked r w → x ≡ last_worked len r w
  unfolding last_worked
  last_whole x e f = f ∙ rw (sym m ∙ e)

  module _ (n : t ≡ false) where
    pub last_none : r.lexer.mode ≡ between_mode → worked_to w 0 ≡ last_worked len r w
    unfolding last_worked
    last_none e = rw (sym m ∙ n, eq-eqb r.lexer.mode between_mode e)

    module _ (nb : r.lexer.mode ≡ between_mode → ⊥) where
      pub last_stopped : r.lexer.mode ≡ stopped_mode → worked_to w 0 ≡ last_worked len r w
      unfolding last_worked
      last_stopped e = rw (sym m ∙ n, ne_eqb r.lexer.mode between_mode nb, eq-eqb r.lexer.mode stopped_mode e)

      pub last_broken : (head : ℕ) (behind : List ℕ) → (r.lexer.mode ≡ stopped_mode → ⊥) → head ≡ head_of r.lexer → behind ≡ taking_broken head r.lexer.first len w.slots → worked_to (record { slots = behind; held = w.held }) 0 ≡ last_worked len r w
      unfolding last_worked
      last_broken head behind e h f = rw (sym m ∙ n, ne_eqb r.lexer.mode between_mode nb, ne_eqb r.lexer.mode stopped_mode e, f, h)
