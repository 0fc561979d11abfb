-- One byte, as the code takes it, by what it calls.
use Prim.Native.Nat.{ℕ, ◌+◌}
use mathlib.Core.Path.{◌≡◌, sym, ap, ◌∙◌}
use mathlib.Core.Bool.{Bool, true, false}
use mathlib.Core.List.{List}
use borrow.Author.Tests.{ne_eqb}
use lib.Dec.{ltb}
use Rattle.json_machine.specs.declared.Lexer.{Lexer}
use Rattle.json_machine.specs.Modes.{between_mode, stopped_mode, whole, broken, ended, after_mode}
use Rattle.json_machine.specs.Lexing.{Reading, reading, in_mode, with_next, head_of, is_whole_number}
use Rattle.json_members.specs.Model.{Told, told, After, after, taking, taking_broken}
use Rattle.json_store.specs.Puts.{Store, is_silent, put_done_in, put_done}
use Rattle.json_list.specs.declared.step.Run.{Run}
use Rattle.json_list.specs.Listing.{Work, Worked, worked_to, putting_of, worked}
use Rattle.json_list.specs.Turns.{run_of, Turn, turn, turn_of, whole_turn, stepped}

-- a whole lexeme that makes nothing whole
pub whole_passed : (put : Told) (done : ℕ) (behind : List ℕ) (s : Store) (a : After) → after behind done ≡ a → done ≡ 0 → worked_to (record { slots = behind; held = s }) 0 ≡ putting_of put s a
unfolding is_silent put_done_in
whole_passed put done behind s a t z = rw (← t, z)

-- one of which something is put
pub whole_put : (put : Told) (done : ℕ) (behind : List ℕ) (s x : Store) (a : After) → after behind done ≡ a → x ≡ put_done done put behind s → worked_to (record { slots = behind; held = x }) done ≡ putting_of put s a
whole_put put done behind s x a t p = rw (← t, p)

-- one by the numbers of its lexeme
pub whole_worked : (l : Lexer) (done head : ℕ) (integer : Bool) (kept : List ℕ) (w x : Work) → head ≡ head_of l → integer ≡ is_whole_number l → worked_to x done ≡ putting_of (told kept head 0 l.text.len false l.number.magnitude) w.held (taking (told kept head l.first l.text.len integer l.number.magnitude) w.slots) → worked_to x done ≡ worked (reading l kept) w
unfolding worked
whole_worked l done head integer kept w x h i t = rw (h, i) at t

-- in the turn of its last byte
pub whole_turn_lem : (l : Lexer) (place done : ℕ) (kept : List ℕ) (w x : Work) (q : Run) → worked_to x done ≡ worked (reading l kept) w → q ≡ run_of l between_mode place done → turn_of q kept x ≡ whole_turn place (reading l kept) w
whole_turn_lem l place done kept w x q t e = ap (λ (p : Run). turn_of p kept x) e ∙ ap (λ (a : Worked). turn (reading (in_mode between_mode l) kept) a.work place a.done) t

-- ---- one byte, which leads to `next`

module _ (b place i next : ℕ) (r : Reading) (w : Work) (n : next ≡ after_mode r.lexer.mode b) where
  pub step_broken : (head : ℕ) (behind : List ℕ) (q : Run) → next ≡ broken → head ≡ head_of r.lexer → behind ≡ taking_broken head r.lexer.first place w.slots → q ≡ run_of r.lexer stopped_mode (i + 1) 0 → turn_of q r.slots (record { slots = behind; held = w.held }) ≡ stepped b place i r w
  unfolding stepped
  step_broken head behind q e h t f = rw (f, t, h, sym n ∙ e)

  pub step_ended : (x : Turn) → next ≡ ended → x ≡ whole_turn i r w → x ≡ stepped b place i r w
  unfolding stepped
  step_ended x e t = t ∙ rw (sym n ∙ e)

  module _ (l : Lexer) (kept : List ℕ) (t : Bool) (nb : next ≡ broken → ⊥) (ne : next ≡ ended → ⊥) (h : reading l kept ≡ with_next b place r) (m : t ≡ ltb next whole) where
    pub step_mode : (q : Run) → t ≡ true → q ≡ run_of l next (i + 1) 0 → turn_of q kept w ≡ stepped b place i r w
    unfolding stepped
    step_mode q e f = rw (f, ← n, ne_eqb next broken nb, ne_eqb next ended ne, sym m ∙ e, ← h)

    pub step_whole : (x : Turn) → t ≡ false → x ≡ whole_turn (i + 1) (reading l kept) w → x ≡ stepped b place i r w
    unfolding stepped
    step_whole x e f = f ∙ rw (← n, ne_eqb next broken nb, ne_eqb next ended ne, sym m ∙ e, ← h)
