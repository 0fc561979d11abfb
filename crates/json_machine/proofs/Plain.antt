-- In a text plain bytes are kept and counted, and change nothing else.
use Prim.Native.Nat.{ℕ, ◌≤◌}
use mathlib.Core.Path.{◌≡◌, refl, sym, ◌∙◌}
use mathlib.Core.Bool.{Bool, true, false, cond, true≢false}
use mathlib.Core.List.{List, [], ◌∷◌}
use native.Mathlib.Omega.{arith}
use borrow.Table.Steps.{cases}
use lib.Dec.{eqb}
use lib.ListN.{length, take}
use Rattle.rules.specs.Words.{all}
use Rattle.json_rule.specs.Lexemes.{within, quote, backslash}
use Rattle.json_machine.specs.Modes.{text_mode, in_text, after_text, after_mode, mode_over}
use Rattle.json_machine.specs.Digest.{settled, Held, keeping, settled_held, held_in_text, held_after, held_over, is_plain, plain_run}
use Rattle.json_machine.proofs.Bounds.{both}

-- ---- one plain byte

-- it is none of the two that stand for something else
record Plain (b : ℕ) : Type 0 where
  no_quote : eqb b quote ≡ false
  no_backslash : eqb b backslash ≡ false
  character : within 32 127 b ≡ true

no_true : (t : Bool) (x : Bool) → cond t false x ≡ true → (t ≡ false) × (x ≡ true)
no_true true x e = absurd (true≢false (sym e))
no_true false x e = (refl, e)

plain : (b : ℕ) → is_plain b ≡ true → Plain b
unfolding is_plain
plain b e =
    let p = no_true (eqb b quote) (cond (eqb b backslash) false (within 32 127 b)) e in
    let q = no_true (eqb b backslash) (within 32 127 b) p.1 in
    record { no_quote = p.0; no_backslash = q.0; character = q.1 }

pub plain_mode : (b : ℕ) → is_plain b ≡ true → after_mode text_mode b ≡ text_mode
unfolding after_mode after_text in_text
plain_mode b e = let p = plain b e in rw (p.no_quote, p.no_backslash, p.character)

pub plain_byte : (b : ℕ) (h : Held) → is_plain b ≡ true → held_after text_mode b h ≡ keeping (b ∷ []) (settled_held h)
unfolding held_after held_in_text
plain_byte b h e = let p = plain b e in rw (p.no_quote, p.no_backslash)

-- ---- several

settled_kept : (b : ℕ) (bs : List ℕ) (h : Held) → keeping bs (settled_held (keeping (b ∷ []) (settled_held h))) ≡ keeping (b ∷ bs) (settled_held h)
unfolding settled keeping
settled_kept b bs h = cases (eqb h.text.high 0) (λ z. rw (z, z)) (λ n. rw n)

pub plain_modes : (bs : List ℕ) → all is_plain bs ≡ true → mode_over text_mode bs ≡ text_mode
unfolding mode_over
plain_modes [] e = refl
plain_modes (b ∷ bs) e = let p = both (is_plain b) (all is_plain bs) e in rw (plain_mode b p.0) (plain_modes bs p.1)

-- a first one settles that what waits stands alone
pub plain_over : (b : ℕ) (bs : List ℕ) (h : Held) → all is_plain (b ∷ bs) ≡ true → held_over text_mode h (b ∷ bs) ≡ keeping (b ∷ bs) (settled_held h)
unfolding held_over
plain_over b [] h e = plain_byte b h (both (is_plain b) true e).0
plain_over b (c ∷ bs) h e =
    let p = both (is_plain b) (all is_plain (c ∷ bs)) e in
    rw (plain_mode b p.0, plain_byte b h p.0) (plain_over c bs (keeping (b ∷ []) (settled_held h)) p.1 ∙ settled_kept b (c ∷ bs) h)

-- ---- those in front

pub plain_run_all : (bs : List ℕ) → all is_plain (take (plain_run bs) bs) ≡ true
plain_run_all [] = refl
plain_run_all (b ∷ bs) = cases (is_plain b) (λ t. rw (t, t) (plain_run_all bs)) (λ f. rw f)

pub plain_run_within : (bs : List ℕ) → plain_run bs ≤ length bs
plain_run_within [] = omega arith
plain_run_within (b ∷ bs) = cases (is_plain b) (λ t. rw t (omega (arith, plain_run_within bs))) (λ f. rw f (omega arith))
