-- There are as many slots behind a byte as before it.
use Prim.Native.Nat.{ℕ}
use mathlib.Core.Path.{◌≡◌, refl, ◌∙◌}
use mathlib.Core.Bool.{Bool, true, false, cond}
use mathlib.Core.List.{List, [], ◌∷◌}
use borrow.Table.Steps.{cases}
use lib.Dec.{eqb, leb, ltb}
use lib.ListN.{length, length-set}
use Rattle.json_rule.specs.Lexemes.{quote, backslash}
use Rattle.json_rule.specs.Values.{is_high, is_low, utf8}
use Rattle.json_machine.specs.Modes.{between_mode, text_mode, escape_mode, one_hex_mode, four_hex_mode, after_f4_mode}
use Rattle.json_machine.specs.Digest.{kept_room, count_with, slots_with, slots_all, escaped_of, pair_of, Held, held, waiting, saying, unit_with, settled_held, keeping, with_low, with_unit, held_in_text, held_in_escape, held_in_hex, held_after, is_before_point}
use Rattle.json_machine.specs.Lexing.{Reading, with_next}

slot_long : (slots : List ℕ) (len b : ℕ) → length (slots_with slots len b) ≡ length slots
slot_long slots len b = cases (ltb len kept_room) (λ t. rw t (length-set slots len b)) (λ f. rw f)

slots_long : (slots : List ℕ) (len : ℕ) (bs : List ℕ) → length (slots_all slots len bs) ≡ length slots
slots_long slots len [] = refl
slots_long slots len (b ∷ bs) = slots_long (slots_with slots len b) (count_with len) bs ∙ slot_long slots len b

-- so many slots
record Long (n : ℕ) (h : Held) : Type 0 where
  long : length h.slots ≡ n

either_long : {n : ℕ} {g h : Held} (t : Bool) → Long n g → Long n h → Long n (cond t g h)
either_long true p q = p
either_long false p q = q

keeping_long : {n : ℕ} (bs : List ℕ) (h : Held) → length h.slots ≡ n → Long n (keeping bs h)
unfolding keeping
keeping_long bs h e = record { long = slots_long h.slots h.text.len bs ∙ e }

unit_long : (c : ℕ) (h : Held) → Long (length h.slots) (with_unit c h)
unfolding with_low with_unit
unit_long c h =
    either_long (is_low c)
    (either_long (eqb h.text.high 0) (record { long = refl }) (keeping_long (utf8 (pair_of h.text.high c)) (held (waiting 0 h.text) h.slots) refl))
    (either_long (is_high c) (record { long = refl }) (keeping_long (utf8 c) (settled_held h) refl))

text_long : (m b : ℕ) (h : Held) → Long (length h.slots) (held_after m b h)
unfolding held_in_text held_in_escape held_in_hex held_after
text_long m b h =
    let u = unit_with h.text.unit b in
    let said = held (saying u h.text) h.slots in
    either_long (eqb m text_mode) (either_long (eqb b quote) (record { long = refl }) (either_long (eqb b backslash) (record { long = refl }) (keeping_long (b ∷ []) (settled_held h) refl)))
    (either_long (eqb m escape_mode) (either_long (eqb b 117) (record { long = refl }) (keeping_long (escaped_of b ∷ []) (settled_held h) refl))
    (either_long (leb m four_hex_mode) (either_long (eqb m one_hex_mode) (unit_long u said) (record { long = refl }))
    (keeping_long (b ∷ []) h refl)))

pub next_long : (b place : ℕ) (r : Reading) → length (with_next b place r).slots ≡ length r.slots
unfolding with_next
next_long b place r =
    let m = r.lexer.mode in
    cases (eqb m between_mode) (λ t. rw t)
    (λ n. cases (leb m after_f4_mode) (λ t. rw (n, t) (text_long m b (held r.lexer.text r.slots)).long)
    (λ f. cases (is_before_point m) (λ t. rw (n, f, t)) (λ g. rw (n, f, g))))
