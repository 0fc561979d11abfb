-- In a text the plain bytes in front are one step.
use Prim.Native.Nat.{ℕ, zero, suc, ◌+◌, ◌<◌}
use mathlib.Core.Path.{◌≡◌, refl, sym, ap, ◌∙◌}
use mathlib.Core.Bool.{true}
use mathlib.Core.List.{List, [], ◌∷◌}
use native.Mathlib.Nat.{zero-add}
use native.Mathlib.Omega.{arith}
use lib.ListN.{length, take, drop, take-append-drop}
use lib.Seq.{slice, take-nil, drop-drop, length-take-le}
use Rattle.rules.specs.Words.{all}
use Rattle.json_machine.specs.Modes.{text_mode, after_mode}
use Rattle.json_machine.specs.Digest.{Keeps, counted, settled, held, keeping, held_after, held_over, is_plain, plain_run}
use Rattle.json_machine.specs.Lexing.{with_text, Reading, reading, text_read, with_next, read_byte}
use Rattle.json_machine.proofs.Bounds.{both}
use Rattle.json_machine.proofs.Plain.{plain_mode, plain_over, plain_run_all, plain_run_within}
use Rattle.json_feed.specs.Feeding.{Sink, Fed, fed, mode_in, fed_byte, fed_all}
use Rattle.json_feed.proofs.Steps.{fed_mode, fed_append}

text_byte : (b place : ℕ) (r : Reading) → r.lexer.mode ≡ text_mode → is_plain b ≡ true → read_byte b place r ≡ text_read (held_after text_mode b (held r.lexer.text r.slots)) r.lexer
unfolding with_next
text_byte b place r m e = rw (m, plain_mode b e)

-- so many elements from a place on
slice_take : (from n : ℕ) (l : List ℕ) → slice from (from + n) l ≡ take n (drop from l)
slice_take zero n l = rw (zero-add n)
slice_take (suc from) n [] = rw (take-nil {A = ℕ} n, take-nil {A = ℕ} (suc from + n))
slice_take (suc from) n (x ∷ l) = let h : suc from + n ≡ suc (from + n) = omega arith in rw h (slice_take from n l)

module _ {X : Type 0} (s : Sink X) where
  -- one plain byte
  plain_byte : (b place : ℕ) (z : Fed X) → mode_in z ≡ text_mode → is_plain b ≡ true → fed_byte s b place z ≡ fed (text_read (held_after text_mode b (held z.reading.lexer.text z.reading.slots)) z.reading.lexer) z.sink
  plain_byte b place z m e =
      let k : after_mode (mode_in z) b ≡ text_mode = rw m (plain_mode b e) in
      fed_mode s b place z (rw k) (rw k) (rw k) ∙ ap (λ (r : Reading). fed r z.sink) (text_byte b place z.reading m e)

  -- several
  plain_bytes : (place : ℕ) (z : Fed X) (bs : List ℕ) → mode_in z ≡ text_mode → all is_plain bs ≡ true → fed_all s place z bs ≡ fed (text_read (held_over text_mode (held z.reading.lexer.text z.reading.slots) bs) z.reading.lexer) z.sink
  unfolding fed_all held_over
  plain_bytes place z [] m e = refl
  plain_bytes place z (b ∷ bs) m e =
      let p = both (is_plain b) (all is_plain bs) e in
      let h = held_after text_mode b (held z.reading.lexer.text z.reading.slots) in
      ap (λ (y : Fed X). fed_all s (suc place) y bs) (plain_byte b place z m p.0)
      ∙ plain_bytes (suc place) (fed (text_read h z.reading.lexer) z.sink) bs m p.1
      ∙ ap (λ (k : ℕ). fed (text_read (held_over k h bs) z.reading.lexer) z.sink) (sym (plain_mode b p.0))

  -- Plain bytes of a text are kept, and what waits for the other half of a pair stood alone.
  pub fed_plain : (place : ℕ) (z : Fed X) (bs : List ℕ) (len : ℕ) (after : List ℕ) → mode_in z ≡ text_mode → all is_plain bs ≡ true → 0 < length bs → Keeps z.reading.slots (settled z.reading.lexer.text).len bs len after → fed_all s place z bs ≡ fed (reading (with_text (counted len (settled z.reading.lexer.text)) z.reading.lexer) after) z.sink
  unfolding keeping
  fed_plain place z [] len after m e h k = absurd (omega arith)
  fed_plain place z (b ∷ bs) len after m e h k =
      plain_bytes place z (b ∷ bs) m e
      ∙ rw (plain_over b bs (held z.reading.lexer.text z.reading.slots) e, k.counts, k.bytes)

  -- those of a part from a place of it on, up to the first byte that is not plain
  pub fed_run : (before from end : ℕ) (z : Fed X) (part : List ℕ) (len : ℕ) (after : List ℕ) → mode_in z ≡ text_mode → end ≡ from + plain_run (drop from part) → from < end → Keeps z.reading.slots (settled z.reading.lexer.text).len (slice from end part) len after → fed_all s (before + from) z (drop from part) ≡ fed_all s (before + end) (fed (reading (with_text (counted len (settled z.reading.lexer.text)) z.reading.lexer) after) z.sink) (drop end part)
  fed_run before from end z part len after m e h k =
      let rest = drop from part in
      let n = plain_run rest in
      let g : slice from end part ≡ take n rest = ap (λ (i : ℕ). slice from i part) e ∙ slice_take from n part in
      let l = length-take-le n rest (plain_run_within rest) in
      let p : before + from + length (take n rest) ≡ before + end = omega (arith, l) in
      let y = fed_plain (before + from) z (take n rest) len after m (plain_run_all rest) (omega (arith, l)) (rw g at k) in
      ap (λ (x : List ℕ). fed_all s (before + from) z x) (sym (take-append-drop n rest))
      ∙ fed_append s (before + from) z (take n rest) (drop n rest)
      ∙ rw (y, p, drop-drop n from part, e)
