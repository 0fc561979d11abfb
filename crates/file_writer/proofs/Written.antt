-- A file that is no longer than the buffer is put at its beginning.
use Prim.Native.Nat.{ℕ, ◌+◌, ◌^◌, ◌≤◌, ◌<◌}
use native.Mathlib.Omega.{arith}
use mathlib.Core.Path.{◌≡◌, refl, sym, ap, ◌∙◌}
use mathlib.Core.Bool.{false}
use mathlib.Core.List.{List, ◌++◌}
use borrow.Author.Tests.{le-leb, lt-leb, ltb-true, ltb-false}
use borrow.Table.Steps.{cases}
use lib.Dec.{ltb}
use lib.ListN.{length, drop}
use lib.Seq.{sets-eq}
use Rattle.rules.specs.Replies.{accepted}
use Rattle.file_rule.specs.Export.{short_buffer}
use Rattle.file_text.specs.Puts.{Puts, past}
use Rattle.file_text.proofs.Pieces.{past_exact, past_last}
use Rattle.file_writer.specs.Answer.{fits, written_of, bytes_of}

module _ (text buffer : List ℕ) {r : ℕ} (e : r ≡ past 0 (length text)) where
  pub too_long : length buffer < r → fits text buffer ≡ false
  too_long h =
      lt-leb (length text) (length buffer)
      (cases (ltb (length text) 18446744073709551616)
      (λ t. let k = ltb-true (length text) 18446744073709551616 t in omega (arith, e ∙ sym (past_exact 0 (length text) (omega arith))))
      (λ t. let k = ltb-false (length text) 18446744073709551616 t in omega (arith, e ∙ sym (past_last 0 (length text) (omega arith)))))

  pub short_enough : r ≤ length buffer → length buffer < 2 ^ 63 → length text ≤ length buffer
  short_enough h m =
      cases (ltb (length text) 18446744073709551616)
      (λ t. let k = ltb-true (length text) 18446744073709551616 t in omega (arith, e ∙ sym (past_exact 0 (length text) (omega arith))))
      (λ t. let k = ltb-false (length text) 18446744073709551616 t in absurd (omega (arith, e ∙ sym (past_last 0 (length text) (omega arith)))))

pub put_whole : (text : List ℕ) {buffer after : List ℕ} {r : ℕ} → Puts buffer 0 text r after → length text ≤ length buffer → length buffer < 2 ^ 63 → (r ≡ length text) × (after ≡ text ++ drop (length text) buffer)
put_whole text {buffer} x h m =
    let z : 0 + length text ≡ length text = omega arith in
    (x.ends ∙ sym (past_exact 0 (length text) (omega arith)) ∙ z, x.bytes (omega arith) (omega arith) ∙ sets-eq text buffer 0 (omega arith) ∙ ap (λ (n : ℕ). text ++ drop n buffer) z)

-- the first call of two has put the text into another buffer
module _ (text buffer : List ℕ) {other other' : List ℕ} {r : ℕ} (o : Puts other 0 text r other') where
  pub refused : length buffer < r → (record { number = short_buffer; length = 0 } ≡ written_of text buffer) × (buffer ≡ bytes_of text buffer)
  refused h = rw (too_long text buffer o.ends h) (refl, refl)

  pub written : {n : ℕ} {after : List ℕ} → Puts buffer 0 text n after → r ≤ length buffer → length buffer < 2 ^ 63
      → (record { number = accepted; length = n } ≡ written_of text buffer) × (after ≡ bytes_of text buffer)
  written x h k =
      let s : length text ≤ length buffer = short_enough text buffer o.ends h k in
      let w = put_whole text x s k in
      rw (le-leb (length text) (length buffer) s) (ap (λ (i : ℕ). record { number = accepted; length = i }) w.0, w.1)
