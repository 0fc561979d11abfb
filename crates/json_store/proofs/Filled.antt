-- A text with zeros behind it, byte by byte.
use Prim.Native.Nat.{ℕ, zero, suc, ◌+◌, ◌%◌, ◌≤◌, ◌<◌}
use mathlib.Core.Path.{◌≡◌, refl, sym, ap, ◌∙◌}
use mathlib.Core.Bool.{cond}
use mathlib.Core.List.{List, [], ◌∷◌, ◌++◌}
use native.Mathlib.Numerals.{add-one}
use native.Mathlib.Omega.{arith}
use borrow.Author.Tests.{ltb-true, ltb-false}
use borrow.Table.Steps.{cases}
use lib.Dec.{ltb}
use lib.ListN.{length, get_or, drop, set, replicate, length-append, length-replicate, get_or-append}
use lib.Seq.{sets, length-take-le, get_or-take}
use Rattle.json_members.specs.Kept.{front}
use Rattle.json_members.proofs.Fronts.{front_length, front_at}
use Rattle.json_store.specs.Puts.{filled, put_text}
use Rattle.json_store.proofs.Stores.{sets_more, sets_done}

pub filled_length : (room : ℕ) (bs : List ℕ) → length (filled room bs) ≡ room
filled_length room bs = length-take-le room (bs ++ replicate room 0) (omega (arith, length-append bs (replicate room 0), length-replicate {A = ℕ} room 0))

zeros : (n i : ℕ) → ◌≡◌ {A = ℕ} (get_or (replicate n 0) i 0) 0
zeros zero i = refl
zeros (suc n) zero = refl
zeros (suc n) (suc i) = zeros n i

behind_text : (bs : List ℕ) (n i : ℕ) → length bs ≤ i → get_or (bs ++ replicate n 0) i 0 ≡ 0
behind_text [] n i h = zeros n i
behind_text (b ∷ bs) n zero h = absurd (omega arith)
behind_text (b ∷ bs) n (suc i) h = behind_text bs n i (omega arith)

pub filled_at : (room len : ℕ) (kept : List ℕ) (i : ℕ) → i < room → get_or (filled room (front len kept)) i 0 ≡ cond (ltb i len) (get_or kept i 0) 0
filled_at room len kept i h =
    get_or-take room (front len kept ++ replicate room 0) i 0 h
    ∙ cases (ltb i len)
    (λ t. rw t (get_or-append (front len kept) (replicate room 0) 0 i (omega (arith, front_length len kept, ltb-true i len t)) ∙ front_at len kept i (ltb-true i len t)))
    (λ f. rw f (behind_text (front len kept) room i (omega (arith, front_length len kept, ltb-false i len f))))

module _ (room len : ℕ) (kept : List ℕ) where
  pub text_more : (texts : List ℕ) (at i byte : ℕ) → i < room → byte ≡ cond (ltb i len) (get_or kept i 0) 0 → sets texts (at + 1 + i) (drop i (filled room (front len kept))) ≡ sets (set texts (at + 1 + i) byte) (at + 1 + (i + 1)) (drop (i + 1) (filled room (front len kept)))
  text_more texts at i byte h e =
      sets_more texts (at + 1) i (filled room (front len kept)) 0 byte (omega (arith, filled_length room (front len kept))) (e ∙ sym (filled_at room len kept i h))

  pub text_end : (before texts : List ℕ) (at i : ℕ) → room ≤ i → sets (set before at (len % 256)) (at + 1) (filled room (front len kept)) ≡ sets texts (at + 1 + i) (drop i (filled room (front len kept))) → texts ≡ put_text at room kept len before
  unfolding put_text
  text_end before texts at i h e =
      sym
      (ap (λ (p : ℕ). sets (set before at (len % 256)) p (filled room (front len kept))) (sym (add-one at))
      ∙ e
      ∙ sets_done texts (at + 1 + i) i (filled room (front len kept)) (omega (arith, filled_length room (front len kept))))
