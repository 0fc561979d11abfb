-- What is kept of a location is trimmed as the whole is: a slash at the end changes nothing, and a last byte that is no slash keeps all before it.
use Prim.Native.Nat.{ℕ, ◌+◌, ◌≤◌, ◌<◌}
use mathlib.Core.Path.{◌≡◌, refl, sym, ap, ◌∙◌}
use mathlib.Core.Bool.{false}
use mathlib.Core.List.{List, [], ◌∷◌, ◌++◌, append_assoc, append-nil}
use native.Mathlib.Omega.{arith}
use borrow.Author.Tests.{ltb-true, eqb-true}
use borrow.Table.Steps.{cases}
use lib.Dec.{eqb, ltb}
use lib.ListN.{length, length-append, take}
use lib.Seq.{take-append-le, take_all}
use Rattle.rules.specs.Words.{all}
use Rattle.rules.specs.Names.{is_slash, trimmed}
use Rattle.kept_text.specs.Untrimmed.{length_with, length_from}

-- ---- one byte more at the end

all_slashes : (bs : List ℕ) → all is_slash (bs ++ (47 ∷ [])) ≡ all is_slash bs
all_slashes [] = refl
all_slashes (a ∷ bs) = rw (all_slashes bs)

not_all : (bs : List ℕ) (b : ℕ) → is_slash b ≡ false → all is_slash (bs ++ (b ∷ [])) ≡ false
not_all [] b e = rw e
not_all (a ∷ bs) b e = cases (is_slash a) (λ t. rw t (not_all bs b e)) (λ f. rw f)

with_slash : (bs : List ℕ) → trimmed (bs ++ (47 ∷ [])) ≡ trimmed bs
unfolding trimmed
with_slash [] = refl
with_slash (a ∷ bs) = rw (all_slashes bs, with_slash bs)

with_other : (bs : List ℕ) (b : ℕ) → is_slash b ≡ false → trimmed (bs ++ (b ∷ [])) ≡ bs ++ (b ∷ [])
unfolding trimmed
with_other [] b e = rw e
with_other (a ∷ bs) b e = rw (not_all (a ∷ bs) b e, with_other bs b e)

-- ---- what the length says of the bytes read so far

-- the part of that length is trimmed as all of them are; beyond the slots it is the trimmed part itself
pub record Held (slots : ℕ) (read : List ℕ) (len : ℕ) : Type 0 where
  pub within : len ≤ length read
  pub same : trimmed (take len read) ≡ trimmed read
  pub exact : slots < len → trimmed read ≡ take len read

-- all of them
module _ (slots : ℕ) (read : List ℕ) (b : ℕ) where
  whole : take (length read + 1) (read ++ (b ∷ [])) ≡ read ++ (b ∷ [])
  whole = take_all (length read + 1) (read ++ (b ∷ [])) (simp length-append (omega arith))

  held_all : (slots < length read + 1 → trimmed (read ++ (b ∷ [])) ≡ read ++ (b ∷ [])) → Held slots (read ++ (b ∷ [])) (length read + 1)
  held_all h = record { within = simp length-append (omega arith); same = ap trimmed whole; exact = λ k. h k ∙ sym whole }

-- all but a slash
held_less : (slots : ℕ) (read : List ℕ) (len : ℕ) → Held slots read len → Held slots (read ++ (47 ∷ [])) len
held_less slots read len h =
    let front = take-append-le len read (47 ∷ []) h.within in
    record {
      within = simp length-append (omega (arith, h.within));
      same = ap trimmed front ∙ h.same ∙ sym (with_slash read);
      exact = λ k. with_slash read ∙ h.exact k ∙ sym front;
    }

held_on : (slots : ℕ) (read : List ℕ) (len b : ℕ) → Held slots read len → Held slots (read ++ (b ∷ [])) (length_with slots len (length read) b)
unfolding length_with
held_on slots read len b h =
    cases (ltb (length read) slots)
    (λ t. rw t (held_all slots read b (λ k. absurd (omega (arith, ltb-true (length read) slots t)))))
    (λ f. cases (eqb b 47)
    (λ t. rw (f, t, eqb-true b 47 t) (held_less slots read len h))
    (λ n. rw (f, n) (held_all slots read b (λ k. with_other read b n))))

held_from : (slots : ℕ) (text read : List ℕ) (len at : ℕ) → at ≡ length read → Held slots read len → Held slots (read ++ text) (length_from slots len at text)
held_from slots [] read len at e h = rw (append-nil read) h
held_from slots (b ∷ bs) read len at e h =
    rw (append_assoc read (b ∷ []) bs) at
    (held_from slots bs (read ++ (b ∷ [])) (length_with slots len at b) (at + 1) (simp length-append (omega arith)) (rw e (held_on slots read len b h)))

pub same_trim : (slots : ℕ) (text : List ℕ) → Held slots text (length_from slots 0 0 text)
same_trim slots text = held_from slots text [] 0 0 refl (record { within = omega arith; same = refl; exact = λ k. absurd (omega arith) })
