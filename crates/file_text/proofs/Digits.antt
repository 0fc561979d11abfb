-- The digits of a number from its last to its first.
use Rattle.std.proofs.Common.{◌≡◌, ℕ, suc, ◌+◌, ◌-◌, ◌/◌, ◌%◌, ◌≤◌, ◌<◌, List, [], ◌∷◌, ◌++◌, length, take, drop, sym, ap, ◌∙◌, arith, append_assoc, drop-cons}
use native.Mathlib.Nat.{mod-eq_of_lt}
use borrow.Author.Tests.{lt-ltb, le-ltb}
use lib.ListN.{set, length-set, length-drop}
use lib.Seq.{get_or-set_same, drop-set-lt, take_all}
use Rattle.file_rule.specs.Written.{digits_in, natural_text}

drop_set : (l : List ℕ) (i a : ℕ) → i < length l → drop i (set l i a) ≡ a ∷ drop (suc i) l
drop_set l i a h =
    let k : i < length (set l i a) = omega (arith, length-set l i a) in
    drop-cons (set l i a) i 0 k ∙ rw (get_or-set_same l i a 0 h, drop-set-lt (suc i) l i a (omega arith))

last_digit : (n i : ℕ) → n < 10 → digits_in (suc i) n ≡ (48 + n % 10) ∷ []
unfolding digits_in
last_digit n i h = rw (lt-ltb n 10 h, mod-eq_of_lt h)

more_digits : (n i : ℕ) → 10 ≤ n → digits_in (suc i) n ≡ digits_in i (n / 10) ++ ((48 + n % 10) ∷ [])
unfolding digits_in
more_digits n i h = rw (le-ltb n 10 h)

-- `rest` is still to be spelled in front of the digits from i on
module _ (number : ℕ) (digits : List ℕ) (rest i : ℕ) (s : natural_text number ≡ digits_in i rest ++ drop i digits) (h : 0 < i) (k : i ≤ length digits) where
  set_last : drop (i - 1) (set digits (i - 1) (48 + rest % 10)) ≡ (48 + rest % 10) ∷ drop (suc (i - 1)) digits
  set_last = drop_set digits (i - 1) (48 + rest % 10) (omega arith)

  here : natural_text number ≡ digits_in (suc (i - 1)) rest ++ drop (suc (i - 1)) digits
  here = let e : i ≡ suc (i - 1) = omega arith in s ∙ ap (λ (m : ℕ). digits_in m rest ++ drop m digits) e

  pub spell_on : 10 ≤ rest → natural_text number ≡ digits_in (i - 1) (rest / 10) ++ drop (i - 1) (set digits (i - 1) (48 + rest % 10))
  spell_on e =
      here ∙ ap (λ (l : List ℕ). l ++ drop (suc (i - 1)) digits) (more_digits rest (i - 1) e)
      ∙ append_assoc (digits_in (i - 1) (rest / 10)) ((48 + rest % 10) ∷ []) (drop (suc (i - 1)) digits)
      ∙ ap (λ (l : List ℕ). digits_in (i - 1) (rest / 10) ++ l) (sym set_last)

  pub spell_end : rest < 10 → (n : ℕ) → length digits ≤ n → take (n - (i - 1)) (drop (i - 1) (set digits (i - 1) (48 + rest % 10))) ≡ natural_text number
  spell_end e n m =
      take_all (n - (i - 1)) (drop (i - 1) (set digits (i - 1) (48 + rest % 10))) (omega (arith, length-drop (i - 1) (set digits (i - 1) (48 + rest % 10)), length-set digits (i - 1) (48 + rest % 10)))
      ∙ set_last ∙ sym (here ∙ ap (λ (l : List ℕ). l ++ drop (suc (i - 1)) digits) (last_digit rest (i - 1) e))

pub all_spelled : (number : ℕ) (digits : List ℕ) (rest i : ℕ) → natural_text number ≡ digits_in i rest ++ drop i digits → i ≤ 0 → digits ≡ natural_text number
unfolding digits_in
all_spelled number digits rest i s h = let e : i ≡ 0 = omega arith in sym (rw e at s)
