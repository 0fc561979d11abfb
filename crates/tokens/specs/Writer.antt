-- What the writer of a number stores.
use Rattle.std.specs.Prelude.{◌≡◌, ℕ, Bool, true, false, cond, List, [], ◌∷◌, ◌++◌, length, ℤ, pos, negsuc, nat_le}
use Rattle.io.specs.Digits.{last_digits, IsDigitCount}

-- the bytes that wait once there is room for a number: all, or none where they had to be written out
abbrev pub kept : List ℕ → List ℕ
kept waiting = cond (nat_le (length waiting) 16360) waiting []

abbrev pub sign : Bool → List ℕ
sign true = 45 ∷ []
sign false = []

abbrev pub is_below_zero : ℤ → Bool
is_below_zero (pos n) = false
is_below_zero (negsuc n) = true

-- a number as it is written: a `-` or nothing, its decimal digits, as few as hold it, and a space
pub record Text (negative : Bool) (magnitude : ℕ) (text : List ℕ) : Type 0 where
  pub count : ℕ
  pub fewest : IsDigitCount 10 1 magnitude count
  pub bytes : text ≡ sign negative ++ (last_digits 10 count magnitude ++ (32 ∷ []))

-- the number's text waits behind the bytes that waited
pub record Written (negative : Bool) (magnitude : ℕ) (output : List ℕ) (output' : List ℕ) : Type 0 where
  pub text : List ℕ
  pub is_text : Text negative magnitude text
  pub waits : output' ≡ kept output ++ text
