-- A number's text, put in three parts.
use Rattle.std.proofs.Common.{◌≡◌, ℕ, Bool, List, [], ◌∷◌, ◌++◌, append_assoc}
use Rattle.io.specs.Digits.{last_digits, IsDigitCount}
use Rattle.tokens.specs.Writer.{Written, kept, sign}

pub in_parts : (negative : Bool) (m n : ℕ) (output o₁ o₂ o₃ o₄ ds : List ℕ)
    → o₁ ≡ kept output
    → o₂ ≡ o₁ ++ sign negative
    → o₃ ≡ o₂ ++ ds
    → o₄ ≡ o₃ ++ (32 ∷ [])
    → IsDigitCount 10 1 m n
    → ds ≡ last_digits 10 n m
    → Written negative m output o₄
in_parts negative m n output o₁ o₂ o₃ o₄ ds e₁ e₂ e₃ e₄ f d =
    record {
      text = sign negative ++ (ds ++ (32 ∷ []));
      is_text = record { count = n; fewest = f; bytes = rw d };
      waits = rw (e₄, e₃, e₂, e₁, append_assoc, append_assoc);
    }
