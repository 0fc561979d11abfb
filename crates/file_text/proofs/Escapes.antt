-- Texts and uuids a byte at a time.
use Rattle.std.proofs.Common.{◌≡◌, ℕ, ◌+◌, ◌≤◌, ◌<◌, List, [], ◌∷◌, ◌++◌, cond, length, get_or, drop, sym, ap, ◌∙◌, arith, add-one, one-add, drop-cons}
use mathlib.Core.List.{append-nil, append_assoc}
use lib.Dec.{eqb}
use lib.ListN.{drop_of_length-le}
use Rattle.rules.specs.Layout.{counted}
use Rattle.rules.proofs.Slots.Relaid.{length_counted}
use Rattle.file_rule.specs.Written.{escaped_byte, escaped_bytes}
use Rattle.file_rule.specs.Files.{hex_byte, uuid_from}
use Rattle.file_text.proofs.Slots.{from_slot}

module _ (l : List ℕ) (n i : ℕ) where
  pub text_here : (b : ℕ) → i < n → b ≡ get_or l i 0 → escaped_byte b ++ escaped_bytes (drop (i + 1) (counted 0 l n)) ≡ escaped_bytes (drop i (counted 0 l n))
  text_here b h e = rw (e, from_slot 0 l n i h)

  pub text_end : n ≤ i → [] ≡ escaped_bytes (drop i (counted 0 l n))
  text_end h = sym (ap escaped_bytes (drop_of_length-le (counted 0 l n) {i = i} (omega (arith, length_counted 0 l n))))

-- one byte more at the end
pub escaped_on : (l : List ℕ) (b : ℕ) → escaped_bytes (l ++ (b ∷ [])) ≡ escaped_bytes l ++ escaped_byte b
escaped_on [] b = append-nil (escaped_byte b)
escaped_on (x ∷ l) b = ap (λ (m : List ℕ). escaped_byte x ++ m) (escaped_on l b) ∙ sym (append_assoc (escaped_byte x) (escaped_bytes l) (escaped_byte b))

-- the hyphen in front of a byte
abbrev pub hyphen : ℕ → List ℕ
hyphen i = cond (eqb i 4) (45 ∷ []) (cond (eqb i 6) (45 ∷ []) (cond (eqb i 8) (45 ∷ []) (cond (eqb i 10) (45 ∷ []) [])))

module _ (l : List ℕ) (i : ℕ) where
  pub uuid_here : {h : List ℕ} → h ≡ hyphen i → i < length l → h ++ hex_byte (get_or l i 0) ++ uuid_from (i + 1) (drop (i + 1) l) ≡ uuid_from i (drop i l)
  uuid_here e k = rw (e, drop-cons l i 0 k, add-one, one-add)

  pub uuid_end : length l ≤ i → [] ≡ uuid_from i (drop i l)
  uuid_end h = sym (ap (uuid_from i) (drop_of_length-le l {i = i} h))
