-- How long what is written is at most: numbers, texts, objects and lists.
use Prim.Native.Nat.{ℕ, zero, suc, ◌+◌, ◌*◌, ◌/◌, ◌%◌, ◌^◌, ◌≤◌, ◌<◌}
use native.Mathlib.Nat.{mul-le-mul_right}
use native.Mathlib.Omega.{arith}
use Prim.Native.String.{String}
use mathlib.Core.Path.{◌≡◌, refl, ◌∙◌, ap}
use mathlib.Core.Bool.{Bool, true, ◌&&◌, false≢true}
use mathlib.Core.List.{List, [], ◌∷◌, ◌++◌}
use mathlib.Core.Option.{Option, none, some}
use lib.Dec.{leb, ltb}
use lib.IntN.{ℤ, pos, negsuc}
use lib.ListN.{length, length-append}
use lib.Signed.{le_z, non_neg}
use borrow.Author.Tests.{ltb-false, leb-true}
use Rattle.rules.specs.Words.{all}
use Rattle.rules.proofs.Checks.{by_test, and_left, and_right}
use Rattle.json_rule.specs.Letters.{bytes}
use Rattle.file_rule.specs.Written.{digits_in, number_text, escaped_byte, escaped_bytes, quoted}
use Rattle.file_rule.specs.Fits.{fits32, fits64, fits_unsigned}
use Rattle.file_round.proofs.Documents.{Document, Token, bytes_of, bytes_of_more}
use Rattle.file_round.proofs.Texts.{by_escape}
use Rattle.file_round.proofs.Fields.{Field, field, field_if, field_text, fields_text, fields_append, flat, object, object_text_lem}
use Rattle.file_round.proofs.Lists.{documents, listing}

-- ---- numbers and texts

-- a number below a power of ten has as many digits at most
pub digits_length : (steps k n : ℕ) → n < 10 ^ suc k → length (digits_in steps n) ≤ suc k
unfolding digits_in
digits_length zero k n h = omega arith
digits_length (suc steps) zero n h = by_test (λ l. length l ≤ 1) (ltb n 10) {x = (48 + n) ∷ []} {y = digits_in steps (n / 10) ++ ((48 + n % 10) ∷ [])} (λ _. omega arith) (λ p. absurd (let q : 10 ≤ n = ltb-false n 10 p in omega arith))
digits_length (suc steps) (suc k) n h =
    by_test (λ l. length l ≤ suc (suc k)) (ltb n 10) {x = (48 + n) ∷ []} {y = digits_in steps (n / 10) ++ ((48 + n % 10) ∷ [])} (λ _. omega arith)
    (λ p. omega (arith, length-append (digits_in steps (n / 10)) ((48 + n % 10) ∷ []), digits_length steps k (n / 10) (omega arith)))

module _ (most k : ℕ) (h : most < 10 ^ suc k) where
  natural_length : (n : ℕ) → leb n most ≡ true → length (number_text (pos n)) ≤ suc k
  unfolding number_text
  natural_length n l = digits_length 20 k n (let m : n ≤ most = leb-true n most l in omega arith)

  positive_length : (z : ℤ) → non_neg z ≡ true → (le_z (negsuc most) z && le_z z (pos most)) ≡ true → length (number_text z) ≤ suc k
  positive_length (pos n) p l = natural_length n l
  positive_length (negsuc n) p l = absurd (false≢true p)

  signed_length : suc most < 10 ^ suc k → (z : ℤ) → (le_z (negsuc most) z && le_z z (pos most)) ≡ true → length (number_text z) ≤ suc (suc k)
  unfolding number_text
  signed_length s (pos n) l = omega (arith, natural_length n l)
  signed_length s (negsuc n) l = omega (arith, digits_length 20 k (suc n) (let m : n ≤ most = leb-true n most (and_left (leb n most) true l) in omega arith))

pub length32 : (z : ℤ) → non_neg z ≡ true → fits32 z ≡ true → length (number_text z) ≤ 10
length32 z p h = positive_length 2147483647 9 (omega arith) z p h

pub length64 : (z : ℤ) → non_neg z ≡ true → fits64 z ≡ true → length (number_text z) ≤ 19
length64 z p h = positive_length 9223372036854775807 18 (omega arith) z p h

pub any32 : (z : ℤ) → fits32 z ≡ true → length (number_text z) ≤ 11
any32 z h = signed_length 2147483647 9 (omega arith) (omega arith) z h

pub any64 : (z : ℤ) → fits64 z ≡ true → length (number_text z) ≤ 20
any64 z h = signed_length 9223372036854775807 18 (omega arith) (omega arith) z h

pub length_unsigned : (n : ℕ) → fits_unsigned n ≡ true → length (number_text (pos n)) ≤ 20
length_unsigned n h = natural_length 18446744073709551615 19 (omega arith) n h

-- a byte is written in six at most
byte_length : (b : ℕ) → length (escaped_byte b) ≤ 6
byte_length b =
    by_escape (λ c l. length l ≤ 6) (omega arith) (omega arith) (omega arith) (omega arith) (omega arith) (omega arith) (omega arith) (λ c h. omega arith) (λ c h p q. omega arith) b

escaped_length : (bs : List ℕ) → length (escaped_bytes bs) ≤ 6 * length bs
escaped_length [] = omega arith
escaped_length (b ∷ bs) = omega (arith, length-append (escaped_byte b) (escaped_bytes bs), byte_length b, escaped_length bs)

pub quoted_length : (room : ℕ) (bs : List ℕ) → leb (length bs) room ≡ true → length (quoted bs) ≤ 2 + 6 * room
unfolding quoted
quoted_length room bs h = let k : length bs ≤ room = leb-true (length bs) room h in omega (arith, length-append (escaped_bytes bs) (34 ∷ []), escaped_length bs)

-- ---- objects

-- a value of so many bytes, with its name, a colon and a comma
abbrev pub size : String → ℕ → ℕ
size name n = length (quoted (bytes name)) + 2 + n

-- each field has at most so many
abbrev pub Within : List Field → List ℕ → Type 0
Within [] [] = Unit {0}
Within [] (n ∷ ns) = ⊥
Within (f ∷ fs) [] = ⊥
Within (f ∷ fs) (n ∷ ns) = (length (field_text f) ≤ n) × Within fs ns

abbrev pub total : List ℕ → ℕ
total [] = 0
total (n ∷ ns) = n + total ns

pub field_length : (name : String) (d : Document) (n : ℕ) → length (bytes_of d) ≤ n → length (field_text (field name d)) ≤ size name n
field_length name d n h = omega (arith, length-append (quoted (bytes name)) (58 ∷ bytes_of d))

pub token_length : (name : String) (s : List ℕ) (n : ℕ) → length s ≤ n → length (field_text (field name (Token s))) ≤ size name n
unfolding bytes_of
token_length name s n h = field_length name (Token s) n h

pub if_length : {A : Type 0} (name : String) (f : A → Document) (o : Option A) (n : ℕ) → ((x : A) → o ≡ some x → length (bytes_of (f x)) ≤ n) → length (field_text (field_if name f o)) ≤ size name n
if_length name f none n h = omega arith
if_length name f (some x) n h = field_length name (f x) n (h x refl)

pub fields_length : (fs : List Field) (ns : List ℕ) → Within fs ns → length (fields_text fs) ≤ total ns
fields_length [] ns h = omega arith
fields_length (f ∷ fs) [] h = absurd h
fields_length (f ∷ fs) (n ∷ ns) h = omega (arith, length-append (field_text f) (fields_text fs), h.0, fields_length fs ns h.1)

-- one in front
pub first_length : (f : Field) (fs : List Field) (n k : ℕ) → length (field_text f) ≤ n → length (fields_text fs) ≤ k → length (fields_text (f ∷ fs)) ≤ n + k
first_length f fs n k h i = omega (arith, length-append (field_text f) (fields_text fs))

pub flat_length : (fs : List Field) (gs : List (List Field)) → length (fields_text (flat (fs ∷ gs))) ≡ length (fields_text fs) + length (fields_text (flat gs))
flat_length fs gs = ap length (fields_append fs (flat gs)) ∙ length-append (fields_text fs) (fields_text (flat gs))

-- the first has no comma
pub object_whole : (name : String) (d : Document) (fs : List Field) → suc (length (field_text (field name d)) + length (fields_text fs)) ≡ length (bytes_of (object (field name d ∷ fs)))
object_whole name d fs =
    let start = quoted (bytes name) ++ (58 ∷ bytes_of d) in
    omega (arith, ap length (object_text_lem name d fs), length-append (start ++ fields_text fs) (125 ∷ []), length-append start (fields_text fs))

pub object_length : (name : String) (d : Document) (fs : List Field) (ns : List ℕ) → Within (field name d ∷ fs) ns → length (bytes_of (object (field name d ∷ fs))) ≤ suc (total ns)
object_length name d fs [] h = absurd h
object_length name d fs (n ∷ ns) h = omega (arith, object_whole name d fs, h.0, fields_length fs ns h.1)

-- ---- lists

module _ {A : Type 0} (show : A → Document) (p : A → Bool) (n : ℕ) (each : (x : A) → p x ≡ true → length (bytes_of (show x)) ≤ n) where
  more_length : (l : List A) → all p l ≡ true → length (bytes_of_more (documents show l)) ≤ length l * suc n
  unfolding bytes_of
  more_length [] h = omega arith
  more_length (x ∷ l) h = omega (arith, length-append (bytes_of (show x)) (bytes_of_more (documents show l)), each x (and_left (p x) (all p l) h), more_length l (and_right (p x) (all p l) h))

  pub list_length : (r : ℕ) (l : List A) → all p l ≡ true → leb (length l) (suc r) ≡ true → length (bytes_of (listing show l)) ≤ suc (suc r * suc n)
  unfolding bytes_of
  list_length r [] h c = omega arith
  list_length r (x ∷ l) h c =
      let k : suc (length l) ≤ suc r = leb-true (suc (length l)) (suc r) c in
      let inside = bytes_of (show x) ++ bytes_of_more (documents show l) in
      omega (arith, length-append inside (93 ∷ []), length-append (bytes_of (show x)) (bytes_of_more (documents show l)), each x (and_left (p x) (all p l) h), more_length l (and_right (p x) (all p l) h), mul-le-mul_right (suc n) k)
