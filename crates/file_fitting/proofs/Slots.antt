-- What owning a value tells: a number has the bits of its type, and what is told of every slot of a table is true of all that is read of it.
use Prim.Native.Nat.{ℕ, zero, suc, ◌<◌, ◌-◌}
use native.Mathlib.Omega.{arith}
use mathlib.Core.Path.{◌≡◌, refl}
use mathlib.Core.Bool.{Bool, true, false}
use mathlib.Core.List.{List, [], ◌∷◌, map}
use lib.Dec.{ltb}
use lib.IntN.{ℤ, pos, negsuc}
use lib.ListN.{length, take, replicate}
use lib.Signed.{mag}
use borrow.Author.Tests.{le-leb, lt-ltb, eq-eqb}
use mir.Val.{Val}
use denote.Shadow.{shadow}
use denote.Laws.{Is}
use denote.Array.{each, Array}
use denote.Builtin.{u8}
use denote.Struct.Declared.{Declared, row}
use Rattle.rules.specs.Words.{if_some, all}
use Rattle.rules.specs.Layout.{given, counted}
use Rattle.rules.proofs.Checks.{both, and_left, and_right}
use Rattle.rules.proofs.Tables.{all_append, all_read}
use Rattle.rules.proofs.Slots.Laid.{all_replicate}
use Rattle.file_rule.specs.Fits.{fits32, fits64, fits_unsigned, uuid_fits}

-- ---- numbers

pub number32 : (z : ℤ) → mag z < 2147483648 → fits32 z ≡ true
number32 (pos n) h = le-leb n 2147483647 (omega (arith, h))
number32 (negsuc n) h = both (le-leb n 2147483647 (omega (arith, h))) refl

pub number64 : (z : ℤ) → mag z < 9223372036854775808 → fits64 z ≡ true
number64 (pos n) h = le-leb n 9223372036854775807 (omega (arith, h))
number64 (negsuc n) h = both (le-leb n 9223372036854775807 (omega (arith, h))) refl

pub unsigned : (n : ℕ) → n < 18446744073709551616 → fits_unsigned n ≡ true
unsigned n h = le-leb n 18446744073709551615 (omega (arith, h))

-- ---- behind a flag

pub given_fits : {A : Type 0} (p : A → Bool) (b : Bool) (a : A) → p a ≡ true → if_some p (given b a) ≡ true
given_fits p true a h = h
given_fits p false a h = refl

-- ---- slots

all_take : {A : Type 0} (p : A → Bool) (n : ℕ) (l : List A) → all p l ≡ true → all p (take n l) ≡ true
all_take p zero l h = refl
all_take p (suc n) [] h = refl
all_take p (suc n) (x ∷ l) h = both (and_left (p x) (all p l) h) (all_take p n l (and_right (p x) (all p l) h))

pub all_counted : {A : Type 0} (p : A → Bool) (blank : A) → p blank ≡ true → (l : List A) (n : ℕ) → all p l ≡ true → all p (counted blank l n) ≡ true
all_counted p blank b l n h = all_append p (take n l) (replicate (n - length l) blank) (all_take p n l h) (all_replicate p (n - length l) blank b)

-- a text of so many bytes
bytes_told : (bs : List ℕ) (us : List Val) → shadow (each ℕ u8.own_val bs us) → all (λ b. ltb b 256) bs ≡ true
bytes_told [] us k = refl
bytes_told (b ∷ bs) [] k = absurd k
bytes_told (b ∷ bs) (u ∷ us) k = both (lt-ltb b 256 k.0.1) (bytes_told bs us k.1)

pub uuid_fits_lem : (bs : List ℕ) (vs : List Val) → Is (Array u8 16) bs vs → uuid_fits bs ≡ true
uuid_fits_lem bs vs k = both (eq-eqb (length bs) 16 k.1.0.1) (bytes_told bs k.0 k.1.1)

module _ (T : Declared) (p : T.D → Bool) (told : (x : T.D) (vs : List Val) → Is (row T) x vs → p x ≡ true) where
  each_fits : (l : List T.D) (us : List Val) → shadow (each T.D (row T).own_val l us) → all p l ≡ true
  each_fits [] us k = refl
  each_fits (x ∷ l) [] k = absurd k
  each_fits (x ∷ l) (u ∷ us) k = both (told x (u ∷ []) k.0) (each_fits l us k.1)

module _ (T : Declared) {B : Type 0} (read : T.D → B) (fits : B → Bool) (told : (x : T.D) (vs : List Val) → Is (row T) x vs → fits (read x) ≡ true) (blank : T.D) (none : fits (read blank) ≡ true) where
  -- an array of records, of which so many count
  pub table_fits : (room n : ℕ) (l : List T.D) (vs : List Val) → Is (Array (row T) room) l vs → all fits (map read (counted blank l n)) ≡ true
  table_fits room n l vs k = rw (all_read read fits (counted blank l n)) (all_counted (λ x. fits (read x)) blank none l n (each_fits T (λ x. fits (read x)) told l k.0 k.1.1))
