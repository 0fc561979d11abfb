-- Numbers in slots: a magnitude, and its sign so far behind it.
use Rattle.std.specs.Prelude.{ℕ, ◌+◌, ◌-◌, ◌%◌, ◌^◌, Bool, true, false, cond, ◌&&◌, List, eqb, leb, ltb, ℤ, pos, negsuc, get_or, set}
use Rattle.std.specs.Int.Signed.{le_z}
use Rattle.json_store.specs.Places.{signs_at}

unfoldable pub put_number : ℕ → Bool → ℕ → List ℕ → List ℕ
put_number i negative magnitude numbers = cond (ltb i signs_at) (set (set numbers i magnitude) (signs_at + i) (cond negative 1 0)) numbers

unfoldable pub magnitude_at : List ℕ → ℕ → ℕ
magnitude_at numbers i = cond (ltb i signs_at) (get_or numbers i 0) 0

unfoldable pub negative_at : List ℕ → ℕ → Bool
negative_at numbers i = cond (ltb i signs_at) (eqb (get_or numbers (signs_at + i) 0) 1) false

-- a magnitude with its sign, of 64 bits; one that does not fit is 0
unfoldable pub signed_of : Bool → ℕ → ℤ
signed_of true magnitude = cond (eqb magnitude 0) (pos 0) (cond (leb magnitude (2 ^ 63)) (negsuc (magnitude - 1)) (pos 0))
signed_of false magnitude = cond (ltb magnitude (2 ^ 63)) (pos magnitude) (pos 0)

unfoldable pub number_at : List ℕ → ℕ → ℤ
number_at numbers i = signed_of (negative_at numbers i) (magnitude_at numbers i)

-- of 32 bits; one that does not fit is 0
unfoldable pub narrowed : ℤ → ℤ
narrowed z = cond (le_z (negsuc 2147483647) z && le_z z (pos 2147483647)) z (pos 0)

abbrev pub narrow_at : List ℕ → ℕ → ℤ
narrow_at numbers i = narrowed (number_at numbers i)

-- the lowest 32 bits; one below 0 is told by what it lacks to 2^32
unfoldable pub low_bits : Bool → ℕ → ℕ
low_bits true magnitude = (2 ^ 32 - magnitude % 2 ^ 32) % 2 ^ 32
low_bits false magnitude = magnitude % 2 ^ 32

abbrev pub low_at : List ℕ → ℕ → ℕ
low_at numbers i = low_bits (negative_at numbers i) (magnitude_at numbers i)

-- a number that has a byte
abbrev pub byte_at : List ℕ → ℕ → ℕ
byte_at numbers i = magnitude_at numbers i % 256

-- how many elements a list has, at most as many as there is room for
unfoldable pub count_at : ℕ → List ℕ → ℕ → ℕ
count_at room numbers list = cond (leb (magnitude_at numbers list) room) (magnitude_at numbers list) room

-- one slot to another
abbrev pub copied : ℕ → ℕ → List ℕ → List ℕ
copied from to numbers = put_number to (negative_at numbers from) (magnitude_at numbers from) numbers
