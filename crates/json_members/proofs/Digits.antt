-- A number of at most ten digits, one digit after another.
use Prim.Native.Nat.{ℕ, ◌+◌, ◌-◌, ◌*◌, ◌^◌, ◌≤◌, ◌<◌}
use mathlib.Core.Path.{◌≡◌, ◌∙◌}
use mathlib.Core.Bool.{true, false, cond}
use mathlib.Core.List.{List}
use native.Mathlib.Numerals.{add-one}
use native.Mathlib.Omega.{arith}
use lib.ListN.{length, get_or, drop, drop_of_length-le}
use lib.Seq.{drop-cons, get_or-drop}
use Rattle.rules.specs.Words.{all}
use Rattle.json_rule.specs.Lexemes.{is_digit}
use Rattle.json_rule.specs.Values.{digits_value}
use Rattle.json_machine.proofs.Bounds.{from_least, to_most}
use Rattle.json_members.specs.Kept.{front}
use Rattle.json_members.proofs.Fronts.{front_at}

-- what the number so far and the bytes after it say
abbrev pub said_by : ℕ → List ℕ → ℕ
said_by v ds = cond (all is_digit ds) (digits_value v ds) 2147483648

pub digits_end : (v : ℕ) (ds : List ℕ) (i : ℕ) → length ds ≤ i → said_by v (drop i ds) ≡ v
digits_end v ds i h = rw (drop_of_length-le ds {i = i} h)

module _ (v : ℕ) (ds : List ℕ) (i : ℕ) (h : i < length ds) where
  pub digit_not : is_digit (get_or ds i 0) ≡ false → said_by v (drop i ds) ≡ 2147483648
  digit_not e = rw (drop-cons ds i 0 h, e)

  pub digit_on : is_digit (get_or ds i 0) ≡ true → said_by v (drop i ds) ≡ said_by (v * 10 + (get_or ds i 0 - 48)) (drop (i + 1) ds)
  digit_on e = rw (drop-cons ds i 0 h, e, add-one)

-- a byte behind `bucket[`
pub behind : (kept : List ℕ) (digits i : ℕ) → i < digits → get_or (front digits (drop 7 kept)) i 0 ≡ get_or kept (7 + i) 0
behind kept digits i h = front_at digits (drop 7 kept) i h ∙ get_or-drop 7 kept i 0

-- ---- bounds

pub digit_small : (b : ℕ) → is_digit b ≡ true → (48 ≤ b) × (b ≤ 57)
unfolding is_digit
digit_small b e = (from_least 48 57 b e, to_most 48 57 b e)

pub below_next : (v i b : ℕ) → v < 10 ^ i → b ≤ 57 → v * 10 + (b - 48) < 10 ^ (i + 1)
below_next v i b h g = rw (add-one i) (omega arith)
