-- The places of a uuid: where its hyphens stand, and where the two digits of each of its bytes do.
use Rattle.std.specs.Prelude.{ℕ, ◌+◌, ◌*◌, ◌%◌, Bool, cond, List, [], ◌∷◌, eqb, ltb, get_or}
use Rattle.rules.specs.Words.{any}
use Rattle.json_rule.specs.Lexemes.{is_hex}
use Rattle.json_machine.specs.Digest.{hex_of}

abbrev pub hyphen : ℕ
hyphen = 45

abbrev pub hyphens : List ℕ
hyphens = 8 ∷ 13 ∷ 18 ∷ 23 ∷ []

-- a byte may stand at a place: a hyphen, or a digit
unfoldable pub is_right_at : ℕ → ℕ → Bool
is_right_at i b = cond (any (eqb i) hyphens) (eqb b hyphen) (is_hex b)

-- the first digit of a byte stands behind the hyphens that come before it
unfoldable pub place_of : ℕ → ℕ
place_of byte =
    cond (ltb byte 4) (byte * 2)
    (cond (ltb byte 6) (byte * 2 + 1)
    (cond (ltb byte 8) (byte * 2 + 2)
    (cond (ltb byte 10) (byte * 2 + 3)
    (byte * 2 + 4))))

-- one of the sixteen bytes, by its two digits
unfoldable pub uuid_byte : List ℕ → ℕ → ℕ
uuid_byte kept byte = hex_of (get_or kept (place_of byte) 0) % 16 * 16 + hex_of (get_or kept (place_of byte + 1) 0) % 16
