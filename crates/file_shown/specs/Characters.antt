-- A character a byte at a time: how many bytes are left, and between which bounds the next lies.
use Rattle.std.specs.Prelude.{ℕ, suc, ◌-◌, Bool, cond, ◌&&◌, ◌||◌, List, eqb, leb}
use Rattle.json_rule.specs.Lexemes.{lead_of, is_lead}
use Rattle.file_rule.specs.Export.{is_utf8, goes_on}
use Rattle.file_shown.specs.declared.character.Character.{Character}

unfoldable pub leading : ℕ → Character
leading b = record { left = suc (lead_of b).more; least = (lead_of b).least; most = (lead_of b).most }

unfoldable pub fits_byte : Character → ℕ → Bool
fits_byte c b = cond (eqb c.left 0) (leb b 127 || is_lead b) (leb c.least b && leb b c.most)

unfoldable pub after_byte : Character → ℕ → Character
after_byte c b = cond (eqb c.left 0) (cond (leb b 127) (record { left = 0; least = 0; most = 0 }) (leading b)) (record { left = c.left - 1; least = 128; most = 191 })

-- the bytes go on so to the end
unfoldable pub goes_on_so : Character → List ℕ → Bool
goes_on_so c bs = cond (eqb c.left 0) (is_utf8 bs) (goes_on (c.left - 1) c.least c.most bs)
