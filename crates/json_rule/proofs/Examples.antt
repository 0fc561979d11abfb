-- The rule gives the answers of the examples: one statement over the list, by computation.
use mathlib.Core.Path.{◌≡◌, refl}
use mathlib.Core.List.{map}
use Rattle.json_rule.specs.Lexemes.{is_space, is_digit, is_hex, is_short, lead_of, is_lead, string, power_digits, power, signed_power, exponent, fraction_digits, after_point, fraction, whole_digits, after_minus, letters, part_of, lexemes}
use Rattle.json_rule.specs.Values.{units, utf8, encoded, text_of, whole_number_of}
use Rattle.json_rule.specs.Tree.{is_scalar, value, text}
use Rattle.json_rule.specs.Defects.{is_uuid, is_bucket, is_transform, action_of, defects, text_defects_by}
use Rattle.json_rule.specs.Reading.{reading}
use Rattle.json_rule.specs.Examples.{Example, answer_to, examples}

pub json_examples_hold : map (λ (e : Example). answer_to e.asked) examples ≡ map (λ (e : Example). e.reply) examples
unfolding is_space is_digit is_hex is_short lead_of is_lead string power_digits power signed_power exponent fraction_digits after_point fraction whole_digits after_minus letters part_of lexemes units utf8 encoded text_of whole_number_of is_scalar value text is_uuid is_bucket is_transform action_of defects text_defects_by reading
json_examples_hold = refl
